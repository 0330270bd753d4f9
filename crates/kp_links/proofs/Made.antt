-- What calls do to what a link tells, one after another.
use Rattle.std.proofs.Common.{◌≡◌, refl, sym, ◌∙◌, ap, ℕ, ◌≤◌, List, [], ◌∷◌, ◌++◌, map, Option, Some, None, option_map, append_assoc, append-nil, arith}
use Rattle.kp_book.specs.Books.{Registration, Seen}
use Rattle.kp_links.specs.Links.{Exchange, Meeting, LinkState, Chain, no_more, told, enters, Makes, Stops}

-- ---- chains

-- exchanges one behind another, and others behind them
pub chain_more : (meets : Meeting) (a b c : Seen) (es fs xs ys : List Exchange) → Chain meets a es xs b → Chain meets b fs ys c → Chain meets a (es ++ fs) (xs ++ ys) c
chain_more meets a b c es fs xs ys (no_more s) last = last
chain_more meets a b c es fs xs ys (told before between after e more entered met rest) last = told before between c e (more ++ fs) (entered ++ ys) met (chain_more meets between b c more fs entered ys rest last)
chain_more meets a b c es fs xs ys (enters before between after e r more entered met rest) last = enters before between c e r (more ++ fs) (entered ++ ys) met (chain_more meets between b c more fs entered ys rest last)

-- what meets exchanges still meets them where it meets more
pub chain_into : (P Q : Meeting) → ((s : Seen) (e : Exchange) (r : Option Registration) (s' : Seen) → P s e r s' → Q s e r s') → (a b : Seen) (es xs : List Exchange) → Chain P a es xs b → Chain Q a es xs b
chain_into P Q into a b es xs (no_more s) = no_more s
chain_into P Q into a b es xs (told before between after e more entered met rest) = told before between after e more entered (into before e None between met) (chain_into P Q into between after more entered rest)
chain_into P Q into a b es xs (enters before between after e r more entered met rest) = enters before between after e r more entered (into before e (Some r) between met) (chain_into P Q into between after more entered rest)

-- ---- what is known of the exchanges

told_none : (o : Option (List Exchange)) → o ≡ option_map (λ earlier. earlier ++ []) o
told_none None = refl
told_none (Some es) = ap Some (sym (append-nil es))

given_none : (o : Option (List (List ℕ))) → o ≡ option_map (λ later. later) o
given_none None = refl
given_none (Some ls) = refl

told_more : (o : Option (List Exchange)) (es fs : List Exchange) → option_map (λ earlier. earlier ++ fs) (option_map (λ earlier. earlier ++ es) o) ≡ option_map (λ earlier. earlier ++ (es ++ fs)) o
told_more None es fs = refl
told_more (Some old) es fs = ap Some (append_assoc old es fs)

replies_append : (es fs : List Exchange) (later : List (List ℕ)) → map (λ e. e.reply) es ++ (map (λ e. e.reply) fs ++ later) ≡ map (λ e. e.reply) (es ++ fs) ++ later
replies_append [] fs later = refl
replies_append (e ∷ es) fs later = ap (λ l. e.reply ∷ l) (replies_append es fs later)

given_more : (o : Option (List (List ℕ))) (es fs : List Exchange) → option_map (λ later. map (λ e. e.reply) es ++ later) (option_map (λ later. map (λ e. e.reply) fs ++ later) o) ≡ option_map (λ later. map (λ e. e.reply) (es ++ fs) ++ later) o
given_more None es fs = refl
given_more (Some later) es fs = ap Some (replies_append es fs later)

-- ---- calls

-- a link that isn't asked
pub makes_none : (a : LinkState) → Makes a a []
makes_none a = record {
  keeps = λ o s e r s' m. m;
  more = [];
  chain = λ o s seen. (s, seen, no_more s);
  exchanges = told_none a.exchanges;
  entered = told_none a.entered;
  replies = given_none a.replies;
  faults = omega arith;
}

-- one call behind another
pub makes_more : (a b c : LinkState) (es fs : List Exchange) → Makes a b es → Makes b c fs → Makes a c (es ++ fs)
makes_more a b c es fs m n = record {
  keeps = λ o s e r s' h. m.keeps o s e r s' (n.keeps o s e r s' h);
  more = m.more ++ n.more;
  chain = λ o s seen.
      let first = m.chain o s seen in
      let second = n.chain o first.0 first.1 in
      (second.0, second.1, chain_more (a.meets o) s first.0 second.0 es fs m.more n.more first.2 (chain_into (b.meets o) (a.meets o) (λ t e r t' h. m.keeps o t e r t' h) first.0 second.0 fs n.more second.2));
  exchanges = n.exchanges ∙ ap (option_map (λ earlier. earlier ++ fs)) m.exchanges ∙ told_more a.exchanges es fs;
  entered = n.entered ∙ ap (option_map (λ earlier. earlier ++ n.more)) m.entered ∙ told_more a.entered m.more n.more;
  replies = m.replies ∙ ap (option_map (λ later. map (λ e. e.reply) es ++ later)) n.replies ∙ given_more c.replies es fs;
  faults = let l : a.faults ≤ b.faults = m.faults in let k : b.faults ≤ c.faults = n.faults in omega (arith, l, k);
}

-- a call that fails behind others
pub stops_more : (a b c : LinkState) (es fs : List Exchange) → Makes a b es → Stops b c fs → Stops a c (es ++ fs)
stops_more a b c es fs m n = record {
  more = m.more ++ n.more;
  exchanges = n.exchanges ∙ ap (option_map (λ earlier. earlier ++ fs)) m.exchanges ∙ told_more a.exchanges es fs;
  entered = n.entered ∙ ap (option_map (λ earlier. earlier ++ n.more)) m.entered ∙ told_more a.entered m.more n.more;
  replies = m.replies ∙ ap (option_map (λ later. map (λ e. e.reply) es ++ later)) n.replies ∙ given_more c.replies es fs;
  faults = let l : a.faults ≤ b.faults = m.faults in let k : b.faults ≤ c.faults = n.faults in omega (arith, l, k);
}
