-- A history begins, a pass is split off, one pass takes in another and compares what both have seen: each keeps the rule.
use Rattle.std.proofs.Common.{◌≡◌, ◌⊎◌, inl, inr, ℕ, zero, suc, ◌+◌, ◌<◌, ◌≤◌, false, List, [], ◌∷◌, ◌++◌, length, set, get_or, Some, None, refl, ap, sym, ◌∙◌, subst, ⊎_elim, arith}
use Rattle.std.proofs.lemmas.Bool.{false≢true}
use Rattle.std.specs.Prelude.{Option}
use Rattle.std.specs.List.{AllByRecursion}
use mathlib.Core.Option.{Option as Home, none, some, some-injective, some-ne-none}
use mathlib.Core.List.{IsPrefix}
use lib.ListN.{get_elem?}
use Rattle.atomic_table.specs.Table.{State, Me, step, keeps, stepped, Allows, Splits, Joins, opening}
use Rattle.atomic_table.proofs.Lists.{set_else, at_snoc, at_longer}
use Rattle.kp_history.specs.declared.view.Terms.{Terms}
use Rattle.kp_history.specs.declared.view.View.{View}
use Rattle.kp_history.specs.Views.{total, times, newcomer, one_less, joined, longer, settled, IsAtRest}
use Rattle.kp_history.specs.Rule.{Fits, IsAt, at_home, in_hand, IsKept}
use Rattle.kp_history.specs.Told.{Settled}
use Rattle.kp_history.proofs.Prefixes.{prefix_self, prefix_shorter, prefix_length}
use Rattle.kp_history.proofs.Totals.{total_set, total_snoc, one_of, times_append}
use Rattle.kp_history.proofs.Changed.{all_map, all_append, some_is, longer_of}
use Rattle.kp_history.proofs.Kept.{Tickets, Positions, fits_set, stays_there, unmoved, all_positions}

module _ {B E K : Type 0} (entries : B → List E) (sound : B → Type 0) (legal : K → List E → Type 0) (k : Terms K) where
  abbrev Standing : Type 0
  Standing = State (Option B) (View E K)

  abbrev Seated : Type 0
  Seated = Me (Option B) (View E K)

  abbrev Rule : Standing → Type 0
  Rule = IsKept entries sound legal k

  -- a new pass has seen as much, and has one of the spare places
  pub splits : (id : ℕ) (v : View E K) → IsAtRest v → 1 < v.places → Splits Rule id v (one_less v) (newcomer v.terms 1 v.seen)
  splits id v rest some_spare s r at =
      let w : View E K = one_less v in
      let u : View E K = newcomer v.terms 1 v.seen in
      let f = r.fits id v at in
      let both : (g : View E K → ℕ) → total g (set s.views id w ++ u ∷ []) + g v ≡ total g s.views + g w + g u = λ g.
      let a = total_set g s.views id v w at in let b = total_snoc g (set s.views id w) u in omega arith in
      let same : (g : View E K → ℕ) → g v ≡ g w → g u ≡ 0 → total g (set s.views id w ++ u ∷ []) ≡ total g s.views = λ g e z. let b = both g in omega arith in
      let old_places = r.places in
      let new_places = both (λ x. x.places) in record {
        ticket = r.ticket;
        serving = r.serving;
        log = r.log;
        words = r.words;
        room = r.room;
        few_seats = r.few_seats;
        places = omega arith;
        waiting = ap (λ (k : ℕ). r.serving + k) (same (λ x. length x.tickets) refl refl) ∙ r.waiting;
        drawn = λ x from to. same (Tickets x) refl refl ∙ r.drawn x from to;
        undrawn = λ x out. same (Tickets x) refl refl ∙ r.undrawn x out;
        placed = λ x from to. same (Positions x) refl refl ∙ r.placed x from to;
        unplaced = λ x out. same (Positions x) refl refl ∙ r.unplaced x out;
        is_legal = r.is_legal;
        fits = λ j x e. ⊎_elim
            (λ (there : get_elem? (set s.views id w) j ≡ some x). fits_set r.serving r.log s.views id w (λ i y _ h. r.fits i y h)
            record { terms = λ _. f.terms (omega arith); ahead = f.ahead; told = f.told; spent = λ z. absurd (omega arith); one = f.one; has_turn = f.has_turn; below = f.below } j x there)
            (λ (is : u ≡ x). subst (λ (y : View E K). Fits k r.serving r.log y) is record { terms = λ _. f.terms (omega arith); ahead = f.ahead; told = (r.log, refl); spent = λ z. absurd (omega arith); one = omega arith; has_turn = λ e. absurd (false≢true e); below = tt })
            (at_snoc (set s.views id w) u x j e);
        place = grows r.log s.homes (set s.views id w) u refl (stays_there r.log s.homes s.views id v w at rest.no_turn rest.no_turn r.place);
      }
    where
      grows : (log : List E) (homes : List (Home (Option B))) (vs : List (View E K)) (u : View E K) → u.turn ≡ false → IsAt entries sound log homes vs → IsAt entries sound log homes (vs ++ u ∷ [])
      grows log homes vs u none_on (at_home b home same is_sound nobody) = at_home b home same is_sound (λ i x e. ⊎_elim
          (λ (h : get_elem? vs i ≡ some x). nobody i x h) (λ (is : u ≡ x). ap (λ (y : View E K). y.turn) (sym is) ∙ none_on) (at_snoc vs u x i e))
      grows log homes vs u none_on (in_hand i x home there turn) = in_hand i x home (at_longer vs (u ∷ []) i x there) turn

  -- one pass takes in another, and is told of what that has seen
  pub joins : (id : ℕ) (v : View E K) (other : ℕ) (u : View E K) → IsAtRest v → IsAtRest u → Joins Rule id v other u (joined v u) (newcomer None 0 [])
  joins id v other u rest their_rest s r at apart there =
      let w : View E K = joined v u in
      let z : View E K = newcomer None 0 [] in
      let vs : List (View E K) = set s.views id w in
      let was : get_elem? s.views other ≡ some u = sym (set_else s.views id other w apart) ∙ there in
      let f = r.fits id v at in
      let g = r.fits other u was in
      let both : (h : View E K → ℕ) → total h (set vs other z) + h u + h v ≡ total h s.views + h w + h z = λ h.
      let a = total_set h s.views id v w at in let b = total_set h vs other u z there in omega arith in
      let old_places = r.places in
      let new_places = both (λ x. x.places) in
      let old_waiting = r.waiting in
      let no_wait : length u.tickets ≡ 0 = ap length their_rest.no_ticket in
      let new_waiting = both (λ x. length x.tickets) in
      let same_tickets : (x : ℕ) → total (Tickets x) (set vs other z) ≡ total (Tickets x) s.views = λ x. let b = both (Tickets x) in let n : times x u.tickets ≡ 0 = ap (times x) their_rest.no_ticket in omega arith in
      let same_positions : (x : ℕ) → total (Positions x) (set vs other z) ≡ total (Positions x) s.views = λ x. let b = both (Positions x) in let n = times_append x v.positions u.positions in omega arith in
      let most : ℕ = length v.seen + length u.seen in record {
        ticket = r.ticket;
        serving = r.serving;
        log = r.log;
        words = r.words;
        room = r.room;
        few_seats = r.few_seats;
        places = omega arith;
        waiting = omega arith;
        drawn = λ x from to. same_tickets x ∙ r.drawn x from to;
        undrawn = λ x out. same_tickets x ∙ r.undrawn x out;
        placed = λ x from to. same_positions x ∙ r.placed x from to;
        unplaced = λ x out. same_positions x ∙ r.unplaced x out;
        is_legal = r.is_legal;
        fits = fits_set r.serving r.log vs other z
            (λ j x _ e. fits_set r.serving r.log s.views id w (λ i y _ h. r.fits i y h)
            record {
              terms = λ _. f.terms rest.some_place;
              ahead = f.ahead;
              told = g.ahead;
              spent = λ none_left. absurd (let p = rest.some_place in omega arith);
              one = f.one;
              has_turn = f.has_turn;
              below = all_append (λ p. (p ≤ length v.seen) ⊎ (p ≤ length u.seen)) v.positions u.positions (all_left v.positions f.below) (all_right u.positions g.below);
            } j x e)
            record { terms = λ p. absurd (omega arith); ahead = (r.log, refl); told = (r.log, refl); spent = λ _. (refl, refl); one = omega arith; has_turn = λ e. absurd (false≢true e); below = tt };
        place = stays_there r.log s.homes vs other u z there their_rest.no_turn refl (stays_there r.log s.homes s.views id v w at rest.no_turn rest.no_turn r.place);
      }
    where
      all_left : (l : List ℕ) → AllByRecursion (λ p. (p ≤ length v.seen) ⊎ (p ≤ length v.told)) l → AllByRecursion (λ p. (p ≤ length v.seen) ⊎ (p ≤ length u.seen)) l
      all_left [] a = tt
      all_left (x ∷ xs) a = (⊎_elim (λ (h : x ≤ length v.seen). inl h) (λ (h : x ≤ length v.told). let z : length v.told ≡ 0 = ap length rest.none_told in inl (omega arith)) a.0, all_left xs a.1)

      all_right : (l : List ℕ) → AllByRecursion (λ p. (p ≤ length u.seen) ⊎ (p ≤ length u.told)) l → AllByRecursion (λ p. (p ≤ length v.seen) ⊎ (p ≤ length u.seen)) l
      all_right [] a = tt
      all_right (x ∷ xs) a = (⊎_elim (λ (h : x ≤ length u.seen). inr h) (λ (h : x ≤ length u.told). let z : length u.told ≡ 0 = ap length their_rest.none_told in inr (omega arith)) a.0, all_right xs a.1)

  -- what it was told of is compared with what it had seen
  pub settles : (slots id : ℕ) (me : Seated) → 0 < me.0.places → me.0.turn ≡ false → Allows Rule slots id me 0 (λ n. n) (Settled (step slots 0 0 0 none) me)
  settles slots id me some_place no_turn s r size at small =
      let v : View E K = me.0 in
      let w : View E K = settled v in
      let f = r.fits id v at in
      let which = longer_of v.seen v.told in
      let seen_first : IsPrefix v.seen w.seen = ⊎_elim
      (λ (c : (longer v.seen v.told ≡ v.told) × (length v.seen ≤ length v.told)). subst (IsPrefix v.seen) (sym c.0) (prefix_shorter v.seen v.told r.log f.ahead f.told c.1))
      (λ (c : (longer v.seen v.told ≡ v.seen) × (length v.told ≤ length v.seen)). subst (IsPrefix v.seen) (sym c.0) (prefix_self v.seen)) which in
      let told_first : IsPrefix v.told w.seen = ⊎_elim
      (λ (c : (longer v.seen v.told ≡ v.told) × (length v.seen ≤ length v.told)). subst (IsPrefix v.told) (sym c.0) (prefix_self v.told))
      (λ (c : (longer v.seen v.told ≡ v.seen) × (length v.told ≤ length v.seen)). subst (IsPrefix v.told) (sym c.0) (prefix_shorter v.told v.seen r.log f.told f.ahead c.1)) which in
      let ahead : IsPrefix w.seen r.log = ⊎_elim
      (λ (c : (longer v.seen v.told ≡ v.told) × (length v.seen ≤ length v.told)). subst (λ l. IsPrefix l r.log) (sym c.0) f.told)
      (λ (c : (longer v.seen v.told ≡ v.seen) × (length v.told ≤ length v.seen)). subst (λ l. IsPrefix l r.log) (sym c.0) f.ahead) which in
      let rule : Rule (stepped s 0 (get_or s.words 0 0) id me.1 w keeps) = unmoved s r 0 id me.1 v w keeps at refl refl refl
      record {
        terms = f.terms;
        ahead = ahead;
        told = (r.log, refl);
        spent = f.spent;
        one = f.one;
        has_turn = f.has_turn;
        below = all_map (λ p. (p ≤ length v.seen) ⊎ (p ≤ length v.told)) (λ p. (p ≤ length w.seen) ⊎ (p ≤ 0))
            (λ p. ⊎_elim (λ (l : p ≤ length v.seen). let a = prefix_length v.seen w.seen seen_first in inl (omega arith)) (λ (l : p ≤ length v.told). let a = prefix_length v.told w.seen told_first in inl (omega arith))) v.positions f.below;
      }
      (stays_there r.log s.homes s.views id v w at no_turn no_turn r.place) in (
        w,
        keeps,
        tt,
        rule,
        (refl, refl, seen_first, told_first, (λ t' is. let same : k.seats ≡ t'.seats = ap (λ (u : Terms K). u.seats) (some_is k t' (sym (f.terms some_place) ∙ is)) in let few = r.few_seats in let sum = r.places in let mine = one_of (λ u. u.places) s.views id v at in (omega arith, omega arith)), λ t' is all x from to. sym (all_positions s r id v at (all ∙ ap (λ (u : Terms K). u.seats) (some_is t' k (sym is ∙ f.terms some_place))) x) ∙ r.placed x from (let a = prefix_length w.seen r.log ahead in omega arith)),
      )

  -- the rule at the start
  pub begins : (b : B) (n : ℕ) → n ≡ k.seats → k.seats ≤ 64 → entries b ≡ [] → sound b → legal k.about [] → Rule (opening (0 ∷ 0 ∷ 0 ∷ []) (Some b ∷ []) (newcomer (Some k) n []))
  begins b n is few none_yet is_sound lawful = record {
    ticket = 0;
    serving = 0;
    log = [];
    words = refl;
    room = omega arith;
    few_seats = few;
    places = omega arith;
    waiting = omega arith;
    drawn = λ x from to. absurd (omega arith);
    undrawn = λ x out. refl;
    placed = λ x from to. absurd (omega arith);
    unplaced = λ x out. refl;
    is_legal = lawful;
    fits = λ i v e. subst (λ (u : View E K). Fits k 0 [] u) (only i v e) record { terms = λ _. refl; ahead = ([], refl); told = ([], refl); spent = λ _. (refl, refl); one = omega arith; has_turn = λ e. absurd (false≢true e); below = tt };
    place = at_home b refl none_yet is_sound (λ i v e. ap (λ (u : View E K). u.turn) (sym (only i v e)));
  }
    where
      only : (i : ℕ) (v : View E K) → get_elem? (newcomer (Some k) n [] ∷ []) i ≡ some v → newcomer (Some k) n [] ≡ v
      only zero v e = some-injective (newcomer (Some k) n []) v e
      only (suc i) v e = absurd (some-ne-none v (sym e))
