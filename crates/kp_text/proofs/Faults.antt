-- The fault that is met in a text is its first fault by the grammar.
use Rattle.std.proofs.Common.{◌≡◌, ℕ, ◌≤◌, Bool, true, false, cond, leb, List, [], ◌∷◌, ◌++◌, length, take, refl, sym, ap, subst, ◌∙◌, ◌⊎◌, inl, inr, append_assoc}
use Rattle.std.proofs.lemmas.List.{append-nil}
use Rattle.kp_kore.specs.Syntax.{sort_variable, string_literal}
use Rattle.kp_text.specs.Tokens.{KoreToken, string_token, Lexemes, finished, lexeme, broken, broken_string}
use Rattle.kp_text.specs.Grammar.{Leveled, at_level}
use Rattle.kp_text.specs.Spelling.{tokens_of, IsShallow, Begins, BeginsShallow, TokenFault, FirstFault}
use Rattle.kp_text.specs.Next.{Answer, Place, done, a_mark, a_defined_as, a_word, a_name, a_string, a_sort, after_sort_name, sorts, more_sorts, names, more_names, a_pattern, after_name, patterns, more_patterns, folded, more_folded, sentences, more_modules, Step, refused, goes, step, at_end, Outcome, answered, faulty, stepped, run}
use Rattle.kp_text.specs.declared.fault.FaultKind.{FaultKind}
use Rattle.kp_text.specs.declared.fault.FaultKind.TheVariants as kind
use Rattle.kp_text.proofs.Completes.{through, Completes}
use Rattle.kp_text.proofs.Marks.{le_test}
use Rattle.kp_text.proofs.SoundPlaces.{through_with, le_tested, landing}
use Rattle.kp_text.proofs.Viable.{viable}

-- these tokens lead from one place to another
abbrev Leads : List Leveled → Place → Place → Type 0
Leads [] = λ g h. g ≡ h
Leads (t ∷ ls) = λ g h. through (step g t.token) t.level (λ i. Leads ls i h)

leads_complete : (pre ls : List Leveled) (g h : Place) (a : Answer) → Leads pre g h → Completes ls h a → Completes (pre ++ ls) g a
leads_complete [] ls g h a leads go = subst (λ i. Completes ls i a) (sym leads) go
leads_complete (t ∷ pre) ls g h a leads go = through_with (step g t.token) t.level (λ i. Leads pre i h) (λ i. Completes (pre ++ ls) i a) (λ i l. leads_complete pre ls i h a l go) leads

leads_on : (pre : List Leveled) (g h i : Place) (t : KoreToken) (n : ℕ) → Leads pre g h → step h t ≡ goes n i → Leads (pre ++ at_level n t []) g i
leads_on [] g h i t n leads e = subst (λ s. through s n (λ j. j ≡ i)) (sym (ap (λ j. step j t) leads ∙ e)) (refl, refl)
leads_on (u ∷ pre) g h i t n leads e = through_with (step g u.token) u.level (λ j. Leads pre j h) (λ j. Leads (pre ++ at_level n t []) j i) (λ j l. leads_on pre j h i t n l e) leads

-- tokens decide the place and the levels: a text that has the same tokens in front goes the same way
abbrev Splits : List Leveled → List Leveled → List KoreToken → Place → Answer → Type 0
Splits whole pre ts h a = (rest : List Leveled) × (whole ≡ pre ++ rest) × Completes rest h a × (tokens_of rest ≡ ts)

first_token : (t u : KoreToken) (ts us : List KoreToken) → t ∷ ts ≡ u ∷ us → t ≡ u
first_token t u ts us e = cc

other_tokens : (t u : KoreToken) (ts us : List KoreToken) → t ∷ ts ≡ u ∷ us → ts ≡ us
other_tokens t u ts us e = cc

same_made : (t u : KoreToken) (m n : ℕ) → t ≡ u → m ≡ n → ◌≡◌ {A = Leveled} (record { token = t; level = m }) (record { token = u; level = n })
same_made t u m n e f = cc

same_leveled : (t u : Leveled) → t.token ≡ u.token → t.level ≡ u.level → t ≡ u
same_leveled t u e f = same_made t.token u.token t.level u.level e f

both_through : (s : Step) (m n : ℕ) (P Q : Place → Type 0) → through s m P → through s n Q → (m ≡ n) × ((i : Place) × P i × Q i)
both_through refused m n P Q p q = absurd p
both_through (goes o i) m n P Q p q = (sym p.0 ∙ q.0, (i, p.1, q.1))

splits : (pre whole : List Leveled) (ts : List KoreToken) (g h : Place) (a : Answer) → Leads pre g h → Completes whole g a → tokens_of whole ≡ tokens_of pre ++ ts → Splits whole pre ts h a
splits [] whole ts g h a leads go e = (whole, refl, subst (λ i. Completes whole i a) leads go, e)
splits (t ∷ pre) [] ts g h a leads go e = absurd (cc)
splits (t ∷ pre) (u ∷ whole) ts g h a leads go e =
    let same = first_token u.token t.token (tokens_of whole) (tokens_of pre ++ ts) e in
    let both = both_through (step g t.token) u.level t.level (λ i. Completes whole i a) (λ i. Leads pre i h) (subst (λ v. through (step g v) u.level (λ i. Completes whole i a)) same go) leads in
    let more = splits pre whole ts both.1.0 h a both.1.2 both.1.1 (other_tokens u.token t.token (tokens_of whole) (tokens_of pre ++ ts) e) in
    (more.0, together u t whole (pre ++ more.0) (same_leveled u t same both.0) more.1, more.2, more.3)
  where
    together : (v w : Leveled) (xs ys : List Leveled) → v ≡ w → xs ≡ ys → v ∷ xs ≡ w ∷ ys
    together v w xs ys f g = cc

-- levels of a front
shallow_more : (pre : List Leveled) (t : KoreToken) (n : ℕ) → IsShallow pre → n ≤ 256 → IsShallow (pre ++ at_level n t [])
shallow_more [] t n shallow small = (small, tt)
shallow_more (u ∷ pre) t n shallow small = (shallow.0, shallow_more pre t n shallow.1 small)

shallow_front : (pre ls : List Leveled) (t : KoreToken) (n : ℕ) → IsShallow pre → n ≤ 256 → IsShallow (take (length (tokens_of pre ++ t ∷ [])) (pre ++ at_level n t ls))
shallow_front [] ls t n shallow small = (small, tt)
shallow_front (u ∷ pre) ls t n shallow small = (shallow.0, shallow_front pre ls t n shallow.1 small)

shallow_last : (pre us : List Leveled) (u : Leveled) (t : KoreToken) → IsShallow (take (length (tokens_of pre ++ t ∷ [])) (pre ++ u ∷ us)) → u.level ≤ 256
shallow_last [] us u t shallow = shallow.0
shallow_last (v ∷ pre) us u t shallow = shallow_last pre us u t shallow.1

tokens_of_more : (pre : List Leveled) (t : KoreToken) (n : ℕ) (ls : List Leveled) → tokens_of (pre ++ at_level n t ls) ≡ (tokens_of pre ++ t ∷ []) ++ tokens_of ls
tokens_of_more [] t n ls = refl
tokens_of_more (u ∷ pre) t n ls = ap (λ ts. u.token ∷ ts) (tokens_of_more pre t n ls)

-- the parts of a fault
same_left : (m n : ℕ) (j k : FaultKind) → faulty m j ≡ faulty n k → m ≡ n
same_left m n j k e = cc

same_kind : (m n : ℕ) (j k : FaultKind) → faulty m j ≡ faulty n k → j ≡ k
same_kind m n j k e = cc

no_answer : (left : ℕ) (k : FaultKind) (a : Answer) (o : Outcome) → o ≡ faulty left k → o ≡ answered a → ⊥
no_answer left k a o e f = cc

the_end : (left : ℕ) (k : FaultKind) → faulty 0 kind.End ≡ faulty left k → (left ≡ 0) × (k ≡ kind.End)
the_end left k e = (sym (same_left 0 left kind.End k e), sym (same_kind 0 left kind.End k e))

-- the fault at the end
pub end_fault : (g : Place) (left : ℕ) (k : FaultKind) → at_end g ≡ faulty left k → (left ≡ 0) × (k ≡ kind.End)
end_fault (done a) left k e = absurd (cc)
end_fault (more_modules so_far answer) left k e = absurd (cc)
end_fault (after_sort_name n x f) left k e = end_fault (f (sort_variable x)) left k e
end_fault (a_mark c g) left k e = the_end left k e
end_fault (a_defined_as g) left k e = the_end left k e
end_fault (a_word w g) left k e = the_end left k e
end_fault (a_name f) left k e = the_end left k e
end_fault (a_string f) left k e = the_end left k e
end_fault (a_sort n f) left k e = the_end left k e
end_fault (sorts n close f) left k e = the_end left k e
end_fault (more_sorts n close ts f) left k e = the_end left k e
end_fault (names f) left k e = the_end left k e
end_fault (more_names ys f) left k e = the_end left k e
end_fault (a_pattern l f) left k e = the_end left k e
end_fault (after_name l x f) left k e = the_end left k e
end_fault (patterns l close f) left k e = the_end left k e
end_fault (more_patterns l close ps f) left k e = the_end left k e
end_fault (folded l side f) left k e = the_end left k e
end_fault (more_folded side x ss l p ps f) left k e = the_end left k e
end_fault (sentences so_far f) left k e = the_end left k e

same_fault : (m n : ℕ) (j k : FaultKind) → m ≡ n → j ≡ k → faulty m j ≡ faulty n k
same_fault m n j k e f = cc

-- strings are alike for the grammar
same_level : (m n : ℕ) (h i : Place) → goes m h ≡ goes n i → m ≡ n
same_level m n h i e = cc

same_string : (g : Place) (t u : List ℕ) (n : ℕ) (h : Place) → step g (string_token t) ≡ goes n h → (i : Place) × (step g (string_token u) ≡ goes n i)
same_string (a_string k) t u n h e = (k u, ap (λ m. goes m (k u)) (same_level 0 n (k t) h e))
same_string (a_pattern l k) t u n h e = (k (string_literal u), ap (λ m. goes m (k (string_literal u))) (same_level l.reached n (k (string_literal t)) h e))
same_string (patterns l close k) t u n h e = (more_patterns l close (string_literal u ∷ []) k, ap (λ m. goes m (more_patterns l close (string_literal u ∷ []) k)) (same_level l.reached n (more_patterns l close (string_literal t ∷ []) k) h e))
same_string (after_sort_name n x k) t u m h e = same_string (k (sort_variable x)) t u m h e
same_string (done a) t u n h e = absurd (cc)
same_string (a_mark c g) t u n h e = absurd (cc)
same_string (a_defined_as g) t u n h e = absurd (cc)
same_string (a_word w g) t u n h e = absurd (cc)
same_string (a_name k) t u n h e = absurd (cc)
same_string (a_sort m k) t u n h e = absurd (cc)
same_string (sorts m close k) t u n h e = absurd (cc)
same_string (more_sorts m close ts k) t u n h e = absurd (cc)
same_string (names k) t u n h e = absurd (cc)
same_string (more_names xs k) t u n h e = absurd (cc)
same_string (after_name l x k) t u n h e = absurd (cc)
same_string (more_patterns l close ps k) t u n h e = absurd (cc)
same_string (folded l side k) t u n h e = absurd (cc)
same_string (more_folded side f ss l p ps k) t u n h e = absurd (cc)
same_string (sentences so_far k) t u n h e = absurd (cc)
same_string (more_modules so_far answer) t u n h e = absurd (cc)

-- two steps alike stop alike
stops_alike : (on : Place → Outcome) (s u : Step) (at : ℕ) (k : FaultKind) → ((n : ℕ) (h : Place) → u ≡ goes n h → (i : Place) × (s ≡ goes n i)) → ((n : ℕ) (h : Place) → s ≡ goes n h → (i : Place) × (u ≡ goes n i)) → ((h i : Place) → on h ≡ on i) → stepped on at s ≡ faulty at k → stepped on at u ≡ faulty at k
stops_alike on refused refused at k back there alike e = e
stops_alike on refused (goes n h) at k back there alike e =
    let i = back n h refl in
    absurd (cc)
stops_alike on (goes n h) u at k back there alike e =
    let i = there n h refl in
    rw (i.1) (ap (λ o. cond (leb n 256) o (faulty at kind.Deep)) (alike i.0 h) ∙ e)

-- what may be written, by the place where it begins
module _ (Texts : List Leveled → Type 0) (start : Place) (complete : (ls : List Leveled) → Texts ls → (a : Answer) × Completes ls start a) (sound : (ls : List Leveled) (a : Answer) → Completes ls start a → Texts ls) where
  begins : (pre : List Leveled) (g h : Place) (t : KoreToken) (n : ℕ) → Leads pre start g → step g t ≡ goes n h → Begins Texts (tokens_of pre ++ t ∷ [])
  begins pre g h t n leads e =
      let v = viable h in
      record {
        whole = pre ++ at_level n t v.0;
        more = tokens_of v.0;
        is_text = sound (pre ++ at_level n t v.0) v.1 (leads_complete pre (at_level n t v.0) start g v.1 leads (subst (λ s. through s n (λ i. Completes v.0 i v.1)) (sym e) (refl, v.2)));
        front = tokens_of_more pre t n v.0;
      }

  begins_shallow : (pre : List Leveled) (g h : Place) (t : KoreToken) (n : ℕ) → Leads pre start g → step g t ≡ goes n h → IsShallow pre → n ≤ 256 → BeginsShallow Texts (tokens_of pre ++ t ∷ [])
  unfolding begins
  begins_shallow pre g h t n leads e shallow small = record {
    begins = begins pre g h t n leads e;
    shallow = shallow_front pre (viable h).0 t n shallow small;
  }

  -- a text that goes on with a token goes through that token's step
  goes_through : (pre : List Leveled) (g : Place) (t : KoreToken) → Leads pre start g → (b : Begins Texts (tokens_of pre ++ t ∷ [])) → (u : Leveled) × (us : List Leveled) × (b.whole ≡ pre ++ u ∷ us) × (u.token ≡ t) × ((a : Answer) × through (step g u.token) u.level (λ i. Completes us i a))
  goes_through pre g t leads b =
      let go = complete b.whole b.is_text in
      let s = splits pre b.whole (t ∷ b.more) start g go.0 leads go.1 (b.front ∙ append_assoc (tokens_of pre) (t ∷ []) b.more) in
      taken go.0 s.0 s.1 s.2 s.3
    where
      taken : (a : Answer) (rest : List Leveled) → b.whole ≡ pre ++ rest → Completes rest g a → tokens_of rest ≡ t ∷ b.more → (u : Leveled) × (us : List Leveled) × (b.whole ≡ pre ++ u ∷ us) × (u.token ≡ t) × ((a : Answer) × through (step g u.token) u.level (λ i. Completes us i a))
      taken a [] is go e = absurd (cc)
      taken a (u ∷ us) is go e = (u, us, is, first_token u.token t (tokens_of us) b.more e, (a, go))

  refused_begins_none : (pre : List Leveled) (g : Place) (t : KoreToken) → Leads pre start g → step g t ≡ refused → ¬ (Begins Texts (tokens_of pre ++ t ∷ []))
  refused_begins_none pre g t leads e b =
      let go = goes_through pre g t leads b in
      subst (λ s. through s go.0.level (λ i. Completes go.1 i go.4.0)) (ap (λ u. step g u) go.3 ∙ e) go.4.1

  deep_begins_none : (pre : List Leveled) (g h : Place) (t : KoreToken) (n : ℕ) → Leads pre start g → step g t ≡ goes n h → ¬ (n ≤ 256) → ¬ (BeginsShallow Texts (tokens_of pre ++ t ∷ []))
  deep_begins_none pre g h t n leads e deep b =
      let go = goes_through pre g t leads b.begins in
      let at : n ≡ go.0.level = (subst (λ s. through s go.0.level (λ i. Completes go.1 i go.4.0)) (ap (λ u. step g u) go.3 ∙ e) go.4.1).0 in
      deep (subst (λ m. m ≤ 256) (sym at) (shallow_last pre go.1 go.0 t (subst (λ ls. IsShallow (take (length (tokens_of pre ++ t ∷ [])) ls)) go.2 b.shallow)))

  -- a token that doesn't go on is the fault
  abbrev AtToken : List Leveled → Place → KoreToken → ℕ → (Place → Outcome) → ℕ → FaultKind → Type 0
  AtToken pre g t at on left k = ((n : ℕ) × (h : Place) × (step g t ≡ goes n h) × (n ≤ 256) × (on h ≡ faulty left k)) ⊎ (TokenFault Texts (tokens_of pre) t k × (left ≡ at))

  at_level_test : (b : Bool) (pre : List Leveled) (g h : Place) (t : KoreToken) (n at : ℕ) (on : Place → Outcome) (left : ℕ) (k : FaultKind) → Leads pre start g → step g t ≡ goes n h → leb n 256 ≡ b → cond b (on h) (faulty at kind.Deep) ≡ faulty left k → AtToken pre g t at on left k
  at_level_test true pre g h t n at on left k leads is test e = inl (n, h, is, le_tested n 256 test, e)
  at_level_test false pre g h t n at on left k leads is test e =
      inr (inr (begins pre g h t n leads is, deep_begins_none pre g h t n leads is (λ small. not_small n test small), sym (same_kind at left kind.Deep k e)), sym (same_left at left kind.Deep k e))
    where
      not_small : (m : ℕ) → leb m 256 ≡ false → m ≤ 256 → ⊥
      not_small m f h = cc (le_test m 256 h)

  at_token : (s : Step) (pre : List Leveled) (g : Place) (t : KoreToken) (at : ℕ) (on : Place → Outcome) (left : ℕ) (k : FaultKind) → Leads pre start g → step g t ≡ s → stepped on at s ≡ faulty left k → AtToken pre g t at on left k
  at_token refused pre g t at on left k leads is e = inr (inl (refused_begins_none pre g t leads is, sym (same_kind at left kind.Token k e)), sym (same_left at left kind.Token k e))
  at_token (goes n h) pre g t at on left k leads is e = at_level_test (leb n 256) pre g h t n at on left k leads is refl e

  -- at the end
  nothing_more : (rest : List Leveled) (g : Place) (a : Answer) → tokens_of rest ≡ [] → Completes rest g a → at_end g ≡ answered a
  nothing_more [] g a e go = go
  nothing_more (t ∷ rest) g a e go = absurd (cc)

  not_whole : (pre : List Leveled) (g : Place) (left : ℕ) (k : FaultKind) → Leads pre start g → at_end g ≡ faulty left k → ¬ ((ls : List Leveled) × Texts ls × (tokens_of ls ≡ tokens_of pre))
  not_whole pre g left k leads e whole =
      let go = complete whole.0 whole.1 in
      let s = splits pre whole.0 [] start g go.0 leads go.1 (whole.2 ∙ sym (append-nil (tokens_of pre))) in
      no_answer left k go.0 (at_end g) e (nothing_more s.0 g go.0 s.3 s.2)

  pub fault_after : (x : Lexemes) (pre : List Leveled) (g : Place) (left : ℕ) (k : FaultKind) → Leads pre start g → IsShallow pre → run x g ≡ faulty left k → FirstFault Texts (tokens_of pre) x left k
  fault_after finished pre g left k leads shallow e =
      let end = end_fault g left k e in
      (not_whole pre g left k leads e, end.0, end.1)
  fault_after (broken at found) pre g left k leads shallow e = (sym (same_left at left found k e), sym (same_kind at left found k e))
  fault_after (broken_string quote at found) pre g left k leads shallow e = elim (at_token (step g (string_token [])) pre g (string_token []) quote (λ h. faulty at found) left k leads refl e) [
    | inl (n, h, is, small, f) ↦ inl ([], begins_shallow pre g h (string_token []) n leads is shallow small, sym (same_left at left found k f), sym (same_kind at left found k f))
    | inr (fault, f) ↦ inr ([], fault, f)
  ]
  fault_after (lexeme at t rest) pre g left k leads shallow e = elim (at_token (step g t) pre g t at (run rest) left k leads refl e) [
    | inl (n, h, is, small, f) ↦ inl (begins_shallow pre g h t n leads is shallow small, subst (λ ts. FirstFault Texts ts rest left k) (tokens_of_more pre t n [] ∙ append-nil (tokens_of pre ++ t ∷ [])) (fault_after rest (pre ++ at_level n t []) h left k (leads_on pre start g h t n leads is) (shallow_more pre t n shallow small) f))
    | inr fault ↦ inr fault
  ]

  pub first_fault : (x : Lexemes) (left : ℕ) (k : FaultKind) → run x start ≡ faulty left k → FirstFault Texts [] x left k
  first_fault x left k e = fault_after x [] start left k refl tt e

  -- a token that goes on does so by a step, and a faulty token stops there
  shallow_goes : (pre : List Leveled) (g : Place) (t : KoreToken) → Leads pre start g → BeginsShallow Texts (tokens_of pre ++ t ∷ []) → (n : ℕ) × (h : Place) × (step g t ≡ goes n h) × (n ≤ 256)
  shallow_goes pre g t leads b =
      let go = goes_through pre g t leads b.begins in
      let next = landing (step g go.0.token) go.0.level (λ i. Completes go.1 i go.4.0) go.4.1 in
      (go.0.level, next.0, ap (λ u. step g u) (sym go.3) ∙ next.2, shallow_last pre go.1 go.0 t (subst (λ ls. IsShallow (take (length (tokens_of pre ++ t ∷ [])) ls)) go.2 b.shallow))

  level_stops : (b : Bool) (pre : List Leveled) (g h : Place) (t : KoreToken) (n at : ℕ) (on : Place → Outcome) (k : FaultKind) → Leads pre start g → IsShallow pre → step g t ≡ goes n h → leb n 256 ≡ b → TokenFault Texts (tokens_of pre) t k → cond b (on h) (faulty at kind.Deep) ≡ faulty at k
  level_stops b pre g h t n at on k leads shallow is test (inl (none, e)) = absurd (none (begins pre g h t n leads is))
  level_stops true pre g h t n at on k leads shallow is test (inr (b, deep, e)) = absurd (deep (begins_shallow pre g h t n leads is shallow (le_tested n 256 test)))
  level_stops false pre g h t n at on k leads shallow is test (inr (b, deep, e)) = ap (λ j. faulty at j) (sym e)

  token_stops : (s : Step) (pre : List Leveled) (g : Place) (t : KoreToken) (at : ℕ) (on : Place → Outcome) (k : FaultKind) → Leads pre start g → IsShallow pre → step g t ≡ s → TokenFault Texts (tokens_of pre) t k → stepped on at s ≡ faulty at k
  token_stops refused pre g t at on k leads shallow is (inl (none, e)) = ap (λ j. faulty at j) (sym e)
  token_stops refused pre g t at on k leads shallow is (inr (b, deep, e)) = absurd (refused_begins_none pre g t leads is b)
  token_stops (goes n h) pre g t at on k leads shallow is fault = level_stops (leb n 256) pre g h t n at on k leads shallow is refl fault

  whole_or : (o : Outcome) (pre : List Leveled) (g : Place) → Leads pre start g → at_end g ≡ o → ¬ ((ls : List Leveled) × Texts ls × (tokens_of ls ≡ tokens_of pre)) → o ≡ faulty 0 kind.End
  whole_or (answered a) pre g leads e none = absurd (none (pre, sound pre a (subst (λ ls. Completes ls start a) (append-nil pre) (leads_complete pre [] start g a leads e)), refl))
  whole_or (faulty left k) pre g leads e none =
      let end = end_fault g left k e in
      same_fault left 0 k kind.End end.0 end.1

  runs_into : (x : Lexemes) (pre : List Leveled) (g : Place) (left : ℕ) (k : FaultKind) → Leads pre start g → IsShallow pre → FirstFault Texts (tokens_of pre) x left k → run x g ≡ faulty left k
  runs_into finished pre g left k leads shallow (none, at, is) = whole_or (at_end g) pre g leads refl none ∙ same_fault 0 left kind.End k (sym at) (sym is)
  runs_into (broken at found) pre g left k leads shallow (here, is) = same_fault at left found k (sym here) (sym is)
  runs_into (broken_string quote at found) pre g left k leads shallow (inl (t, b, here, is)) =
      let go = shallow_goes pre g (string_token t) leads b in
      let other = same_string g t [] go.0 go.1 go.2 in
      rw (other.1, le_test go.0 256 go.3) (same_fault at left found k (sym here) (sym is))
  runs_into (broken_string quote at found) pre g left k leads shallow (inr (t, fault, here)) =
      stops_alike (λ h. faulty at found) (step g (string_token t)) (step g (string_token [])) quote k (λ n h e. same_string g [] t n h e) (λ n h e. same_string g t [] n h e) (λ h i. refl) (token_stops (step g (string_token t)) pre g (string_token t) quote (λ h. faulty at found) k leads shallow refl fault) ∙ ap (λ m. faulty m k) (sym here)
  runs_into (lexeme at t rest) pre g left k leads shallow (inl (b, more)) =
      let go = shallow_goes pre g t leads b in
      let same = runs_into rest (pre ++ at_level go.0 t []) go.1 left k (leads_on pre start g go.1 t go.0 leads go.2) (shallow_more pre t go.0 shallow go.3) (subst (λ ts. FirstFault Texts ts rest left k) (sym (tokens_of_more pre t go.0 [] ∙ append-nil (tokens_of pre ++ t ∷ []))) more) in
      ap (stepped (run rest) at) go.2 ∙ rw (le_test go.0 256 go.3) same
  runs_into (lexeme at t rest) pre g left k leads shallow (inr (fault, here)) = token_stops (step g t) pre g t at (run rest) k leads shallow refl fault ∙ ap (λ m. faulty m k) (sym here)

  pub first_fault_is_met : (x : Lexemes) (left : ℕ) (k : FaultKind) → FirstFault Texts [] x left k → run x start ≡ faulty left k
  first_fault_is_met x left k first = runs_into x [] start left k refl tt first
