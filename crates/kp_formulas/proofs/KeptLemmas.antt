-- Clauses that are kept unless they are among those kept before, one after the other.
use Rattle.std.proofs.Common.{◌≡◌, refl, sym, ap, ap₂, ◌∙◌, ℕ, zero, suc, ◌+◌, min, Bool, true, false, nat_le, ◌&&◌, ◌||◌, List, [], ◌∷◌, ◌++◌, length, map, subst, arith}
use Rattle.std.proofs.lemmas.Bool.Decides.{nat_tests}
use Rattle.std.specs.Prelude.{if◌then◌else◌}
use Rattle.std.specs.List.{list_any}
use Rattle.std.proofs.lemmas.List.{append-nil, append_assoc, map-append}
use Rattle.kp_symbolic.specs.Alike.{literals_same}
use Rattle.kp_symbolic.specs.Formulas.{clauses_same, kept_once_after, kept_once}
use Rattle.kp_symbolic.specs.States.{Literal}
use Rattle.kp_symbolic.specs.View.{clause_view, clauses_view}
use Rattle.kp_symbolic.specs.declared.clause.Clause.{Clause}
use Rattle.kp_formulas.specs.Keys.{clauses_with}
use Rattle.kp_formulas.specs.declared.keyed.Keyed.{Keyed}

abbrev turned : List (List Literal) → List (List Literal)
turned [] = []
turned (c ∷ cs) = turned cs ++ c ∷ []

abbrev pub literals_in : List (List Literal) → ℕ
literals_in [] = 0
literals_in (c ∷ cs) = length c + literals_in cs

-- those kept so far, and what is kept of the rest behind them
abbrev pub kept_from : List (List Literal) → List (List Literal) → List (List Literal)
kept_from kept cs = kept ++ kept_once_after literals_same (turned kept) (literals_in kept) cs

abbrev pub is_repeat : List (List Literal) → List Literal → Bool
is_repeat kept c = nat_le (literals_in kept) 4096 && list_any (clauses_same literals_same c) kept

turned_one_more : (kept : List (List Literal)) (c : List Literal) → turned (kept ++ c ∷ []) ≡ c ∷ turned kept
turned_one_more [] c = refl
turned_one_more (d ∷ kept) c = ap (λ cs. cs ++ d ∷ []) (turned_one_more kept c)

one_more_in : (kept : List (List Literal)) (c : List Literal) → literals_in (kept ++ c ∷ []) ≡ literals_in kept + length c
one_more_in [] c = omega arith
one_more_in (d ∷ kept) c = let e = one_more_in kept c in omega (arith, e)

any_last : (test : List Literal → Bool) (cs : List (List Literal)) (c : List Literal) → list_any test (cs ++ c ∷ []) ≡ (test c || list_any test cs)
any_last test [] c = refl
any_last test (d ∷ cs) c = ap (λ b. test d || b) (any_last test cs c) ∙ swapped (test d) (test c) (list_any test cs)
  where
    swapped : (a b x : Bool) → (a || (b || x)) ≡ (b || (a || x))
    swapped true true x = refl
    swapped true false x = refl
    swapped false b x = refl

any_turned : (test : List Literal → Bool) (cs : List (List Literal)) → list_any test (turned cs) ≡ list_any test cs
any_turned test [] = refl
any_turned test (c ∷ cs) = any_last test (turned cs) c ∙ ap (λ b. test c || b) (any_turned test cs)

skipped : (kept : List (List Literal)) (c : List Literal) (cs : List (List Literal)) → is_repeat kept c ≡ true → kept_from kept cs ≡ kept_from kept (c ∷ cs)
skipped kept c cs e = ap (λ xs. kept ++ xs) (by (nat_le (literals_in kept) 4096 && list_any (clauses_same literals_same c) (turned kept)) (ap (λ b. nat_le (literals_in kept) 4096 && b) (any_turned (clauses_same literals_same c) kept) ∙ e))
  where
    by : (b : Bool) → b ≡ true → kept_once_after literals_same (turned kept) (literals_in kept) cs
        ≡ (if b then kept_once_after literals_same (turned kept) (literals_in kept) cs else c ∷ kept_once_after literals_same (c ∷ turned kept) (literals_in kept + length c) cs)
    by true h = refl
    by false h = absurd (cc)

added : (kept : List (List Literal)) (c : List Literal) (cs : List (List Literal)) → is_repeat kept c ≡ false → kept_from (kept ++ c ∷ []) cs ≡ kept_from kept (c ∷ cs)
added kept c cs e = append_assoc kept (c ∷ []) (kept_once_after literals_same (turned (kept ++ c ∷ [])) (literals_in (kept ++ c ∷ [])) cs)
    ∙ ap₂ (λ before n. kept ++ c ∷ kept_once_after literals_same before n cs) (turned_one_more kept c) (one_more_in kept c)
    ∙ ap (λ xs. kept ++ xs) (by (nat_le (literals_in kept) 4096 && list_any (clauses_same literals_same c) (turned kept)) (ap (λ b. nat_le (literals_in kept) 4096 && b) (any_turned (clauses_same literals_same c) kept) ∙ e))
  where
    by : (b : Bool) → b ≡ false → c ∷ kept_once_after literals_same (c ∷ turned kept) (literals_in kept + length c) cs
        ≡ (if b then kept_once_after literals_same (turned kept) (literals_in kept) cs else c ∷ kept_once_after literals_same (c ∷ turned kept) (literals_in kept + length c) cs)
    by true h = absurd (cc)
    by false h = refl

pub none_left : (kept all : List (List Literal)) → kept_from kept [] ≡ kept_from [] all → kept ≡ kept_once literals_same all
none_left kept all e = sym (append-nil kept) ∙ e

-- ---- clauses of the code

pub pushed : (kept more : List Keyed) (k : Keyed) → more ≡ kept ++ k ∷ [] → clauses_with more ≡ clauses_with kept ++ clause_view k.clause ∷ []
pushed kept more k is = ap clauses_with is ∙ map-append (λ x. clause_view x.clause) kept (k ∷ [])

pub repeat_left : (kept : List Keyed) (old rest : List Clause) (c : Clause) (all : List (List Literal)) → is_repeat (clauses_with kept) (clause_view c) ≡ true → old ≡ c ∷ rest →
    kept_from (clauses_with kept) (clauses_view old) ≡ all → kept_from (clauses_with kept) (clauses_view rest) ≡ all
repeat_left kept old rest c all e o h = skipped (clauses_with kept) (clause_view c) (clauses_view rest) e ∙ ap (λ xs. kept_from (clauses_with kept) (clauses_view xs)) (sym o) ∙ h

pub other_kept : (kept more : List Keyed) (old rest : List Clause) (c : Clause) (all : List (List Literal)) → is_repeat (clauses_with kept) (clause_view c) ≡ false → clauses_with more ≡ clauses_with kept ++ clause_view c ∷ [] → old ≡ c ∷ rest →
    kept_from (clauses_with kept) (clauses_view old) ≡ all → kept_from (clauses_with more) (clauses_view rest) ≡ all
other_kept kept more old rest c all e is o h = ap (λ xs. kept_from xs (clauses_view rest)) is ∙ added (clauses_with kept) (clause_view c) (clauses_view rest) e ∙ ap (λ xs. kept_from (clauses_with kept) (clauses_view xs)) (sym o) ∙ h

pub one_more_counted : (kept more : List Keyed) (c : Clause) → clauses_with more ≡ clauses_with kept ++ clause_view c ∷ [] → literals_in (clauses_with more) ≡ literals_in (clauses_with kept) + length (clause_view c)
one_more_counted kept more c is = ap literals_in is ∙ one_more_in (clauses_with kept) (clause_view c)
