-- New names, one after the other.
use Rattle.std.proofs.Common.{◌≡◌, refl, sym, ap, subst, ◌∙◌, ℕ, zero, suc, ◌+◌, ◌<◌, ◌≤◌, true, List, [], ◌∷◌, ◌++◌, map, take, length, get_or, arith, inl, inr}
use Rattle.std.specs.Prelude.{◌⊎◌}
use Rattle.std.specs.List.{list_any}
use Rattle.std.specs.Str.{bytes_eq}
use Rattle.std.specs.declared.alloc.Global.{Global}
use Rattle.std.specs.declared.sync.Arc.{Arc}
use Rattle.std.proofs.Math.Seq.{take-suc}
use Rattle.std.proofs.lemmas.List.{map-append}
use Rattle.kp_kore.specs.Syntax.{Text, KoreSort}
use Rattle.kp_kore.specs.View.{sort_view}
use Rattle.kp_kore.specs.declared.sort.Sort.{Sort}
use Rattle.kp_kore.specs.Parts.{SortedName}
use Rattle.kp_symbolic.specs.Writing.{fresh_name}
use Rattle.kp_symbolic.specs.View.{variable_view, variables_view}
use Rattle.kp_symbolic.specs.declared.variable.Variable.{Variable}
use Rattle.kp_unify.specs.Names.{IsNextName, AreNextVariables}

-- each number from one on and below another makes a name in use
abbrev pub AreUsedBetween : List Text → ℕ → ℕ → Type 0
AreUsedBetween used from before = (j : ℕ) → from ≤ j → j < before → list_any (bytes_eq (fresh_name j)) used ≡ true

split_last : (j n : ℕ) → j < n + 1 → (j < n) ⊎ (j ≡ n)
split_last zero zero h = inr refl
split_last zero (suc n) h = inl (omega arith)
split_last (suc j) zero h = absurd (omega (arith, h))
split_last (suc j) (suc n) h = elim (split_last j n (omega (arith, h))) [
  | inl l ↦ inl (omega (arith, l))
  | inr e ↦ inr (omega (arith, e))
]

pub one_more_used : (used : List Text) (from n : ℕ) (x : Text) → x ≡ fresh_name n → list_any (bytes_eq x) used ≡ true → AreUsedBetween used from n → AreUsedBetween used from (n + 1)
one_more_used used from n x is e all j l h = elim (split_last j n h) [
  | inl k ↦ all j l k
  | inr k ↦ subst (λ y. list_any (bytes_eq y) used ≡ true) (is ∙ sym (ap fresh_name k)) e
]

pub one_more_variable : (used : List Text) (next between after : ℕ) (ss : List KoreSort) (xs : List SortedName) (s : KoreSort) (x : SortedName) → AreNextVariables used next ss xs between → IsNextName used between x.name after → x.sort ≡ s →
    AreNextVariables used next (ss ++ s ∷ []) (xs ++ x ∷ []) after
one_more_variable used next between after [] [] s x e n i = (after, subst (λ k. IsNextName used k x.name after) (sym e) n, i, refl)
one_more_variable used next between after (t ∷ ss) (y ∷ xs) s x h n i = (h.0, h.1, h.2, one_more_variable used h.0 between after ss xs s x h.3 n i)
one_more_variable used next between after [] (y ∷ xs) s x h n i = absurd h
one_more_variable used next between after (t ∷ ss) [] s x h n i = absurd h

pub next_at : (used : List Text) (next between after i : ℕ) (sorts : List Sort) (s : Sort) (xs ys : List (Arc Variable Global)) (v : Arc Variable Global) → i < length sorts → s ≡ get_or sorts i s → ys ≡ xs ++ v ∷ [] →
    AreNextVariables used next (map sort_view (take i sorts)) (variables_view xs) between → IsNextName used between (variable_view v.value).name after → (variable_view v.value).sort ≡ sort_view s →
    AreNextVariables used next (map sort_view (take (i + 1) sorts)) (variables_view ys) after
next_at used next between after i sorts s xs ys v h is more all n e =
    let one : i + 1 ≡ suc i = omega arith in
    let taken : map sort_view (take (i + 1) sorts) ≡ map sort_view (take i sorts) ++ sort_view s ∷ [] = ap (λ k. map sort_view (take k sorts)) one ∙ ap (map sort_view) (take-suc sorts i s h) ∙ map-append sort_view (take i sorts) (get_or sorts i s ∷ []) ∙ ap (λ t. map sort_view (take i sorts) ++ sort_view t ∷ []) (sym is) in
    let seen : variables_view ys ≡ variables_view xs ++ variable_view v.value ∷ [] = ap variables_view more ∙ map-append (λ x. variable_view x.value) xs (v ∷ []) in
    subst (λ zs. AreNextVariables used next (map sort_view (take (i + 1) sorts)) zs after) (sym seen)
    (subst (λ ss. AreNextVariables used next ss (variables_view xs ++ variable_view v.value ∷ []) after) (sym taken)
    (one_more_variable used next between after (map sort_view (take i sorts)) (variables_view xs) (sort_view s) (variable_view v.value) all n e))
