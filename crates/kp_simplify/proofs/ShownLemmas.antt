-- The clauses that are shown are the state's own, which aren't plain or weigh too much.
use Rattle.std.proofs.Common.{◌≡◌, refl, subst, arith, List, [], ◌∷◌, Some, None}
use Rattle.std.specs.Prelude.{min}
use Rattle.std.specs.List.{Contains}
use Rattle.kp_kore.specs.Syntax.{KoreSort, KorePattern}
use Rattle.kp_kore.specs.Signature.{KoreSignature}
use Rattle.kp_symbolic.specs.Plain.{rough_clauses}
use Rattle.kp_symbolic.specs.Shown.{unknown_clauses, weight_passed, most_told}
use Rattle.kp_symbolic.specs.States.{Literal, SymbolicState}
use Rattle.kp_symbolic.specs.Verdicts.{Weighed, IsStateUndecided, IsTooHeavy}
use Rattle.kp_symbolic.specs.Writing.{written_predicate}
use Rattle.kp_symbolic.specs.Endings.{IsPredicateOf, IsShownAlone}
use Rattle.kp_outward.specs.Arranged.{AreArranged}
use Rattle.kp_simplify.specs.Answers.{IsArrangedPredicate}

predicate_of : (g : KoreSignature) (sort : KoreSort) (cs : List (List Literal)) (p : KorePattern) → IsArrangedPredicate g sort cs p → IsPredicateOf g sort cs p
predicate_of g sort cs p (ds, arranged, is) = record {
  ordered = ds;
  written = is;
  from_these = λ d there. let from = arranged.from_these d there in (from.0, from.1, from.2.same);
  all_of_these = λ c there. let by = arranged.all_of_these c there in (by.0, by.1.same, by.2);
  once = arranged.once;
}

none_some : {A : Type 0} (a : A) → None ≡ Some a → ⊥
none_some a e = cc

none_contained : {X : Type 0} (x : X) → Contains [] x → ⊥
none_contained x (k, h, e) = omega (arith, h)

some_of : (g : KoreSignature) (sort : KoreSort) (ds : List (List Literal)) (p : KorePattern) → AreArranged g sort [] ds → written_predicate g sort ds ≡ Some p → ⊥
some_of g sort [] p arranged is = none_some p is
some_of g sort (d ∷ ds) p arranged is = let from = arranged.from_these d (0, omega arith, refl) in none_contained from.0 from.1

-- no clauses have no predicate
some_clauses : (g : KoreSignature) (sort : KoreSort) (cs : List (List Literal)) (p : KorePattern) → IsArrangedPredicate g sort cs p → cs ≡ [] → ⊥
some_clauses g sort cs p h none = let k = subst (λ xs. IsArrangedPredicate g sort xs p) none h in some_of g sort k.0 p k.1 k.2

pub rough_is_shown : (g : KoreSignature) (p q : KorePattern) (s : SymbolicState) (cs : List (List Literal)) → IsStateUndecided g s cs → IsArrangedPredicate g s.sort cs q → IsShownAlone g p s (unknown_clauses q)
rough_is_shown g p q s cs undecided h =
    let shown = subst (λ xs. IsArrangedPredicate g s.sort xs q) undecided.shown_are h in
    (subst (IsStateUndecided g s) undecided.shown_are undecided, (some_clauses g s.sort (rough_clauses g s) q shown, predicate_of g s.sort (rough_clauses g s) q shown))

pub heavy_is_shown : (g : KoreSignature) (p q : KorePattern) (s : SymbolicState) (cs : List (List Literal)) (h : Weighed) → IsTooHeavy g s cs h → IsArrangedPredicate g s.sort cs q →
    IsShownAlone g p s (weight_passed q h.weight (min h.number most_told))
heavy_is_shown g p q s cs h heavy shown = (h.number, heavy.over, (refl, predicate_of g s.sort s.clauses q (subst (λ xs. IsArrangedPredicate g s.sort xs q) heavy.shown_are shown)))
