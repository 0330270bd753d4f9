-- The substitution that is written carries the instances of the antecedent: it is true wherever the consequent's body has them, and the
-- body has them under all values of the bound variables that make it true, if under some.
use Rattle.std.specs.Prelude.{◌≡◌, ◌↔◌, true, false, List, [], ◌∷◌}
use Rattle.std.specs.List.{AllByRecursion, Contains, flat_map}
use Rattle.std.proofs.Common.{sym, ◌∙◌, subst}
use Rattle.kp_kore.specs.Syntax.{KorePattern}
use Rattle.kp_kore.specs.Parts.{SortedName}
use Rattle.kp_kore.specs.Signature.{KoreSignature}
use Rattle.kp_kore.specs.Value.{Value}
use Rattle.kp_kore.specs.Instance.{Valuation, GivesSorts, AgreesOn, is_named, IsInstance, IsInstanceOfOne, IsTrueUnder}
use Rattle.kp_kore.specs.Rules.{top_binders, under_binders}
use Rattle.kp_kore.specs.Implied.{Chooses}
use Rattle.kp_kore.proofs.ListLemmas.{all_map}
use Rattle.kp_kore.proofs.TurnLemmas.{of_member, each_member}
use Rattle.kp_symbolic.specs.States.{Atom, IsAtomTrue, Literal, AreTrue, SymbolicState, IsStateInstance}
use Rattle.kp_symbolic.specs.Writing.{InjectsWhereItStands}
use Rattle.kp_symbolic.proofs.Facts.{Good}
use Rattle.kp_case_laws.specs.Parts.{whole}
use Rattle.kp_step.specs.Conditions.{condition_clauses}
use Rattle.kp_step.proofs.Excluded.{condition_says, condition_right}
use Rattle.kp_goals.specs.Consequents.{Consequent}
use Rattle.kp_goals.specs.Exact.{IsRightClause, all_variables, AreMatched}
use Rattle.kp_goals.specs.Gives.{match_clauses}
use Rattle.kp_goals.proofs.Assembled.{body_met, match_right, match_says, verified_over}
use Rattle.kp_goals.proofs.GoodGivens.{sorted_literals}
use Rattle.kp_goals.proofs.PutTerms.{put_normal, put_same}
use Rattle.kp_implies.specs.Printed.{begins_with, equalities, tellings_of, equalities_of, substitution_of, told_of}
use Rattle.kp_implies.proofs.Joined.{all_sums, joined_said, repeated_have, written_have}
use Rattle.kp_implies.proofs.Told.{IsTrueUnderBoth, told_agree, all_are_left, each_binder, each_telling}
use Rattle.kp_implies.proofs.Written.{IsRightEquality, equalities_right, equalities_true}

both_hold : (P Q : Atom → Type 0) (all : List Atom) → AllByRecursion P all → AllByRecursion Q all → AllByRecursion (λ a. P a × Q a) all
both_hold P Q [] h i = tt
both_hold P Q (a ∷ later) h i = ((h.0, i.0), both_hold P Q later h.1 i.1)

module _ (g : KoreSignature) (c : KorePattern) (k : Consequent) (s : SymbolicState) (m : AreMatched g c k (whole s)) where
  abbrev Hand : List SortedName
  Hand = all_variables (whole s) c

  abbrev match : List (List Literal)
  match = match_clauses g k (whole s)

  abbrev asked : List (List Literal)
  asked = condition_clauses g [] k.predicates

  all_good : (cs : List (List Literal)) → AllByRecursion (IsRightClause g Hand) cs → AllByRecursion (AllByRecursion (Good g Hand)) cs
  all_good cs h = all_map (IsRightClause g Hand) (AllByRecursion (Good g Hand)) cs (λ d i. sorted_literals g Hand d i) h

  match_good : AllByRecursion (AllByRecursion (Good g Hand)) match
  match_good = all_good match (match_right g c k (whole s) m)

  asked_good : AllByRecursion (AllByRecursion (Good g Hand)) asked
  asked_good = all_good asked (condition_right g Hand [] k.predicates (put_normal g Hand [] tt) (verified_over g c k (whole s) m [] tt k.predicates m.predicates))

  all_right : AllByRecursion (IsRightEquality g Hand) (equalities g match asked)
  all_right = equalities_right g Hand match asked match_good asked_good

  written_right : AllByRecursion (IsRightEquality g Hand) (equalities_of g k s)
  written_right = written_have g (IsRightEquality g Hand) k.bound (equalities g match asked) all_right

  -- the substitution says what its equalities say
  pub substitution_says : (w : Valuation) → InjectsWhereItStands g (substitution_of g k s) → IsTrueUnder g w (substitution_of g k s) ↔ AllByRecursion (IsAtomTrue g w) (equalities_of g k s)
  substitution_says w injects = joined_said g Hand w s.sort (equalities_of g k s) written_right injects

  -- it is true where the body has an instance of the state
  pub true_where_met : (w : Valuation) (u : Value) → InjectsWhereItStands g (substitution_of g k s) → GivesSorts g w Hand → IsStateInstance g w s u → IsInstance g w (under_binders c) u → IsTrueUnder g w (substitution_of g k s)
  true_where_met w u injects sorts met body =
      let b = body_met g w c u body in
      let matched : AreTrue g w match = (match_says g c k (whole s) m w u sorts met).1 (subst (λ ts. IsInstanceOfOne g w ts u) m.consequent.alone b.term) in
      let places : AllByRecursion (IsTrueUnder g w) k.predicates = subst (AllByRecursion (IsTrueUnder g w)) (sym m.consequent.predicates) b.predicates in
      let says = condition_says g Hand [] w k.predicates (verified_over g c k (whole s) m [] tt k.predicates m.predicates) sorts in
      let holds : AreTrue g w asked = says.1 (subst (λ v. AllByRecursion (IsTrueUnder g v) k.predicates) (sym (put_same g w [] tt)) places) in
      (substitution_says w injects).1 (written_have g (IsAtomTrue g w) k.bound (equalities g match asked) (equalities_true g Hand w match asked sorts match_good asked_good matched holds))

  -- where it is true under two choices, these agree on what it tells
  pub agree_on_told : (v w x : Valuation) → InjectsWhereItStands g (substitution_of g k s) → GivesSorts g w Hand → GivesSorts g x Hand → Chooses g c v w → Chooses g c v x →
      IsTrueUnder g w (substitution_of g k s) → IsTrueUnder g x (substitution_of g k s) → AgreesOn (told_of g k s) w x
  agree_on_told v w x injects sorts others chooses too holds also =
      let all = flat_map (λ (y : SortedName). equalities g match asked) k.bound in
      let P = IsTrueUnderBoth g w x in
      let true_both : AllByRecursion P (equalities_of g k s) = both_hold (IsAtomTrue g w) (IsAtomTrue g x) (equalities_of g k s) ((substitution_says w injects).0 holds) ((substitution_says x injects).0 also) in
      let each = each_binder P (tellings_of g k s) k.bound true_both in
      told_agree g k.bound w x all
      (λ y n. let out : is_named y (top_binders c) ≡ false = subst (λ ys. is_named y ys ≡ false) m.consequent.bound n in too.agrees y out ∙ sym (chooses.agrees y out))
      (all_sums g Hand w x all sorts others (repeated_have (IsRightEquality g Hand) k.bound (equalities g match asked) all_right))
      (each_telling P k.bound (tellings_of g k s) (all_are_left g (Contains k.bound) k.bound all (each_member (Contains k.bound) k.bound (λ y i. i)))
      (λ y i. of_member (λ z. AllByRecursion (λ t. begins_with z t.told ≡ true → P t.atom) (tellings_of g k s)) k.bound y each i))
