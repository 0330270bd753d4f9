-- Where an implication is valid by its goals, the substitution that is written is a witness.
use Rattle.std.specs.Prelude.{List, map, ⊤}
use Rattle.std.specs.List.{AllByRecursion}
use Rattle.std.proofs.Common.{sym, subst, [], ◌∷◌}
use Rattle.kp_kore.specs.Syntax.{Text, KorePattern}
use Rattle.kp_kore.specs.Signature.{KoreSignature}
use Rattle.kp_kore.specs.Implied.{DoesImply, IsWitness}
use Rattle.kp_kore.proofs.ListLemmas.{all_map}
use Rattle.kp_symbolic.specs.Terms.{term_instance, Replaced}
use Rattle.kp_symbolic.specs.States.{Literal, SymbolicState}
use Rattle.kp_symbolic.specs.Writing.{InjectsWhereItStands}
use Rattle.kp_case_laws.specs.Parts.{StatePart, whole, OfEachInstance, DependsOnHand}
use Rattle.kp_case_laws.specs.Firing.{HasNoInstance}
use Rattle.kp_case_laws.proofs.HandLemmas.{depends_on_hand}
use Rattle.kp_case_laws.proofs.PartLemmas.{none_has}
use Rattle.kp_unify.specs.Narrowed.{NumberedPart}
use Rattle.kp_goals.specs.Consequents.{Consequent}
use Rattle.kp_goals.specs.Exact.{AreMatched, AreClear, ClauseDepends}
use Rattle.kp_goals.specs.Goals.{IsAskedIn, goals_of}
use Rattle.kp_goals.proofs.Assembled.{goals_are_exact}
use Rattle.kp_implies.specs.Printed.{told_of, substitution_of}
use Rattle.kp_implies.specs.Promises.{IsQuestion}
use Rattle.kp_implies.specs.Steps.{IsSometimes, IsNever, IsMet, IsGoalTrue, IsCarried, no_instance, by_goals}
use Rattle.kp_implies.proofs.Carried.{IsOnlyPart, substitution_is_witness}
use Rattle.kp_implies.proofs.PartLaws.{map_all, here, never_has, own_matched, matched, clear, goal_right, goals_depend}
use Rattle.kp_implies.proofs.PutTold.{given_told}

module _ (g : KoreSignature) (used : List Text) (a c : KorePattern) (s : SymbolicState) (k : Consequent) (question : IsQuestion g used a c s k) where
  abbrev IsWitnessOf : StatePart → List StatePart → List Replaced → List (List Literal) → SymbolicState → Type 0
  IsWitnessOf p apart put goals z = AreMatched g c k (whole z) → IsOnlyPart g c k z p apart put goals → DependsOnHand g z → AreClear c z.variables → InjectsWhereItStands g (substitution_of g k z) → IsWitness g a c (substitution_of g k z)

  witness_of : (p : StatePart) (apart : List StatePart) (put : List Replaced) (goals : List (List Literal)) → DoesImply g a c → IsWitnessOf p apart put goals s
  witness_of p apart put goals valid =
      subst (IsWitnessOf p apart put goals) (sym question.is)
      (λ m only depends clear' injects. substitution_is_witness g a c k question.read m question.instances p apart put goals only depends clear' question.distinct injects valid)

  module _ (m : IsMet g used s k) (empty : AllByRecursion (λ (q : NumberedPart). IsNever g q.part.state) m.apart) where
    abbrev p : StatePart
    p = m.met.part

    abbrev others : List StatePart
    others = map (λ q. q.part) m.apart

    none_beside : AllByRecursion (HasNoInstance g) others
    none_beside = map_all (λ (q : NumberedPart). q.part) (HasNoInstance g) m.apart (all_map (λ (q : NumberedPart). IsNever g q.part.state) (λ q. HasNoInstance g q.part) m.apart (λ q n. never_has g q.part n) empty)

    -- so that the part that is met has an instance
    some_met : IsSometimes g s → ¬ IsNever g p.state
    some_met some never =
        none_has g (λ u. ⊤) (whole s) (p ∷ others) m.meeting.cases.divided (no_one (p ∷ others) (never_has g p never, none_beside))
        some.valuation (term_instance g some.valuation s.term) some.sorts (here g s some.valuation some.are_true) tt
      where
        no_one : (qs : List StatePart) → AllByRecursion (HasNoInstance g) qs → AllByRecursion (λ q. OfEachInstance g q (λ w u. ¬ ⊤)) qs
        no_one [] h = tt
        no_one (q ∷ qs) h = ((λ w u sorts met t. h.0 w u sorts met), no_one qs h.1)

    only_part : (goals : List (List Literal)) (asked : IsAskedIn g k (told_of g k s) p goals) → AllByRecursion (IsGoalTrue g k p) goals → IsOnlyPart g c k s p others asked.given.put (goals_of g k p asked.given)
    only_part goals asked all =
        let on : AreMatched g c k p = matched g used a c s k question m in
        record {
          divided = m.meeting.cases.divided;
          empty = none_beside;
          exact = goals_are_exact g c k p on (told_of g k s) asked.given asked.is_given;
          depends = depends_on_hand g p.state on.part.sorted;
          clear = clear g used a c s k question m;
          closed = subst (AllByRecursion (ClauseDepends g p.state.variables)) asked.are (goals_depend g used a c s k question m goals (goal_right g used a c s k question m (told_of g k s) goals asked) all);
          told = given_told g k (told_of g k s) p asked.given asked.is_given;
        }

    pub witness_law : IsSometimes g s → IsCarried g s k p → InjectsWhereItStands g (substitution_of g k s) → DoesImply g a c → IsWitness g a c (substitution_of g k s)
    witness_law some (no_instance never) injects valid = absurd (some_met some never)
    witness_law some (by_goals goals asked all) injects valid =
        let whole_matched : AreMatched g c k (whole s) = own_matched g used a c s k question in
        witness_of p others asked.given.put (goals_of g k p asked.given) valid whole_matched (only_part goals asked all) (depends_on_hand g s whole_matched.part.sorted) question.clear injects
