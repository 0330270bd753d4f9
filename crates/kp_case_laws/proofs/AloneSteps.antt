-- One step by a rule alone, over the variables at hand.
use Rattle.std.proofs.Common.{◌≡◌, refl, sym, subst, [], ◌∷◌, Some}
use Rattle.std.specs.Prelude.{MatchOption}
use Rattle.std.specs.List.{AllByRecursion, Contains}
use Rattle.kp_kore.specs.Syntax.{KorePattern}
use Rattle.kp_kore.specs.Parts.{free_variables}
use Rattle.kp_kore.specs.Signature.{KoreSignature}
use Rattle.kp_kore.specs.Value.{Value}
use Rattle.kp_kore.specs.Instance.{Valuation, GivesSorts, IsInstance}
use Rattle.kp_kore.specs.Rules.{RewriteRule}
use Rattle.kp_kore.specs.Theory.{Theory}
use Rattle.kp_kore.specs.Steps.{AnyByRecursion, StepsBy, Steps}
use Rattle.kp_kore.specs.Cases.{GoesTo}
use Rattle.kp_kore.specs.Scopes.{Extends, LeadsIn}
use Rattle.kp_kore.proofs.ListLemmas.{any_map, any_all}
use Rattle.kp_kore.proofs.TurnLemmas.{each_member}
use Rattle.kp_kore.proofs.ConjunctionLemmas.{same_pattern_instance}
use Rattle.kp_kore.proofs.TruthLemmas.{agrees_back}
use Rattle.kp_kore.proofs.ArcLemmas.{agrees_through}
use Rattle.kp_symbolic.specs.States.{SymbolicState, IsStateInstance}
use Rattle.kp_case_laws.specs.NextStates.{FollowsBy, StepCase, placed, AreStepCases, IsPatternOf, IsWithinHand}
use Rattle.kp_case_laws.proofs.AtHandLemmas.{sorts_of_hand, agree_of_hand, hand_in_hand}
use Rattle.kp_case_laws.proofs.StepCases.{id_in, RuleGoes, RuleHolds, IsGoodCase, any_unmade, any_member, some_case, good_cases}
use Rattle.kp_case_laws.proofs.NextStateLemmas.{ComesOf, comes_of}
use Rattle.kp_case_laws.proofs.LoneRule.{only_case}
use Rattle.kp_case_laws.specs.Runs.{StateLeads}

pub good : (t : Theory) (s : SymbolicState) (k : StepCase) → AreStepCases t s (k ∷ []) → IsWithinHand t.signature s k → IsGoodCase t s k
good t s k step hand = (good_cases t s (k ∷ []) step (hand, tt)).0

pub steps_on : (t : Theory) (s : SymbolicState) (r : RewriteRule) (k : StepCase) → AreStepCases t s (k ∷ []) → IsWithinHand t.signature s k → k.rule ≡ Some r → StateLeads t s k.next 1
steps_on t s r k step hand e = record {
  at_hand = at;
  found = λ v c sorts met later steps.
      let goes : AnyByRecursion (λ o. StepsBy t o c steps.0) t.rules = steps.1 in
      let y : (y : Valuation) × Extends g s.variables k.next.variables v y × IsStateInstance g y k.next steps.0 =
      any_all (λ o. StepsBy t o c steps.0) (Contains t.rules) ((y : Valuation) × Extends g s.variables k.next.variables v y × IsStateInstance g y k.next steps.0) t.rules
      (λ o by m. on_by v c steps.0 o sorts met m by) goes (each_member (Contains t.rules) t.rules (λ o m. m)) in
      (y.0, y.1, subst (IsStateInstance g y.0 k.next) (sym steps.2) y.2);
  only = λ w later sorts met.
      let from : ComesOf t s k.rule w later = comes_of t s (k ∷ []) k w later k.rule refl step (good t s k step hand) sorts met in
      (from.configuration, from.met, (later, steps_of from.configuration later (subst (λ o. GoesTo t (id_in o) from.configuration later) e from.goes), refl));
}
  where
    g : KoreSignature
    g = t.signature

    at : AllByRecursion (Contains k.next.variables) s.variables
    at = hand_in_hand s.variables k.part.state.variables k.next.variables hand.part hand.next

    steps_of : (c later : Value) → GoesTo t (Some r.id) c later → Steps t c later
    steps_of c later goes = any_map (λ o. (o.id ≡ r.id) × StepsBy t o c later) (λ o. StepsBy t o c later) t.rules (λ o h. h.1) goes

    next : FollowsBy g r.body k.part k.next
    next = subst (λ o. MatchOption o (k.next ≡ k.part.state) (λ r. FollowsBy g r.body k.part k.next)) e (good t s k step hand).next

    on_by : (v : Valuation) (c later : Value) (o : RewriteRule) → GivesSorts g v s.variables → IsStateInstance g v s c → Contains t.rules o → StepsBy t o c later → (y : Valuation) × Extends g s.variables k.next.variables v y × IsStateInstance g y k.next later
    on_by v c later o sorts own m by =
        let held : RuleHolds t s v c later (Some o.id) (placed k) =
        only_case (λ j. RuleHolds t s v c later (Some o.id) (placed j)) k (any_unmade placed (RuleHolds t s v c later (Some o.id)) (k ∷ [])
        (subst (AnyByRecursion (RuleHolds t s v c later (Some o.id))) (sym step.of_turns) (some_case t s step.turns step.remainder v c later sorts own step.are_turns (Some o.id) (any_member (λ z. (z.id ≡ o.id) × StepsBy t z c later) t.rules o m (refl, by))))) in
        let goes : StepsBy t r c later = subst (λ z. RuleGoes t z c later) e held.1 in
        let y : (y : Valuation) × Extends g k.part.state.variables k.next.variables held.2.chosen y × IsStateInstance g y k.next later = next.found held.2.chosen c held.2.sorts held.2.met later goes.rewrites in (
          y.0,
          record {
            agrees = agrees_through s.variables v held.2.chosen y.0 held.2.agrees (agree_of_hand held.2.chosen y.0 s.variables k.part.state.variables hand.part y.1.agrees);
            sorts = y.1.sorts;
          },
          y.2,
        )

-- and over the patterns of the states
pub leads_on : (t : Theory) (p q : KorePattern) (s : SymbolicState) (k : StepCase) (r : RewriteRule) → IsPatternOf t.signature p s → IsPatternOf t.signature q k.next → AreStepCases t s (k ∷ []) → IsWithinHand t.signature s k → k.rule ≡ Some r → LeadsIn t s.variables k.next.variables p q 1
leads_on t p q s k r of_p of_q step hand e = record {
  found = λ v c later sorts met steps.
      let y : (y : Valuation) × Extends g s.variables k.next.variables v y × IsStateInstance g y k.next later = on.found v c sorts ((of_p.instances v c sorts).0 met) later steps in
      (y.0, y.1, (of_q.instances y.0 later y.1.sorts).1 y.2);
  only = λ v w later sorts x met.
      let from = on.only w later x.sorts ((of_q.instances w later x.sorts).0 met) in
      let there : GivesSorts g w s.variables = sorts_of_hand g w s.variables k.next.variables on.at_hand x.sorts in
      let on_p : IsInstance g w p from.0 = (of_p.instances w from.0 there).1 from.1 in (
        from.0,
        same_pattern_instance g p w v from.0 (agrees_back (free_variables p) v w (agree_of_hand v w (free_variables p) s.variables of_p.at_hand x.agrees)) on_p,
        from.2,
      );
}
  where
    g : KoreSignature
    g = t.signature

    on : StateLeads t s k.next 1
    on = steps_on t s r k step hand e
