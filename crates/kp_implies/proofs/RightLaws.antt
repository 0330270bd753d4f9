-- What is answered by what was found is right.
use Rattle.std.specs.Prelude.{List}
use Rattle.std.proofs.Common.{◌≡◌, refl, ◌∙◌, ap, subst, [], ◌∷◌}
use Rattle.kp_kore.specs.Syntax.{Text, KorePattern, top}
use Rattle.kp_kore.specs.Parts.{free_variables}
use Rattle.kp_kore.specs.Signature.{KoreSignature}
use Rattle.kp_kore.specs.Instance.{GivesSorts}
use Rattle.kp_kore.specs.Value.{HasSort}
use Rattle.kp_kore.specs.Rules.{top_binders}
use Rattle.kp_kore.specs.AtHand.{HasSome}
use Rattle.kp_kore.specs.Implied.{Implied, witnessed, vacuous}
use Rattle.kp_kore.proofs.ListLemmas.{all_left, all_right}
use Rattle.kp_symbolic.specs.Terms.{term_instance}
use Rattle.kp_symbolic.specs.States.{SymbolicState}
use Rattle.kp_symbolic.specs.Shown.{Undecided, unknown_clauses}
use Rattle.kp_symbolic.specs.Endings.{Result}
use Rattle.kp_goals.specs.Consequents.{Consequent}
use Rattle.kp_goals.proofs.Core.{valid_by_none}
use Rattle.kp_implies.specs.Open.{goal}
use Rattle.kp_implies.specs.Printed.{told_of, substitution_of, tellings_of, in_binders_order, joined_atoms}
use Rattle.kp_implies.specs.Answers.{PassesLimit, in_state, in_goals, in_substitution, ShowsOpen, IsShownOfSides, IsRightOfSides}
use Rattle.kp_implies.specs.Steps.{IsSometimes, IsNever, IsAnswer, empty, unmet, by_part, by_goal, carried, by_limit, by_clauses, by_weight, open_goal}
use Rattle.kp_implies.specs.Promises.{IsQuestion}
use Rattle.kp_implies.proofs.PartLaws.{unmet_law, part_law, goal_law, carried_law, met_law}
use Rattle.kp_implies.proofs.WitnessLaws.{witness_law}

module _ (g : KoreSignature) (used : List Text) (a c : KorePattern) (s : SymbolicState) (k : Consequent) (question : IsQuestion g used a c s k) where
  none_has : IsNever g s → ¬ HasSome g (c ∷ []) a
  none_has never = valid_by_none g a c question.read question.instances (subst (IsNever g) question.is never)

  -- values of the state's variables are values of both sides' free variables
  some_has : IsSometimes g s → HasSome g (c ∷ []) a
  some_has some =
      let i = subst (IsSometimes g) question.is some in
      let v = i.valuation in
      let of_a = subst (GivesSorts g v) question.instances.variables (all_left (λ x. HasSort g x.sort (v x.name)) question.read.variables (free_variables c) i.sorts) in
      let u = term_instance g v question.read.term in
      record {
        valuation = v;
        configuration = u;
        given = (of_a, (all_right (λ x. HasSort g x.sort (v x.name)) question.read.variables (free_variables c) i.sorts, tt));
        met = (question.instances.instances v u of_a).1 (record { term = refl; clauses = i.are_true });
        such = tt;
      }

  no_binder : top_binders c ≡ [] → substitution_of g k s ≡ top s.sort
  no_binder e = ap (λ xs. joined_atoms g s.sort (in_binders_order (tellings_of g k s) xs)) (question.consequent.bound ∙ e)

  shown : (cause : Undecided) → ShowsOpen g s k cause → IsShownOfSides g a c cause
  shown cause h = record { state = question.read; read = question.read_as; consequent = k; is_consequent = question.consequent; shown = subst (λ z. ShowsOpen g z k cause) question.is h }

  limit_shown : (cause : Undecided) → PassesLimit g s k cause → IsShownOfSides g a c cause
  limit_shown _ (in_state x e) = shown _ (in_state x e)
  limit_shown _ (in_goals p goals x meets narrowed asked e) = shown _ (in_goals p goals x meets narrowed asked e)
  limit_shown _ (in_substitution n e) = shown _ (in_substitution n e)

  pub answer_law : (r : Result Implied) → IsAnswer g used s k r → IsRightOfSides g a c r
  answer_law _ (empty never) = (
    λ v u given met. absurd (none_has never (record { valuation = v; configuration = u; given = given; met = met; such = tt })),
    vacuous s.sort question.of_sort (none_has never) refl refl,
  )
  answer_law _ (unmet some h) = unmet_law g used a c s k question some h
  answer_law _ (by_part m q among some) = part_law g used a c s k question m q among some
  answer_law _ (by_goal m goals goal' asked among false') = goal_law g used a c s k question m (told_of g k s) goals goal' asked among false'
  answer_law _ (carried m some apart h injects) =
      let implies = carried_law g used a c s k question m apart h in
      (implies, witnessed s.sort question.of_sort (some_has some) refl (witness_law g used a c s k question m apart some h injects implies) no_binder)
  answer_law _ (by_limit cause h) = limit_shown cause h
  answer_law _ (by_clauses cs q open' is) = shown (unknown_clauses q) (cs, open', is)
  answer_law _ (by_weight cs h q open' is) = shown _ (cs, h, open', refl, refl, is)
  answer_law _ (open_goal m goals d cs q plain some here asked each among shows is) =
      shown (unknown_clauses q) (cs, goal m.met.part goals d cs plain some m.meets m.meeting.here.narrowed asked among (met_law g used a c s k question m (told_of g k s) goals asked here each) shows, is)
