-- Where one rule alone has its turn and nothing remains, the state leads to what it rewrites to.
use Rattle.std.proofs.Common.{◌≡◌, refl, sym, ◌∙◌, subst, ap, zero, arith, [], ◌∷◌, Some, inl, inr}
use Rattle.std.specs.List.{Contains}
use Rattle.kp_kore.specs.Value.{Value}
use Rattle.kp_kore.specs.Instance.{Valuation, GivesSorts}
use Rattle.kp_kore.specs.Rules.{RewriteRule}
use Rattle.kp_kore.specs.Theory.{Theory}
use Rattle.kp_kore.specs.Steps.{AnyByRecursion, Fires, HasTurn}
use Rattle.kp_kore.specs.Cases.{HasTurnAlone}
use Rattle.kp_kore.proofs.TurnLemmas.{has_turn, each_member}
use Rattle.kp_symbolic.specs.States.{SymbolicState, IsStateInstance}
use Rattle.kp_case_laws.specs.Parts.{whole, OfEachInstance}
use Rattle.kp_case_laws.specs.NextStates.{StepCase, placed, AreStepCases}
use Rattle.kp_case_laws.proofs.StepCases.{HoldsIn, any_unmade, any_member, some_turn_case}

-- a case of one is the one
pub only_case : (P : StepCase → Type 0) (k : StepCase) → AnyByRecursion P (k ∷ []) → P k
only_case P k a = elim a [ inl h ↦ h | inr b ↦ absurd b ]

inside : {X : Type 0} {x y : X} → Some x ≡ Some y → x ≡ y
inside e = cc

-- whichever rule has its turn is this one
pub alone : (t : Theory) (s : SymbolicState) (k : StepCase) (r q : RewriteRule) (v : Valuation) (c : Value) → AreStepCases t s (k ∷ []) → k.rule ≡ Some r → GivesSorts t.signature v s.variables → IsStateInstance t.signature v s c → Contains t.rules q → HasTurn t q c → q ≡ r
alone t s k r q v c step e sorts met member turn =
    let held : (k.rule ≡ Some q) × HoldsIn t.signature s v c k.part =
    only_case (λ j. (j.rule ≡ Some q) × HoldsIn t.signature s v c j.part) k (any_unmade placed (λ j. (j.0 ≡ Some q) × HoldsIn t.signature s v c j.1) (k ∷ [])
    (subst (AnyByRecursion (λ j. (j.0 ≡ Some q) × HoldsIn t.signature s v c j.1)) (sym step.of_turns) (some_turn_case t s step.turns step.remainder v c q sorts met step.are_turns member turn))) in
    inside (sym held.0 ∙ e)

pub has_turn_alone : (t : Theory) (s : SymbolicState) (k : StepCase) (r : RewriteRule) → AreStepCases t s (k ∷ []) → k.rule ≡ Some r → Contains t.rules r → OfEachInstance t.signature (whole s) (λ v c. Fires t.signature r.body c) → OfEachInstance t.signature (whole s) (λ v c. HasTurnAlone t r.id c)
has_turn_alone t s k r step e member fires v c sorts met = record {
  known = step.known v c sorts met;
  turn = any_member (λ q. (q.id ≡ r.id) × HasTurn t q c) t.rules r member (refl, turn);
  alone = each_member (λ q. HasTurn t q c → q.id ≡ r.id) t.rules (λ q m own. ap (λ x. x.id) (alone t s k r q v c step e sorts met m own));
}
  where
    itself : (q : RewriteRule) → q ≡ r → Contains (r ∷ []) q
    itself q same = (zero, omega arith, sym same)

    turn : HasTurn t r c
    turn = has_turn t (r ∷ []) r c (λ q m own. itself q (alone t s k r q v c step e sorts met m own)) ((λ less f. absurd (omega arith)), tt) (fires v c sorts met)
