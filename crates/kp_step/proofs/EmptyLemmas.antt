-- Where a new variable of a rule has no value, the state behind it has no instance.
use Rattle.std.proofs.Common.{List, [], ◌∷◌, ◌++◌}
use Rattle.std.specs.List.{AllByRecursion, Contains}
use Rattle.kp_kore.specs.Syntax.{Text}
use Rattle.kp_kore.specs.Signature.{KoreSignature}
use Rattle.kp_kore.specs.Value.{Value, HasSort}
use Rattle.kp_kore.specs.Rules.{Rewrite, rewrite}
use Rattle.kp_kore.proofs.TurnLemmas.{each_member}
use Rattle.kp_symbolic.specs.States.{IsClauseTrue, SymbolicState}
use Rattle.kp_symbolic.proofs.Distribution.{all_second}
use Rattle.kp_symbolic.proofs.Leaf.{once_says}
use Rattle.kp_case_laws.specs.Parts.{StatePart, whole}
use Rattle.kp_case_laws.specs.Firing.{HasNoInstance}
use Rattle.kp_unify.specs.Narrowed.{NumberedPart}
use Rattle.kp_step.specs.ReadyParts.{IsReadyPart, narrowed_by}
use Rattle.kp_step.proofs.SilentLemmas.{right_ready}
use Rattle.kp_step.specs.Ready.{IsReadyState}
use Rattle.kp_step.specs.Remainders.{IsPartIn}
use Rattle.kp_step.specs.Follows.{never as moves_nowhere, IsNextOf}
use Rattle.kp_step.proofs.FollowLemmas.{nothing_follows}
use Rattle.kp_step.proofs.NextStateLemmas.{with_these}

never : (g : KoreSignature) (s : SymbolicState) → HasNoInstance g (whole (with_these s ([] ∷ [])))
never g s w c h i = (all_second (IsClauseTrue g w) s.clauses ([] ∷ []) ((once_says g w (s.clauses ++ [] ∷ [])).0 i.clauses)).0 tt

-- a step may go on from it
never_ready : (g : KoreSignature) (used : List Text) (q : NumberedPart) → IsReadyPart g used q → IsReadyState g used (with_these q.part.state ([] ∷ [])) q.next
never_ready g used q r =
    let k : IsReadyPart g used (narrowed_by q ([] ∷ [])) = right_ready g used q ([] ∷ []) r (tt, tt) in
    record { told = λ w c h i. tt; sorted = record { state = k.sorted.state; added = tt }; safe = k.safe; begun = k.begun; names = k.names }

pub nothing_next : (g : KoreSignature) (used : List Text) (s m : StatePart) (q : NumberedPart) (rule : Rewrite) → IsPartIn g used s m q → ¬ AllByRecursion (λ y. (u : Value) × HasSort g y.sort u) rule.new_variables →
    IsNextOf g used s (rewrite rule) q.part (with_these q.part.state ([] ∷ [])) q.next
nothing_next g used s m q rule i none = record {
  follows = nothing_follows g rule q.part (with_these q.part.state ([] ∷ [])) none (never g q.part.state);
  moved = λ n e. moves_nowhere;
  at_hand = each_member (λ x. Contains q.part.state.variables x) q.part.state.variables (λ x c. c);
  grown = record { new = i.grown.new; variables = i.grown.variables; are_new = i.grown.are_new; each = i.grown.each };
  ready = never_ready g used q i.ready;
}
