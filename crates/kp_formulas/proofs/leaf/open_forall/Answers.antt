use Rattle.std.proofs.Common.{rules, ◌≡◌, sym, subst, []}
use Rattle.std.specs.Option.{option_map}
use Rattle.kp_kore.specs.View.{view}
use Rattle.kp_symbolic.specs.Opening.{denied_question}
use Rattle.kp_symbolic.specs.Languages.{language_view}
use Rattle.kp_formulas.specs.Leaves.{IsFaultlessQuestion}
use Rattle.kp_formulas.specs.LeafView.{question_view}
use Rattle.kp_formulas.proofs.FaultlessLemmas.{handed, of_denied}
use Rattle.kp_formulas.proofs.leaf.open_forall.Goals as goal

pub returns-clause-refused : goal.returns-clause-refused
returns-clause-refused c =
    let g = language_view c.args.language.now in
    let is : option_map question_view c.in_ok-question.question ≡ denied_question g [] (view c.args.pattern.now) = search rules in
    handed c.open_question.result (λ faultless. subst (IsFaultlessQuestion g) (sym is) (of_denied g [] (view c.args.pattern.now) faultless)) c.open_question.ensures.refused
