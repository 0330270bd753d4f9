use Rattle.std.proofs.Common.{rules, ◌≡◌, subst, sym, ◌∙◌, map, string_bytes, IfOk}
use Rattle.std.specs.Option.{option_map}
use Rattle.kp_kore.specs.Syntax.{no_sorts, next_sort, variable}
use Rattle.kp_kore.specs.View.{view, sort_view}
use Rattle.kp_kore.specs.declared.pattern.Pattern.{the_lemmas}
use Rattle.kp_signature.specs.View.{signature_view}
use Rattle.kp_symbolic.specs.Opening.{asked_side}
use Rattle.kp_formulas.specs.Answers.{asked_sort}
use Rattle.kp_formulas.specs.LeafView.{bound_view, question_view}
use Rattle.kp_formulas.proofs.QuestionLemmas.{same_variable}
use Rattle.kp_formulas.proofs.question.ask_side.Goals as goal

pub returns-in-Variable : goal.returns-in-Variable
returns-in-Variable c =
    let g = signature_view c.args.signature.now in
    let xs = map bound_view c.args.bound.now in
    let p = view c.args.subject.now in
    let z = string_bytes c.in-Variable.name in
    let t = sort_view c.in-Variable.sort in
    let is : view c.args.side.now ≡ variable z t = search (rules, the_lemmas) in
    subst (λ r. IfOk c.ask_variable.result (λ q. option_map question_view q ≡ asked_side g xs p r)) (sym is)
    (subst (λ o. IfOk c.ask_variable.result (λ q. option_map question_view q ≡ o)) (same_variable xs p z t)
    (subst (λ r. IfOk c.ask_variable.result (λ q. option_map question_view q ≡ asked_sort xs p (next_sort t no_sorts) r)) is c.ask_variable.ensures))
