use Rattle.std.proofs.Common.{rules, ◌≡◌, subst, false, map, IfOk}
use Rattle.std.specs.Option.{option_map}
use Rattle.kp_kore.specs.View.{view, sorts_view}
use Rattle.kp_kore.specs.declared.pattern.Pattern.{the_lemmas}
use Rattle.kp_signature.specs.View.{signature_view}
use Rattle.kp_formulas.specs.LeafView.{bound_view, question_view}
use Rattle.kp_formulas.proofs.QuestionLemmas.{is_application, no_application}
use Rattle.kp_formulas.proofs.question.ask_argument.Goals as goal

pub returns-in_default : goal.returns-in_default
returns-in_default c =
    let no : is_application (view c.args.argument.now) ≡ false = search (rules, the_lemmas) in
    subst (λ x. IfOk c.ask_sort.result (λ q. option_map question_view q ≡ x))
    (no_application (signature_view c.args.signature.now) (map bound_view c.args.bound.now) (view c.args.subject.now) (sorts_view c.args.sorts.now) (view c.args.argument.now) no)
    c.ask_sort.ensures
