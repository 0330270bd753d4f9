use Rattle.std.proofs.Common.{rules, ◌≡◌, sym, subst, string_bytes}
use Rattle.kp_kore.specs.Syntax.{application}
use Rattle.kp_kore.specs.View.{view, sorts_view, patterns_view}
use Rattle.kp_kore.specs.declared.pattern.Pattern.{the_lemmas}
use Rattle.kp_signature.specs.View.{signature_view}
use Rattle.kp_execute.specs.Checks.{IsSettled}
use Rattle.kp_execute.proofs.part_tests.is_settled.Goals as goal

pub returns-in-Application : goal.returns-in-Application
returns-in-Application c told =
    let g = signature_view c.args.signature.now in
    let ss = sorts_view c.in-Application.sorts.items in
    let is : view c.args.pattern.now ≡ application (string_bytes c.in-Application.symbol) ss (patterns_view c.in-Application.arguments.items) = search (rules, the_lemmas) in
    subst (IsSettled g) (sym is)
    (subst (λ ps. IsSettled g (application (string_bytes c.in-Application.symbol) ss (patterns_view ps))) c.deref-in-Application.ensures.value
    (subst (λ f. IsSettled g (application f ss (patterns_view c.deref-in-Application.result.now))) c.deref.ensures (c.is_settled_call.ensures ss told)))
