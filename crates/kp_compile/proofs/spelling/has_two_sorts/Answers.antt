use Rattle.std.proofs.Common.{rules, ◌≡◌, ◌∙◌, sym, ap, length, nat_eq, string_bytes}
use Rattle.kp_kore.specs.Syntax.{application}
use Rattle.kp_kore.specs.View.{view, sorts_view, patterns_view}
use Rattle.kp_kore.specs.declared.pattern.Pattern.{the_lemmas}
use Rattle.kp_compile.specs.Spelled as spec
use Rattle.kp_compile.proofs.SpelledParts.{two_sorts}
use Rattle.kp_compile.proofs.spelling.has_two_sorts.Goals as goal

pub returns-in-Application : goal.returns-in-Application
returns-in-Application c =
    let is : view c.args.pattern.now ≡ application (string_bytes c.in-Application.symbol) (sorts_view c.in-Application.sorts.items) (patterns_view c.in-Application.arguments.items) = search (rules, the_lemmas) in
    let long : c.len.result ≡ length c.in-Application.sorts.items = search rules in
    ap (λ n. nat_eq n 2) long ∙ two_sorts (string_bytes c.in-Application.symbol) c.in-Application.sorts.items (patterns_view c.in-Application.arguments.items) ∙ sym (ap spec.has_two_sorts is)
