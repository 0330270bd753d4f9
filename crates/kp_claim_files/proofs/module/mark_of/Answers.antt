use Rattle.std.proofs.Common.{rules, ◌≡◌, ap, ◌∙◌, [], string_bytes}
use Rattle.kp_kore.specs.Syntax.{application, no_sorts}
use Rattle.kp_kore.specs.View.{sorts_view, patterns_view}
use Rattle.kp_claim_files.proofs.module.mark_of.Goals as goal

pub returns : goal.returns
returns c =
    let named : string_bytes c.in_ok-symbol.symbol ≡ c.args.name.now = search rules in
    let none : c.new.result.items ≡ [] = search rules in
    let arguments = patterns_view c.in_ok-arguments.arguments.items in
    c.applied.ensures ∙ ap (λ n. application n (sorts_view c.new.result.items) arguments) named
    ∙ ap (λ ss. application c.args.name.now (sorts_view ss) arguments) none
    ∙ ap (application c.args.name.now no_sorts) c.in_ok-arguments.ensures
