use Rattle.std.proofs.Common.{sym, ap, ◌∙◌, subst, ◌≤◌, ◌==◌, length, arith}
use Rattle.kp_results.specs.View.{options_view}
use Rattle.kp_step.specs.RightSteps.{AreCasesOf}
use Rattle.kp_execute.proofs.OnwardLemmas.{nexts_len, parts_len, nothing_left, something_left}
use Rattle.kp_execute.proofs.onward.by_cases.Goals as goal

pub returns-then-not-is_empty : goal.returns-then-not-is_empty
returns-then-not-is_empty c t used s runs cases =
    c.with_remainder.ensures t (options_view c.args.options.now) used s cases
    (something_left c.args.remainder.items (sym (c.is_empty.ensures ∙ ap (λ n. n == 0) (parts_len c.args.remainder)) ∙ c.if-not-is_empty.true))

pub returns-then-len-gt1 : goal.returns-then-len-gt1
returns-then-len-gt1 c t used s runs cases =
    c.by_several.ensures t (options_view c.args.options.now) used s cases
    (nothing_left c.args.remainder.items (sym (c.is_empty.ensures ∙ ap (λ n. n == 0) (parts_len c.args.remainder)) ∙ c.if-not-is_empty.false))

pub returns : goal.returns
returns c t used s runs cases =
    let none = nothing_left c.args.remainder.items (sym (c.is_empty.ensures ∙ ap (λ n. n == 0) (parts_len c.args.remainder)) ∙ c.if-not-is_empty.false) in
    let long = nexts_len c.args.nexts in
    let few : length c.args.nexts.items ≤ 1 = omega (arith, c.if-len-gt1.false, c.len.ensures, long) in
    c.by_at_most_one.ensures t used s runs (subst (AreCasesOf t used s c.args.nexts.items) none cases) few
