use Rattle.std.proofs.Common.{sym, ap, ◌∙◌, map, string_bytes}
use Rattle.kp_kore.specs.Executions.{is_among}
use Rattle.kp_results.specs.View.{options_view}
use Rattle.kp_execute.proofs.OnwardLemmas.{goes_on, stops_behind}
use Rattle.kp_execute.proofs.onward.by_one.Goals as goal

pub returns-then-is_listed-2 : goal.returns-then-is_listed-2
returns-then-is_listed-2 c t used s runs cases =
    stops_behind t (options_view c.args.options.now) used s c.args.next cases
    (λ r at. sym c.if-is_listed.false ∙ c.is_listed.ensures t r runs at ∙ ap (λ ids. is_among (map string_bytes ids) r.id) c.deref.ensures.value)
    (λ r at. sym c.if-is_listed-2.true ∙ c.is_listed-2.ensures t r runs at ∙ ap (λ ids. is_among (map string_bytes ids) r.id) c.deref-2.ensures.value)

pub returns : goal.returns
returns c t used s runs cases =
    goes_on t (options_view c.args.options.now) used s c.args.next cases
    (λ r at. sym c.if-is_listed.false ∙ c.is_listed.ensures t r runs at ∙ ap (λ ids. is_among (map string_bytes ids) r.id) c.deref.ensures.value)
    (λ r at. sym c.if-is_listed-2.false ∙ c.is_listed-2.ensures t r runs at ∙ ap (λ ids. is_among (map string_bytes ids) r.id) c.deref-2.ensures.value)
