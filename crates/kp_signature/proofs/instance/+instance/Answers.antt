use Rattle.std.proofs.Common.{ap, ◌∙◌, map, arith}
use Rattle.std.proofs.lemmas.List.{take_all}
use Rattle.kp_kore.specs.Sorting.{at_arguments}
use Rattle.kp_kore.specs.View.{sort_view, sorts_of, sorts_view, names_view}
use Rattle.kp_signature.proofs.InstanceLemmas.{instances_all}
use Rattle.kp_signature.proofs.instance.+instance.Goals as goal

pub sorts_at-returns : goal.sorts_at-returns
sorts_at-returns t c =
    ap sorts_of (c.loop-sort.invariant ∙ ap (map (λ s. at_arguments (names_view c.args.parameters.now) (sorts_view c.args.arguments.now) (sort_view s))) (take_all c.loop-sort.sort-index c.args.sorts.now (omega arith)))
    ∙ instances_all (names_view c.args.parameters.now) (sorts_view c.args.arguments.now) c.args.sorts.now
