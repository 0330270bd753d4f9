use Rattle.std.proofs.Common.{refl, sym, ◌∙◌, ◌+◌, ◌-◌, ◌≡◌, Some, None, length, arith}
use Rattle.std.proofs.lemmas.Option.{slice_get_read, slice_get_past}
use Rattle.kp_graph.specs.View.{node_view}
use Rattle.kp_graph.proofs.Places.{fault_at, none_open, not_open}
use Rattle.kp_graph.proofs.nodes.open_place.Goals as goal

pub returns-then-is_open-clause-opened : goal.returns-then-is_open-clause-opened
returns-then-is_open-clause-opened c =
    let number : c.args.node.number - 1 + 1 ≡ c.args.node.number = omega arith in
    let lookup = c.in-Some.ensures.lookup in
    fault_at c.args.nodes.now c.args.node.number (c.args.node.number - 1) (Some c.in-Some.found.now) number (slice_get_read c.args.nodes.now (length c.args.nodes.now) (c.args.node.number - 1) c.in-Some.found.now refl lookup.3.0 lookup.1)
    ∙ none_open (node_view c.in-Some.found.now) (sym c.is_open.ensures ∙ c.if-is_open.true)

pub returns-else-is_open-clause-fault : goal.returns-else-is_open-clause-fault
returns-else-is_open-clause-fault c =
    let number : c.args.node.number - 1 + 1 ≡ c.args.node.number = omega arith in
    let lookup = c.in-Some.ensures.lookup in
    fault_at c.args.nodes.now c.args.node.number (c.args.node.number - 1) (Some c.in-Some.found.now) number (slice_get_read c.args.nodes.now (length c.args.nodes.now) (c.args.node.number - 1) c.in-Some.found.now refl lookup.3.0 lookup.1)
    ∙ not_open (node_view c.in-Some.found.now) (sym c.is_open.ensures ∙ c.if-is_open.false)

pub returns-in-None-clause-fault : goal.returns-in-None-clause-fault
returns-in-None-clause-fault c =
    let number : c.args.node.number - 1 + 1 ≡ c.args.node.number = omega arith in
    fault_at c.args.nodes.now c.args.node.number (c.args.node.number - 1) None number (slice_get_past c.args.nodes.now (c.args.node.number - 1) c.in-None.ensures.lookup.3)
