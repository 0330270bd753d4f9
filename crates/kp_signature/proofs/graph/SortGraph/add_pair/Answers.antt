use Rattle.std.proofs.Common.{refl, ◌<◌, sym, subst}
use Rattle.kp_kore.specs.View.{sort_view}
use Rattle.kp_signature.specs.Edges.{IsNumber}
use Rattle.kp_signature.specs.Order.{sorts_of}
use Rattle.kp_signature.proofs.NewOrder.{pair_added, number_on}
use Rattle.kp_signature.proofs.graph.SortGraph.add_pair.Goals as goal

pub returns : goal.returns
returns c pairs ix =
    let lower = sort_view c.args.pair.now.lower in
    let upper = sort_view c.args.pair.now.upper in
    let l = c.in_ok-lower.lower in
    let u = c.in_ok-upper.upper in
    let first = c.in_ok-lower.ensures pairs ix in
    let second = c.in_ok-upper.ensures pairs first.kept in
    let x = c.number_for-2.new.self in
    let nl = subst (λ s. IsNumber s l lower) (sym second.is) (number_on (sorts_of c.number_for.new.self) second.more l lower first.number) in
    let below = c.in_ok-add_edge.ensures (subst (λ m. u < m) (sym second.kept.below_length) second.number.0) in
    let above = c.in_ok-add_edge-2.ensures (subst (λ m. l < m) (sym second.kept.above_length) nl.0) in
    pair_added pairs lower upper l u x (record { numbering = x.numbering; above = c.add_edge-2.new.edges; below = c.add_edge.new.edges }) second.kept nl second.number refl above below
