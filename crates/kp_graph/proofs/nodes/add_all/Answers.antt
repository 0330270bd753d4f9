use Rattle.std.proofs.Common.{◌≡◌, ◌∙◌, ap, ◌+◌, length, arith}
use Rattle.kp_graph.specs.Tree.{with_arc}
use Rattle.kp_graph.specs.View.{nodes_view, arc_view}
use Rattle.kp_graph.proofs.RowLemmas.{pass_append}
use Rattle.kp_graph.proofs.CallKeeps.{written, added_front}
use Rattle.kp_graph.proofs.nodes.add_all.Goals as goal

pub returns-clause-added : goal.returns-clause-added
returns-clause-added c =
    let all = c.append.new.self.items in
    let length_is : c.append.new.self.len ≡ length all = omega (arith, c.append.new.self.ok) in
    let same_length : length c.give_arc.new.nodes ≡ length all = omega (arith, c.give_arc.auto.nodes, ap length c.deref_mut.ensures.value) in
    let wrote = written c.append.new.self.len c.give_arc.new.nodes all length_is same_length in
    ap nodes_view wrote ∙ c.give_arc.ensures.arc
    ∙ ap (λ l. with_arc (c.args.place + 1) (arc_view c.args.arc) (nodes_view l)) (c.deref_mut.ensures.value ∙ c.in_ok-append.ensures.items)
    ∙ added_front c.args.nodes.now.items c.args.children.items c.args.place (arc_view c.args.arc) c.requires.within

pub give_arc-requires-clause-pass : goal.give_arc-requires-clause-pass
give_arc-requires-clause-pass c = rw (c.deref_mut.ensures.value, c.in_ok-append.ensures.items) (pass_append c.args.nodes.now.items c.args.children.items c.requires.pass c.requires.passing)

pub returns-clause-pass : goal.returns-clause-pass
returns-clause-pass c =
    let all = c.append.new.self.items in
    let length_is : c.append.new.self.len ≡ length all = omega (arith, c.append.new.self.ok) in
    let same_length : length c.give_arc.new.nodes ≡ length all = omega (arith, c.give_arc.auto.nodes, ap length c.deref_mut.ensures.value) in
    rw (written c.append.new.self.len c.give_arc.new.nodes all length_is same_length) c.give_arc.ensures.pass
