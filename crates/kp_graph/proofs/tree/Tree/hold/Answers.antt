use Rattle.std.proofs.Common.{◌≡◌, ◌≤◌, ◌+◌, None, length, ◌∙◌, ap, subst, arith}
use Rattle.kp_graph.specs.Tree.{arc_fault, with_hold}
use Rattle.kp_graph.specs.View.{nodes_view, why_view}
use Rattle.kp_graph.specs.Kept.{before_open}
use Rattle.kp_graph.proofs.CallLemmas.{before_with_hold}
use Rattle.kp_graph.proofs.CallKeeps.{written, Keeps, hold_keeps}
use Rattle.kp_graph.proofs.tree.Tree.hold.Goals as goal

pub next_open-self-requires : goal.next_open-self-requires
next_open-self-requires c =
    let old = c.args.self.now.nodes.items in
    let free : arc_fault (nodes_view old) c.args.node.number ≡ None = subst (λ l. arc_fault (nodes_view l) c.args.node.number ≡ None) c.deref.ensures.value c.in_ok-place.ensures.opened in
    let view : nodes_view c.hold_node.new.nodes ≡ with_hold c.args.node.number (why_view c.args.why) (nodes_view old) = c.hold_node.ensures.held ∙ ap (λ l. with_hold (c.in_ok-place.place + 1) (why_view c.args.why) (nodes_view l)) c.deref_mut.ensures.value ∙ ap (λ k. with_hold k (why_view c.args.why) (nodes_view old)) c.in_ok-place.ensures.place in
    let length_is : c.args.self.now.nodes.len ≡ length old = omega (arith, c.args.self.now.nodes.ok) in
    let same_length : length c.hold_node.new.nodes ≡ length old = omega (arith, c.hold_node.auto.nodes, ap length c.deref_mut.ensures.value) in
    let wrote = written c.args.self.now.nodes.len c.hold_node.new.nodes old length_is same_length in
    let more : before_open (nodes_view old) ≤ before_open (with_hold c.args.node.number (why_view c.args.why) (nodes_view old)) = before_with_hold (nodes_view old) c.args.node.number (why_view c.args.why) free in
    let now : nodes_view c.deref-2.result.now ≡ with_hold c.args.node.number (why_view c.args.why) (nodes_view old) = ap nodes_view (c.deref-2.ensures.value ∙ wrote) ∙ view in
    rw (c.args.self.now.first_open, now) more

pub invariant_of-self : goal.invariant_of-self
invariant_of-self c =
    let old = c.args.self.now.nodes.items in
    let free : arc_fault (nodes_view old) c.args.node.number ≡ None = subst (λ l. arc_fault (nodes_view l) c.args.node.number ≡ None) c.deref.ensures.value c.in_ok-place.ensures.opened in
    let kept : Keeps (nodes_view old) c.args.self.now.failed c.args.self.now.unsettled = record { shape = c.args.self.now.shape; failed = c.args.self.now.some_failed; counted = c.args.self.now.counted } in
    let view : nodes_view c.hold_node.new.nodes ≡ with_hold c.args.node.number (why_view c.args.why) (nodes_view old) = c.hold_node.ensures.held ∙ ap (λ l. with_hold (c.in_ok-place.place + 1) (why_view c.args.why) (nodes_view l)) c.deref_mut.ensures.value ∙ ap (λ k. with_hold k (why_view c.args.why) (nodes_view old)) c.in_ok-place.ensures.place in
    let length_is : c.args.self.now.nodes.len ≡ length old = omega (arith, c.args.self.now.nodes.ok) in
    let same_length : length c.hold_node.new.nodes ≡ length old = omega (arith, c.hold_node.auto.nodes, ap length c.deref_mut.ensures.value) in
    let wrote = written c.args.self.now.nodes.len c.hold_node.new.nodes old length_is same_length in
    let keeps : Keeps (with_hold c.args.node.number (why_view c.args.why) (nodes_view old)) c.args.self.now.failed c.args.self.now.unsettled = hold_keeps (nodes_view old) c.args.self.now.failed c.args.self.now.unsettled c.args.node.number (why_view c.args.why) kept free in
    let now : nodes_view c.hold_node.new.nodes ≡ with_hold c.args.node.number (why_view c.args.why) (nodes_view old) = view in
    let same : Keeps (nodes_view c.hold_node.new.nodes) c.args.self.now.failed c.args.self.now.unsettled = rw now keeps in
    let first : c.next_open-self.result ≡ before_open (nodes_view c.hold_node.new.nodes) = c.next_open-self.ensures ∙ ap (λ l. before_open (nodes_view l)) (c.deref-2.ensures.value ∙ wrote) in
    rw wrote (record { shape = same.shape; first_open = first; pass = c.hold_node.ensures.pass; some_failed = same.failed; counted = same.counted })
