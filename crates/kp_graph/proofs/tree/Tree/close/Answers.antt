use Rattle.std.proofs.Common.{◌≡◌, ◌≤◌, ◌+◌, ◌-◌, ◌||◌, None, length, ◌∙◌, ap, subst, arith}
use Rattle.kp_graph.specs.Tree.{arc_fault, with_arc}
use Rattle.kp_graph.specs.View.{nodes_view, arc_view}
use Rattle.kp_graph.specs.Kept.{before_open}
use Rattle.kp_graph.proofs.CallLemmas.{before_with_arc}
use Rattle.kp_graph.proofs.CallKeeps.{written, Keeps, one_counted, leaf_keeps}
use Rattle.kp_graph.proofs.tree.Tree.close.Goals as goal

pub overflow_sub-self : goal.overflow_sub-self
overflow_sub-self c =
    let old = c.args.self.now.nodes.items in
    let n = c.args.node.number in
    let free : arc_fault (nodes_view old) n ≡ None = subst (λ l. arc_fault (nodes_view l) n ≡ None) c.deref.ensures.value c.in_ok-place.ensures.opened in
    let kept : Keeps (nodes_view old) c.args.self.now.failed c.args.self.now.unsettled = record { shape = c.args.self.now.shape; failed = c.args.self.now.some_failed; counted = c.args.self.now.counted } in
    one_counted (nodes_view old) c.args.self.now.failed c.args.self.now.unsettled n kept free

pub next_open-self-requires : goal.next_open-self-requires
next_open-self-requires c =
    let old = c.args.self.now.nodes.items in
    let n = c.args.node.number in
    let free : arc_fault (nodes_view old) n ≡ None = subst (λ l. arc_fault (nodes_view l) n ≡ None) c.deref.ensures.value c.in_ok-place.ensures.opened in
    let seen : nodes_view c.give_arc.new.nodes ≡ with_arc n (arc_view c.args.arc) (nodes_view old) = c.give_arc.ensures.arc ∙ ap (λ l. with_arc (c.in_ok-place.place + 1) (arc_view c.args.arc) (nodes_view l)) c.deref_mut.ensures.value ∙ ap (λ k. with_arc k (arc_view c.args.arc) (nodes_view old)) c.in_ok-place.ensures.place in
    let length_is : c.args.self.now.nodes.len ≡ length old = omega (arith, c.args.self.now.nodes.ok) in
    let same_length : length c.give_arc.new.nodes ≡ length old = omega (arith, c.give_arc.auto.nodes, ap length c.deref_mut.ensures.value) in
    let wrote = written c.args.self.now.nodes.len c.give_arc.new.nodes old length_is same_length in
    let more : before_open (nodes_view old) ≤ before_open (with_arc n (arc_view c.args.arc) (nodes_view old)) = before_with_arc (nodes_view old) n (arc_view c.args.arc) free in
    let now : nodes_view c.deref-2.result.now ≡ with_arc n (arc_view c.args.arc) (nodes_view old) = ap nodes_view (c.deref-2.ensures.value ∙ wrote) ∙ seen in
    rw (c.args.self.now.first_open, now) more

pub invariant_of-self : goal.invariant_of-self
invariant_of-self c =
    let old = c.args.self.now.nodes.items in
    let n = c.args.node.number in
    let free : arc_fault (nodes_view old) n ≡ None = subst (λ l. arc_fault (nodes_view l) n ≡ None) c.deref.ensures.value c.in_ok-place.ensures.opened in
    let kept : Keeps (nodes_view old) c.args.self.now.failed c.args.self.now.unsettled = record { shape = c.args.self.now.shape; failed = c.args.self.now.some_failed; counted = c.args.self.now.counted } in
    let seen : nodes_view c.give_arc.new.nodes ≡ with_arc n (arc_view c.args.arc) (nodes_view old) = c.give_arc.ensures.arc ∙ ap (λ l. with_arc (c.in_ok-place.place + 1) (arc_view c.args.arc) (nodes_view l)) c.deref_mut.ensures.value ∙ ap (λ k. with_arc k (arc_view c.args.arc) (nodes_view old)) c.in_ok-place.ensures.place in
    let length_is : c.args.self.now.nodes.len ≡ length old = omega (arith, c.args.self.now.nodes.ok) in
    let same_length : length c.give_arc.new.nodes ≡ length old = omega (arith, c.give_arc.auto.nodes, ap length c.deref_mut.ensures.value) in
    let wrote = written c.args.self.now.nodes.len c.give_arc.new.nodes old length_is same_length in
    let keeps : Keeps (with_arc n (arc_view c.args.arc) (nodes_view old)) (c.args.self.now.failed || c.args.fails) (c.args.self.now.unsettled - 1) = leaf_keeps (nodes_view old) c.args.self.now.failed c.args.self.now.unsettled n (arc_view c.args.arc) c.args.fails kept free c.requires.leaf c.requires.still c.requires.settles c.requires.fails in
    let same : Keeps (nodes_view c.give_arc.new.nodes) (c.args.self.now.failed || c.args.fails) (c.args.self.now.unsettled - 1) = rw seen keeps in
    let first : c.next_open-self.result ≡ before_open (nodes_view c.give_arc.new.nodes) = c.next_open-self.ensures ∙ ap (λ l. before_open (nodes_view l)) (c.deref-2.ensures.value ∙ wrote) in
    rw wrote (record { shape = same.shape; first_open = first; pass = c.give_arc.ensures.pass; some_failed = c.either_failed-self.ensures ∙ same.failed; counted = same.counted })
