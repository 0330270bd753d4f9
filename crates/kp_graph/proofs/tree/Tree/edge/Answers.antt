use Rattle.std.proofs.Common.{◌≡◌, ◌≤◌, ◌+◌, None, [], ◌∷◌, length, ◌∙◌, ap, subst, arith}
use Rattle.std.proofs.lemmas.List.{length-map}
use Rattle.kp_kore.specs.View.{view}
use Rattle.kp_graph.specs.Tree.{edge, child_node, arc_fault, with_edge}
use Rattle.kp_graph.specs.View.{node_view, nodes_view, arc_view}
use Rattle.kp_graph.specs.Kept.{before_open}
use Rattle.kp_graph.specs.Growth.{IsGrowth}
use Rattle.kp_graph.proofs.CallLemmas.{before_with_children}
use Rattle.kp_graph.proofs.CallKeeps.{Keeps, children_keep, grown_view}
use Rattle.kp_graph.proofs.GrowthLemmas.{edge_growth}
use Rattle.kp_graph.proofs.tree.Tree.edge.Goals as goal

pub next_open-self-requires : goal.next_open-self-requires
next_open-self-requires c =
    let old = c.args.self.now.nodes.items in
    let n = c.args.node.number in
    let free : arc_fault (nodes_view old) n ≡ None = subst (λ l. arc_fault (nodes_view l) n ≡ None) c.deref.ensures.value c.in_ok-place.ensures.opened in
    let s = view c.args.state in
    let long : c.len.result ≡ length (nodes_view old) = omega (arith, c.len.ensures, c.args.self.now.nodes.ok, length-map old node_view) in
    let seen : nodes_view c.add_one.new.nodes.items ≡ with_edge n c.args.depth s c.args.terminal (nodes_view old) =
    grown_view (nodes_view old) (nodes_view c.add_one.new.nodes.items) c.in_ok-place.place n (arc_view c.edge_to.result) (edge c.args.depth (length (nodes_view old) + 1) c.args.terminal) (node_view c.new_node-child.result ∷ []) (child_node n s c.args.terminal ∷ [])
    c.in_ok-place.ensures.place (c.edge_to.ensures ∙ ap (λ k. edge c.args.depth (k + 1) c.args.terminal) long) (ap (λ z. z ∷ []) c.new_node-child.ensures.open) c.in_ok-add_one.ensures.added in
    let growth : IsGrowth (nodes_view old) n (edge c.args.depth (length (nodes_view old) + 1) c.args.terminal) (child_node n s c.args.terminal ∷ []) = edge_growth (nodes_view old) n c.args.depth s c.args.terminal in
    let more : before_open (nodes_view old) ≤ before_open (with_edge n c.args.depth s c.args.terminal (nodes_view old)) = before_with_children (nodes_view old) n (edge c.args.depth (length (nodes_view old) + 1) c.args.terminal) (child_node n s c.args.terminal ∷ []) free in
    let now : nodes_view c.deref-2.result.now ≡ with_edge n c.args.depth s c.args.terminal (nodes_view old) = ap nodes_view c.deref-2.ensures.value ∙ seen in
    rw (c.args.self.now.first_open, now) more

pub invariant_of-self-2 : goal.invariant_of-self-2
invariant_of-self-2 c =
    let old = c.args.self.now.nodes.items in
    let n = c.args.node.number in
    let free : arc_fault (nodes_view old) n ≡ None = subst (λ l. arc_fault (nodes_view l) n ≡ None) c.deref.ensures.value c.in_ok-place.ensures.opened in
    let kept : Keeps (nodes_view old) c.args.self.now.failed c.args.self.now.unsettled = record { shape = c.args.self.now.shape; failed = c.args.self.now.some_failed; counted = c.args.self.now.counted } in
    let s = view c.args.state in
    let long : c.len.result ≡ length (nodes_view old) = omega (arith, c.len.ensures, c.args.self.now.nodes.ok, length-map old node_view) in
    let seen : nodes_view c.add_one.new.nodes.items ≡ with_edge n c.args.depth s c.args.terminal (nodes_view old) =
    grown_view (nodes_view old) (nodes_view c.add_one.new.nodes.items) c.in_ok-place.place n (arc_view c.edge_to.result) (edge c.args.depth (length (nodes_view old) + 1) c.args.terminal) (node_view c.new_node-child.result ∷ []) (child_node n s c.args.terminal ∷ [])
    c.in_ok-place.ensures.place (c.edge_to.ensures ∙ ap (λ k. edge c.args.depth (k + 1) c.args.terminal) long) (ap (λ z. z ∷ []) c.new_node-child.ensures.open) c.in_ok-add_one.ensures.added in
    let growth : IsGrowth (nodes_view old) n (edge c.args.depth (length (nodes_view old) + 1) c.args.terminal) (child_node n s c.args.terminal ∷ []) = edge_growth (nodes_view old) n c.args.depth s c.args.terminal in
    let keeps : Keeps (with_edge n c.args.depth s c.args.terminal (nodes_view old)) c.args.self.now.failed c.args.self.now.unsettled = children_keep (nodes_view old) c.args.self.now.failed c.args.self.now.unsettled c.args.self.now.unsettled n (edge c.args.depth (length (nodes_view old) + 1) c.args.terminal) (child_node n s c.args.terminal ∷ []) kept free growth (λ e. absurd (omega (arith, e))) (λ l. omega arith) in
    let same : Keeps (nodes_view c.add_one.new.nodes.items) c.args.self.now.failed c.args.self.now.unsettled = rw seen keeps in
    let first : c.next_open-self.result ≡ before_open (nodes_view c.add_one.new.nodes.items) = c.next_open-self.ensures ∙ ap (λ l. before_open (nodes_view l)) c.deref-2.ensures.value in
    record { shape = same.shape; first_open = first; pass = c.in_ok-add_one.ensures.pass; some_failed = same.failed; counted = same.counted }
