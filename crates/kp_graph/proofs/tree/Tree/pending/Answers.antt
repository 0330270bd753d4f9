use Rattle.std.proofs.Common.{rules, [], ◌≡◌, ◌<◌, ◌+◌, refl, sym, ◌∙◌, ap, drop, length, arith}
use Rattle.kp_graph.specs.Tree.{open_from, open_nodes}
use Rattle.kp_graph.specs.View.{nodes_view}
use Rattle.kp_graph.proofs.PendingLemmas.{pending_then, pending_else, open_from_first}
use Rattle.kp_graph.proofs.tree.Tree.pending.Goals.{then-is_open+in_ok-push, else-is_open}
use Rattle.kp_graph.proofs.tree.Tree.pending.Goals as goal

pub loop-place-init : goal.loop-place-init
loop-place-init c =
    let none : c.new-pending.result.items ≡ [] = search rules in
    rw none (ap (λ k. open_from (k + 1) (drop k (nodes_view c.args.self.now.nodes.items))) c.args.self.now.first_open ∙ open_from_first 1 (nodes_view c.args.self.now.nodes.items))

pub loop-place-preserved : goal.loop-place-preserved
loop-place-preserved c =
    let items = c.args.self.now.nodes.items in
    let within : c.loop-place.place < length items = omega (arith, c.loop-place-test.true, c.len.ensures, c.args.self.now.nodes.ok) in
    let passed = ap (λ l. open_from (c.row_end-place.result + 1 + 1) (drop (c.row_end-place.result + 1) (nodes_view l))) (sym c.deref.ensures.value) ∙ c.row_end-place.ensures.passed ∙ ap (λ l. open_from (c.loop-place.place + 1 + 1) (drop (c.loop-place.place + 1) (nodes_view l))) c.deref.ensures.value in
    elim c.if-is_open.branch [
      | then-is_open+in_ok-push w ↦
          rw passed (pending_then items items c.loop-place.place c.index.result.now c.loop-place.pending.items c.if-is_open.pending.items (open_nodes (nodes_view items)) refl within c.index.ensures (sym c.is_open.ensures ∙ w.if-is_open.true) (ap (λ v. v.items) w.pending-is ∙ w.in_ok-push.ensures.items) c.loop-place.invariant)
      | else-is_open w ↦
          rw passed (pending_else items items c.loop-place.place c.index.result.now c.loop-place.pending.items c.if-is_open.pending.items (open_nodes (nodes_view items)) refl within c.index.ensures (sym c.is_open.ensures ∙ w.if-is_open.false) (ap (λ v. v.items) w.pending-is) c.loop-place.invariant)
    ]
