use Rattle.std.proofs.Common.{◌≡◌, ◌≤◌, ◌<◌, ◌+◌, None, map, false, length, sym, ◌∙◌, ap, subst, arith}
use Rattle.std.proofs.lemmas.List.{length-map}
use Rattle.kp_kore.specs.View.{view}
use Rattle.kp_graph.specs.Tree.{NodeArc, split, numbers_from, open_node, progress_at, arc_fault, with_split}
use Rattle.kp_graph.specs.View.{node_view, nodes_view, arc_view}
use Rattle.kp_graph.specs.Kept.{before_open}
use Rattle.kp_graph.specs.Growth.{IsGrowth}
use Rattle.kp_graph.proofs.Places.{kept_flag_at}
use Rattle.kp_graph.proofs.CallLemmas.{before_with_children}
use Rattle.kp_graph.proofs.CallKeeps.{Keeps, one_counted, children_keep, grown_view}
use Rattle.kp_graph.proofs.RowLemmas.{pass_alone}
use Rattle.kp_graph.proofs.GrowthLemmas.{split_growth}
use Rattle.kp_graph.proofs.tree.Tree.split.Goals as goal

pub add_all-requires-clause-passing : goal.add_all-requires-clause-passing
add_all-requires-clause-passing c = pass_alone _ c.in_ok-children.children.items c.args.states.items c.in_ok-children.ensures.alone

pub unsettled_after-self-requires-clause-some : goal.unsettled_after-self-requires-clause-some
unsettled_after-self-requires-clause-some c =
    let old = c.args.self.now.nodes.items in
    let n = c.args.node.number in
    let free : arc_fault (nodes_view old) n ≡ None = subst (λ l. arc_fault (nodes_view l) n ≡ None) c.deref.ensures.value c.in_ok-place.ensures.opened in
    let kept : Keeps (nodes_view old) c.args.self.now.failed c.args.self.now.unsettled = record { shape = c.args.self.now.shape; failed = c.args.self.now.some_failed; counted = c.args.self.now.counted } in
    one_counted (nodes_view old) c.args.self.now.failed c.args.self.now.unsettled n kept free

pub next_open-self-requires : goal.next_open-self-requires
next_open-self-requires c =
    let old = c.args.self.now.nodes.items in
    let n = c.args.node.number in
    let free : arc_fault (nodes_view old) n ≡ None = subst (λ l. arc_fault (nodes_view l) n ≡ None) c.deref.ensures.value c.in_ok-place.ensures.opened in
    let within : c.in_ok-place.place < length old = subst (λ l. c.in_ok-place.place < length l) c.deref.ensures.value c.in_ok-place.ensures.within in
    let flag : progress_at (nodes_view old) n ≡ c.index.result.now.progress = kept_flag_at old n c.in_ok-place.place c.index.result.now c.in_ok-place.ensures.place within c.index.ensures in
    let long : c.len.result ≡ length (nodes_view old) = omega (arith, c.len.ensures, c.args.self.now.nodes.ok, length-map old node_view) in
    let states = map view c.args.states.items in
    let zs = map (λ s. open_node n s false (progress_at (nodes_view old) n)) states in
    let arc : NodeArc = split (numbers_from (length (nodes_view old) + 1) (length states)) in
    let count_is : c.len-count.result ≡ length states = omega (arith, c.len-count.ensures, c.args.states.ok, length-map c.args.states.items view) in
    let many : length zs ≡ length states = length-map states (λ s. open_node n s false (progress_at (nodes_view old) n)) in
    let seen : nodes_view c.add_all.new.nodes.items ≡ with_split n states (nodes_view old) =
    grown_view (nodes_view old) (nodes_view c.add_all.new.nodes.items) c.in_ok-place.place n (arc_view c.split_to.result) arc (nodes_view c.in_ok-children.children.items) zs
    c.in_ok-place.ensures.place
    (c.split_to.ensures ∙ ap (λ k. split (numbers_from (k + 1) c.len-count.result)) long ∙ ap (λ k. split (numbers_from (length (nodes_view old) + 1) k)) count_is)
    (c.in_ok-children.ensures.nodes ∙ ap (λ b. map (λ s. open_node n s false b) states) (sym flag))
    c.in_ok-add_all.ensures.added in
    let growth : IsGrowth (nodes_view old) n arc zs = split_growth (nodes_view old) n states in
    let more : before_open (nodes_view old) ≤ before_open (with_split n states (nodes_view old)) = before_with_children (nodes_view old) n arc zs free in
    let now : nodes_view c.deref-2.result.now ≡ with_split n states (nodes_view old) = ap nodes_view c.deref-2.ensures.value ∙ seen in
    rw (c.args.self.now.first_open, now) more

pub invariant_of-self-2 : goal.invariant_of-self-2
invariant_of-self-2 c =
    let old = c.args.self.now.nodes.items in
    let n = c.args.node.number in
    let free : arc_fault (nodes_view old) n ≡ None = subst (λ l. arc_fault (nodes_view l) n ≡ None) c.deref.ensures.value c.in_ok-place.ensures.opened in
    let kept : Keeps (nodes_view old) c.args.self.now.failed c.args.self.now.unsettled = record { shape = c.args.self.now.shape; failed = c.args.self.now.some_failed; counted = c.args.self.now.counted } in
    let within : c.in_ok-place.place < length old = subst (λ l. c.in_ok-place.place < length l) c.deref.ensures.value c.in_ok-place.ensures.within in
    let flag : progress_at (nodes_view old) n ≡ c.index.result.now.progress = kept_flag_at old n c.in_ok-place.place c.index.result.now c.in_ok-place.ensures.place within c.index.ensures in
    let long : c.len.result ≡ length (nodes_view old) = omega (arith, c.len.ensures, c.args.self.now.nodes.ok, length-map old node_view) in
    let states = map view c.args.states.items in
    let zs = map (λ s. open_node n s false (progress_at (nodes_view old) n)) states in
    let arc : NodeArc = split (numbers_from (length (nodes_view old) + 1) (length states)) in
    let count_is : c.len-count.result ≡ length states = omega (arith, c.len-count.ensures, c.args.states.ok, length-map c.args.states.items view) in
    let many : length zs ≡ length states = length-map states (λ s. open_node n s false (progress_at (nodes_view old) n)) in
    let seen : nodes_view c.add_all.new.nodes.items ≡ with_split n states (nodes_view old) =
    grown_view (nodes_view old) (nodes_view c.add_all.new.nodes.items) c.in_ok-place.place n (arc_view c.split_to.result) arc (nodes_view c.in_ok-children.children.items) zs
    c.in_ok-place.ensures.place
    (c.split_to.ensures ∙ ap (λ k. split (numbers_from (k + 1) c.len-count.result)) long ∙ ap (λ k. split (numbers_from (length (nodes_view old) + 1) k)) count_is)
    (c.in_ok-children.ensures.nodes ∙ ap (λ b. map (λ s. open_node n s false b) states) (sym flag))
    c.in_ok-add_all.ensures.added in
    let growth : IsGrowth (nodes_view old) n arc zs = split_growth (nodes_view old) n states in
    let keeps : Keeps (with_split n states (nodes_view old)) c.args.self.now.failed c.unsettled_after-self.result = children_keep (nodes_view old) c.args.self.now.failed c.args.self.now.unsettled c.unsettled_after-self.result n arc zs kept free growth
    (λ e. c.unsettled_after-self.ensures.none (omega (arith, e, many, count_is)))
    (λ l. let some : 0 < c.len-count.result = omega (arith, l, many, count_is) in omega (arith, c.unsettled_after-self.ensures.more some, many, count_is)) in
    let same : Keeps (nodes_view c.add_all.new.nodes.items) c.args.self.now.failed c.unsettled_after-self.result = rw seen keeps in
    let first : c.next_open-self.result ≡ before_open (nodes_view c.add_all.new.nodes.items) = c.next_open-self.ensures ∙ ap (λ l. before_open (nodes_view l)) c.deref-2.ensures.value in
    record { shape = same.shape; first_open = first; pass = c.in_ok-add_all.ensures.pass; some_failed = same.failed; counted = same.counted }

pub returns-clause-added : goal.returns-clause-added
returns-clause-added c =
    let old = c.args.self.now.nodes.items in
    let n = c.args.node.number in
    let free : arc_fault (nodes_view old) n ≡ None = subst (λ l. arc_fault (nodes_view l) n ≡ None) c.deref.ensures.value c.in_ok-place.ensures.opened in
    let within : c.in_ok-place.place < length old = subst (λ l. c.in_ok-place.place < length l) c.deref.ensures.value c.in_ok-place.ensures.within in
    let flag : progress_at (nodes_view old) n ≡ c.index.result.now.progress = kept_flag_at old n c.in_ok-place.place c.index.result.now c.in_ok-place.ensures.place within c.index.ensures in
    let long : c.len.result ≡ length (nodes_view old) = omega (arith, c.len.ensures, c.args.self.now.nodes.ok, length-map old node_view) in
    let states = map view c.args.states.items in
    let zs = map (λ s. open_node n s false (progress_at (nodes_view old) n)) states in
    let arc : NodeArc = split (numbers_from (length (nodes_view old) + 1) (length states)) in
    let count_is : c.len-count.result ≡ length states = omega (arith, c.len-count.ensures, c.args.states.ok, length-map c.args.states.items view) in
    let many : length zs ≡ length states = length-map states (λ s. open_node n s false (progress_at (nodes_view old) n)) in
    let seen : nodes_view c.add_all.new.nodes.items ≡ with_split n states (nodes_view old) =
    grown_view (nodes_view old) (nodes_view c.add_all.new.nodes.items) c.in_ok-place.place n (arc_view c.split_to.result) arc (nodes_view c.in_ok-children.children.items) zs
    c.in_ok-place.ensures.place
    (c.split_to.ensures ∙ ap (λ k. split (numbers_from (k + 1) c.len-count.result)) long ∙ ap (λ k. split (numbers_from (length (nodes_view old) + 1) k)) count_is)
    (c.in_ok-children.ensures.nodes ∙ ap (λ b. map (λ s. open_node n s false b) states) (sym flag))
    c.in_ok-add_all.ensures.added in
    let growth : IsGrowth (nodes_view old) n arc zs = split_growth (nodes_view old) n states in
    seen
