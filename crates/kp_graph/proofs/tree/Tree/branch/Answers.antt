use Rattle.std.proofs.Common.{◌≡◌, ◌≤◌, ◌<◌, ◌+◌, ◌||◌, None, map, false, length, sym, ◌∙◌, ap, subst, arith}
use Rattle.std.proofs.lemmas.List.{length-map}
use Rattle.kp_kore.specs.ClaimRules.{is_progress}
use Rattle.kp_graph.specs.Tree.{NodeArc, branch, numbers_from, open_node, progress_at, arc_fault, with_branch}
use Rattle.kp_graph.specs.View.{node_view, nodes_view, arc_view, child_view, rule_view}
use Rattle.kp_graph.specs.Kept.{before_open}
use Rattle.kp_graph.specs.Growth.{IsGrowth}
use Rattle.kp_graph.proofs.Places.{kept_flag_at}
use Rattle.kp_graph.proofs.CallLemmas.{before_with_children}
use Rattle.kp_graph.proofs.CallKeeps.{Keeps, one_counted, children_keep, grown_view}
use Rattle.kp_graph.proofs.RowLemmas.{pass_alone}
use Rattle.kp_graph.proofs.GrowthLemmas.{branch_growth}
use Rattle.kp_graph.proofs.tree.Tree.branch.Goals as goal

pub add_all-requires-clause-passing : goal.add_all-requires-clause-passing
add_all-requires-clause-passing c = pass_alone _ c.in_ok-nodes.nodes.items c.args.children.items c.in_ok-nodes.ensures.alone

pub unsettled_after-self-requires-clause-some : goal.unsettled_after-self-requires-clause-some
unsettled_after-self-requires-clause-some c =
    let old = c.args.self.now.nodes.items in
    let n = c.args.node.number in
    let free : arc_fault (nodes_view old) n ≡ None = subst (λ l. arc_fault (nodes_view l) n ≡ None) c.deref.ensures.value c.in_ok-place.ensures.opened in
    let kept : Keeps (nodes_view old) c.args.self.now.failed c.args.self.now.unsettled = record { shape = c.args.self.now.shape; failed = c.args.self.now.some_failed; counted = c.args.self.now.counted } in
    one_counted (nodes_view old) c.args.self.now.failed c.args.self.now.unsettled n kept free

pub next_open-self-requires : goal.next_open-self-requires
next_open-self-requires c =
    let old = c.args.self.now.nodes.items in
    let n = c.args.node.number in
    let free : arc_fault (nodes_view old) n ≡ None = subst (λ l. arc_fault (nodes_view l) n ≡ None) c.deref.ensures.value c.in_ok-place.ensures.opened in
    let within : c.in_ok-place.place < length old = subst (λ l. c.in_ok-place.place < length l) c.deref.ensures.value c.in_ok-place.ensures.within in
    let flag : progress_at (nodes_view old) n ≡ c.index.result.now.progress = kept_flag_at old n c.in_ok-place.place c.index.result.now c.in_ok-place.ensures.place within c.index.ensures in
    let long : c.len.result ≡ length (nodes_view old) = omega (arith, c.len.ensures, c.args.self.now.nodes.ok, length-map old node_view) in
    let kids = map child_view c.args.children.items in
    let rules = map (λ k. k.rule) kids in
    let zs = map (λ k. open_node n k.state false (progress_at (nodes_view old) n || is_progress k.rule)) kids in
    let arc : NodeArc = branch rules (numbers_from (length (nodes_view old) + 1) (length kids)) in
    let count_is : c.len-count.result ≡ length kids = omega (arith, c.len-count.ensures, c.args.children.ok, length-map c.args.children.items child_view) in
    let many : length zs ≡ length kids = length-map kids (λ k. open_node n k.state false (progress_at (nodes_view old) n || is_progress k.rule)) in
    let rules_are : length c.in_ok-nodes.rules.items ≡ length kids = sym (length-map c.in_ok-nodes.rules.items rule_view) ∙ ap length c.in_ok-nodes.ensures.rules ∙ length-map kids (λ k. k.rule) in
    let seen : nodes_view c.add_all.new.nodes.items ≡ with_branch n kids (nodes_view old) =
    grown_view (nodes_view old) (nodes_view c.add_all.new.nodes.items) c.in_ok-place.place n (arc_view c.branch_to.result) arc (nodes_view c.in_ok-nodes.nodes.items) zs
    c.in_ok-place.ensures.place
    (c.branch_to.ensures ∙ ap (λ r. branch r (numbers_from (c.len.result + 1) (length c.in_ok-nodes.rules.items))) c.in_ok-nodes.ensures.rules ∙ ap (λ k. branch rules (numbers_from (k + 1) (length c.in_ok-nodes.rules.items))) long ∙ ap (λ k. branch rules (numbers_from (length (nodes_view old) + 1) k)) rules_are)
    (c.in_ok-nodes.ensures.nodes ∙ ap (λ b. map (λ k. open_node n k.state false (b || is_progress k.rule)) kids) (sym flag))
    c.in_ok-add_all.ensures.added in
    let growth : IsGrowth (nodes_view old) n arc zs = branch_growth (nodes_view old) n kids in
    let more : before_open (nodes_view old) ≤ before_open (with_branch n kids (nodes_view old)) = before_with_children (nodes_view old) n arc zs free in
    let now : nodes_view c.deref-2.result.now ≡ with_branch n kids (nodes_view old) = ap nodes_view c.deref-2.ensures.value ∙ seen in
    rw (c.args.self.now.first_open, now) more

pub invariant_of-self-2 : goal.invariant_of-self-2
invariant_of-self-2 c =
    let old = c.args.self.now.nodes.items in
    let n = c.args.node.number in
    let free : arc_fault (nodes_view old) n ≡ None = subst (λ l. arc_fault (nodes_view l) n ≡ None) c.deref.ensures.value c.in_ok-place.ensures.opened in
    let kept : Keeps (nodes_view old) c.args.self.now.failed c.args.self.now.unsettled = record { shape = c.args.self.now.shape; failed = c.args.self.now.some_failed; counted = c.args.self.now.counted } in
    let within : c.in_ok-place.place < length old = subst (λ l. c.in_ok-place.place < length l) c.deref.ensures.value c.in_ok-place.ensures.within in
    let flag : progress_at (nodes_view old) n ≡ c.index.result.now.progress = kept_flag_at old n c.in_ok-place.place c.index.result.now c.in_ok-place.ensures.place within c.index.ensures in
    let long : c.len.result ≡ length (nodes_view old) = omega (arith, c.len.ensures, c.args.self.now.nodes.ok, length-map old node_view) in
    let kids = map child_view c.args.children.items in
    let rules = map (λ k. k.rule) kids in
    let zs = map (λ k. open_node n k.state false (progress_at (nodes_view old) n || is_progress k.rule)) kids in
    let arc : NodeArc = branch rules (numbers_from (length (nodes_view old) + 1) (length kids)) in
    let count_is : c.len-count.result ≡ length kids = omega (arith, c.len-count.ensures, c.args.children.ok, length-map c.args.children.items child_view) in
    let many : length zs ≡ length kids = length-map kids (λ k. open_node n k.state false (progress_at (nodes_view old) n || is_progress k.rule)) in
    let rules_are : length c.in_ok-nodes.rules.items ≡ length kids = sym (length-map c.in_ok-nodes.rules.items rule_view) ∙ ap length c.in_ok-nodes.ensures.rules ∙ length-map kids (λ k. k.rule) in
    let seen : nodes_view c.add_all.new.nodes.items ≡ with_branch n kids (nodes_view old) =
    grown_view (nodes_view old) (nodes_view c.add_all.new.nodes.items) c.in_ok-place.place n (arc_view c.branch_to.result) arc (nodes_view c.in_ok-nodes.nodes.items) zs
    c.in_ok-place.ensures.place
    (c.branch_to.ensures ∙ ap (λ r. branch r (numbers_from (c.len.result + 1) (length c.in_ok-nodes.rules.items))) c.in_ok-nodes.ensures.rules ∙ ap (λ k. branch rules (numbers_from (k + 1) (length c.in_ok-nodes.rules.items))) long ∙ ap (λ k. branch rules (numbers_from (length (nodes_view old) + 1) k)) rules_are)
    (c.in_ok-nodes.ensures.nodes ∙ ap (λ b. map (λ k. open_node n k.state false (b || is_progress k.rule)) kids) (sym flag))
    c.in_ok-add_all.ensures.added in
    let growth : IsGrowth (nodes_view old) n arc zs = branch_growth (nodes_view old) n kids in
    let keeps : Keeps (with_branch n kids (nodes_view old)) c.args.self.now.failed c.unsettled_after-self.result = children_keep (nodes_view old) c.args.self.now.failed c.args.self.now.unsettled c.unsettled_after-self.result n arc zs kept free growth
    (λ e. c.unsettled_after-self.ensures.none (omega (arith, e, many, count_is)))
    (λ l. let some : 0 < c.len-count.result = omega (arith, l, many, count_is) in omega (arith, c.unsettled_after-self.ensures.more some, many, count_is)) in
    let same : Keeps (nodes_view c.add_all.new.nodes.items) c.args.self.now.failed c.unsettled_after-self.result = rw seen keeps in
    let first : c.next_open-self.result ≡ before_open (nodes_view c.add_all.new.nodes.items) = c.next_open-self.ensures ∙ ap (λ l. before_open (nodes_view l)) c.deref-2.ensures.value in
    record { shape = same.shape; first_open = first; pass = c.in_ok-add_all.ensures.pass; some_failed = same.failed; counted = same.counted }

pub returns-clause-added : goal.returns-clause-added
returns-clause-added c =
    let old = c.args.self.now.nodes.items in
    let n = c.args.node.number in
    let free : arc_fault (nodes_view old) n ≡ None = subst (λ l. arc_fault (nodes_view l) n ≡ None) c.deref.ensures.value c.in_ok-place.ensures.opened in
    let within : c.in_ok-place.place < length old = subst (λ l. c.in_ok-place.place < length l) c.deref.ensures.value c.in_ok-place.ensures.within in
    let flag : progress_at (nodes_view old) n ≡ c.index.result.now.progress = kept_flag_at old n c.in_ok-place.place c.index.result.now c.in_ok-place.ensures.place within c.index.ensures in
    let long : c.len.result ≡ length (nodes_view old) = omega (arith, c.len.ensures, c.args.self.now.nodes.ok, length-map old node_view) in
    let kids = map child_view c.args.children.items in
    let rules = map (λ k. k.rule) kids in
    let zs = map (λ k. open_node n k.state false (progress_at (nodes_view old) n || is_progress k.rule)) kids in
    let arc : NodeArc = branch rules (numbers_from (length (nodes_view old) + 1) (length kids)) in
    let count_is : c.len-count.result ≡ length kids = omega (arith, c.len-count.ensures, c.args.children.ok, length-map c.args.children.items child_view) in
    let many : length zs ≡ length kids = length-map kids (λ k. open_node n k.state false (progress_at (nodes_view old) n || is_progress k.rule)) in
    let rules_are : length c.in_ok-nodes.rules.items ≡ length kids = sym (length-map c.in_ok-nodes.rules.items rule_view) ∙ ap length c.in_ok-nodes.ensures.rules ∙ length-map kids (λ k. k.rule) in
    let seen : nodes_view c.add_all.new.nodes.items ≡ with_branch n kids (nodes_view old) =
    grown_view (nodes_view old) (nodes_view c.add_all.new.nodes.items) c.in_ok-place.place n (arc_view c.branch_to.result) arc (nodes_view c.in_ok-nodes.nodes.items) zs
    c.in_ok-place.ensures.place
    (c.branch_to.ensures ∙ ap (λ r. branch r (numbers_from (c.len.result + 1) (length c.in_ok-nodes.rules.items))) c.in_ok-nodes.ensures.rules ∙ ap (λ k. branch rules (numbers_from (k + 1) (length c.in_ok-nodes.rules.items))) long ∙ ap (λ k. branch rules (numbers_from (length (nodes_view old) + 1) k)) rules_are)
    (c.in_ok-nodes.ensures.nodes ∙ ap (λ b. map (λ k. open_node n k.state false (b || is_progress k.rule)) kids) (sym flag))
    c.in_ok-add_all.ensures.added in
    let growth : IsGrowth (nodes_view old) n arc zs = branch_growth (nodes_view old) n kids in
    seen
