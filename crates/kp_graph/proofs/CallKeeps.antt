-- Each call keeps what is kept beside the nodes.
use Rattle.std.proofs.Common.{◌≡◌, refl, sym, ◌∙◌, ap, ℕ, ◌+◌, ◌-◌, ◌<◌, ◌≤◌, Bool, true, false, not, cond, ◌||◌, Some, None, List, [], ◌∷◌, ◌++◌, length, take, drop, arith}
use Rattle.std.proofs.lemmas.List.{length-map, map-append}
use Rattle.std.proofs.lemmas.Grind.{common_steps}
use Rattle.kp_graph.specs.Tree.{ProofNode, NodeArc, HeldBy, IsTree, arc_fault, leads_to, gives_progress, is_failed, with_arc, with_hold, with_children}
use Rattle.kp_graph.specs.View.{node_view, nodes_view}
use Rattle.kp_graph.specs.Kept.{some_failed, is_settled, unsettled}
use Rattle.kp_graph.specs.Growth.{IsGrowth}
use Rattle.kp_graph.specs.declared.node.Node.{Node}
use Rattle.kp_graph.proofs.Opened.{changes_front}
use Rattle.kp_graph.proofs.ShapeLemmas.{shape_with_arc, shape_with_hold}
use Rattle.kp_graph.proofs.GrowLemmas.{shape_with_children}
use Rattle.kp_graph.proofs.CallLemmas.{failed_with_arc, failed_with_hold, failed_with_children, count_with_arc, count_with_hold, count_with_none, count_with_some, some_counted}

-- what a lent vector holds afterwards
pub written : (n : ℕ) (new old : List Node) → n ≡ length old → length new ≡ length old → take n (new ++ drop (length new) old) ≡ new
written n new old e same = grind (arith, common_steps)

-- what is kept fits the nodes
pub record Keeps (tree : List ProofNode) (fails : Bool) (count : ℕ) : Type 0 where
  pub shape : IsTree tree
  pub failed : fails ≡ some_failed tree
  pub counted : count ≡ unsettled tree

pub hold_keeps : (tree : List ProofNode) (failed : Bool) (count n : ℕ) (why : HeldBy) → Keeps tree failed count → arc_fault tree n ≡ None → Keeps (with_hold n why tree) failed count
hold_keeps tree failed count n why k free = record {
  shape = shape_with_hold tree n why k.shape free;
  failed = k.failed ∙ sym (failed_with_hold tree n why free);
  counted = k.counted ∙ sym (count_with_hold tree n why free);
}

pub leaf_keeps : (tree : List ProofNode) (failed : Bool) (count n : ℕ) (a : NodeArc) (fails : Bool) → Keeps tree failed count → arc_fault tree n ≡ None → ((m : ℕ) → leads_to m (Some a) ≡ false) → ((m : ℕ) → gives_progress m (Some a) ≡ false) → is_settled (Some a) ≡ true → is_failed (Some a) ≡ fails → Keeps (with_arc n a tree) (failed || fails) (count - 1)
leaf_keeps tree failed count n a fails k free leaf still settles fail =
    let sum : unsettled (with_arc n a tree) + 1 ≡ unsettled tree + cond (not (is_settled (Some a))) 1 0 = count_with_arc tree n a free in
    let none : ◌≡◌ {A = ℕ} (cond (not (is_settled (Some a))) 1 0) 0 = ap (λ b. cond (not b) 1 0) settles in
    record {
      shape = shape_with_arc tree n a k.shape free leaf still;
      failed = ap (λ b. b || fails) k.failed ∙ ap (λ b. some_failed tree || b) (sym fail) ∙ sym (failed_with_arc tree n a free);
      counted = omega (arith, sum, none, k.counted);
    }

-- a node that isn't settled is counted
pub one_counted : (tree : List ProofNode) (failed : Bool) (count n : ℕ) → Keeps tree failed count → arc_fault tree n ≡ None → 1 ≤ count
one_counted tree failed count n k free = omega (arith, some_counted tree n free, k.counted)

pub children_keep : (tree : List ProofNode) (failed : Bool) (count after n : ℕ) (a : NodeArc) (zs : List ProofNode) → Keeps tree failed count → arc_fault tree n ≡ None → IsGrowth tree n a zs → (length zs ≡ 0 → after ≡ count) → (0 < length zs → after + 1 ≡ count + length zs) → Keeps (with_children n a zs tree) failed after
children_keep tree failed count after n a [] k free growth none some = record {
  shape = shape_with_children tree n a [] k.shape free growth;
  failed = k.failed ∙ sym (failed_with_children tree n a [] free growth);
  counted = none refl ∙ k.counted ∙ sym (count_with_none tree n a [] free growth refl);
}
children_keep tree failed count after n a (z ∷ zs) k free growth none some = record {
  shape = shape_with_children tree n a (z ∷ zs) k.shape free growth;
  failed = k.failed ∙ sym (failed_with_children tree n a (z ∷ zs) free growth);
  counted = omega (arith, some (omega arith), k.counted, count_with_some tree n a (z ∷ zs) free growth (omega arith));
}

-- ---- new nodes as they are kept

pub added_front : (old zs : List Node) (i : ℕ) (a : NodeArc) → i < length old → with_arc (i + 1) a (nodes_view (old ++ zs)) ≡ with_children (i + 1) a (nodes_view zs) (nodes_view old)
added_front old zs i a within = ap (with_arc (i + 1) a) (map-append node_view old zs) ∙ changes_front (λ x. record x { arc = Some a }) (nodes_view old) (nodes_view zs) i (omega (arith, within, length-map old node_view))

-- the same place, arc and nodes
pub grown_view : (tree new : List ProofNode) (i n : ℕ) (a b : NodeArc) (ys zs : List ProofNode) → i + 1 ≡ n → a ≡ b → ys ≡ zs → new ≡ with_children (i + 1) a ys tree → new ≡ with_children n b zs tree
grown_view tree new i n a b ys zs number arc nodes e = e ∙ ap (λ k. with_children k a ys tree) number ∙ ap (λ c. with_children n c ys tree) arc ∙ ap (λ l. with_children n b l tree) nodes
