-- Each round leaves a tree that begins with the claim's left side.
use Rattle.std.proofs.Common.{◌≡◌, refl, ap, ◌∙◌, ℕ, zero, suc, ◌+◌, Bool, true, false, ◌||◌, List, [], ◌∷◌, ◌++◌, map, length, Option, Some, None, slice_get, set, option_map, arith}
use Rattle.std.specs.Option.{option_map_or}
use Rattle.kp_kore.specs.Syntax.{KorePattern}
use Rattle.kp_kore.specs.Arcs.{BranchChild}
use Rattle.kp_kore.specs.ClaimRules.{is_progress}
use Rattle.kp_graph.specs.Tree as graph
use Rattle.kp_graph.specs.Tree.{ProofNode, NodeArc, HeldBy, IsTree, node_at, parent_of, is_child, arc_fault, leads_to, gives_progress, first_nodes, child_node, open_node, numbers_from, progress_at, with_arc, with_hold, with_edge, with_split, with_branch}
use Rattle.kp_graph.proofs.Places.{same_look}
use Rattle.kp_graph.proofs.Opened.{Opened, opened, changes}
use Rattle.kp_graph.proofs.ShapeLemmas.{shape_with_arc, shape_with_hold}
use Rattle.kp_graph.proofs.GrowLemmas.{shape_with_children}
use Rattle.kp_graph.proofs.GrowthLemmas.{shape_with_edge, split_growth, branch_growth}
use Rattle.kp_links.specs.Links.{Exchange}
use Rattle.kp_rounds.specs.Jobs.{ProofJob}
use Rattle.kp_rounds.specs.Rounds.{Proves, ProofOutcome}
use Rattle.kp_round_laws.specs.Laws.{TreeBegins}
use Rattle.kp_round_laws.proofs.RoundChanges.{ChangesKeep, proof_keeps}

-- ---- node 1 keeps its state

pub record IsFrom (s : KorePattern) (tree : List ProofNode) : Type 0 where
  pub shape : IsTree tree
  pub first : option_map (λ x. x.state) (node_at tree 1) ≡ Some s

same_state : (o p : Option ProofNode) → option_map_or (λ x. Some x.state) o None ≡ option_map_or (λ x. Some x.state) p None → option_map (λ x. x.state) o ≡ option_map (λ x. x.state) p
same_state None None e = refl
same_state None (Some y) e = absurd (cc)
same_state (Some x) None e = absurd (cc)
same_state (Some x) (Some y) e = e

first_set : (tree : List ProofNode) (i : ℕ) (x y : ProofNode) → slice_get tree i ≡ Some x → y.state ≡ x.state → option_map (λ x. x.state) (node_at (set tree i y) 1) ≡ option_map (λ x. x.state) (node_at tree 1)
first_set tree i x y at same = same_state (slice_get (set tree i y) 0) (slice_get tree 0) (same_look (Option KorePattern) (λ x. Some x.state) None tree i 0 x y at (ap Some same))

first_arc : (tree : List ProofNode) (n : ℕ) (a : NodeArc) → arc_fault tree n ≡ None → option_map (λ x. x.state) (node_at (with_arc n a tree) 1) ≡ option_map (λ x. x.state) (node_at tree 1)
first_arc tree n a free =
    let o : Opened tree n = opened tree n free in
    rw (changes (λ x. record x { arc = Some a }) tree n o) (first_set tree o.place o.node (record o.node { arc = Some a }) o.at refl)

first_hold : (tree : List ProofNode) (n : ℕ) (why : HeldBy) → arc_fault tree n ≡ None → option_map (λ x. x.state) (node_at (with_hold n why tree) 1) ≡ option_map (λ x. x.state) (node_at tree 1)
first_hold tree n why free =
    let o : Opened tree n = opened tree n free in
    rw (changes (λ x. record x { held = Some why }) tree n o) (first_set tree o.place o.node (record o.node { held = Some why }) o.at refl)

first_more : (tree zs : List ProofNode) (s : KorePattern) → option_map (λ x. x.state) (node_at tree 1) ≡ Some s → option_map (λ x. x.state) (node_at (tree ++ zs) 1) ≡ Some s
first_more [] zs s e = absurd (cc e)
first_more (x ∷ xs) zs s e = e

-- ---- arcs and holds

from_leaf : (s : KorePattern) (tree : List ProofNode) (n : ℕ) (a : NodeArc) → IsFrom s tree → arc_fault tree n ≡ None → ((m : ℕ) → leads_to m (Some a) ≡ false) → ((m : ℕ) → gives_progress m (Some a) ≡ false) → IsFrom s (with_arc n a tree)
from_leaf s tree n a h free none still = record { shape = shape_with_arc tree n a h.shape free none still; first = first_arc tree n a free ∙ h.first }

from_hold : (s : KorePattern) (tree : List ProofNode) (n : ℕ) (why : HeldBy) → IsFrom s tree → arc_fault tree n ≡ None → IsFrom s (with_hold n why tree)
from_hold s tree n why h free = record { shape = shape_with_hold tree n why h.shape free; first = first_hold tree n why free ∙ h.first }

from_edge : (s : KorePattern) (tree : List ProofNode) (n d : ℕ) (next_state : KorePattern) (flagged : Bool) → IsFrom s tree → arc_fault tree n ≡ None → IsFrom s (with_edge n d next_state flagged tree)
from_edge s tree n d next_state flagged h free = record {
  shape = shape_with_edge tree n d next_state flagged h.shape free;
  first = first_more (with_arc n (graph.edge d (length tree + 1) flagged) tree) (child_node n next_state flagged ∷ []) s (first_arc tree n (graph.edge d (length tree + 1) flagged) free ∙ h.first);
}

from_split : (s : KorePattern) (tree : List ProofNode) (n : ℕ) (states : List KorePattern) → IsFrom s tree → arc_fault tree n ≡ None → IsFrom s (with_split n states tree)
from_split s tree n states h free = record {
  shape = shape_with_children tree n (graph.split (numbers_from (length tree + 1) (length states))) (map (λ k. open_node n k false (progress_at tree n)) states) h.shape free (split_growth tree n states);
  first = first_more (with_arc n (graph.split (numbers_from (length tree + 1) (length states))) tree) (map (λ k. open_node n k false (progress_at tree n)) states) s (first_arc tree n (graph.split (numbers_from (length tree + 1) (length states))) free ∙ h.first);
}

from_branch : (s : KorePattern) (tree : List ProofNode) (n : ℕ) (children : List BranchChild) → IsFrom s tree → arc_fault tree n ≡ None → IsFrom s (with_branch n children tree)
from_branch s tree n children h free = record {
  shape = shape_with_children tree n (graph.branch (map (λ k. k.rule) children) (numbers_from (length tree + 1) (length children))) (map (λ k. open_node n k.state false (progress_at tree n || is_progress k.rule)) children) h.shape free (branch_growth tree n children);
  first = first_more (with_arc n (graph.branch (map (λ k. k.rule) children) (numbers_from (length tree + 1) (length children))) tree) (map (λ k. open_node n k.state false (progress_at tree n || is_progress k.rule)) children) s
      (first_arc tree n (graph.branch (map (λ k. k.rule) children) (numbers_from (length tree + 1) (length children))) free ∙ h.first);
}

pub each_keeps : (s : KorePattern) (tree : List ProofNode) (n : ℕ) → IsFrom s tree → arc_fault tree n ≡ None → ChangesKeep (IsFrom s) tree n
each_keeps s tree n h free = record {
  leaf = λ a is. from_leaf s tree n a h free is.nowhere is.none;
  hold = λ why. from_hold s tree n why h free;
  edge = λ d next_state flagged. from_edge s tree n d next_state flagged h free;
  split = λ states whole. from_split s tree n states h free;
  branch = λ children. from_branch s tree n children h free;
}

-- ---- the first tree

no_parent : (s : KorePattern) (p n : ℕ) → parent_of (first_nodes s) n ≡ Some p → ⊥
no_parent s p zero e = absurd (cc)
no_parent s p (suc zero) e = absurd (cc)
no_parent s p (suc (suc k)) e = absurd (cc)

no_child : (s : KorePattern) (p n : ℕ) → is_child (first_nodes s) p n ≡ true → ⊥
no_child s zero n e = absurd (cc)
no_child s (suc zero) n e = absurd (cc)
no_child s (suc (suc k)) n e = absurd (cc)

pub from_start : (s : KorePattern) → IsFrom s (first_nodes s)
from_start s = record {
  shape = record {
    some = omega arith;
    first = refl;
    others = λ n l m. absurd (omega arith);
    child = λ p n e. absurd (no_parent s p n e);
    parent = λ p n e. absurd (no_child s p n e);
    earlier = λ p n e. absurd (no_child s p n e);
    held = refl;
    start = refl;
    progress = λ p n e. absurd (no_child s p n e);
  };
  first = refl;
}

pub from_proves : (job : ProofJob) (es : List Exchange) (tree : List ProofNode) (outcome : ProofOutcome) → Proves job es tree outcome → IsFrom job.claim.claim.left tree
from_proves job es tree outcome proves = proof_keeps (IsFrom job.claim.claim.left) (λ before n h free. each_keeps job.claim.claim.left before n h free) job es tree outcome (from_start job.claim.claim.left) proves

pub tree_begins : (job : ProofJob) → TreeBegins job
tree_begins job es tree outcome proves = let from : IsFrom job.claim.claim.left tree = from_proves job es tree outcome proves in (from.shape, from.first)
