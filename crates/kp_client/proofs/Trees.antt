-- Each round leaves a tree from the claim's left side, and no stuck node where the proof goes on.
use Rattle.std.proofs.Common.{◌≡◌, refl, ◌∙◌, ap, ℕ, zero, suc, ◌+◌, Bool, true, false, ◌||◌, Option, Some, None, List, [], ◌∷◌, ◌++◌, length, slice_get, set, option_map, arith}
use Rattle.std.specs.Option.{option_map_or}
use Rattle.kp_kore.specs.Syntax.{KorePattern}
use Rattle.kp_kore.specs.Claims.{ReachabilityClaim}
use Rattle.kp_graph.specs.Tree as graph
use Rattle.kp_graph.specs.Tree.{ProofNode, NodeArc, HeldBy, IsTree, node_at, parent_of, is_child, arc_fault, leads_to, gives_progress, first_nodes, child_node, with_arc, with_hold, with_edge, status_of}
use Rattle.kp_graph.specs.Kept.{is_settled, some_failed}
use Rattle.kp_graph.specs.declared.status.Status.TheVariants.{Passed}
use Rattle.kp_graph.proofs.Places.{same_look}
use Rattle.kp_graph.proofs.Opened.{Opened, opened, changes}
use Rattle.kp_graph.proofs.ShapeLemmas.{shape_with_arc, shape_with_hold}
use Rattle.kp_graph.proofs.GrowthLemmas.{shape_with_edge, failed_with_edge}
use Rattle.kp_graph.proofs.CallLemmas.{failed_with_arc, failed_with_hold}
use Rattle.kp_graph.proofs.StatusLemmas.{status_passed}
use Rattle.kp_client.specs.Links.{Exchange}
use Rattle.kp_client.specs.Rounds.{ProofOutcome, passed, failed_at, pending_at, refused_with, RoundEnd, goes_on, ends, Stepping, Round, Rounds, none_yet, one_more, Proves, in_round, after_rounds, all_covered, some_held, least_open, most_rounds}
use Rattle.kp_client.specs.Rounds as rounds
use Rattle.kp_client.proofs.EachNode.{of_changed, of_more}
use Rattle.kp_client.proofs.Nodes.{open_at, IsSettledNode, AreSettled, none_unsettled}

-- ---- node 1 keeps its state

pub record IsFrom (claim : ReachabilityClaim) (tree : List ProofNode) : Type 0 where
  pub shape : IsTree tree
  pub first : option_map (λ x. x.state) (node_at tree 1) ≡ Some claim.left
  pub settled : AreSettled tree

same_state : (o p : Option ProofNode) → option_map_or (λ x. Some x.state) o None ≡ option_map_or (λ x. Some x.state) p None → option_map (λ x. x.state) o ≡ option_map (λ x. x.state) p
same_state None None e = refl
same_state None (Some y) e = absurd (cc)
same_state (Some x) None e = absurd (cc)
same_state (Some x) (Some y) e = e

first_set : (tree : List ProofNode) (i : ℕ) (x y : ProofNode) → slice_get tree i ≡ Some x → y.state ≡ x.state → option_map (λ x. x.state) (node_at (set tree i y) 1) ≡ option_map (λ x. x.state) (node_at tree 1)
first_set tree i x y at same = same_state (slice_get (set tree i y) 0) (slice_get tree 0) (same_look (Option KorePattern) (λ x. Some x.state) None tree i 0 x y at (ap Some same))

first_arc : (tree : List ProofNode) (n : ℕ) (a : NodeArc) → arc_fault tree n ≡ None → option_map (λ x. x.state) (node_at (with_arc n a tree) 1) ≡ option_map (λ x. x.state) (node_at tree 1)
first_arc tree n a free =
    let o : Opened tree n = opened tree n free in
    rw (changes (λ x. record x { arc = Some a }) tree n o) (first_set tree o.place o.node (record o.node { arc = Some a }) o.at refl)

first_hold : (tree : List ProofNode) (n : ℕ) (why : HeldBy) → arc_fault tree n ≡ None → option_map (λ x. x.state) (node_at (with_hold n why tree) 1) ≡ option_map (λ x. x.state) (node_at tree 1)
first_hold tree n why free =
    let o : Opened tree n = opened tree n free in
    rw (changes (λ x. record x { held = Some why }) tree n o) (first_set tree o.place o.node (record o.node { held = Some why }) o.at refl)

first_more : (tree : List ProofNode) (z : ProofNode) (s : KorePattern) → option_map (λ x. x.state) (node_at tree 1) ≡ Some s → option_map (λ x. x.state) (node_at (tree ++ z ∷ []) 1) ≡ Some s
first_more [] z s e = absurd (cc)
first_more (x ∷ xs) z s e = e

-- ---- a tree from the left side

-- a leaf's arc leads to no node, and is settled
record IsLeafArc (a : NodeArc) : Type 0 where
  none : (m : ℕ) → leads_to m (Some a) ≡ false
  still : (m : ℕ) → gives_progress m (Some a) ≡ false
  settled : is_settled (Some a) ≡ true

cover_leaf : IsLeafArc graph.cover
cover_leaf = record { none = λ m. refl; still = λ m. refl; settled = refl }

stuck_leaf : IsLeafArc graph.stuck
stuck_leaf = record { none = λ m. refl; still = λ m. refl; settled = refl }

settled_arc : (tree : List ProofNode) (n : ℕ) (a : NodeArc) → is_settled (Some a) ≡ true → AreSettled tree → AreSettled (with_arc n a tree)
settled_arc tree n a is h = of_changed IsSettledNode (λ x. record x { arc = Some a }) tree n (λ x p e. is) h

from_arc : (claim : ReachabilityClaim) (tree : List ProofNode) (n : ℕ) (a : NodeArc) → IsFrom claim tree → arc_fault tree n ≡ None → IsLeafArc a → IsFrom claim (with_arc n a tree)
from_arc claim tree n a h free leaf = record { shape = shape_with_arc tree n a h.shape free leaf.none leaf.still; first = first_arc tree n a free ∙ h.first; settled = settled_arc tree n a leaf.settled h.settled }

pub from_hold : (claim : ReachabilityClaim) (tree : List ProofNode) (n : ℕ) (why : HeldBy) → IsFrom claim tree → arc_fault tree n ≡ None → IsFrom claim (with_hold n why tree)
from_hold claim tree n why h free = record { shape = shape_with_hold tree n why h.shape free; first = first_hold tree n why free ∙ h.first; settled = of_changed IsSettledNode (λ x. record x { held = Some why }) tree n (λ x p. p) h.settled }

from_edge : (claim : ReachabilityClaim) (tree : List ProofNode) (n d : ℕ) (s : KorePattern) (terminal : Bool) → IsFrom claim tree → arc_fault tree n ≡ None → IsFrom claim (with_edge n d s terminal tree)
from_edge claim tree n d s terminal h free = record {
  shape = shape_with_edge tree n d s terminal h.shape free;
  first = first_more (with_arc n (graph.edge d (length tree + 1) terminal) tree) (child_node n s terminal) claim.left (first_arc tree n (graph.edge d (length tree + 1) terminal) free ∙ h.first);
  settled = of_more IsSettledNode (with_arc n (graph.edge d (length tree + 1) terminal) tree) (child_node n s terminal) (settled_arc tree n (graph.edge d (length tree + 1) terminal) refl h.settled) (λ e. absurd (cc));
}

-- the tree that a round leaves
abbrev pub end_tree : RoundEnd → List ProofNode
end_tree (goes_on tree) = tree
end_tree (ends tree outcome) = tree

from_stepping : (claim : ReachabilityClaim) (depth : ℕ) (tree : List ProofNode) (n : ℕ) (s : KorePattern) (es : List Exchange) (end : RoundEnd) → IsFrom claim tree → arc_fault tree n ≡ None → Stepping depth tree n s es end → IsFrom claim (end_tree end)
from_stepping claim depth tree n s es end h free (rounds.edge e x beyond t f d p l) = from_edge claim tree n x.depth beyond false h free
from_stepping claim depth tree n s es end h free (rounds.too_many e x t f d l) = from_hold claim tree n graph.nodes h free
from_stepping claim depth tree n s es end h free (rounds.stuck e x t d r) = from_arc claim tree n graph.stuck h free stuck_leaf
from_stepping claim depth tree n s es end h free (rounds.held e x t f d r) = from_hold claim tree n (graph.reply e.reply) h free
from_stepping claim depth tree n s es end h free (rounds.refused fs code t) = h

pub from_round : (claim : ReachabilityClaim) (depth : ℕ) (tree : List ProofNode) (n : ℕ) (s : KorePattern) (es : List Exchange) (end : RoundEnd) → IsFrom claim tree → arc_fault tree n ≡ None → Round claim depth tree n s es end → IsFrom claim (end_tree end)
from_round claim depth tree n s es end h free (rounds.covered e p q t) = from_arc claim tree n graph.cover h free cover_leaf
from_round claim depth tree n s es end h free (rounds.undecided e t) = from_hold claim tree n (graph.reply e.reply) h free
from_round claim depth tree n s es end h free (rounds.refused fs code t other) = h
from_round claim depth tree n s es end h free (rounds.steps e fs last t more) = from_stepping claim depth tree n s fs last h free more

-- ---- no node has failed where the proof goes on

abbrev IsCalm : RoundEnd → Type 0
IsCalm (goes_on tree) = some_failed tree ≡ false
IsCalm (ends tree outcome) = (outcome ≡ passed) → ⊥

calm_stepping : (depth : ℕ) (tree : List ProofNode) (n : ℕ) (s : KorePattern) (es : List Exchange) (end : RoundEnd) → some_failed tree ≡ false → arc_fault tree n ≡ None → Stepping depth tree n s es end → IsCalm end
calm_stepping depth tree n s es end h free (rounds.edge e x beyond t f d p l) = failed_with_edge tree n x.depth beyond false free ∙ h
calm_stepping depth tree n s es end h free (rounds.too_many e x t f d l) = λ o. absurd (cc)
calm_stepping depth tree n s es end h free (rounds.stuck e x t d r) = λ o. absurd (cc)
calm_stepping depth tree n s es end h free (rounds.held e x t f d r) = failed_with_hold tree n (graph.reply e.reply) free ∙ h
calm_stepping depth tree n s es end h free (rounds.refused fs code t) = λ o. absurd (cc)

calm_round : (claim : ReachabilityClaim) (depth : ℕ) (tree : List ProofNode) (n : ℕ) (s : KorePattern) (es : List Exchange) (end : RoundEnd) → some_failed tree ≡ false → arc_fault tree n ≡ None → Round claim depth tree n s es end → IsCalm end
calm_round claim depth tree n s es end h free (rounds.covered e p q t) = failed_with_arc tree n graph.cover free ∙ ap (λ b. b || false) h
calm_round claim depth tree n s es end h free (rounds.undecided e t) = failed_with_hold tree n (graph.reply e.reply) free ∙ h
calm_round claim depth tree n s es end h free (rounds.refused fs code t other) = λ o. absurd (cc)
calm_round claim depth tree n s es end h free (rounds.steps e fs last t more) = calm_stepping depth tree n s fs last h free more

-- ---- all rounds

no_parent : (claim : ReachabilityClaim) (p n : ℕ) → parent_of (first_nodes claim.left) n ≡ Some p → ⊥
no_parent claim p zero e = absurd (cc)
no_parent claim p (suc zero) e = absurd (cc)
no_parent claim p (suc (suc k)) e = absurd (cc)

no_child : (claim : ReachabilityClaim) (p n : ℕ) → is_child (first_nodes claim.left) p n ≡ true → ⊥
no_child claim zero n e = absurd (cc)
no_child claim (suc zero) n e = absurd (cc)
no_child claim (suc (suc k)) n e = absurd (cc)

none_first : (claim : ReachabilityClaim) → IsTree (first_nodes claim.left)
none_first claim = record {
  some = omega arith;
  first = refl;
  others = λ n l m. absurd (omega arith);
  child = λ p n e. absurd (no_parent claim p n e);
  parent = λ p n e. absurd (no_child claim p n e);
  earlier = λ p n e. absurd (no_child claim p n e);
  held = refl;
  start = refl;
  progress = λ p n e. absurd (no_child claim p n e);
}

pub from_rounds : (claim : ReachabilityClaim) (depth k : ℕ) (tree : List ProofNode) (es : List Exchange) → Rounds claim depth k tree es → IsFrom claim tree
from_rounds claim depth k tree es none_yet = record { shape = none_first claim; first = refl; settled = ((λ e. absurd (cc)), tt) }
from_rounds claim depth k tree es (one_more j before later fs more n x earlier least at round) =
    from_round claim depth before n x.state more (goes_on later) (from_rounds claim depth j before fs earlier) (open_at before n least).free round

pub calm_rounds : (claim : ReachabilityClaim) (depth k : ℕ) (tree : List ProofNode) (es : List Exchange) → Rounds claim depth k tree es → some_failed tree ≡ false
calm_rounds claim depth k tree es none_yet = refl
calm_rounds claim depth k tree es (one_more j before later fs more n x earlier least at round) =
    calm_round claim depth before n x.state more (goes_on later) (calm_rounds claim depth j before fs earlier) (open_at before n least).free round

pub from_proves : (claim : ReachabilityClaim) (depth : ℕ) (es : List Exchange) (tree : List ProofNode) (outcome : ProofOutcome) → Proves claim depth es tree outcome → IsFrom claim tree
from_proves claim depth es tree outcome (in_round k before last fs more n x o rs l least at round) =
    from_round claim depth before n x.state more (ends last o) (from_rounds claim depth k before fs rs) (open_at before n least).free round
from_proves claim depth es tree outcome (after_rounds before fs n rs least) = from_hold claim before n graph.rounds (from_rounds claim depth most_rounds before fs rs) (open_at before n least).free
from_proves claim depth es tree outcome (all_covered k before fs rs l least none) = from_rounds claim depth k before fs rs
from_proves claim depth es tree outcome (some_held k before fs n why rs l least first) = from_rounds claim depth k before fs rs

-- a proof that passes leaves a tree that has passed
pub passed_proves : (claim : ReachabilityClaim) (depth : ℕ) (es : List Exchange) (tree : List ProofNode) (outcome : ProofOutcome) → Proves claim depth es tree outcome → outcome ≡ passed → status_of tree ≡ Passed
passed_proves claim depth es tree outcome (in_round k before last fs more n x o rs l least at round) e =
    absurd (calm_round claim depth before n x.state more (ends last o) (calm_rounds claim depth k before fs rs) (open_at before n least).free round e)
passed_proves claim depth es tree outcome (after_rounds before fs n rs least) e = absurd (cc)
passed_proves claim depth es tree outcome (all_covered k before fs rs l least none) e = status_passed before (calm_rounds claim depth k before fs rs) (none_unsettled before (from_rounds claim depth k before fs rs).settled least none)
passed_proves claim depth es tree outcome (some_held k before fs n why rs l least first) e = absurd (cc)
