-- The tree of a proof as the list of its nodes, in the order of their numbers from 1.
-- Source: pyk's KCFG (nodes, edges, covers, stuck) and APRProof (pending, terminal, failed, passed).
use Rattle.std.specs.Prelude.{◌≡◌, ℕ, zero, suc, ◌+◌, ◌-◌, ◌<◌, ◌≤◌, ◌==◌, nat_le, Bool, true, false, ◌&&◌, ◌||◌, if◌then◌else◌, Option, Some, None, is_some, is_none, List, [], ◌∷◌, ◌++◌, length, slice_get, slice_set, filter, map}
use Rattle.std.specs.Option.{option_map_or, option_or}
use Rattle.std.specs.List.{list_any, list_all}
use Rattle.kp_kore.specs.Syntax.{Text, KorePattern}
use Rattle.kp_kore.specs.Arcs.{BranchChild}
use Rattle.kp_kore.specs.ClaimRules.{is_progress}
use Rattle.kp_graph.specs.declared.node.TreeFault.{TreeFault}
use Rattle.kp_graph.specs.declared.node.TreeFault.TheVariants.{NoSuchNode, NotOpen, TooManyNodes}
use Rattle.kp_graph.specs.declared.status.Status.{Status}
use Rattle.kp_graph.specs.declared.status.Status.TheVariants.{Passed, Failed, Pending}

-- an edge of so many steps to a node, by a terminal rule or not; a split to nodes; a branch to nodes, each by the rule of
-- an id or by none; the state is covered, has no instance, is stuck, or was ended by a terminal rule and isn't covered
pub data NodeArc : Type 0 where
  edge : ℕ → ℕ → Bool → NodeArc
  split : List ℕ → NodeArc
  branch : List (Option Text) → List ℕ → NodeArc
  cover : NodeArc
  vacuous : NodeArc
  stuck : NodeArc
  terminal : NodeArc

-- a node is held by a reply, for the rounds are used, or for the nodes are
pub data HeldBy : Type 0 where
  reply : List ℕ → HeldBy
  rounds : HeldBy
  nodes : HeldBy

pub record ProofNode : Type 0 where
  pub state : KorePattern
  pub parent : Option ℕ
  pub flagged : Bool
  pub arc : Option NodeArc
  pub held : Option HeldBy
  -- the path to it has a step that is progress
  pub progress : Bool

-- the node of a number
abbrev pub node_at : List ProofNode → ℕ → Option ProofNode
node_at tree zero = None
node_at tree (suc i) = slice_get tree i

-- a number without a node has no progress
abbrev pub progress_at : List ProofNode → ℕ → Bool
progress_at tree n = option_map_or (λ x. x.progress) (node_at tree n) false

-- the tree has a node of this number
abbrev pub IsNode : List ProofNode → ℕ → Type 0
IsNode tree n = (0 < n) × (n ≤ length tree)

-- a node is open where it has no arc and isn't held
abbrev pub is_open : ProofNode → Bool
is_open x = is_none x.arc && is_none x.held

-- the numbers of the open nodes, where the first node has this number
abbrev pub open_from : ℕ → List ProofNode → List ℕ
open_from n [] = []
open_from n (x ∷ xs) = if is_open x then n ∷ open_from (n + 1) xs else open_from (n + 1) xs

abbrev pub open_nodes : List ProofNode → List ℕ
open_nodes = open_from 1

-- ---- what the calls do

-- the tree of a claim begins with its left side
abbrev pub first_nodes : KorePattern → List ProofNode
first_nodes s = record { state = s; parent = None; flagged = false; arc = None; held = None; progress = false } ∷ []

-- the nodes with f of node n in its place
abbrev pub changed : (ProofNode → ProofNode) → ℕ → List ProofNode → List ProofNode
changed f n tree = option_map_or (λ x. slice_set tree (n - 1) (f x)) (node_at tree n) tree

-- node n gets an arc
abbrev pub with_arc : ℕ → NodeArc → List ProofNode → List ProofNode
with_arc n a = changed (λ x. record x { arc = Some a }) n

-- node n is held
abbrev pub with_hold : ℕ → HeldBy → List ProofNode → List ProofNode
with_hold n why = changed (λ x. record x { held = Some why }) n

-- a new node below node n: open, of state s
abbrev pub open_node : ℕ → KorePattern → Bool → Bool → ProofNode
open_node n s flagged progress = record { state = s; parent = Some n; flagged = flagged; arc = None; held = None; progress = progress }

-- the numbers of so many nodes from n on
abbrev pub numbers_from : ℕ → ℕ → List ℕ
numbers_from n zero = []
numbers_from n (suc k) = n ∷ numbers_from (n + 1) k

-- node n gets an arc to new last nodes
abbrev pub with_children : ℕ → NodeArc → List ProofNode → List ProofNode → List ProofNode
with_children n a children tree = with_arc n a tree ++ children

-- an edge's child has progress; it is flagged where the edge is terminal
abbrev pub child_node : ℕ → KorePattern → Bool → ProofNode
child_node n s flagged = open_node n s flagged true

-- node n gets an edge of d steps to a new node of state s
abbrev pub with_edge : ℕ → ℕ → KorePattern → Bool → List ProofNode → List ProofNode
with_edge n d s flagged tree = with_children n (edge d (length tree + 1) flagged) (child_node n s flagged ∷ []) tree

-- node n gets a split to new nodes of these states, which have its progress
abbrev pub with_split : ℕ → List KorePattern → List ProofNode → List ProofNode
with_split n states tree = with_children n (split (numbers_from (length tree + 1) (length states))) (map (λ s. open_node n s false (progress_at tree n)) states) tree

-- node n gets a branch to new nodes, each with its progress or that of its step
abbrev pub with_branch : ℕ → List BranchChild → List ProofNode → List ProofNode
with_branch n children tree =
    with_children n (branch (map (λ k. k.rule) children) (numbers_from (length tree + 1) (length children)))
    (map (λ k. open_node n k.state false (progress_at tree n || is_progress k.rule)) children) tree

-- K1, K2: why node n gets no arc
abbrev pub fault_of : Option ProofNode → Option TreeFault
fault_of None = Some NoSuchNode
fault_of (Some x) = if is_open x then None else Some NotOpen

abbrev pub arc_fault : List ProofNode → ℕ → Option TreeFault
arc_fault tree n = fault_of (node_at tree n)

-- a tree has at most so many nodes
abbrev pub most_nodes : ℕ
most_nodes = 10000

-- K1, K2, K3: why node n gets no arc to so many new nodes; a tree has at most 10,000 nodes
abbrev pub children_fault : List ProofNode → ℕ → ℕ → Option TreeFault
children_fault tree n count = option_or (arc_fault tree n) (if nat_le (length tree + count) most_nodes then None else Some TooManyNodes)

abbrev pub edge_fault : List ProofNode → ℕ → Option TreeFault
edge_fault tree n = children_fault tree n 1

-- ---- the shape of a tree

abbrev pub parent_of : List ProofNode → ℕ → Option ℕ
parent_of tree n = option_map_or (λ x. x.parent) (node_at tree n) None

-- an arc leads to node n
abbrev pub leads_to : ℕ → Option NodeArc → Bool
leads_to n (Some (edge d to flagged)) = to == n
leads_to n (Some (split tos)) = list_any (λ to. to == n) tos
leads_to n (Some (branch rules tos)) = list_any (λ to. to == n) tos
leads_to n _ = false

-- the step of an arc to node n is progress: an edge's is, a branch's by a rule of the definition
abbrev pub is_progress_to : ℕ → List (Option Text) → List ℕ → Bool
is_progress_to n (r ∷ rs) (to ∷ tos) = (to == n && is_progress r) || is_progress_to n rs tos
is_progress_to n _ _ = false

abbrev pub gives_progress : ℕ → Option NodeArc → Bool
gives_progress n (Some (edge d to flagged)) = true
gives_progress n (Some (branch rules tos)) = is_progress_to n rules tos
gives_progress n _ = false

-- node n is a child of node p
abbrev pub is_child : List ProofNode → ℕ → ℕ → Bool
is_child tree p n = option_map_or (λ x. leads_to n x.arc) (node_at tree p) false

-- the step from node p to node n is progress
abbrev pub progresses : List ProofNode → ℕ → ℕ → Bool
progresses tree p n = option_map_or (λ x. gives_progress n x.arc) (node_at tree p) false

-- node 1 has no parent and no progress, each other node is the child of exactly one earlier node, its parent, and has
-- progress where that has or the step to it is; no held node has an arc
pub record IsTree (tree : List ProofNode) : Type 0 where
  pub some : 0 < length tree
  pub first : parent_of tree 1 ≡ None
  pub others : (n : ℕ) → 1 < n → n ≤ length tree → is_some (parent_of tree n) ≡ true
  pub child : (p n : ℕ) → parent_of tree n ≡ Some p → is_child tree p n ≡ true
  pub parent : (p n : ℕ) → is_child tree p n ≡ true → parent_of tree n ≡ Some p
  pub earlier : (p n : ℕ) → is_child tree p n ≡ true → p < n
  pub held : list_all (λ x. is_none x.arc || is_none x.held) tree ≡ true
  pub start : progress_at tree 1 ≡ false
  pub progress : (p n : ℕ) → is_child tree p n ≡ true → progress_at tree n ≡ (progress_at tree p || progresses tree p n)

-- the steps of the path from node 1 to node n, the last first: each an arc and the node that it leads to
pub data IsPath (tree : List ProofNode) : ℕ → List (NodeArc × ℕ) → Type 0 where
  at_first : IsPath tree 1 []
  onward : (p n : ℕ) (x : ProofNode) (a : NodeArc) (steps : List (NodeArc × ℕ)) → node_at tree p ≡ Some x → x.arc ≡ Some a → leads_to n (Some a) ≡ true → IsPath tree p steps → IsPath tree n ((a, n) ∷ steps)

-- some step of the path is progress
abbrev pub some_progress : List (NodeArc × ℕ) → Bool
some_progress = list_any (λ s. gives_progress s.1 (Some s.0))

-- the path from node 1 to node n has a step that is progress
pub record HasProgress (tree : List ProofNode) (n : ℕ) : Type 0 where
  pub steps : List (NodeArc × ℕ)
  pub path : IsPath tree n steps
  pub some : some_progress steps ≡ true

-- ---- the status

-- a leaf has no arc to another node: a split or a branch of no nodes is one
abbrev pub leads_nowhere : Option NodeArc → Bool
leads_nowhere (Some (edge d to flagged)) = false
leads_nowhere (Some (split (to ∷ tos))) = false
leads_nowhere (Some (branch rules (to ∷ tos))) = false
leads_nowhere _ = true

-- nothing is left to show of the state
abbrev pub is_shown : Option NodeArc → Bool
is_shown (Some cover) = true
is_shown (Some vacuous) = true
is_shown _ = false

-- some run from the state may miss
abbrev pub is_failed : Option NodeArc → Bool
is_failed (Some stuck) = true
is_failed (Some terminal) = true
is_failed _ = false

abbrev pub leaves : List ProofNode → List ProofNode
leaves = filter (λ x. leads_nowhere x.arc)

-- passed where every leaf is a cover or vacuous, failed where one is stuck or terminal, else pending
abbrev pub status_of : List ProofNode → Status
status_of tree =
    if list_all (λ x. is_shown x.arc) (leaves tree) then Passed
    else if list_any (λ x. is_failed x.arc) (leaves tree) then Failed
    else Pending
