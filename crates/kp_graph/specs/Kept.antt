-- What is kept beside the nodes, so that no question walks the tree.
use Rattle.std.specs.Prelude.{ℕ, zero, suc, Bool, ◌&&◌, true, false, not, List, [], ◌∷◌, Option, Some, None, if◌then◌else◌, count_by}
use Rattle.std.specs.List.{list_any}
use Rattle.kp_graph.specs.Tree.{NodeArc, split, branch, ProofNode, is_open, is_failed}
use Rattle.kp_graph.specs.View.{nodes_view}
use Rattle.kp_graph.specs.declared.node.Node.{Node}

-- how many nodes stand before the first that is open
abbrev pub before_open : List ProofNode → ℕ
before_open [] = 0
before_open (x ∷ xs) = if is_open x then 0 else suc (before_open xs)

-- the first k nodes are there, and none is open
abbrev pub are_closed : ℕ → List ProofNode → Bool
are_closed zero tree = true
are_closed (suc k) [] = false
are_closed (suc k) (x ∷ xs) = not (is_open x) && are_closed k xs

-- of as many nodes right behind each node as it keeps, none is open
abbrev pub pass_closed : List Node → Bool
pass_closed [] = true
pass_closed (x ∷ xs) = are_closed x.closed_behind (nodes_view xs) && pass_closed xs

-- whether some node is stuck or terminal
abbrev pub some_failed : List ProofNode → Bool
some_failed = list_any (λ x. is_failed x.arc)

-- the node leads on, or is a leaf of which something is known
abbrev pub is_settled : Option NodeArc → Bool
is_settled None = false
is_settled (Some (split [])) = false
is_settled (Some (branch rules [])) = false
is_settled (Some _) = true

-- how many nodes aren't
abbrev pub unsettled : List ProofNode → ℕ
unsettled = count_by (λ x. not (is_settled x.arc))
