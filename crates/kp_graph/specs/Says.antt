-- What the arcs of a tree say of its nodes' states, each in the theory that it was asked in.
-- Source: pyk's KCFG (edge, split, branch, cover, vacuous, stuck) and APRProof; All-Path Reachability Logic.
use Rattle.std.specs.Prelude.{◌≡◌, ℕ, ◌<◌, Bool, true, ◌||◌, Option, Some, None, List, ⊤, map}
use Rattle.std.specs.List.{AllByRecursion, AllZip}
use Rattle.kp_kore.specs.Syntax.{Text, KorePattern}
use Rattle.kp_kore.specs.Rules.{RewriteRule}
use Rattle.kp_kore.specs.Theory.{Theory}
use Rattle.kp_kore.specs.Replies.{is_listed}
use Rattle.kp_kore.specs.Claims.{ReachabilityClaim}
use Rattle.kp_kore.specs.ClaimRules.{with_rules, is_progress, MayUse}
use Rattle.kp_kore.specs.Arcs.{EdgeSays, SplitSays, BranchChild, BranchSays, CoverSays, VacuousSays, StuckSays}
use Rattle.kp_graph.specs.Tree.{NodeArc, edge, split, branch, cover, vacuous, stuck, terminal, ProofNode, node_at}

-- the node of that number stands behind node n, and has this state and progress
pub record IsBehind (tree : List ProofNode) (n to : ℕ) (s : KorePattern) (b : Bool) : Type 0 where
  pub node : ProofNode
  pub at : node_at tree to ≡ Some node
  pub behind : n < to
  pub state : node.state ≡ s
  pub progress : node.progress ≡ b

-- the claims' rules of the theory in which an arc was asked, and the rules that the question listed
pub record Asked (dependencies circularities : List ReachabilityClaim) (progress : Bool) : Type 0 where
  pub rules : List RewriteRule
  pub may : MayUse dependencies circularities progress rules
  pub listed : List Text
  pub all : AllByRecursion (λ r. is_listed listed r ≡ true) rules

-- the nodes of these numbers have these states and the node's progress
abbrev pub ArePartsOf : List ProofNode → ℕ → Bool → List ℕ → List KorePattern → Type 0
ArePartsOf tree n progress tos states = AllZip (λ to s. IsBehind tree n to s progress) tos states

-- and as children of a branch that of their steps, too
abbrev pub AreBranchesOf : List ProofNode → ℕ → Bool → List ℕ → List BranchChild → Type 0
AreBranchesOf tree n progress tos children = AllZip (λ to k. IsBehind tree n to k.state (progress || is_progress k.rule)) tos children

-- what the arc of node n, which is x, says
abbrev pub ArcSays : Theory → List ReachabilityClaim → List ReachabilityClaim → ReachabilityClaim → List ProofNode → ℕ → ProofNode → Option NodeArc → Type 0
ArcSays t dependencies circularities claim tree n x None = ⊤
ArcSays t dependencies circularities claim tree n x (Some (edge d to flagged)) =
    (asked : Asked dependencies circularities x.progress) × (s : KorePattern) × IsBehind tree n to s true × EdgeSays (with_rules t asked.rules) asked.listed x.state s d
ArcSays t dependencies circularities claim tree n x (Some (split tos)) =
    (states : List KorePattern) × ArePartsOf tree n x.progress tos states × SplitSays t x.state states
ArcSays t dependencies circularities claim tree n x (Some (branch rules tos)) =
    (asked : Asked dependencies circularities x.progress) × (children : List BranchChild) × (map (λ k. k.rule) children ≡ rules) × AreBranchesOf tree n x.progress tos children ×
    BranchSays (with_rules t asked.rules) x.state children
ArcSays t dependencies circularities claim tree n x (Some cover) = CoverSays t claim x.state
ArcSays t dependencies circularities claim tree n x (Some vacuous) = VacuousSays t claim x.state
ArcSays t dependencies circularities claim tree n x (Some stuck) = StuckSays t x.state
-- a terminal node says nothing: its state was ended by a terminal rule, and isn't covered
ArcSays t dependencies circularities claim tree n x (Some terminal) = ⊤

-- each node's arc says so of it
pub record TreeSays (t : Theory) (dependencies circularities : List ReachabilityClaim) (claim : ReachabilityClaim) (tree : List ProofNode) : Type 0 where
  pub says : (n : ℕ) (x : ProofNode) → node_at tree n ≡ Some x → ArcSays t dependencies circularities claim tree n x x.arc
