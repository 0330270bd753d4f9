-- What new nodes below an open node have to do with its arc.
use Rattle.std.specs.Prelude.{◌≡◌, ℕ, ◌+◌, ◌<◌, ◌≤◌, true, false, ◌||◌, Some, None, List, length}
use Rattle.std.specs.List.{AllByRecursion}
use Rattle.kp_graph.specs.Tree.{NodeArc, ProofNode, node_at, progress_at, leads_to, gives_progress, is_failed}
use Rattle.kp_graph.specs.Kept.{is_settled}

-- a new node below node n: without arc, not held
pub record IsNewBelow (n : ℕ) (z : ProofNode) : Type 0 where
  pub parent : z.parent ≡ Some n
  pub arc : z.arc ≡ None
  pub held : z.held ≡ None

-- the arc of node n leads to the new nodes behind the others, and to no other, and each has the progress of its step
pub record IsGrowth (tree : List ProofNode) (n : ℕ) (a : NodeArc) (zs : List ProofNode) : Type 0 where
  pub only : (m : ℕ) → leads_to m (Some a) ≡ true → (length tree < m) × (m ≤ length tree + length zs)
  pub leads : (m : ℕ) → length tree < m → m ≤ length tree + length zs → leads_to m (Some a) ≡ true
  pub below : AllByRecursion (IsNewBelow n) zs
  pub progress : (j : ℕ) (z : ProofNode) → node_at zs j ≡ Some z → z.progress ≡ (progress_at tree n || gives_progress (length tree + j) (Some a))
  pub some : 0 < length zs → is_settled (Some a) ≡ true
  pub none : length zs ≡ 0 → is_settled (Some a) ≡ false
  pub safe : is_failed (Some a) ≡ false
