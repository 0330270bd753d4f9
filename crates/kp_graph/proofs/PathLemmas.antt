-- Paths of a tree from node 1, and the progress that is kept at its nodes.
use Rattle.std.proofs.Common.{◌≡◌, refl, sym, ◌∙◌, ap, ℕ, zero, suc, ◌<◌, ◌≤◌, Bool, true, false, ◌||◌, Option, Some, None, is_some, List, [], ◌∷◌, length, arith}
use Rattle.std.specs.Option.{option_map_or}
use Rattle.kp_graph.specs.Tree.{ProofNode, NodeArc, node_at, parent_of, progress_at, progresses, gives_progress, leads_to, is_child, IsTree, IsPath, at_first, onward, some_progress, HasProgress}

-- ---- a child has the arc of its parent

record ChildArc (tree : List ProofNode) (p n : ℕ) : Type 0 where
  node : ProofNode
  arc : NodeArc
  at : node_at tree p ≡ Some node
  has : node.arc ≡ Some arc
  leads : leads_to n (Some arc) ≡ true

child_arc_of : (tree : List ProofNode) (p n : ℕ) (x : ProofNode) (a : Option NodeArc) → node_at tree p ≡ Some x → x.arc ≡ a → leads_to n a ≡ true → ChildArc tree p n
child_arc_of tree p n x None at has leads = absurd (cc)
child_arc_of tree p n x (Some a) at has leads = record { node = x; arc = a; at = at; has = has; leads = leads }

child_arc : (tree : List ProofNode) (p n : ℕ) → is_child tree p n ≡ true → ChildArc tree p n
child_arc tree p n e = by_node (node_at tree p) refl e
  where
    by_node : (o : Option ProofNode) → node_at tree p ≡ o → option_map_or (λ x. leads_to n x.arc) o false ≡ true → ChildArc tree p n
    by_node None at leads = absurd (cc)
    by_node (Some x) at leads = child_arc_of tree p n x x.arc at refl leads

-- what a step adds
step_is : (tree : List ProofNode) (p n : ℕ) (x : ProofNode) (a : NodeArc) → node_at tree p ≡ Some x → x.arc ≡ Some a → progresses tree p n ≡ gives_progress n (Some a)
step_is tree p n x a at has = ap (λ o. option_map_or (λ x. gives_progress n x.arc) o false) at ∙ ap (gives_progress n) has

or_flip : (a b : Bool) → (a || b) ≡ (b || a)
or_flip true true = refl
or_flip true false = refl
or_flip false true = refl
or_flip false false = refl

-- ---- each node has a path, which has a step that is progress where the node has it

-- node 0 is none
above_zero : (tree : List ProofNode) (p : ℕ) (x : ProofNode) → node_at tree p ≡ Some x → 0 < p
above_zero tree zero x at = absurd (cc)
above_zero tree (suc p) x at = omega arith

some_of : (o : Option ℕ) → is_some o ≡ true → (p : ℕ) × (o ≡ Some p)
some_of None e = absurd (cc)
some_of (Some p) e = (p, refl)

record PathTo (tree : List ProofNode) (n : ℕ) : Type 0 where
  steps : List (NodeArc × ℕ)
  path : IsPath tree n steps

path_to : (tree : List ProofNode) → IsTree tree → (fuel n : ℕ) → n ≤ fuel → 0 < n → n ≤ length tree → PathTo tree n
path_to tree shape zero n below above within = absurd (omega arith)
path_to tree shape (suc fuel) zero below above within = absurd (omega arith)
path_to tree shape (suc fuel) (suc zero) below above within = record { steps = []; path = at_first }
path_to tree shape (suc fuel) (suc (suc m)) below above within =
    let parent : (p : ℕ) × (parent_of tree (suc (suc m)) ≡ Some p) = some_of (parent_of tree (suc (suc m))) (shape.others (suc (suc m)) (omega arith) within) in
    let child : is_child tree parent.0 (suc (suc m)) ≡ true = shape.child parent.0 (suc (suc m)) parent.1 in
    let earlier : parent.0 < suc (suc m) = shape.earlier parent.0 (suc (suc m)) child in
    let arc : ChildArc tree parent.0 (suc (suc m)) = child_arc tree parent.0 (suc (suc m)) child in
    let before : PathTo tree parent.0 = path_to tree shape fuel parent.0 (omega arith) (above_zero tree parent.0 arc.node arc.at) (omega arith) in
    record { steps = (arc.arc, suc (suc m)) ∷ before.steps; path = onward parent.0 (suc (suc m)) arc.node arc.arc before.steps arc.at arc.has arc.leads before.path }

-- what is kept is whether some step of the path is progress
path_tells : (tree : List ProofNode) → IsTree tree → (n : ℕ) (steps : List (NodeArc × ℕ)) → IsPath tree n steps → some_progress steps ≡ progress_at tree n
path_tells tree shape n steps at_first = sym shape.start
path_tells tree shape n steps (onward p m x a more at has leads path) =
    let child : is_child tree p m ≡ true = ap (λ o. option_map_or (λ x. leads_to m x.arc) o false) at ∙ ap (leads_to m) has ∙ leads in
    ap (λ b. gives_progress m (Some a) || b) (path_tells tree shape p more path) ∙ or_flip (gives_progress m (Some a)) (progress_at tree p) ∙ ap (λ b. progress_at tree p || b) (sym (step_is tree p m x a at has)) ∙ sym (shape.progress p m child)

pub kept_progress : (tree : List ProofNode) → IsTree tree → (n : ℕ) → 0 < n → n ≤ length tree → progress_at tree n ≡ true → HasProgress tree n
kept_progress tree shape n above within e =
    let to : PathTo tree n = path_to tree shape n n (omega arith) above within in
    record { steps = to.steps; path = to.path; some = path_tells tree shape n to.steps to.path ∙ e }

pub progress_kept : (tree : List ProofNode) → IsTree tree → (n : ℕ) → HasProgress tree n → progress_at tree n ≡ true
progress_kept tree shape n h = sym (path_tells tree shape n h.steps h.path) ∙ h.some
