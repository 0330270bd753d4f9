-- A tree that passes is a proof of its claim.
use Rattle.std.proofs.Common.{◌≡◌, refl, sym, ◌∙◌, ap, subst, ℕ, zero, suc, ◌+◌, ◌<◌, ◌≤◌, Bool, true, false, ◌||◌, Option, Some, None, option_map, List, [], ◌∷◌, length, slice_get, arith}
use Rattle.std.specs.List.{AllByRecursion}
use Rattle.std.specs.Option.{option_map_or}
use Rattle.kp_kore.specs.Syntax.{KorePattern}
use Rattle.kp_kore.specs.Parts.{free_variables}
use Rattle.kp_kore.specs.Theory.{Theory}
use Rattle.kp_kore.specs.Replies.{IsFreshName}
use Rattle.kp_kore.specs.Claims.{ReachabilityClaim, Holds, HoldsAfter}
use Rattle.kp_kore.specs.ClaimRules.{is_progress}
use Rattle.kp_kore.specs.Arcs.{BranchChild, HasNoFreshName}
use Rattle.kp_kore.specs.ProofTrees as proofs
use Rattle.kp_kore.specs.ProofTrees.{Proof, Proofs, BranchProofs, no_children, next_child, no_branches, next_branch}
use Rattle.kp_kore.proofs.Soundness.{proof_steps, steps_hold}
use Rattle.kp_graph.specs.Tree.{ProofNode, NodeArc, edge, split, branch, cover, vacuous, stuck, terminal, node_at, IsTree, status_of}
use Rattle.kp_graph.specs.Says.{IsBehind, ArePartsOf, AreBranchesOf, ArcSays, TreeSays}
use Rattle.kp_graph.specs.declared.status.Status.TheVariants.{Passed}
use Rattle.kp_graph.proofs.StatusLemmas.{covered, settles, settled, passed_covers}

-- the nodes behind n have proofs
Behind : Theory → List ReachabilityClaim → List ReachabilityClaim → ReachabilityClaim → List ProofNode → ℕ → Type 0
Behind t dependencies circularities claim tree n = (m : ℕ) (y : ProofNode) → n < m → node_at tree m ≡ Some y → Proof t dependencies circularities claim y.progress y.state

child_proof : (t : Theory) (dependencies circularities : List ReachabilityClaim) (claim : ReachabilityClaim) (tree : List ProofNode) (n to : ℕ) (s : KorePattern) (b : Bool) → Behind t dependencies circularities claim tree n → IsBehind tree n to s b → Proof t dependencies circularities claim b s
unfolding Behind
child_proof t dependencies circularities claim tree n to s b behind c = subst (λ p. Proof t dependencies circularities claim b p) c.state (subst (λ f. Proof t dependencies circularities claim f c.node.state) c.progress (behind to c.node c.behind c.at))

split_proofs : (t : Theory) (dependencies circularities : List ReachabilityClaim) (claim : ReachabilityClaim) (tree : List ProofNode) (n : ℕ) (b : Bool) (tos : List ℕ) (states : List KorePattern) → Behind t dependencies circularities claim tree n → ArePartsOf tree n b tos states → Proofs t dependencies circularities claim b states
split_proofs t dependencies circularities claim tree n b [] [] behind zip = no_children b
split_proofs t dependencies circularities claim tree n b [] (s ∷ ss) behind zip = absurd zip
split_proofs t dependencies circularities claim tree n b (m ∷ ms) [] behind zip = absurd zip
split_proofs t dependencies circularities claim tree n b (m ∷ ms) (s ∷ ss) behind zip = next_child b s ss (child_proof t dependencies circularities claim tree n m s b behind zip.0) (split_proofs t dependencies circularities claim tree n b ms ss behind zip.1)

branch_proofs : (t : Theory) (dependencies circularities : List ReachabilityClaim) (claim : ReachabilityClaim) (tree : List ProofNode) (n : ℕ) (b : Bool) (tos : List ℕ) (children : List BranchChild) → Behind t dependencies circularities claim tree n → AreBranchesOf tree n b tos children → BranchProofs t dependencies circularities claim b children
branch_proofs t dependencies circularities claim tree n b [] [] behind zip = no_branches b
branch_proofs t dependencies circularities claim tree n b [] (k ∷ ks) behind zip = absurd zip
branch_proofs t dependencies circularities claim tree n b (m ∷ ms) [] behind zip = absurd zip
branch_proofs t dependencies circularities claim tree n b (m ∷ ms) (k ∷ ks) behind zip = next_branch b k ks (child_proof t dependencies circularities claim tree n m k.state (b || is_progress k.rule) behind zip.0) (branch_proofs t dependencies circularities claim tree n b ms ks behind zip.1)

-- the proof of a node, from those of the nodes behind it
by_arc : (t : Theory) (dependencies circularities : List ReachabilityClaim) (claim : ReachabilityClaim) (tree : List ProofNode) (n : ℕ) (x : ProofNode) → Behind t dependencies circularities claim tree n → (a : Option NodeArc) → ArcSays t dependencies circularities claim tree n x a → settles a ≡ true → Proof t dependencies circularities claim x.progress x.state
by_arc t dependencies circularities claim tree n x behind None says e = absurd (cc)
by_arc t dependencies circularities claim tree n x behind (Some stuck) says e = absurd (cc)
by_arc t dependencies circularities claim tree n x behind (Some terminal) says e = absurd (cc)
by_arc t dependencies circularities claim tree n x behind (Some cover) says e = proofs.cover x.progress x.state says
by_arc t dependencies circularities claim tree n x behind (Some vacuous) says e = proofs.vacuous x.progress x.state says
by_arc t dependencies circularities claim tree n x behind (Some (edge d to f)) says e = proofs.edge x.progress x.state says.1 says.0.rules says.0.listed d says.0.may says.0.all says.3 (child_proof t dependencies circularities claim tree n to says.1 true behind says.2)
by_arc t dependencies circularities claim tree n x behind (Some (split tos)) says e = proofs.split x.progress x.state says.0 says.2 (split_proofs t dependencies circularities claim tree n x.progress tos says.0 behind says.1)
by_arc t dependencies circularities claim tree n x behind (Some (branch rules tos)) says e = proofs.branch x.progress x.state says.0.rules says.1 says.0.may says.4 (branch_proofs t dependencies circularities claim tree n x.progress tos says.1 behind says.3)

-- a number with a node is one of the tree
within_of : (tree : List ProofNode) (n : ℕ) (x : ProofNode) → node_at tree n ≡ Some x → n ≤ length tree
within_of tree zero x at = omega arith
within_of tree (suc i) x at = inside tree i at
  where
    inside : (xs : List ProofNode) (i : ℕ) → slice_get xs i ≡ Some x → suc i ≤ length xs
    inside [] i e = absurd (cc)
    inside (y ∷ ys) zero e = omega arith
    inside (y ∷ ys) (suc i) e = omega (arith, inside ys i e)

settled_at : (tree : List ProofNode) (n : ℕ) (x : ProofNode) → covered tree ≡ true → node_at tree n ≡ Some x → settles x.arc ≡ true
settled_at tree zero x e at = absurd (cc)
settled_at tree (suc i) x e at = settled tree i x e at

-- from a node with at most k nodes behind it
proof_from : (t : Theory) (dependencies circularities : List ReachabilityClaim) (claim : ReachabilityClaim) (tree : List ProofNode) → TreeSays t dependencies circularities claim tree → covered tree ≡ true → (k n : ℕ) (x : ProofNode) → length tree ≤ n + k → node_at tree n ≡ Some x → Proof t dependencies circularities claim x.progress x.state
unfolding Behind
proof_from t dependencies circularities claim tree said all zero n x long at = by_arc t dependencies circularities claim tree n x (λ m y l there. let past : m ≤ length tree = within_of tree m y there in absurd (omega (arith, past, l, long))) x.arc (said.says n x at) (settled_at tree n x all at)
proof_from t dependencies circularities claim tree said all (suc k) n x long at = by_arc t dependencies circularities claim tree n x (λ m y l there. proof_from t dependencies circularities claim tree said all k m y (omega (arith, l, long)) there) x.arc (said.says n x at) (settled_at tree n x all at)

-- the theorem
pub passed_holds : (t : Theory) (dependencies circularities : List ReachabilityClaim) (claim : ReachabilityClaim) (tree : List ProofNode) (first : ProofNode) → HasNoFreshName claim → AllByRecursion (Holds t) dependencies → IsTree tree → node_at tree 1 ≡ Some first → first.state ≡ claim.left → TreeSays t dependencies circularities claim tree → status_of tree ≡ Passed → HoldsAfter t circularities claim
passed_holds t dependencies circularities claim tree first none dep shape at left said passed =
    let flag : first.progress ≡ false = sym (ap (λ o. option_map_or (λ x. x.progress) o false) at) ∙ shape.start in
    let proof : Proof t dependencies circularities claim first.progress first.state = proof_from t dependencies circularities claim tree said (passed_covers tree passed) (length tree) 1 first (omega arith) at in
    proof_steps t dependencies circularities claim none dep (subst (λ p. Proof t dependencies circularities claim false p) left (subst (λ f. Proof t dependencies circularities claim f first.state) flag proof))

-- with itself as its circularity, and without any
pub passed_holds_by_itself : (t : Theory) (dependencies : List ReachabilityClaim) (claim : ReachabilityClaim) (tree : List ProofNode) (first : ProofNode) → HasNoFreshName claim → AllByRecursion (Holds t) dependencies → IsTree tree → node_at tree 1 ≡ Some first → first.state ≡ claim.left → TreeSays t dependencies (claim ∷ []) claim tree → status_of tree ≡ Passed → Holds t claim
passed_holds_by_itself t dependencies claim tree first none dep shape at left said passed = (steps_hold t (claim ∷ []) (passed_holds t dependencies (claim ∷ []) claim tree first none dep shape at left said passed, tt)).0

pub passed_holds_alone : (t : Theory) (dependencies : List ReachabilityClaim) (claim : ReachabilityClaim) (tree : List ProofNode) (first : ProofNode) → HasNoFreshName claim → AllByRecursion (Holds t) dependencies → IsTree tree → node_at tree 1 ≡ Some first → first.state ≡ claim.left → TreeSays t dependencies [] claim tree → status_of tree ≡ Passed → Holds t claim
passed_holds_alone t dependencies claim tree first none dep shape at left said passed n = passed_holds t dependencies [] claim tree first none dep shape at left said passed n (λ k l. tt)

-- the same from a left side without variables and without claims as rules
pub passed_holds_closed : (t : Theory) (claim : ReachabilityClaim) (tree : List ProofNode) → free_variables claim.left ≡ [] → IsTree tree → option_map (λ x. x.state) (node_at tree 1) ≡ Some claim.left → TreeSays t [] [] claim tree → status_of tree ≡ Passed → Holds t claim
passed_holds_closed t claim tree closed shape left said passed = from_first (node_at tree 1) refl left
  where
    from_first : (o : Option ProofNode) → node_at tree 1 ≡ o → option_map (λ x. x.state) o ≡ Some claim.left → Holds t claim
    from_first None at e = absurd (cc)
    from_first (Some x) at e =
        let same : x.state ≡ claim.left = cc in
        passed_holds_alone t [] claim tree x (subst (AllByRecursion (λ y. ¬ IsFreshName y.name)) (sym closed) tt) tt shape at same said passed
