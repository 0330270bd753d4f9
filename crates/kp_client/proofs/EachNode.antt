-- What holds of each node of a tree, where a node is changed or one more comes.
use Rattle.std.proofs.Common.{◌≡◌, subst, ℕ, zero, suc, ◌-◌, Option, Some, None, List, [], ◌∷◌, ◌++◌, refl, slice_get, set}
use Rattle.std.specs.Option.{option_map_or}
use Rattle.std.specs.List.{AllByRecursion}
use Rattle.kp_graph.specs.Tree.{ProofNode, node_at, changed}

placed : (P : ProofNode → Type 0) (tree : List ProofNode) (i : ℕ) (x : ProofNode) → AllByRecursion P tree → slice_get tree i ≡ Some x → P x
placed P [] i x h at = absurd (cc)
placed P (y ∷ ys) zero x h at = let same : y ≡ x = cc in subst P same h.0
placed P (y ∷ ys) (suc i) x h at = placed P ys i x h.1 at

pub of_node : (P : ProofNode → Type 0) (tree : List ProofNode) (n : ℕ) (x : ProofNode) → AllByRecursion P tree → node_at tree n ≡ Some x → P x
of_node P tree zero x h at = absurd (cc)
of_node P tree (suc i) x h at = placed P tree i x h at

replaced : (P : ProofNode → Type 0) (tree : List ProofNode) (i : ℕ) (y : ProofNode) → AllByRecursion P tree → P y → AllByRecursion P (set tree i y)
replaced P [] i y h p = tt
replaced P (x ∷ xs) zero y h p = (p, h.1)
replaced P (x ∷ xs) (suc i) y h p = (h.0, replaced P xs i y h.1 p)

pub of_changed : (P : ProofNode → Type 0) (f : ProofNode → ProofNode) (tree : List ProofNode) (n : ℕ) → ((x : ProofNode) → P x → P (f x)) → AllByRecursion P tree → AllByRecursion P (changed f n tree)
of_changed P f tree n keeps h = by_node (node_at tree n) (λ x at. of_node P tree n x h at)
  where
    by_node : (o : Option ProofNode) → ((x : ProofNode) → o ≡ Some x → P x) → AllByRecursion P (option_map_or (λ x. set tree (n - 1) (f x)) o tree)
    by_node None found = h
    by_node (Some x) found = replaced P tree (n - 1) (f x) h (keeps x (found x refl))

pub of_more : (P : ProofNode → Type 0) (tree : List ProofNode) (z : ProofNode) → AllByRecursion P tree → P z → AllByRecursion P (tree ++ z ∷ [])
of_more P [] z h p = (p, tt)
of_more P (x ∷ xs) z h p = (h.0, of_more P xs z h.1 p)
