-- Nodes by their numbers, and lists with one member in another's place.
use Rattle.std.proofs.Common.{◌≡◌, refl, sym, ◌∙◌, ap, ℕ, zero, suc, ◌+◌, ◌-◌, ◌<◌, ◌≤◌, Bool, true, false, Option, Some, None, List, [], ◌∷◌, ◌++◌, length, slice_get, set, get_or, option_map, option_copied, Bor, arith}
use Rattle.std.specs.Option.{option_map_or}
use Rattle.std.proofs.lemmas.Option.{slice_get-map, slice_get_read, slice_get-get_or, get_or_from_slice_get}
use Rattle.std.proofs.lemmas.List.{length-map, map-set}
use Rattle.std.proofs.Math.Seq.{map-set_same}
use Rattle.kp_graph.specs.Tree.{ProofNode, node_at, progress_at, is_open, arc_fault, fault_of, changed}
use Rattle.kp_graph.specs.View.{node_view, nodes_view}
use Rattle.kp_graph.specs.declared.node.Node.{Node}
use Rattle.kp_graph.specs.declared.node.TreeFault.TheVariants.{NotOpen}

-- the node of a number stands one place before it
pub at_place : (tree : List ProofNode) (n i : ℕ) → i + 1 ≡ n → node_at tree n ≡ slice_get tree i
at_place tree zero i e = absurd (omega arith)
at_place tree (suc n) i e = let same : n ≡ i = omega arith in ap (slice_get tree) same

-- the node of a number, as it is kept
pub at_kept : (nodes : List Node) (n i : ℕ) → i + 1 ≡ n → node_at (nodes_view nodes) n ≡ option_map node_view (slice_get nodes i)
at_kept nodes n i e = at_place (nodes_view nodes) n i e ∙ slice_get-map node_view nodes i

-- what is read of a kept node is what the node of its number has
pub read : (A : Type 0) (f : ProofNode → A) (nodes : List Node) (n : ℕ) (x : Node) → 0 < n → n ≤ length (nodes_view nodes) → x ≡ get_or nodes (n - 1) x → option_map f (node_at (nodes_view nodes) n) ≡ Some (f (node_view x))
read A f nodes n x above within e =
    let long : length (nodes_view nodes) ≡ length nodes = length-map nodes node_view in
    let at : slice_get nodes (n - 1) ≡ Some x = slice_get_read nodes (length nodes) (n - 1) x refl (omega (arith, long)) e in
    rw (at_kept nodes n (n - 1) (omega arith), at) refl

-- ---- faults

pub fault_at : (nodes : List Node) (n i : ℕ) (o : Option Node) → i + 1 ≡ n → slice_get nodes i ≡ o → arc_fault (nodes_view nodes) n ≡ fault_of (option_map node_view o)
fault_at nodes n i o e at = rw (at_kept nodes n i e, at) refl

pub none_open : (x : ProofNode) → is_open x ≡ true → fault_of (Some x) ≡ None
none_open x e = rw e refl

pub not_open : (x : ProofNode) → is_open x ≡ false → fault_of (Some x) ≡ Some NotOpen
not_open x e = rw e refl

-- ---- a node in another's place

-- a kept node changed is its node changed
pub put : (f : ProofNode → ProofNode) (nodes : List Node) (i : ℕ) (x y : Node) → i < length nodes → node_view y ≡ f (node_view (get_or nodes i x)) → nodes_view (set nodes i y) ≡ changed f (i + 1) (nodes_view nodes)
put f nodes i x y within e =
    let at : node_at (nodes_view nodes) (i + 1) ≡ Some (node_view (get_or nodes i x)) = at_kept nodes (i + 1) i refl ∙ ap (option_map node_view) (slice_get-get_or nodes i x within) in
    let place : i + 1 - 1 ≡ i = omega arith in
    rw (at, place) (map-set node_view nodes i y ∙ ap (set (nodes_view nodes) i) e)

-- what is looked up with a member in another's place, where both look the same
pub same_look : (A : Type 0) (f : ProofNode → A) (d : A) (tree : List ProofNode) (i k : ℕ) (x y : ProofNode) → slice_get tree i ≡ Some x → f y ≡ f x → option_map_or f (slice_get (set tree i y) k) d ≡ option_map_or f (slice_get tree k) d
same_look A f d tree i k x y at e = looked (slice_get (set tree i y) k) (slice_get tree k) mapped
  where
    mapped : option_map f (slice_get (set tree i y) k) ≡ option_map f (slice_get tree k)
    mapped = sym (slice_get-map f (set tree i y) k) ∙ ap (λ l. slice_get l k) (map-set_same f tree i y x (e ∙ ap f (sym (get_or_from_slice_get tree i x x at)))) ∙ slice_get-map f tree k

    looked : (o p : Option ProofNode) → option_map f o ≡ option_map f p → option_map_or f o d ≡ option_map_or f p d
    looked None None e = refl
    looked None (Some b) e = absurd (cc)
    looked (Some a) None e = absurd (cc)
    looked (Some a) (Some b) e = cc

-- members of a longer list
pub get_front : (xs ys : List ProofNode) (k : ℕ) → k < length xs → slice_get (xs ++ ys) k ≡ slice_get xs k
get_front [] ys k l = absurd (omega arith)
get_front (x ∷ xs) ys zero l = refl
get_front (x ∷ xs) ys (suc k) l = get_front xs ys k (omega arith)

pub get_last : (xs : List ProofNode) (y : ProofNode) (k : ℕ) → k ≡ length xs → slice_get (xs ++ y ∷ []) k ≡ Some y
get_last [] y zero e = refl
get_last [] y (suc k) e = absurd (cc)
get_last (x ∷ xs) y zero e = absurd (omega arith)
get_last (x ∷ xs) y (suc k) e = get_last xs y k (omega arith)

-- a kept node, as it is seen at its place
pub kept_at : (nodes : List Node) (i : ℕ) (x : Node) → i < length nodes → x ≡ get_or nodes i x → slice_get (nodes_view nodes) i ≡ Some (node_view x)
kept_at nodes i x within e = slice_get-map node_view nodes i ∙ ap (option_map node_view) (slice_get_read nodes (length nodes) i x refl within e)

-- an option of references, seen through its values
pub seen_through : (X Y : Type 0) (f : X → Y) (r : Option (Bor X)) (o : Option X) → option_copied r ≡ o → option_map (λ a. f a.now) r ≡ option_map f o
seen_through X Y f None o e = rw (sym e) refl
seen_through X Y f (Some a) o e = rw (sym e) refl

-- the progress that is kept at a node
pub kept_flag : (nodes : List Node) (n : ℕ) (x : Node) → 0 < n → n ≤ length (nodes_view nodes) → x ≡ get_or nodes (n - 1) x → progress_at (nodes_view nodes) n ≡ x.progress
kept_flag nodes n x above within e = looked (node_at (nodes_view nodes) n) (read Bool (λ x. x.progress) nodes n x above within e)
  where
    looked : (o : Option ProofNode) → option_map (λ x. x.progress) o ≡ Some x.progress → option_map_or (λ x. x.progress) o false ≡ x.progress
    looked None h = absurd (cc)
    looked (Some y) h = cc

pub kept_flag_at : (nodes : List Node) (n i : ℕ) (x : Node) → i + 1 ≡ n → i < length nodes → x ≡ get_or nodes i x → progress_at (nodes_view nodes) n ≡ x.progress
kept_flag_at nodes n i x number within e = ap (λ o. option_map_or (λ y. y.progress) o false) (at_kept nodes n i number ∙ ap (option_map node_view) (slice_get_read nodes (length nodes) i x refl within e))
