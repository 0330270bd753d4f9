-- Gathering the open nodes.
use Rattle.std.proofs.Common.{◌≡◌, refl, sym, ◌∙◌, ap, ℕ, suc, ◌+◌, ◌<◌, Bool, true, false, List, [], ◌∷◌, ◌++◌, map, length, drop, get_or, append_assoc, drop-cons, if◌then◌else◌, arith}
use Rattle.std.proofs.lemmas.List.{length-map, map-append}
use Rattle.std.proofs.lemmas.Option.{get_or_from_slice_get}
use Rattle.kp_graph.specs.Tree.{ProofNode, is_open, open_from}
use Rattle.kp_graph.specs.Kept.{before_open}
use Rattle.kp_graph.specs.View.{node_view, nodes_view}
use Rattle.kp_graph.specs.declared.node.Node.{Node}
use Rattle.kp_graph.specs.declared.node.NodeId.{NodeId}
use Rattle.kp_graph.proofs.Places.{kept_at}

-- the open nodes from a place on, by whether the node there is open
from_place : (nodes : List Node) (i : ℕ) (x : Node) (b : Bool) → i < length nodes → x ≡ get_or nodes i x → is_open (node_view x) ≡ b → open_from (i + 1) (drop i (nodes_view nodes)) ≡ (if b then (i + 1) ∷ open_from (i + 1 + 1) (drop (i + 1) (nodes_view nodes)) else open_from (i + 1 + 1) (drop (i + 1) (nodes_view nodes)))
from_place nodes i x b within e o =
    let long : length (nodes_view nodes) ≡ length nodes = length-map nodes node_view in
    let here : get_or (nodes_view nodes) i (node_view x) ≡ node_view x = get_or_from_slice_get (nodes_view nodes) i (node_view x) (node_view x) (kept_at nodes i x within e) in
    let next : suc i ≡ i + 1 = omega arith in
    let cut : drop i (nodes_view nodes) ≡ node_view x ∷ drop (i + 1) (nodes_view nodes) = drop-cons (nodes_view nodes) i (node_view x) (omega (arith, long)) ∙ ap (λ y. y ∷ drop (suc i) (nodes_view nodes)) here ∙ ap (λ k. node_view x ∷ drop k (nodes_view nodes)) next in
    rw (cut, o) refl

pub pending_then : (nodes items : List Node) (i : ℕ) (x : Node) (before after : List NodeId) (all : List ℕ) → items ≡ nodes → i < length items → x ≡ get_or items i x → is_open (node_view x) ≡ true → after ≡ before ++ record { number = i + 1 } ∷ [] → map (λ n. n.number) before ++ open_from (i + 1) (drop i (nodes_view nodes)) ≡ all → map (λ n. n.number) after ++ open_from (i + 1 + 1) (drop (i + 1) (nodes_view nodes)) ≡ all
pending_then nodes items i x before after all same within e o pushed invariant =
    let here = from_place nodes i x true (rw same at within) (rw same at e) o in
    rw (pushed, map-append (λ (n : NodeId). n.number) before (record { number = i + 1 } ∷ []))
    (append_assoc (map (λ n. n.number) before) ((i + 1) ∷ []) (open_from (i + 1 + 1) (drop (i + 1) (nodes_view nodes))) ∙ ap (λ l. map (λ n. n.number) before ++ l) (sym here) ∙ invariant)

pub pending_else : (nodes items : List Node) (i : ℕ) (x : Node) (before after : List NodeId) (all : List ℕ) → items ≡ nodes → i < length items → x ≡ get_or items i x → is_open (node_view x) ≡ false → after ≡ before → map (λ n. n.number) before ++ open_from (i + 1) (drop i (nodes_view nodes)) ≡ all → map (λ n. n.number) after ++ open_from (i + 1 + 1) (drop (i + 1) (nodes_view nodes)) ≡ all
pending_else nodes items i x before after all same within e o kept invariant =
    let here = from_place nodes i x false (rw same at within) (rw same at e) o in
    rw kept (ap (λ l. map (λ n. n.number) before ++ l) (sym here) ∙ invariant)

-- the nodes before the first open one add nothing
pub open_from_first : (n : ℕ) (tree : List ProofNode) → open_from (before_open tree + n) (drop (before_open tree) tree) ≡ open_from n tree
open_from_first n [] = refl
open_from_first n (x ∷ xs) = by_test (is_open x) refl (open_from_first (n + 1) xs)
  where
    by_test : (b : Bool) → is_open x ≡ b → open_from (before_open xs + (n + 1)) (drop (before_open xs) xs) ≡ open_from (n + 1) xs → open_from (before_open (x ∷ xs) + n) (drop (before_open (x ∷ xs)) (x ∷ xs)) ≡ open_from n (x ∷ xs)
    by_test true o more = let zero : 0 + n ≡ n = omega arith in rw (o, zero) (rw o refl)
    by_test false o more = let number : suc (before_open xs) + n ≡ before_open xs + (n + 1) = omega arith in rw (o, number) more
