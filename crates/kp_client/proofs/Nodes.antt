-- The open node of the least number, and trees without an open node.
use Rattle.std.proofs.Common.{◌≡◌, refl, sym, ◌∙◌, ap, ℕ, zero, suc, ◌+◌, ◌<◌, ◌≤◌, Bool, true, false, not, cond, inl, inr, Option, Some, None, is_none, List, [], ◌∷◌, length, slice_get, option_map, arith}
use Rattle.std.specs.List.{AllByRecursion}
use Rattle.std.proofs.lemmas.List.Sums.{sum_by-cons}
use Rattle.std.proofs.lemmas.Option.{slice_get_within}
use Rattle.kp_graph.specs.Tree.{ProofNode, NodeArc, HeldBy, IsNode, node_at, is_open, open_from, arc_fault}
use Rattle.kp_graph.specs.Kept.{is_settled, unsettled}
use Rattle.kp_graph.proofs.Places.{at_place, none_open}
use Rattle.kp_graph.proofs.Opened.{split}
use Rattle.kp_client.specs.Rounds.{least_open, IsNoneHeld, IsFirstHeld}

-- an open node of a number
pub record IsOpenAt (tree : List ProofNode) (n : ℕ) : Type 0 where
  pub node : ProofNode
  pub at : node_at tree n ≡ Some node
  pub free : arc_fault tree n ≡ None
  pub there : IsNode tree n

record IsOpenFrom (k : ℕ) (tree : List ProofNode) (n : ℕ) : Type 0 where
  place : ℕ
  node : ProofNode
  number : place + k ≡ n
  at : slice_get tree place ≡ Some node
  free : is_open node ≡ true

open_from_at : (k : ℕ) (tree : List ProofNode) (n : ℕ) → slice_get (open_from k tree) 0 ≡ Some n → IsOpenFrom k tree n
open_from_at k [] n e = absurd (cc)
open_from_at k (x ∷ xs) n e = by_test (is_open x) refl e (open_from_at (k + 1) xs n)
  where
    by_test : (b : Bool) → is_open x ≡ b → slice_get (open_from k (x ∷ xs)) 0 ≡ Some n → (slice_get (open_from (k + 1) xs) 0 ≡ Some n → IsOpenFrom (k + 1) xs n) → IsOpenFrom k (x ∷ xs) n
    by_test true o h more =
        let here : Some k ≡ Some n = rw o at h in
        let same : k ≡ n = cc in
        record { place = 0; node = x; number = omega arith; at = refl; free = o }
    by_test false o h more =
        let later : IsOpenFrom (k + 1) xs n = more (rw o at h) in
        let number : later.place + (k + 1) ≡ n = later.number in
        record { place = suc later.place; node = later.node; number = omega arith; at = later.at; free = later.free }

pub open_at : (tree : List ProofNode) (n : ℕ) → least_open tree ≡ Some n → IsOpenAt tree n
open_at tree n e =
    let o : IsOpenFrom 1 tree n = open_from_at 1 tree n e in
    let number : o.place + 1 ≡ n = o.number in
    let within : o.place < length tree = slice_get_within tree o.place o.node o.at in
    let at : node_at tree n ≡ Some o.node = at_place tree n o.place number ∙ o.at in
    record { node = o.node; at = at; free = rw at (none_open o.node o.free); there = (omega arith, omega arith) }

-- what has an arc is settled: the prover makes no arc to no nodes
abbrev pub IsSettledNode : ProofNode → Type 0
IsSettledNode x = is_none x.arc ≡ false → is_settled x.arc ≡ true

abbrev pub AreSettled : List ProofNode → Type 0
AreSettled = AllByRecursion IsSettledNode

-- where no node is open and none is held, each is settled
none_from : (k : ℕ) (tree : List ProofNode) → AreSettled tree → slice_get (open_from k tree) 0 ≡ None → ((i : ℕ) (x : ProofNode) → slice_get tree i ≡ Some x → x.held ≡ None) → unsettled tree ≡ 0
none_from k [] a e h = refl
none_from k (x ∷ xs) a e h = sum_by-cons (λ x. cond (not (is_settled x.arc)) 1 0) x xs ∙ by_arc x.arc x.held refl (h 0 x refl) e (none_from (k + 1) xs a.1)
  where
    held_on : (i : ℕ) (y : ProofNode) → slice_get xs i ≡ Some y → y.held ≡ None
    held_on i y at = h (suc i) y at

    by_arc : (b : Option NodeArc) (w : Option HeldBy) → x.arc ≡ b → w ≡ None → slice_get (open_from k (x ∷ xs)) 0 ≡ None → (slice_get (open_from (k + 1) xs) 0 ≡ None → ((i : ℕ) (y : ProofNode) → slice_get xs i ≡ Some y → y.held ≡ None) → unsettled xs ≡ 0) → cond (not (is_settled x.arc)) 1 0 + unsettled xs ≡ 0
    by_arc None w is none empty more =
        let free : is_open x ≡ true = rw (is, h 0 x refl) refl in
        let first : Some k ≡ None = rw free at empty in
        absurd (cc)
    by_arc (Some b) w is none empty more =
        let closed : is_open x ≡ false = rw is refl in
        let rest : unsettled xs ≡ 0 = more (rw closed at empty) held_on in
        let settled : is_settled x.arc ≡ true = a.0 (ap is_none is) in
        rw settled (omega arith)

pub none_unsettled : (tree : List ProofNode) → AreSettled tree → least_open tree ≡ None → IsNoneHeld tree → unsettled tree ≡ 0
none_unsettled tree a e h = none_from 1 tree a e (λ i x at. h (suc i) x at)

-- ---- held nodes

within_of : (tree : List ProofNode) (n : ℕ) (x : ProofNode) → node_at tree n ≡ Some x → n ≤ length tree
within_of tree zero x at = omega arith
within_of tree (suc i) x at = let l : i < length tree = slice_get_within tree i x at in omega arith

-- none of the nodes before n is held
abbrev pub IsNoneHeldBefore : List ProofNode → ℕ → Type 0
IsNoneHeldBefore tree n = (m : ℕ) (x : ProofNode) → m < n → node_at tree m ≡ Some x → x.held ≡ None

pub none_before_first : (tree : List ProofNode) → IsNoneHeldBefore tree 1
none_before_first tree zero x l at = absurd (cc)
none_before_first tree (suc m) x l at = absurd (omega arith)

held_of : (o : Option ProofNode) (h : Option HeldBy) (x : ProofNode) → option_map (λ y. y.held) o ≡ Some h → o ≡ Some x → x.held ≡ h
held_of None h x e at = absurd (cc)
held_of (Some y) h x e at =
    let same : y ≡ x = cc in
    let is : y.held ≡ h = cc in
    ap (λ (z : ProofNode). z.held) (sym same) ∙ is

pub one_more_not_held : (tree : List ProofNode) (n : ℕ) → IsNoneHeldBefore tree n → option_map (λ x. x.held) (node_at tree n) ≡ Some None → IsNoneHeldBefore tree (n + 1)
one_more_not_held tree n before here m x l at = elim (split n m) [
  | inl le ↦ (let same : n ≡ m = omega arith in held_of (node_at tree n) None x here (ap (node_at tree) same ∙ at))
  | inr lt ↦ before m x lt at
]

pub first_held_at : (tree : List ProofNode) (n : ℕ) (why : HeldBy) → IsNoneHeldBefore tree n → option_map (λ x. x.held) (node_at tree n) ≡ Some (Some why) → IsFirstHeld tree n why
first_held_at tree n why before here = by_node (node_at tree n) refl here
  where
    by_node : (o : Option ProofNode) → node_at tree n ≡ o → option_map (λ x. x.held) o ≡ Some (Some why) → IsFirstHeld tree n why
    by_node None at e = absurd (cc)
    by_node (Some x) at e = let held : x.held ≡ Some why = cc in record { node = x; at = at; held = held; none_before = before }

pub none_is_held : (tree : List ProofNode) (n : ℕ) → IsNoneHeldBefore tree n → length tree < n → IsNoneHeld tree
none_is_held tree n before long m x at = let l : m ≤ length tree = within_of tree m x at in before m x (omega arith) at
