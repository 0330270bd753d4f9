-- An open node, and the list with another in its place.
use Rattle.std.proofs.Common.{◌≡◌, refl, ◌∙◌, ap, ℕ, zero, suc, ◌+◌, ◌-◌, ◌<◌, ◌≤◌, Bool, true, false, Option, Some, None, is_none, ◌&&◌, ◌⊎◌, inl, inr, List, [], ◌∷◌, ◌++◌, length, slice_get, set, arith}
use Rattle.std.specs.Option.{option_map_or}
use Rattle.std.proofs.lemmas.Option.{slice_get_within}
use Rattle.std.proofs.lemmas.List.{set-append_left}
use Rattle.kp_graph.specs.Tree.{ProofNode, is_open, arc_fault, fault_of, changed}
use Rattle.kp_graph.specs.declared.node.TreeFault.TheVariants.{NotOpen}
use Rattle.kp_graph.proofs.Places.{get_front}

pub record Opened (tree : List ProofNode) (n : ℕ) : Type 0 where
  pub node : ProofNode
  pub place : ℕ
  pub number : place + 1 ≡ n
  pub within : place < length tree
  pub at : slice_get tree place ≡ Some node
  pub arc : is_none node.arc ≡ true
  pub held : is_none node.held ≡ true

both_of : (a b : Bool) → (a && b) ≡ true → (a ≡ true) × (b ≡ true)
both_of true b e = (refl, e)
both_of false b e = absurd (cc)

pub opened : (tree : List ProofNode) (n : ℕ) → arc_fault tree n ≡ None → Opened tree n
opened tree zero e = absurd (cc)
opened tree (suc i) e = by_node (slice_get tree i) refl e
  where
    by_test : (x : ProofNode) (b : Bool) → slice_get tree i ≡ Some x → is_open x ≡ b → fault_of (Some x) ≡ None → Opened tree (suc i)
    by_test x false at o f = let no : Some NotOpen ≡ None = rw o at f in absurd (cc)
    by_test x true at o f =
        let both : (is_none x.arc ≡ true) × (is_none x.held ≡ true) = both_of (is_none x.arc) (is_none x.held) o in
        record { node = x; place = i; number = omega arith; within = slice_get_within tree i x at; at = at; arc = both.0; held = both.1 }

    by_node : (o : Option ProofNode) → slice_get tree i ≡ o → fault_of o ≡ None → Opened tree (suc i)
    by_node None at f = absurd (cc)
    by_node (Some x) at f = by_test x (is_open x) at refl f

-- the list with an open node changed
pub changes : (f : ProofNode → ProofNode) (tree : List ProofNode) (n : ℕ) (o : Opened tree n) → changed f n tree ≡ set tree o.place (f o.node)
changes f tree zero o = let no : o.place + 1 ≡ 0 = o.number in absurd (omega arith)
changes f tree (suc i) o =
    let number : o.place + 1 ≡ suc i = o.number in
    let same : i ≡ o.place = omega arith in
    let place : suc i - 1 ≡ o.place = omega arith in
    let at : slice_get tree i ≡ Some o.node = ap (slice_get tree) same ∙ o.at in
    ap (λ v. option_map_or (λ x. set tree (suc i - 1) (f x)) v tree) at ∙ ap (λ k. set tree k (f o.node)) place

-- a node is changed before or after others are added
pub changes_front : (f : ProofNode → ProofNode) (tree zs : List ProofNode) (i : ℕ) → i < length tree → changed f (i + 1) (tree ++ zs) ≡ changed f (i + 1) tree ++ zs
changes_front f tree zs i within = by_node (slice_get tree i) refl
  where
    place : suc i - 1 ≡ i
    place = omega arith

    number : i + 1 ≡ suc i
    number = omega arith

    by_node : (o : Option ProofNode) → slice_get tree i ≡ o → changed f (i + 1) (tree ++ zs) ≡ changed f (i + 1) tree ++ zs
    by_node None at = let none : ⊥ = past tree i within at in absurd none
      where
        past : (xs : List ProofNode) (i : ℕ) → i < length xs → slice_get xs i ≡ None → ⊥
        past [] i l e = omega (arith, l)
        past (x ∷ xs) zero l e = cc
        past (x ∷ xs) (suc i) l e = past xs i (omega (arith, l)) e
    by_node (Some x) at =
        let front : slice_get (tree ++ zs) i ≡ Some x = get_front tree zs i within ∙ at in
        rw (number, front, at, place) (set-append_left tree zs i (f x) within)

-- ---- what stands where

pub split : (a b : ℕ) → (a ≤ b) ⊎ (b < a)
split zero b = inl (omega arith)
split (suc a) zero = inr (omega arith)
split (suc a) (suc b) = elim (split a b) [ inl l ↦ inl (omega arith) | inr l ↦ inr (omega arith) ]

-- with y in the place i, what stands at k
pub get_set : (tree : List ProofNode) (i k : ℕ) (x y : ProofNode) → slice_get tree i ≡ Some x → ((k ≡ i) × (slice_get (set tree i y) k ≡ Some y)) ⊎ (slice_get (set tree i y) k ≡ slice_get tree k)
get_set [] i k x y at = absurd (cc)
get_set (z ∷ zs) zero zero x y at = inl (refl, refl)
get_set (z ∷ zs) zero (suc k) x y at = inr refl
get_set (z ∷ zs) (suc i) zero x y at = inr refl
get_set (z ∷ zs) (suc i) (suc k) x y at = elim (get_set zs i k x y at) [ inl h ↦ inl (ap suc h.0, h.1) | inr h ↦ inr h ]

pub get_placed : (tree : List ProofNode) (i : ℕ) (x y : ProofNode) → slice_get tree i ≡ Some x → slice_get (set tree i y) i ≡ Some y
get_placed [] i x y at = absurd (cc)
get_placed (z ∷ zs) zero x y at = refl
get_placed (z ∷ zs) (suc i) x y at = get_placed zs i x y at

-- behind all members stands only the one added
pub get_end : (tree : List ProofNode) (z w : ProofNode) (k : ℕ) → length tree ≤ k → slice_get (tree ++ z ∷ []) k ≡ Some w → (k ≡ length tree) × (w ≡ z)
get_end [] z w zero l at = (refl, cc)
get_end [] z w (suc k) l at = absurd (cc)
get_end (x ∷ xs) z w zero l at = absurd (omega arith)
get_end (x ∷ xs) z w (suc k) l at = let rest : (k ≡ length xs) × (w ≡ z) = get_end xs z w k (omega arith) at in (ap suc rest.0, rest.1)
