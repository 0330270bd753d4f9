-- The test `is_below` tells exactly what is below what.
use Rattle.std.proofs.Common.{◌≡◌, refl, sym, ap, subst, ℕ, zero, suc, ◌<◌, Bool, true, false, ◌&&◌, ◌||◌, ◌⊎◌, inl, inr, List, [], ◌∷◌, length, Contains, slice_index_or, arith}
use Rattle.std.specs.Bool.{Decides}
use Rattle.std.proofs.lemmas.List.Elements.{Contains-append_right}
use Rattle.kp_kore.specs.Syntax.{KoreSort}
use Rattle.kp_kore.specs.Signature.{IsBelow, is_below, itself, through}
use Rattle.kp_kore.proofs.SameLemmas.{sorts_equal-Decides}

-- an element of a list is the first or one of the others
pub first_or_other : {A : Type 0} (p x : A) (ps : List A) (k : ℕ) → k < length (p ∷ ps) → slice_index_or (p ∷ ps) k x ≡ x → (p ≡ x) ⊎ Contains ps x
first_or_other p x ps zero l e = inl e
first_or_other p x ps (suc k) l e = inr (k, omega arith, e)

more_pairs : (p : KoreSort × KoreSort) (ps : List (KoreSort × KoreSort)) (a b : KoreSort) → IsBelow ps a b → IsBelow (p ∷ ps) a b
more_pairs p ps a _ (itself _) = itself a
more_pairs p ps a b (through _ c _ h rest) = through a c b (Contains-append_right (p ∷ []) ps (a, c) h) (more_pairs p ps c b rest)

pub onwards : (ps : List (KoreSort × KoreSort)) (a b c : KoreSort) → IsBelow ps a b → IsBelow ps b c → IsBelow ps a c
onwards ps a _ c (itself _) h = h
onwards ps a b c (through _ d _ k rest) h = through a d c k (onwards ps d b c rest h)

-- what is below by all pairs is below by the others, or goes by the first just once
abbrev Split : (KoreSort × KoreSort) → List (KoreSort × KoreSort) → KoreSort → KoreSort → Type 0
Split p ps a b = IsBelow ps a b ⊎ (IsBelow ps a p.0 × IsBelow ps p.1 b)

begin_at_first : (p : KoreSort × KoreSort) (ps : List (KoreSort × KoreSort)) (a c b : KoreSort) → p ≡ (a, c) → Split p ps c b → Split p ps a b
begin_at_first p ps a c b e (inl rest) = inr (subst (λ s. IsBelow ps a s) (sym (ap (λ q. q.0) e)) (itself a), subst (λ s. IsBelow ps s b) (sym (ap (λ q. q.1) e)) rest)
begin_at_first p ps a c b e (inr rest) = inr (subst (λ s. IsBelow ps a s) (sym (ap (λ q. q.0) e)) (itself a), rest.1)

begin_at_other : (p : KoreSort × KoreSort) (ps : List (KoreSort × KoreSort)) (a c b : KoreSort) → Contains ps (a, c) → Split p ps c b → Split p ps a b
begin_at_other p ps a c b h (inl rest) = inl (through a c b h rest)
begin_at_other p ps a c b h (inr rest) = inr (through a c p.0 h rest.0, rest.1)

begin : (p : KoreSort × KoreSort) (ps : List (KoreSort × KoreSort)) (a c b : KoreSort) → (p ≡ (a, c)) ⊎ Contains ps (a, c) → Split p ps c b → Split p ps a b
begin p ps a c b (inl e) rest = begin_at_first p ps a c b e rest
begin p ps a c b (inr h) rest = begin_at_other p ps a c b h rest

split : (p : KoreSort × KoreSort) (ps : List (KoreSort × KoreSort)) (a b : KoreSort) → IsBelow (p ∷ ps) a b → Split p ps a b
split p ps a _ (itself _) = inl (itself a)
split p ps a b (through _ c _ h rest) = begin p ps a c b (first_or_other p (a, c) ps h.0 h.1 h.2) (split p ps c b rest)

none_below : (a b : KoreSort) → IsBelow [] a b → a ≡ b
none_below a _ (itself _) = refl
none_below a b (through _ c _ h rest) = absurd (nothing_below_zero h.0 h.1)
  where
    nothing_below_zero : (k : ℕ) → k < 0 → ⊥
    nothing_below_zero k h = omega arith

from_split : (p : KoreSort × KoreSort) (ps : List (KoreSort × KoreSort)) (a b : KoreSort) → Split p ps a b → IsBelow (p ∷ ps) a b
from_split p ps a b (inl h) = more_pairs p ps a b h
from_split p ps a b (inr h) =
    onwards (p ∷ ps) a p.0 b (more_pairs p ps a p.0 h.0) (through p.0 p.1 b (0, omega arith, refl) (more_pairs p ps p.1 b h.1))

-- a test by either way decides what holds by either
either_decides : {P Q R S : Type 0} (a b c : Bool) → Decides a P → Decides b Q → Decides c R → (S → P ⊎ (Q × R)) → (P ⊎ (Q × R) → S) → Decides (a || (b && c)) S
either_decides true b c d e f to from = (λ _. from (inl (d.0 refl)), λ _. refl)
either_decides false true true d e f to from = (λ _. from (inr (e.0 refl, f.0 refl)), λ _. refl)
either_decides false true false d e f to from = (λ h. absurd (cc), λ s. elim (to s) [ inl p ↦ d.1 p | inr q ↦ f.1 q.1 ])
either_decides false false c d e f to from = (λ h. absurd (cc), λ s. elim (to s) [ inl p ↦ d.1 p | inr q ↦ e.1 q.0 ])

pub is_below-Decides : (ps : List (KoreSort × KoreSort)) (a b : KoreSort) → Decides (is_below ps a b) (IsBelow ps a b)
is_below-Decides [] a b = let d = sorts_equal-Decides a b in (λ h. subst (λ s. IsBelow [] a s) (d.0 h) (itself a), λ h. d.1 (none_below a b h))
is_below-Decides (p ∷ ps) a b =
    either_decides (is_below ps a b) (is_below ps a p.0) (is_below ps p.1 b)
    (is_below-Decides ps a b) (is_below-Decides ps a p.0) (is_below-Decides ps p.1 b)
    (split p ps a b) (from_split p ps a b)
