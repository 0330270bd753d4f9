-- What lies below by numbers lies below by pairs.
use Rattle.std.proofs.Common.{◌≡◌, refl, sym, subst, ◌∙◌, ℕ, zero, suc, ◌<◌, ◌↔◌, List, [], ◌∷◌, length, Contains, arith}
use Rattle.kp_kore.specs.Syntax.{KoreSort}
use Rattle.kp_kore.specs.Signature.{IsBelow, itself, through}
use Rattle.kp_signature.specs.Edges.{Leads, stays, goes, edges_of, IsNumber}
use Rattle.kp_signature.specs.Order.{IsGraphOf, Under, sorts_of}
use Rattle.kp_signature.specs.declared.graph.SortGraph.{SortGraph}
use Rattle.kp_signature.proofs.Below.{onwards}
use Rattle.kp_signature.proofs.EdgeLemmas.{further}

-- a number has one sort
pub one_sort : (sorts : List KoreSort) (i : ℕ) (a b : KoreSort) → IsNumber sorts i a → IsNumber sorts i b → a ≡ b
one_sort [] i a b h k = absurd (no i h.0)
  where
    no : (k : ℕ) → k < 0 → ⊥
    no k h = omega arith
one_sort (c ∷ cs) zero a b h k = sym h.1 ∙ k.1
one_sort (c ∷ cs) (suc i) a b h k = one_sort cs i a b (omega (arith, h.0), h.1) (omega (arith, k.0), k.1)

-- ---- sorts below sorts

module _ (pairs : List (KoreSort × KoreSort)) (x : SortGraph) (ix : IsGraphOf pairs x) where
  pub opposite : (i j : ℕ) → Leads (edges_of x.below.items) i j ↔ Leads (edges_of x.above.items) j i
  opposite i j = (λ l. (ix.above j i).1 ((ix.below i j).0 l), λ l. (ix.below i j).1 ((ix.above j i).0 l))

  pub sort_below : (i j : ℕ) (b : KoreSort) → IsNumber (sorts_of x) i b → Under x i j → (a : KoreSort) × IsNumber (sorts_of x) j a × IsBelow pairs a b
  sort_below i _ b n (stays _) = (b, n, itself b)
  sort_below i j b n (goes _ k _ l more) =
      let p = (ix.below i k).0 l in
      let r = sort_below k j p.lower p.first more in
      (r.0, r.1, onwards pairs r.0 p.lower b r.2 (through p.lower p.upper b p.pair (subst (λ v. IsBelow pairs p.upper v) (one_sort (sorts_of x) i p.upper b p.second n) (itself p.upper))))

  pub number_below : (i : ℕ) (a b : KoreSort) → IsNumber (sorts_of x) i b → IsBelow pairs a b → (j : ℕ) × IsNumber (sorts_of x) j a × Under x i j
  number_below i a _ n (itself _) = (i, n, stays i)
  number_below i a b n (through _ c _ p more) =
      let r = number_below i c b n more in
      let k = (ix.named a c p).0 in
      (k.0, (k.1, k.2), further (edges_of x.below.items) i r.0 k.0 r.2 ((ix.below r.0 k.0).1 (record { lower = a; upper = c; first = (k.1, k.2); second = r.1; pair = p })))

  pub under_is_below : (i j : ℕ) (a b : KoreSort) → IsNumber (sorts_of x) i b → IsNumber (sorts_of x) j a → Under x i j → IsBelow pairs a b
  under_is_below i j a b n m u = let r = sort_below i j b n u in subst (λ v. IsBelow pairs v b) (one_sort (sorts_of x) j r.0 a r.1 m) r.2

  pub below_is_under : (i j : ℕ) (a b : KoreSort) → IsNumber (sorts_of x) i b → IsNumber (sorts_of x) j a → IsBelow pairs a b → Under x i j
  below_is_under i j a b n m h = let r = number_below i a b n h in subst (λ v. Under x i v) (ix.numbering.once r.0 j a r.1 m) r.2

  -- a sort that no pair names
  pub none_above : (a b : KoreSort) → (¬ Contains (sorts_of x) a) → IsBelow pairs a b → a ≡ b
  none_above a _ none (itself _) = refl
  none_above a b none (through _ c _ p more) = absurd (none (ix.named a c p).0)

  pub none_below : (a b : KoreSort) → (¬ Contains (sorts_of x) b) → IsBelow pairs a b → a ≡ b
  none_below a _ none (itself _) = refl
  none_below a b none (through _ c _ p more) = absurd (none (subst (λ v. Contains (sorts_of x) v) (none_below c b none more) (ix.named a c p).1))
