-- The numbers of sorts that have literals, noted one after another.
use Rattle.std.proofs.Common.{◌≡◌, refl, sym, ap, subst, ◌∙◌, ℕ, zero, suc, ◌+◌, ◌<◌, ◌≤◌, ◌⊎◌, ◌↔◌, inl, inr, Bool, true, false, List, [], ◌∷◌, map, length, get_or, Contains, MatchBool, arith}
use Rattle.std.proofs.lemmas.List.Elements.{Contains-push, Contains-push_cases}
use Rattle.kp_kore.specs.Syntax.{KoreSort}
use Rattle.kp_kore.specs.Signature.{KoreSignature, has_literals}
use Rattle.kp_kore.specs.View.{sort_view}
use Rattle.kp_kore.specs.declared.sort.Sort.{Sort}
use Rattle.kp_signature.specs.Edges.{IsNumber, Extended}
use Rattle.kp_signature.proofs.EdgeLemmas.{still_there, there_or_added}
use Rattle.kp_signature.proofs.OrderLemmas.{one_sort}
use Rattle.kp_heads.specs.Made.{AreLiteralNumbers}
use Rattle.kp_heads.proofs.Values.{nothing_in}

-- of the numbers below i
pub record LiteralsBefore (g : KoreSignature) (sorts : List KoreSort) (i : ℕ) (found : List ℕ) : Type 0 where
  pub below : (j : ℕ) → Contains found j → j < i
  pub within : (j : ℕ) → Contains found j → j < length sorts
  pub literal : (j : ℕ) (a : KoreSort) → IsNumber sorts j a → j < i → Contains found j ↔ (has_literals g a ≡ true)

pub before_none : (g : KoreSignature) (sorts : List KoreSort) (found : List ℕ) → length found ≡ 0 → LiteralsBefore g sorts 0 found
before_none g sorts found none = record {
  below = λ j h. absurd (no h.0 (subst (λ n. h.0 < n) none h.1));
  within = λ j h. absurd (no h.0 (subst (λ n. h.0 < n) none h.1));
  literal = λ j a n h. absurd (no j h);
}
  where
    no : (k : ℕ) → k < 0 → ⊥
    no k h = omega arith

just_before : (j i : ℕ) → j < i + 1 → (j < i) ⊎ (j ≡ i)
just_before zero zero h = inr refl
just_before zero (suc i) h = inl (omega arith)
just_before (suc j) zero h = absurd (no j h)
  where
    no : (k : ℕ) → suc k < 0 + 1 → ⊥
    no k h = omega arith
just_before (suc j) (suc i) h = elim (just_before j i (omega (arith, h))) [ inl k ↦ inl (omega (arith, k)) | inr e ↦ inr (ap suc e) ]

pub before_skip : (g : KoreSignature) (sorts : List KoreSort) (i : ℕ) (found : List ℕ) (a : KoreSort) → IsNumber sorts i a → has_literals g a ≡ false → LiteralsBefore g sorts i found → LiteralsBefore g sorts (i + 1) found
before_skip g sorts i found a num not h = record {
  below = λ j k. let b = h.below j k in omega (arith, b);
  within = h.within;
  literal = λ j b n k. elim (just_before j i k) [
    | inl old ↦ h.literal j b n old
    | inr same ↦ (
      λ c. absurd (no j same (h.below j c)),
      λ e. absurd (differ (sym not ∙ ap (has_literals g) (one_sort sorts i a b num (subst (λ m. IsNumber sorts m b) same n)) ∙ e)),
    )
  ];
}
  where
    no : (j : ℕ) → j ≡ i → j < i → ⊥
    no j e h = omega arith

    differ : false ≡ true → ⊥
    differ e = cc

pub before_add : (g : KoreSignature) (sorts : List KoreSort) (i : ℕ) (found after : List ℕ) (a : KoreSort) → IsNumber sorts i a → has_literals g a ≡ true → Extended found (i ∷ []) after → LiteralsBefore g sorts i found → LiteralsBefore g sorts (i + 1) after
before_add g sorts i found after a num is e h = record {
  below = λ j k. elim (cases j k) [ inl old ↦ (let b = h.below j old in omega (arith, b)) | inr same ↦ omega (arith, same) ];
  within = λ j k. elim (cases j k) [ inl old ↦ h.within j old | inr same ↦ subst (λ m. m < length sorts) same num.0 ];
  literal = λ j b n k. elim (just_before j i k) [
    | inl old ↦ (
      λ c. elim (cases j c) [ inl there ↦ (h.literal j b n old).0 there | inr same ↦ absurd (no j same old) ],
      λ l. still_there found (i ∷ []) after j e ((h.literal j b n old).1 l),
    )
    | inr same ↦ (
      λ c. ap (has_literals g) (sym (one_sort sorts i a b num (subst (λ m. IsNumber sorts m b) same n))) ∙ is,
      λ l. subst (Contains after) (sym same) (e.all i (Contains-push [] i)),
    )
  ];
}
  where
    cases : (j : ℕ) → Contains after j → Contains found j ⊎ (i ≡ j)
    cases j k = elim (there_or_added found (i ∷ []) after j e k) [
      | inl old ↦ inl old
      | inr new ↦ elim (Contains-push_cases [] i j new) [ inl none ↦ absurd (nothing_in j none) | inr same ↦ inr same ]
    ]

    no : (j : ℕ) → i ≡ j → j < i → ⊥
    no j e h = omega arith

pub all_before : (g : KoreSignature) (sorts : List KoreSort) (i : ℕ) (found : List ℕ) → length sorts ≤ i → LiteralsBefore g sorts i found → AreLiteralNumbers g sorts found
all_before g sorts i found past h = (λ j a n. h.literal j a n (let k = n.0 in omega (arith, k, past)), h.within)

-- a sort that is read has the number
pub read_sort : (ss : List Sort) (i : ℕ) (s : Sort) → i < length ss → s ≡ get_or ss i s → IsNumber (map sort_view ss) i (sort_view s)
read_sort [] i s h e = absurd (no i h)
  where
    no : (k : ℕ) → k < 0 → ⊥
    no k h = omega arith
read_sort (t ∷ ss) zero s h e = (omega arith, ap sort_view (sym e))
read_sort (t ∷ ss) (suc i) s h e = let k = read_sort ss i s (omega arith) e in (omega (arith, k.0), k.1)

pub before_either : (g : KoreSignature) (sorts : List KoreSort) (i : ℕ) (found after : List ℕ) (a : KoreSort) (b : Bool) → IsNumber sorts i a → b ≡ has_literals g a → MatchBool b (Extended found (i ∷ []) after) (after ≡ found) →
    LiteralsBefore g sorts i found → LiteralsBefore g sorts (i + 1) after
before_either g sorts i found after a true num is e h = before_add g sorts i found after a num (sym is) e h
before_either g sorts i found after a false num is e h = subst (LiteralsBefore g sorts (i + 1)) (sym e) (before_skip g sorts i found a num (sym is) h)
