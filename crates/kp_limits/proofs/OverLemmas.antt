-- Which weight is the first that is above its limit.
use Rattle.std.proofs.Common.{◌≡◌, refl, sym, ap, subst, ◌∙◌, arith, ℕ, ◌+◌, ◌<◌, ◌≤◌, List, length}
use Rattle.kp_symbolic.specs.Plain.{ReadLiteral}
use Rattle.kp_symbolic.specs.Weights as model
use Rattle.kp_symbolic.specs.Weights.{IsOver, all_literals, product_of_lengths, numeric_names, all_bounds, largest, IsBitLength}
use Rattle.kp_limits.specs.Told.{told, TellsWeight, rank, IsFirstOver}
use Rattle.kp_limits.specs.declared.weight.WeightKind.TheVariants.{Bits, Literals, Product}
use Rattle.kp_literals.proofs.LengthLemmas.{one_length}
use Rattle.kp_limits.proofs.ToldLemmas.{is_over, is_within}

swapped : (k m : ℕ) → k + m ≡ m + k
swapped k m = omega arith

pub bits_told : (cs : List (List ReadLiteral)) (k count bits : ℕ) → IsBitLength (largest (all_bounds cs)) k → count ≡ length (numeric_names (all_bounds cs)) → bits ≡ told (k + count) → TellsWeight cs model.bits bits
bits_told cs k count bits l e is = record { weight = count + k; weighs = (k, l, ap (λ n. n + k) e); told_is = is ∙ ap told (swapped k count) }

pub bits_over : (cs : List (List ReadLiteral)) (bits : ℕ) → TellsWeight cs model.bits bits → 126 < bits → IsFirstOver cs (record { weight = Bits; number = bits })
bits_over cs bits t h = record {
  number = t.weight;
  over = record { weighs = t.weighs; above = is_over 126 t.weight (omega arith) (subst (λ n. 126 < n) t.told_is h) };
  told_is = t.told_is;
  others = λ w n before. absurd (none w before);
}
  where
    none : (w : model.Weight) → rank w < 0 → ⊥
    none w l = omega (arith, l)

pub bits_within : (cs : List (List ReadLiteral)) (bits : ℕ) → TellsWeight cs model.bits bits → bits ≤ 126 → (n : ℕ) → ¬ IsOver model.bits cs n
bits_within cs bits t h n over =
    let small : t.weight ≤ 126 = is_within 126 t.weight (omega arith) (subst (λ m. m ≤ 126) t.told_is h) in
    let same : over.weighs.0 ≡ t.weighs.0 = one_length (largest (all_bounds cs)) over.weighs.0 t.weighs.0 over.weighs.1 t.weighs.1 in
    let is : n ≡ t.weight = over.weighs.2 ∙ ap (λ k. length (numeric_names (all_bounds cs)) + k) same ∙ sym t.weighs.2 in
    let above : 126 < t.weight = subst (λ m. 126 < m) is over.above in
    omega (arith, small, above)

pub literals_over : (cs : List (List ReadLiteral)) (literals : ℕ) → literals ≡ told (all_literals cs) → 512 < literals → ((n : ℕ) → ¬ IsOver model.bits cs n) → IsFirstOver cs (record { weight = Literals; number = literals })
literals_over cs literals t h none = record {
  number = all_literals cs;
  over = record { weighs = refl; above = is_over 512 (all_literals cs) (omega arith) (subst (λ n. 512 < n) t h) };
  told_is = t;
  others = others;
}
  where
    others : (w : model.Weight) (n : ℕ) → rank w < 1 → ¬ IsOver w cs n
    others model.bits n l = none n
    others model.literals n l = absurd (omega (arith, l))
    others model.product n l = absurd (omega (arith, l))

pub literals_within : (cs : List (List ReadLiteral)) (literals : ℕ) → literals ≡ told (all_literals cs) → literals ≤ 512 → (n : ℕ) → ¬ IsOver model.literals cs n
literals_within cs literals t h n over =
    let small : all_literals cs ≤ 512 = is_within 512 (all_literals cs) (omega arith) (subst (λ m. m ≤ 512) t h) in
    let above : 512 < all_literals cs = subst (λ m. 512 < m) over.weighs over.above in
    omega (arith, small, above)

pub product_over : (cs : List (List ReadLiteral)) (product : ℕ) → product ≡ told (product_of_lengths cs) → 4096 < product → ((n : ℕ) → ¬ IsOver model.bits cs n) → ((n : ℕ) → ¬ IsOver model.literals cs n) → IsFirstOver cs (record { weight = Product; number = product })
product_over cs product t h none none_too = record {
  number = product_of_lengths cs;
  over = record { weighs = refl; above = is_over 4096 (product_of_lengths cs) (omega arith) (subst (λ n. 4096 < n) t h) };
  told_is = t;
  others = others;
}
  where
    others : (w : model.Weight) (n : ℕ) → rank w < 2 → ¬ IsOver w cs n
    others model.bits n l = none n
    others model.literals n l = none_too n
    others model.product n l = absurd (omega (arith, l))

pub all_within : (cs : List (List ReadLiteral)) (product : ℕ) → product ≡ told (product_of_lengths cs) → product ≤ 4096 → ((n : ℕ) → ¬ IsOver model.bits cs n) → ((n : ℕ) → ¬ IsOver model.literals cs n) → (w : model.Weight) (n : ℕ) → ¬ IsOver w cs n
all_within cs product t h none none_too model.bits n = none n
all_within cs product t h none none_too model.literals n = none_too n
all_within cs product t h none none_too model.product n = λ over.
    let small : product_of_lengths cs ≤ 4096 = is_within 4096 (product_of_lengths cs) (omega arith) (subst (λ m. m ≤ 4096) t h) in
    let above : 4096 < product_of_lengths cs = subst (λ m. 4096 < m) over.weighs over.above in
    omega (arith, small, above)

pub literals_told : (cs : List (List ReadLiteral)) (literals : ℕ) → literals ≡ told (all_literals cs) → TellsWeight cs model.literals literals
literals_told cs literals t = record { weight = all_literals cs; weighs = refl; told_is = t }

pub product_told : (cs : List (List ReadLiteral)) (product : ℕ) → product ≡ told (product_of_lengths cs) → TellsWeight cs model.product product
product_told cs product t = record { weight = product_of_lengths cs; weighs = refl; told_is = t }
