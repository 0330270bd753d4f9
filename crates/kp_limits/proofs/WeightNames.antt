-- The names that a told weight of bits counts.
use Rattle.std.proofs.Common.{◌≡◌, subst, ◌∙◌, arith, ℕ, ◌+◌, ◌-◌, ◌^◌, ◌<◌, List, length}
use Rattle.std.specs.Prelude.{Result, Ok, Err, IfOk}
use Rattle.std.specs.declared.alloc.AllocError.{AllocError}
use Rattle.std.proofs.Math.Nat.{le_refl}
use Rattle.kp_symbolic.specs.Plain.{ReadLiteral}
use Rattle.kp_symbolic.specs.Weights as model
use Rattle.kp_symbolic.specs.Weights.{IsBitLength, largest, numeric_names, all_bounds}
use Rattle.kp_literals.proofs.LengthLemmas.{one_length}
use Rattle.kp_limits.specs.Told.{told, TellsWeight}
use Rattle.kp_limits.proofs.ToldLemmas.{is_within, told_is_itself}

below_top : (n : ℕ) → told n < 2 ^ 64 - 1 → told n ≡ n
below_top n small = told_is_itself n (let h = is_within (told n) n small (le_refl (told n)) in omega (arith, h, small))

names_counted : (cs : List (List ReadLiteral)) (weight digits n : ℕ) → TellsWeight cs model.bits weight → IsBitLength (largest (all_bounds cs)) digits → weight < 18446744073709551615 → weight ≡ n + digits → n ≡ length (numeric_names (all_bounds cs))
names_counted cs weight digits n t long small sum =
    let same : t.weighs.0 ≡ digits = one_length (largest (all_bounds cs)) t.weighs.0 digits t.weighs.1 long in
    let whole : told t.weight ≡ t.weight = below_top t.weight (subst (λ m. m < 18446744073709551615) t.told_is small) in
    let is : weight ≡ t.weight = t.told_is ∙ whole in
    let counted = t.weighs.2 in
    omega (arith, same, is, counted, sum)

pub names_told : (r : Result ℕ AllocError) (cs : List (List ReadLiteral)) (weight digits : ℕ) → TellsWeight cs model.bits weight → IsBitLength (largest (all_bounds cs)) digits →
    IfOk r (λ n. weight < 18446744073709551615) → IfOk r (λ n. weight ≡ n + digits) → IfOk r (λ n. n ≡ length (numeric_names (all_bounds cs)))
names_told (Ok n) cs weight digits t long small sum = names_counted cs weight digits n t long small sum
names_told (Err e) cs weight digits t long small sum = tt
