-- A state that is easy beside its rules is plain and within the limits by itself.
use Rattle.std.proofs.Common.{◌≡◌, arith, ℕ, zero, suc, ◌+◌, ◌*◌, ◌^◌, ◌<◌, ◌≤◌, List, [], map, length}
use Rattle.std.specs.List.{AllByRecursion}
use Rattle.std.proofs.lemmas.Nat.{pow_pos}
use Rattle.kp_kore.specs.Parts.{free_variables}
use Rattle.kp_kore.specs.Signature.{KoreSignature}
use Rattle.kp_symbolic.specs.States.{clause_variables, SymbolicState}
use Rattle.kp_symbolic.specs.Plain.{read_clauses}
use Rattle.kp_symbolic.specs.Weights.{product, literals, bits, numeric_names, all_bounds, IsWithinLimits}
use Rattle.kp_symbolic.specs.WellFormed.{AreAtHand}
use Rattle.kp_symbolic.specs.Verdicts.{Verdict, IsRightVerdict, IsDecision}
use Rattle.kp_symbolic.specs.Shown.{RuleShape, IsEasy, numeric_count, count_k, count_m, further_places, how_many, is_number, sum_over, whole_variables}
use Rattle.kp_symbolic.proofs.Exact.{plain_is_decided}
use Rattle.kp_symbolic.proofs.NumericNames.{names_are_counted}
use Rattle.kp_symbolic.proofs.ReadOnce.{easy_is_plain}

times : (n m : ℕ) → 0 < m → n ≤ n * m
times zero m h = omega arith
times (suc n) m h = let i = times n m h in omega (arith, h, i)

few_choices : (n m : ℕ) → 0 < m → n * m ≤ 4096 → 4096 < n → ⊥
few_choices n m p h k = let i = times n m p in omega (arith, h, k, i)

few_literals : (n k m : ℕ) → n + (2 * k + m) ≤ 512 → 512 < n → ⊥
few_literals n k m h l = omega (arith, h, l)

few_bits : (n names k whole more : ℕ) → n ≡ names + k → names ≤ whole + 0 → k + ((whole + more) + 3) ≤ 126 → 126 < n → ⊥
few_bits n names k whole more e i h j = omega (arith, e, i, h, j)

pub easy_within : (g : KoreSignature) (s : SymbolicState) (rules : List RuleShape) → IsEasy g s rules → length (numeric_names (all_bounds (read_clauses g s))) ≤ numeric_count g s [] → IsWithinLimits g s
easy_within g s rules e i product n o = few_choices n (2 ^ count_k rules) (pow_pos (count_k rules)) (e.small product n o.weighs) o.above
easy_within g s rules e i literals n o = few_literals n (count_k rules) (count_m rules) (e.small literals n o.weighs) o.above
easy_within g s rules e i bits n o = few_bits n (length (numeric_names (all_bounds (read_clauses g s)))) o.weighs.0 (whole_variables g s.variables) (sum_over (λ p. whole_variables g (free_variables p) + (how_many (is_number g) p + further_places p)) (map (λ r. r.left) rules)) o.weighs.2 i (e.small bits o.weighs.0 o.weighs.1) o.above

pub easy_decided : (g : KoreSignature) (s : SymbolicState) (rules : List RuleShape) (a : Verdict) → IsRightVerdict g s a → IsEasy g s rules → AllByRecursion (λ c. AreAtHand (clause_variables c) s.variables) s.clauses → IsDecision a
easy_decided g s rules a r e h = plain_is_decided g s a r (easy_is_plain g s rules e) (easy_within g s rules e (names_are_counted g s h))
