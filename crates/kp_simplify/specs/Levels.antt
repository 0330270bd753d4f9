-- Values and terms of few levels, told without writing them: a number, a truth value, a token, a variable is one, a
-- constructor or a call one more than its deepest argument.
-- Source: the K framework's Kore language; the bound is this project's.
use Rattle.std.specs.Prelude.{ℕ, zero, suc, Bool, true, false, ◌&&◌}
use Rattle.kp_kore.specs.Value.{Value, whole, truth, token, constructed, Values, no_values, next_value}
use Rattle.kp_symbolic.specs.Terms.{SymbolicTerm, unknown, offset, known, headed, SymbolicTerms, no_terms, next_term}

-- at most so many levels
abbrev mutual
  pub is_shallow_value : Value → ℕ → Bool
  is_shallow_value (whole n) zero = false
  is_shallow_value (whole n) (suc k) = true
  is_shallow_value (truth b) zero = false
  is_shallow_value (truth b) (suc k) = true
  is_shallow_value (token s t) zero = false
  is_shallow_value (token s t) (suc k) = true
  is_shallow_value (constructed c us) zero = false
  is_shallow_value (constructed c us) (suc k) = are_shallow_values us k

  pub are_shallow_values : Values → ℕ → Bool
  are_shallow_values no_values k = true
  are_shallow_values (next_value u us) k = is_shallow_value u k && are_shallow_values us k

-- the sum of a variable and a constant is two
abbrev mutual
  pub is_shallow_term : SymbolicTerm → ℕ → Bool
  is_shallow_term (unknown x) zero = false
  is_shallow_term (unknown x) (suc k) = true
  is_shallow_term (offset x c) zero = false
  is_shallow_term (offset x c) (suc zero) = false
  is_shallow_term (offset x c) (suc (suc k)) = true
  is_shallow_term (known u) k = is_shallow_value u k
  is_shallow_term (headed f ts) zero = false
  is_shallow_term (headed f ts) (suc k) = are_shallow_terms ts k

  pub are_shallow_terms : SymbolicTerms → ℕ → Bool
  are_shallow_terms no_terms k = true
  are_shallow_terms (next_term t ts) k = is_shallow_term t k && are_shallow_terms ts k
