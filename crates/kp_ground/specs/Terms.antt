-- Terms of rules as the code keeps them: inj is seen through, symbols have their meaning, what doesn't depend on the
-- valuation is a value.
use Rattle.std.specs.Prelude.{Bool, true, ◌&&◌}
use Rattle.kp_kore.specs.Syntax.{Text}
use Rattle.kp_kore.specs.Hooks.{Hook, truth_negation}
use Rattle.kp_kore.specs.Value.{Value, whole, constructed, Values, no_values, next_value}
use Rattle.kp_kore.specs.Forms.{two}
use Rattle.kp_kore.specs.Interpretation.{interpreted}
use Rattle.kp_kore.specs.Instance.{Valuation}
use Rattle.kp_kore.specs.Limits.{fits_number}

mutual
  pub data RuleTerm : Type 0 where
    bound : Text → RuleTerm
    fixed : Value → RuleTerm
    built : Text → RuleTerms → RuleTerm
    -- a call of two terms, and the opposite of a truth value
    call : Hook → RuleTerm → RuleTerm → RuleTerm
    opposite : RuleTerm → RuleTerm

  pub data RuleTerms : Type 0 where
    no_terms : RuleTerms
    next_term : RuleTerm → RuleTerms → RuleTerms

-- the instance under a valuation
abbrev mutual
  pub term_value : Valuation → RuleTerm → Value
  term_value v (bound x) = v x
  term_value v (fixed u) = u
  term_value v (built c ts) = constructed c (term_values v ts)
  term_value v (call h t s) = interpreted h (two (term_value v t) (term_value v s))
  term_value v (opposite t) = interpreted truth_negation (next_value (term_value v t) no_values)

  pub term_values : Valuation → RuleTerms → Values
  term_values v no_terms = no_values
  term_values v (next_term t ts) = next_value (term_value v t) (term_values v ts)

-- a whole number is within signed 128 bits
abbrev pub is_narrow : Value → Bool
is_narrow (whole n) = fits_number n
is_narrow _ = true

-- no call computes a number beyond signed 128 bits
abbrev mutual
  pub stays_narrow : Valuation → RuleTerm → Bool
  stays_narrow v (bound x) = true
  stays_narrow v (fixed u) = true
  stays_narrow v (built c ts) = all_stay_narrow v ts
  stays_narrow v (call h t s) = stays_narrow v t && (stays_narrow v s && is_narrow (interpreted h (two (term_value v t) (term_value v s))))
  stays_narrow v (opposite t) = stays_narrow v t

  pub all_stay_narrow : Valuation → RuleTerms → Bool
  all_stay_narrow v no_terms = true
  all_stay_narrow v (next_term t ts) = stays_narrow v t && all_stay_narrow v ts

-- ---- left terms: they have no calls

mutual
  pub data LeftTerm : Type 0 where
    left_bound : Text → LeftTerm
    left_fixed : Value → LeftTerm
    left_built : Text → LeftTerms → LeftTerm

  pub data LeftTerms : Type 0 where
    no_lefts : LeftTerms
    next_left : LeftTerm → LeftTerms → LeftTerms

abbrev mutual
  pub left_value : Valuation → LeftTerm → Value
  left_value v (left_bound x) = v x
  left_value v (left_fixed u) = u
  left_value v (left_built c ts) = constructed c (left_values v ts)

  pub left_values : Valuation → LeftTerms → Values
  left_values v no_lefts = no_values
  left_values v (next_left t ts) = next_value (left_value v t) (left_values v ts)
