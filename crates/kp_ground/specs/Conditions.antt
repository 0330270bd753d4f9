-- Conditions of rules as the code keeps them: predicates without quantifiers over the rule's terms.
use Rattle.std.specs.Prelude.{Bool, true, false, not, ◌&&◌, ◌||◌}
use Rattle.std.specs.Bool.{beq}
use Rattle.kp_kore.specs.Value.{values_same}
use Rattle.kp_kore.specs.Instance.{Valuation}
use Rattle.kp_ground.specs.Terms.{RuleTerm, term_value, stays_narrow}

mutual
  pub data RuleCondition : Type 0 where
    always : RuleCondition
    never : RuleCondition
    denial : RuleCondition → RuleCondition
    all_of : RuleConditions → RuleCondition
    any_of : RuleConditions → RuleCondition
    implied : RuleCondition → RuleCondition → RuleCondition
    equivalent : RuleCondition → RuleCondition → RuleCondition
    -- two terms have the same value
    same : RuleTerm → RuleTerm → RuleCondition

  pub data RuleConditions : Type 0 where
    no_conditions : RuleConditions
    next_condition : RuleCondition → RuleConditions → RuleConditions

-- whether a condition is true under a valuation
abbrev mutual
  pub condition_holds : Valuation → RuleCondition → Bool
  condition_holds v always = true
  condition_holds v never = false
  condition_holds v (denial c) = not (condition_holds v c)
  condition_holds v (all_of cs) = all_hold v cs
  condition_holds v (any_of cs) = any_holds v cs
  condition_holds v (implied c d) = not (condition_holds v c) || condition_holds v d
  condition_holds v (equivalent c d) = beq (condition_holds v c) (condition_holds v d)
  condition_holds v (same t s) = values_same (term_value v t) (term_value v s)

  pub all_hold : Valuation → RuleConditions → Bool
  all_hold v no_conditions = true
  all_hold v (next_condition c cs) = condition_holds v c && all_hold v cs

  pub any_holds : Valuation → RuleConditions → Bool
  any_holds v no_conditions = false
  any_holds v (next_condition c cs) = condition_holds v c || any_holds v cs

-- no call in it, wherever it stands, computes a number beyond signed 128 bits
abbrev mutual
  pub condition_narrow : Valuation → RuleCondition → Bool
  condition_narrow v always = true
  condition_narrow v never = true
  condition_narrow v (denial c) = condition_narrow v c
  condition_narrow v (all_of cs) = all_narrow v cs
  condition_narrow v (any_of cs) = all_narrow v cs
  condition_narrow v (implied c d) = condition_narrow v c && condition_narrow v d
  condition_narrow v (equivalent c d) = condition_narrow v c && condition_narrow v d
  condition_narrow v (same t s) = stays_narrow v t && stays_narrow v s

  pub all_narrow : Valuation → RuleConditions → Bool
  all_narrow v no_conditions = true
  all_narrow v (next_condition c cs) = condition_narrow v c && all_narrow v cs
