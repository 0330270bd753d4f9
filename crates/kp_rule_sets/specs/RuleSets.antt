-- Which theory a rule set is.
use Rattle.std.specs.Prelude.{◌≡◌}
use Rattle.std.specs.List.{AllZip}
use Rattle.kp_signature.specs.View.{signature_view}
use Rattle.kp_kore.specs.Theory.{Theory}
use Rattle.kp_rules.specs.Bodies.{IsCodeOf}
use Rattle.kp_rule_sets.specs.declared.rule_set.RuleSet.{RuleSet}

-- the code's rule set is the theory, rule by rule
pub record RunsAs (t : Theory) (rules : RuleSet) : Type 0 where
  pub signature : signature_view rules.signature.value ≡ t.signature
  pub each : AllZip (IsCodeOf t.signature) t.rules rules.rules.items
