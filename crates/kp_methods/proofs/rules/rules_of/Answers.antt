use Rattle.std.proofs.Common.{subst, sym}
use Rattle.kp_rule_sets.specs.RuleSets.{RunsAs}
use Rattle.kp_methods.proofs.rules.rules_of.Goals as goal

pub returns : goal.returns
returns c = λ s is. subst (RunsAs s.theory) (sym c.rule_set.ensures) is.runs
