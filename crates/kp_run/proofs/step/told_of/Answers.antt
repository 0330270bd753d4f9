use Rattle.std.proofs.Common.{◌≤◌, subst, arith}
use Rattle.kp_run.specs.Turns.{TellsForeign}
use Rattle.kp_run.proofs.Turning.{told_next, told_stays, told_alone}
use Rattle.kp_run.proofs.step.told_of.Goals as goal

pub returns-then-rule-first : goal.returns-then-rule-first
returns-then-rule-first c = λ g u rules is might.
    told_next g u c.in-Some.first.now c.args.rule.now rules (subst (TellsForeign g u rules) c.in-Some.is is) might c.if-rule-first.true

pub returns-else-rule-first : goal.returns-else-rule-first
returns-else-rule-first c = λ g u rules is might.
    let le : c.in-Some.first.now.priority ≤ c.args.rule.now.priority = omega arith in
    told_stays g u c.in-Some.first.now c.args.rule.now rules (subst (TellsForeign g u rules) c.in-Some.is is) le

pub returns-in-None : goal.returns-in-None
returns-in-None c = λ g u rules is might.
    told_alone g u c.args.rule.now rules (subst (TellsForeign g u rules) c.in-None.is is) might
