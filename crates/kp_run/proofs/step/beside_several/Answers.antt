use Rattle.std.proofs.Common.{◌≤◌, arith}
use Rattle.kp_run.proofs.Turning.{leads_several, stay_several, still_two}
use Rattle.kp_run.proofs.step.beside_several.Goals as goal

pub returns-then-firing-priority : goal.returns-then-firing-priority
returns-then-firing-priority c = λ g u rules r none two h. leads_several g u c.args.priority c.args.firing rules r none h c.if-firing-priority.true

pub returns : goal.returns
returns c = λ g u rules r none two h.
    let le : c.args.priority ≤ c.args.firing.priority = omega arith in
    (stay_several g u c.args.priority c.args.firing rules r none h le, still_two g u c.args.priority rules r two)
