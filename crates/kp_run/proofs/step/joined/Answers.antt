use Rattle.std.proofs.Common.{subst}
use Rattle.kp_run.specs.Turns.{IsTurn}
use Rattle.kp_run.specs.declared.step.Turn.TheVariants.{Several}
use Rattle.kp_run.proofs.Turning.{first_fires}
use Rattle.kp_run.proofs.step.joined.Goals as goal

pub returns-in-Nobody : goal.returns-in-Nobody
returns-in-Nobody c = λ g u rules r turn h. first_fires g u c.args.firing rules r (subst (IsTurn g u rules) c.in-Nobody.is turn) h

pub returns-in-One : goal.returns-in-One
returns-in-One c = λ g u rules r turn h. c.sooner.ensures g u rules r (subst (IsTurn g u rules) c.in-One.is turn) h

pub returns-in-Several : goal.returns-in-Several
returns-in-Several c = λ g u rules r turn h.
    let several : IsTurn g u rules (Several c.in-Several.priority) = subst (IsTurn g u rules) c.in-Several.is turn in
    c.beside_several.ensures g u rules r several.0 several.1 h
