use Rattle.std.proofs.Common.{◌≡◌, true}
use Rattle.kp_run.proofs.Turning.{told_past}
use Rattle.kp_run.proofs.step.told_after.Goals as goal

pub returns : goal.returns
returns c = λ g u rules is might.
    told_past g u c.args.first c.args.rule.now rules is (λ m. let yes : c.args.might ≡ true = might.1 m in absurd (cc (yes, c.if-might.false)))
