use Rattle.std.proofs.Common.{◌≡◌, ◌≤◌, arith}
use Rattle.kp_run.proofs.Turning.{first_stays, second_leads, are_several, are_two}
use Rattle.kp_run.proofs.step.sooner.Goals as goal

pub returns-then-first-second : goal.returns-then-first-second
returns-then-first-second c = λ g u rules r one h. first_stays g u c.args.first c.args.second rules r one h c.if-first-second.true

pub returns-then-second-first : goal.returns-then-second-first
returns-then-second-first c = λ g u rules r one h. second_leads g u c.args.first c.args.second rules r one h c.if-second-first.true

pub returns : goal.returns
returns c = λ g u rules r one h.
    let le : c.args.first.priority ≤ c.args.second.priority = omega arith in
    let same : c.args.second.priority ≡ c.args.first.priority = omega arith in
    (are_several g u c.args.first c.args.second rules r one h le, are_two g u c.args.first c.args.second rules r one h same)
