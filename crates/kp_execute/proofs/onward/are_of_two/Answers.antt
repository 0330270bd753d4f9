use Rattle.std.proofs.Common.{sym, ◌-◌, length}
use Rattle.kp_execute.proofs.OnwardLemmas.{are_of_two, differ}
use Rattle.kp_execute.proofs.onward.are_of_two.Goals as goal

pub returns-in-Some-last : goal.returns-in-Some-last
returns-in-Some-last c h =
    are_of_two c.args.nexts.now 0 (length c.args.nexts.now - 1) c.in-Some.first.now c.in-Some-last.last.now (sym c.in-Some.ensures.value) (sym c.in-Some-last.ensures.value)
    (differ c.in-Some.first.now.rule c.in-Some-last.last.now.rule h)
