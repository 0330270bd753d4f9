use Rattle.std.proofs.Common.{◌+◌, ◌<◌, ◌^◌, length, subst, sym, arith}
use Rattle.kp_outward.proofs.TermRoom.{sorts_length}
use Rattle.kp_outward.proofs.test.new_variables.Goals as goal

pub returns-clause-few : goal.returns-clause-few
returns-clause-few c =
    let few : 1 + length c.args.sorts.now < 2 ^ 64 = omega arith in
    subst (λ n. 1 + n < 2 ^ 64) (sym (sorts_length c.args.sorts.now)) few
