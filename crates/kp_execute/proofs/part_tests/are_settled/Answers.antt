use Rattle.std.proofs.Common.{rules}
use Rattle.kp_kore.specs.View.{view}
use Rattle.kp_signature.specs.View.{signature_view}
use Rattle.kp_satisfiability.proofs.Along.{image_more}
use Rattle.kp_execute.specs.Checks.{IsSettled}
use Rattle.kp_execute.proofs.part_tests.are_settled.Goals as goal

pub loop-i-preserved : goal.loop-i-preserved
loop-i-preserved c =
    let g = signature_view c.args.signature.now in
    let settled : IsSettled g (view c.index-patterns-i.result.now) = search rules in
    image_more (IsSettled g) (λ p. view p.now) c.args.patterns.now c.loop-i.i c.index-patterns-i.result c.loop-i-test.true c.index-patterns-i.is c.loop-i.invariant settled
