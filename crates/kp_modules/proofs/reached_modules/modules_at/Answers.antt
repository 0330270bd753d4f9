use Rattle.std.proofs.Common.{◌<◌, length}
use Rattle.kp_imports.proofs.Seen.{all_at, one_more_seen}
use Rattle.kp_modules.proofs.reached_modules.modules_at.Goals as goal

pub loop-i-preserved : goal.loop-i-preserved
loop-i-preserved c =
    one_more_seen c.args.modules.now c.args.order.now c.loop-i.i c.loop-i.found.items c.push.new.self.items c.module_at.result c.loop-i.invariant c.loop-i-test.true c.module_at.ensures c.in_ok-push.ensures.items

pub module_at-requires : goal.module_at-requires
module_at-requires c = all_at (λ p. p < length c.args.modules.now) c.args.order.now c.loop-i.i 0 c.requires c.loop-i-test.true
