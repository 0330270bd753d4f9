use Rattle.std.proofs.Common.{rules, Contains}
use Rattle.kp_rules.proofs.SplitLemmas.{filtered_start, filtered_more, filtered_done}
use Rattle.kp_rules.proofs.splits.common.Goals as goal

pub loop-number-init : goal.loop-number-init
loop-number-init c j = filtered_start (λ k. Contains c.args.others.now.keys k) c.args.numbers.now j c.new-found.result.keys c.new-found.ensures.len

pub loop-number-preserved : goal.loop-number-preserved
loop-number-preserved c =
    filtered_more (λ k. Contains c.args.others.now.keys k) c.args.numbers.now c.loop-number.number-index c.has.result c.loop-number.found.keys c.add_if.new.found.keys c.loop-number-test.true
    c.loop-number.invariant c.has.ensures c.in_ok-add_if.ensures

pub returns : goal.returns
returns c = filtered_done (λ k. Contains c.args.others.now.keys k) c.args.numbers.now c.loop-number.number-index c.loop-number.found.keys (search rules) c.loop-number.invariant
