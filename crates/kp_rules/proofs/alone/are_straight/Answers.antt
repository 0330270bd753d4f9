use Rattle.std.proofs.Common.{rules, ◌≡◌, ◌<◌, true, false, length, get_or}
use Rattle.std.specs.Prelude.{IsTrue}
use Rattle.kp_rules.proofs.SplitLemmas.{none_yet, all_more, all_done}
use Rattle.kp_rules.proofs.alone.are_straight.Goals as goal

pub loop-number-init : goal.loop-number-init
loop-number-init c = none_yet (λ i. (i < length c.args.marks.now) × IsTrue (get_or c.args.marks.now i false) × IsTrue (get_or c.args.narrow.now i false)) c.args.numbers.now

pub loop-number-preserved : goal.loop-number-preserved
loop-number-preserved c =
    let passed : c.is_straight.result ≡ true = search rules in
    all_more (λ i. (i < length c.args.marks.now) × IsTrue (get_or c.args.marks.now i false) × IsTrue (get_or c.args.narrow.now i false)) c.args.numbers.now c.loop-number.number-index c.loop-number-test.true c.loop-number.invariant (c.is_straight.ensures passed)

pub returns : goal.returns
returns c passed = all_done (λ i. (i < length c.args.marks.now) × IsTrue (get_or c.args.marks.now i false) × IsTrue (get_or c.args.narrow.now i false)) c.args.numbers.now c.loop-number.number-index (search rules) c.loop-number.invariant
