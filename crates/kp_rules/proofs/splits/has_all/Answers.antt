use Rattle.std.proofs.Common.{rules, refl, Contains}
use Rattle.kp_rules.proofs.SplitLemmas.{none_yet, all_more, all_done, not_all}
use Rattle.kp_rules.proofs.splits.has_all.Goals as goal

pub loop-number-init : goal.loop-number-init
loop-number-init c = none_yet (Contains c.args.found.now.keys) c.args.numbers.now

pub returns-then-not-has : goal.returns-then-not-has
returns-then-not-has c = (λ h. absurd (cc), λ all. absurd (not_all (Contains c.args.found.now.keys) c.args.numbers.now c.loop-number.number-index c.loop-number-test.true (λ h. absurd (cc (c.has.ensures.1 h, c.if-not-has.true))) all))

pub loop-number-preserved : goal.loop-number-preserved
loop-number-preserved c = all_more (Contains c.args.found.now.keys) c.args.numbers.now c.loop-number.number-index c.loop-number-test.true c.loop-number.invariant (c.has.ensures.0 (search rules))

pub returns : goal.returns
returns c = (λ _. all_done (Contains c.args.found.now.keys) c.args.numbers.now c.loop-number.number-index (search rules) c.loop-number.invariant, λ _. refl)
