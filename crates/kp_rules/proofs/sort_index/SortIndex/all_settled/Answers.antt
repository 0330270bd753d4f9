use Rattle.std.proofs.Common.{rules, refl}
use Rattle.kp_rules.specs.Index.{IsSettled}
use Rattle.kp_rules.proofs.SplitLemmas.{none_yet, all_more, all_done, not_all}
use Rattle.kp_rules.proofs.sort_index.SortIndex.all_settled.Goals as goal

pub loop-number-init : goal.loop-number-init
loop-number-init c = none_yet (λ i. IsSettled c.args.self.now i c.args.under.now.keys c.args.below.now.keys c.args.above.now.keys c.args.heads.now.keys) c.args.numbers.now

pub returns-then-not-branch : goal.returns-then-not-branch
returns-then-not-branch c = (
  λ h. absurd (cc),
  λ all. absurd (not_all (λ i. IsSettled c.args.self.now i c.args.under.now.keys c.args.below.now.keys c.args.above.now.keys c.args.heads.now.keys)
      c.args.numbers.now c.loop-number.number-index c.loop-number-test.true (λ h. absurd (cc (c.in_ok-is_settled.ensures.1 h, c.if-not-branch.true))) all),
)

pub loop-number-preserved : goal.loop-number-preserved
loop-number-preserved c =
    all_more (λ i. IsSettled c.args.self.now i c.args.under.now.keys c.args.below.now.keys c.args.above.now.keys c.args.heads.now.keys)
    c.args.numbers.now c.loop-number.number-index c.loop-number-test.true c.loop-number.invariant (c.in_ok-is_settled.ensures.0 (search rules))

pub returns : goal.returns
returns c = (
  λ _. all_done (λ i. IsSettled c.args.self.now i c.args.under.now.keys c.args.below.now.keys c.args.above.now.keys c.args.heads.now.keys)
      c.args.numbers.now c.loop-number.number-index (search rules) c.loop-number.invariant,
  λ _. refl,
)
