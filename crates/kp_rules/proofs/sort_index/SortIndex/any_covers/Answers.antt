use Rattle.std.proofs.Common.{rules, refl, get_or}
use Rattle.std.proofs.lemmas.List.Elements.{Contains-get_or}
use Rattle.kp_rules.specs.Index.{Covers}
use Rattle.kp_rules.proofs.SplitLemmas.{none_yet, all_more, all_done, none_failed}
use Rattle.kp_rules.proofs.sort_index.SortIndex.any_covers.Goals as goal

pub loop-number-init : goal.loop-number-init
loop-number-init c = (none_yet (λ j. ¬ Covers c.args.self.now j c.args.among.now.keys c.args.others.now) c.args.numbers.now, none_failed c.args.self.now c.args.others.now c.new-failed.result.keys c.new-failed.ensures.len)

pub covers-requires : goal.covers-requires
covers-requires c = c.loop-number.invariant.1

pub loop-number-preserved : goal.loop-number-preserved
loop-number-preserved c = (
  all_more (λ j. ¬ Covers c.args.self.now j c.args.among.now.keys c.args.others.now) c.args.numbers.now c.loop-number.number-index c.loop-number-test.true c.loop-number.invariant.0
      (λ h. absurd (cc (c.in_ok-covers.ensures.tells.1 h, c.if-branch.false))),
  c.in_ok-covers.ensures.kept,
)

pub returns-then-branch : goal.returns-then-branch
returns-then-branch c = (
  λ _. (get_or c.args.numbers.now c.loop-number.number-index 0, Contains-get_or c.args.numbers.now c.loop-number.number-index 0 c.loop-number-test.true, c.in_ok-covers.ensures.tells.0 (search rules)),
  λ _. refl,
)

pub returns : goal.returns
returns c = (
  λ h. absurd (cc),
  λ h. absurd (all_done (λ j. ¬ Covers c.args.self.now j c.args.among.now.keys c.args.others.now) c.args.numbers.now c.loop-number.number-index (search rules) c.loop-number.invariant.0 h.0 h.1 h.2),
)
