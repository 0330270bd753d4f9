use Rattle.std.proofs.Common.{rules, ◌≡◌, ◌≤◌, sym, subst, ◌+◌, List, take, length}
use Rattle.kp_symbolic.specs.Shown.{sum_over}
use Rattle.kp_rules.specs.Skeletons.{Form}
use Rattle.kp_limits.specs.Compared.{numeric_places}
use Rattle.kp_step.specs.Found.{IsRuleAt}
use Rattle.kp_step.specs.Counted.{AreLeftsOf}
use Rattle.kp_step.specs.Views.{turn_view}
use Rattle.kp_step.proofs.CountLemmas.{counts_none, counts_more}
use Rattle.kp_step.proofs.LoopLemmas.{all_taken}
use Rattle.kp_step.proofs.TakeLemmas.{zip_item, zip_length}
use Rattle.kp_step.proofs.counted_variables.with_turns.Goals as goal

pub loop-turn-init : goal.loop-turn-init
loop-turn-init c t found steps z = counts_none t.signature c.args.begun

pub loop-turn-preserved : goal.loop-turn-preserved
loop-turn-preserved c t found steps z =
    let i = c.loop-turn.turn-index in
    let x = zip_item (IsRuleAt t) turn_view c.args.turns.now found i c.turn-item.result c.loop-turn-test.true c.turn-item.is z in
    let was = c.loop-turn.invariant t found steps z in
    let one = c.in_ok-count.ensures t x.0 steps x.1 in
    subst (λ fs. (lefts : List Form) × AreLeftsOf t.signature fs lefts × (c.in_ok-count.count ≡ c.args.begun + sum_over (numeric_places t.signature) lefts)) (sym x.2)
    (counts_more t.signature (take i found) was.0 x.0 one.0 c.args.begun c.loop-turn.count c.in_ok-count.count was.1 was.2 one.1 one.2)

pub returns : goal.returns
returns c t found steps z =
    let past : length c.args.turns.now ≤ c.loop-turn.turn-index = search rules in
    let all : take c.loop-turn.turn-index found ≡ found = all_taken found c.loop-turn.turn-index (subst (λ n. n ≤ c.loop-turn.turn-index) (sym (zip_length (IsRuleAt t) turn_view c.args.turns.now found z)) past) in
    subst (λ fs. (lefts : List Form) × AreLeftsOf t.signature fs lefts × (c.loop-turn.count ≡ c.args.begun + sum_over (numeric_places t.signature) lefts)) all (c.loop-turn.invariant t found steps z)
