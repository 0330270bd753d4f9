use Rattle.std.proofs.Common.{sym, subst, take}
use Rattle.std.proofs.lemmas.List.{take_all}
use Rattle.kp_rule_sets.specs.Rows.{FillsOf, numbered}
use Rattle.kp_rule_sets.proofs.Merging.{numbered_more}
use Rattle.kp_rule_sets.proofs.index.index_of.Goals as goal

pub loop-turn-preserved : goal.loop-turn-preserved
loop-turn-preserved c =
    let order = c.args.order.now in
    subst (λ l. FillsOf c.args.rules.now l c.add_place.new.index) (sym (numbered_more order c.loop-turn.turn 0 c.loop-turn-test.true))
    (c.in_ok-add_place.ensures (numbered 0 (take c.loop-turn.turn order)) c.loop-turn.invariant)

pub returns : goal.returns
returns c = subst (λ l. FillsOf c.args.rules.now (numbered 0 l) c.loop-turn.index) (take_all c.loop-turn.turn c.args.order.now c.loop-turn-test.false) c.loop-turn.invariant
