use Rattle.std.proofs.Common.{rules, ◌≡◌, ◌≤◌, ◌++◌, length}
use Rattle.kp_step.specs.Found.{IsTurnAt}
use Rattle.kp_step.specs.Views.{turn_view}
use Rattle.kp_step.proofs.LoopLemmas.{item_of}
use Rattle.kp_step.proofs.NextsLemmas.{turn_more, turns_end}
use Rattle.kp_step.proofs.next_states.nexts_of.Goals as goal

pub loop-turn-preserved : goal.loop-turn-preserved
loop-turn-preserved c t used s steps setting all =
    let turns = c.args.turns.now in
    let i = c.loop-turn.turn-index in
    let k = c.turn-item.result in
    let turn = item_of (IsTurnAt t used s) turn_view turns i k c.loop-turn-test.true c.turn-item.is all in
    let both : c.append.new.self.items ≡ c.loop-turn.nexts.items ++ c.in_ok-more.more.items = search rules in
    turn_more t used s turns i k c.loop-turn.nexts.items c.in_ok-more.more.items c.append.new.self.items c.loop-turn-test.true c.turn-item.is both (c.in_ok-more.ensures t used s steps setting turn) (c.loop-turn.invariant t used s steps setting all)

pub returns : goal.returns
returns c t used s steps setting all =
    let past : length c.args.turns.now ≤ c.loop-turn.turn-index = search rules in
    turns_end t used s c.args.turns.now c.loop-turn.turn-index c.loop-turn.nexts.items past (c.loop-turn.invariant t used s steps setting all)
