use Rattle.std.proofs.Common.{sym, subst, map, take}
use Rattle.kp_kore.specs.View.{sorted_variable_view}
use Rattle.kp_step.specs.RightSides.{AreChosen}
use Rattle.kp_step.specs.Chosen.{chosen_view}
use Rattle.kp_step.proofs.LoopLemmas.{taken_views}
use Rattle.kp_step.proofs.NewLemmas.{chosen_more}
use Rattle.kp_step.proofs.new_variables.choose.Goals as goal

pub loop-one-preserved : goal.loop-one-preserved
loop-one-preserved c used setting =
    let own = c.args.own.now in
    let i = c.loop-one.one-index in
    let y = c.one-item.result in
    subst (λ ys. AreChosen used ys c.args.next (chosen_view c.choose_one.new.chosen)) (sym (taken_views sorted_variable_view own i y c.loop-one-test.true c.one-item.is))
    (chosen_more used (map sorted_variable_view (take i own)) (sorted_variable_view y) _ (chosen_view c.loop-one.chosen) (chosen_view c.choose_one.new.chosen) (c.loop-one.invariant used setting) (c.in_ok-choose_one.ensures used setting))
