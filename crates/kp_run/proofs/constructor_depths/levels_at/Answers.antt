use Rattle.kp_kore.specs.View.{sort_view}
use Rattle.kp_signature.specs.View.{signature_view}
use Rattle.kp_ground.specs.View.{value_view}
use Rattle.kp_run.proofs.Levels.{levels_at_home, levels_away}
use Rattle.kp_run.proofs.constructor_depths.levels_at.Goals as goal

pub returns-then-is_home : goal.returns-then-is_home
returns-then-is_home c = λ told.
    levels_at_home (signature_view c.args.signature.now) (sort_view c.args.sort.now) (value_view c.args.value.now) c.args.depths.now c.levels.result
    (c.is_home.ensures.0 c.if-is_home.true) told c.levels.ensures

pub returns : goal.returns
returns c = λ told.
    levels_away (signature_view c.args.signature.now) (sort_view c.args.sort.now) (value_view c.args.value.now) c.args.depths.now c.levels-2.result c.one_more.result
    (λ same. absurd (cc (c.is_home.ensures.1 same, c.if-is_home.false))) told c.levels-2.ensures c.one_more.ensures
