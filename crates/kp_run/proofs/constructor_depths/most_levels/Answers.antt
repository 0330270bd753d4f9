use Rattle.std.proofs.Common.{rules, map}
use Rattle.kp_kore.specs.Parts.{most_term_depth}
use Rattle.kp_kore.specs.View.{sorts_view}
use Rattle.kp_signature.specs.View.{signature_view}
use Rattle.kp_ground.specs.View.{value_view, values_of}
use Rattle.kp_compile.specs.Spelled.{spellings}
use Rattle.kp_run.proofs.Levels.{next_levels, all_levels}
use Rattle.kp_run.proofs.constructor_depths.most_levels.Goals as goal

pub loop-i-preserved : goal.loop-i-preserved
loop-i-preserved c = λ told.
    let g = signature_view c.args.signature.now in
    let all = most_term_depth (spellings g (sorts_view c.args.places.now) (values_of (map value_view c.args.values.now))) in
    next_levels g c.loop-i.i c.args.places.now c.args.values.now c.args.parts.now c.index-places-i.result c.index-values-i.result c.index-parts-i.result
    c.loop-i.most c.max-most.result c.levels_at.result all (search rules) c.index-places-i.is c.index-values-i.is c.index-parts-i.is told
    c.levels_at.ensures c.max-most.ensures (c.loop-i.invariant told)

pub returns : goal.returns
returns c = λ told.
    let g = signature_view c.args.signature.now in
    let all = most_term_depth (spellings g (sorts_view c.args.places.now) (values_of (map value_view c.args.values.now))) in
    all_levels g c.loop-i.i c.args.places.now c.args.values.now c.args.parts.now c.loop-i.most all (search rules) told (c.loop-i.invariant told)
