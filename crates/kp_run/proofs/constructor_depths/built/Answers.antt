use Rattle.std.proofs.Common.{sym, subst}
use Rattle.std.proofs.lemmas.Result.{IfOk-weaker}
use Rattle.kp_kore.specs.View.{sorts_view}
use Rattle.kp_signature.specs.View.{signature_view}
use Rattle.kp_run.specs.View.{AreDepthsOfAll}
use Rattle.kp_run.proofs.Levels.{built_over}
use Rattle.kp_run.proofs.constructor_depths.built.Goals as goal

pub returns : goal.returns
returns c = λ told.
    let g = signature_view c.args.signature.now in
    let seen : AreDepthsOfAll g c.args.arguments.now c.deref.result.now = subst (AreDepthsOfAll g c.args.arguments.now) (sym c.deref.ensures.value) told in
    IfOk-weaker c.with_levels.result _ _
    (λ d is. built_over g c.args.constructor.now c.args.arguments.now c.args.parts.items d (sorts_view c.places_of-places.result.now) c.most_levels.result c.one_more-levels.result told
    (c.most_levels.ensures seen) c.one_more-levels.ensures c.places_of-places.ensures is)
    c.with_levels.ensures
