use Rattle.std.proofs.Common.{rules, ap, ◌∙◌, ◌≤◌, min, length}
use Rattle.kp_kore.specs.View.{patterns_view}
use Rattle.kp_signature.specs.View.{signature_view}
use Rattle.kp_compile.proofs.SpelledLists.{next_spelled, all_spelled, next_fits, all_fit, sort_at, all_values}
use Rattle.kp_compile.proofs.spelling.+spelling.Goals as goal

pub spelled_all-loop-i-preserved : goal.spelled_all-loop-i-preserved
spelled_all-loop-i-preserved t c = (
  ap patterns_view c.in_ok-push.ensures.items
      ∙ next_spelled (signature_view c.args.signature.now) c.loop-i.i c.args.places.now c.args.values.now c.loop-i.patterns.items c.index-places-i.result c.index-values-i.result c.in_ok-spelled_at.field-0 (search rules) c.index-places-i.is c.index-values-i.is c.loop-i.invariant.0 c.in_ok-spelled_at.ensures.normal,
  (λ h. next_fits c.loop-i.i c.args.values.now c.index-values-i.result (search rules) c.index-values-i.is (c.loop-i.invariant.1 h)
      (c.in_ok-spelled_at.ensures.fits (sort_at (signature_view c.args.signature.now) c.loop-i.i c.args.places.now c.args.values.now c.index-places-i.result c.index-values-i.result (search rules) (search rules) c.index-places-i.is c.index-values-i.is h))),
)

pub spelled_all-returns-clause-normal : goal.spelled_all-returns-clause-normal
spelled_all-returns-clause-normal t c =
    let end : min (length c.args.values.now) (length c.args.places.now) ≤ c.loop-i.i = search rules in
    c.loop-i.invariant.0 ∙ all_spelled (signature_view c.args.signature.now) c.loop-i.i c.args.places.now c.args.values.now end

pub spelled_all-returns-clause-fits : goal.spelled_all-returns-clause-fits
spelled_all-returns-clause-fits t c = λ h.
    let end : min (length c.args.values.now) (length c.args.places.now) ≤ c.loop-i.i = search rules in
    all_fit c.loop-i.i c.args.values.now (all_values (signature_view c.args.signature.now) c.loop-i.i c.args.places.now c.args.values.now end h) (c.loop-i.invariant.1 h)
