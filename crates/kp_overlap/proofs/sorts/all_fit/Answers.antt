use Rattle.std.proofs.Common.{rules, ◌≡◌, map, true, false}
use Rattle.kp_signature.specs.View.{signature_view}
use Rattle.kp_overlap.specs.Views.{placed_view, shape_view}
use Rattle.kp_overlap.specs.Sorted.{Fits}
use Rattle.kp_overlap.proofs.SortLemmas.{image_more, image_at, is_false, false_true}
use Rattle.kp_overlap.proofs.sorts.all_fit.Goals as goal

pub loop-asked-preserved : goal.loop-asked-preserved
loop-asked-preserved c =
    let P = Fits (signature_view c.args.signature.now) (map shape_view c.args.shapes.now) c.args.labels.now c.args.holders.now in
    let met : c.fits.result ≡ true = search rules in
    image_more P placed_view c.args.sorts.now c.loop-asked.asked-index c.asked-item.result c.loop-asked-test.true c.asked-item.is c.loop-asked.invariant (c.fits.ensures.0 met)

pub returns-then-not-fits : goal.returns-then-not-fits
returns-then-not-fits c =
    let P = Fits (signature_view c.args.signature.now) (map shape_view c.args.shapes.now) c.args.labels.now c.args.holders.now in
    let no : c.fits.result ≡ false = search rules in
    is_false (λ all. false_true no (c.fits.ensures.1 (image_at P placed_view c.args.sorts.now c.loop-asked.asked-index c.asked-item.result c.loop-asked-test.true c.asked-item.is all)))
