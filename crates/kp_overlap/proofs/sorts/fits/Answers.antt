use Rattle.std.proofs.Common.{map}
use Rattle.kp_signature.specs.View.{signature_view}
use Rattle.kp_overlap.specs.Views.{placed_view, shape_view}
use Rattle.kp_overlap.proofs.SortLemmas.{fits_by, fits_none, is_true}
use Rattle.kp_overlap.proofs.sorts.fits.Goals as goal

pub returns-in-Some : goal.returns-in-Some
returns-in-Some c = fits_by (signature_view c.args.signature.now) (map shape_view c.args.shapes.now) c.args.labels.now c.args.holders.now (placed_view c.args.asked.now) c.holder_told.result c.in-Some.holder c.has_head_told.result c.in-Some.is c.holder_told.ensures c.has_head_told.ensures

pub returns-in-None : goal.returns-in-None
returns-in-None c = is_true (fits_none (signature_view c.args.signature.now) (map shape_view c.args.shapes.now) c.args.labels.now c.args.holders.now (placed_view c.args.asked.now) c.holder_told.result c.in-None.is c.holder_told.ensures)
