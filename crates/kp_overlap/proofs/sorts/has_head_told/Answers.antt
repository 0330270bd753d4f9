use Rattle.std.proofs.Common.{rules, ◌<◌, length}
use Rattle.kp_signature.specs.View.{signature_view}
use Rattle.kp_kore.specs.View.{sort_view}
use Rattle.kp_overlap.proofs.SortLemmas.{told_shape}
use Rattle.kp_overlap.proofs.sorts.has_head_told.Goals as goal

pub returns-then-holder-shapes : goal.returns-then-holder-shapes
returns-then-holder-shapes c =
    let short : c.args.holder < length c.args.shapes.now = search rules in
    told_shape (signature_view c.args.signature.now) (sort_view c.args.sort.now) c.args.shapes.now c.args.holder c.index-shapes-holder.result c.has_head_of.result short c.index-shapes-holder.is c.has_head_of.ensures
