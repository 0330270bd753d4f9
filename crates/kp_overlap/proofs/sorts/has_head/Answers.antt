use Rattle.std.proofs.Common.{rules, ◌<◌, length}
use Rattle.kp_signature.specs.View.{signature_view}
use Rattle.kp_sort_heads.specs.Views.{head_view}
use Rattle.kp_overlap.proofs.SortLemmas.{head_at}
use Rattle.kp_overlap.proofs.sorts.has_head.Goals as goal

pub returns-then-number-sorts : goal.returns-then-number-sorts
returns-then-number-sorts c =
    let short : c.args.number < length c.args.sorts.now = search rules in
    head_at (signature_view c.args.signature.now) c.args.sorts.now c.args.number c.index-sorts-number.result (head_view c.args.head.now) c.is_head.result short c.index-sorts-number.is c.is_head.ensures
