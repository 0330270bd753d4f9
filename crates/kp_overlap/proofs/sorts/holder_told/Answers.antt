use Rattle.std.proofs.Common.{rules, ◌<◌, length, get_or}
use Rattle.kp_overlap.proofs.SortLemmas.{read_at, holder_is}
use Rattle.kp_overlap.proofs.sorts.holder_told.Goals as goal

pub returns-then-place-labels : goal.returns-then-place-labels
returns-then-place-labels c =
    let ls = c.args.labels.now in
    let p = c.args.place in
    let short : p < length ls = search rules in
    holder_is ls c.args.holders.now p (get_or ls p 0) c.holder_of.result (read_at ls p 0 short) c.holder_of.ensures
