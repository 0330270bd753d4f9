use Rattle.std.proofs.Common.{rules, ◌<◌, ◌≤◌, length}
use Rattle.kp_heads.proofs.Rows.{woken_one, woken_past, read_row, no_row}
use Rattle.kp_heads.proofs.spread.try_place.Goals as goal

pub returns-in_ok-try_row : goal.returns-in_ok-try_row
returns-in_ok-try_row c =
    let all = c.args.rows.now in
    let short : c.args.place < length all = search rules in
    let r = read_row all c.args.place c.index-rows-place.result short c.index-rows-place.is in
    woken_one all c.args.place c.index-rows-place.result c.args.found.now.keys c.try_row.new.found.keys r.0 r.1 c.in_ok-try_row.ensures

pub returns-else-place-rows : goal.returns-else-place-rows
returns-else-place-rows c =
    let all = c.args.rows.now in
    let past : length all ≤ c.args.place = search rules in
    woken_past all c.args.place c.args.found.now.keys (no_row all c.args.place past)
