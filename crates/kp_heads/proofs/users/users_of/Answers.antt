use Rattle.std.proofs.Common.{rules, ◌≤◌, sym, ap, subst, ◌∙◌, length, ◌<◌}
use Rattle.kp_heads.specs.declared.row.Row.{Row}
use Rattle.kp_heads.specs.Rows.{HasUses}
use Rattle.kp_heads.proofs.Uses.{before_none, before_more, all_before}
use Rattle.kp_heads.proofs.users.users_of.Goals as goal

pub loop-place-init : goal.loop-place-init
loop-place-init c = before_none c.args.rows.now c.args.count c.in_ok-users.users.items c.in_ok-users.ensures

pub loop-place-preserved : goal.loop-place-preserved
loop-place-preserved c =
    let all = c.args.rows.now in
    let place = c.loop-place.place in
    let short : place < length all = search rules in
    before_more all c.args.count place c.loop-place.users.items c.add_uses.new.users.items c.index-rows-place.result short c.index-rows-place.is c.loop-place.invariant
    (subst (λ ns. HasUses c.loop-place.users.items c.add_uses.new.users.items ns place) (c.deref.ensures.value ∙ ap (λ (r : Row). r.needs.items) (sym c.index-rows-place.is)) c.in_ok-add_uses.ensures)

pub returns : goal.returns
returns c below =
    let past : length c.args.rows.now ≤ c.loop-place.place = search rules in
    all_before c.args.rows.now c.args.count c.loop-place.place c.loop-place.users.items past below c.loop-place.invariant
