use Rattle.std.proofs.Common.{sym, subst, [], ◌∷◌, take, get_or}
use Rattle.std.proofs.lemmas.List.{take_more}
use Rattle.kp_heads.specs.Rows.{Woken}
use Rattle.kp_heads.proofs.Rows.{woken_none, woken_on}
use Rattle.kp_heads.proofs.spread.try_places.Goals as goal

pub loop-place-init : goal.loop-place-init
loop-place-init c = woken_none c.args.rows.now c.args.found.now.keys

pub loop-place-preserved : goal.loop-place-preserved
loop-place-preserved c =
    let all = c.args.rows.now in
    let i = c.loop-place.place-index in
    let ns = c.args.places.now in
    subst (λ l. Woken all l c.args.found.now.keys c.try_place.new.found.keys) (sym (take_more ns i 0 c.loop-place-test.true))
    (woken_on all (take i ns) (get_or ns i 0 ∷ []) c.args.found.now.keys c.loop-place.found.keys c.try_place.new.found.keys c.loop-place.invariant c.in_ok-try_place.ensures)
