use Rattle.std.proofs.Common.{sym, subst, [], ◌∷◌, take, get_or}
use Rattle.std.proofs.lemmas.List.{take_more}
use Rattle.kp_heads.specs.Rows.{HasUses}
use Rattle.kp_heads.proofs.Uses.{uses_none, uses_on}
use Rattle.kp_heads.proofs.users.add_uses.Goals as goal

pub loop-number-init : goal.loop-number-init
loop-number-init c = uses_none c.args.users.now.items c.args.place

pub loop-number-preserved : goal.loop-number-preserved
loop-number-preserved c =
    let i = c.loop-number.number-index in
    let ns = c.args.numbers.now in
    subst (λ l. HasUses c.args.users.now.items c.add_use.new.users.items l c.args.place) (sym (take_more ns i 0 c.loop-number-test.true))
    (uses_on c.args.users.now.items c.loop-number.users.items c.add_use.new.users.items (take i ns) (get_or ns i 0 ∷ []) c.args.place c.loop-number.invariant c.in_ok-add_use.ensures)
