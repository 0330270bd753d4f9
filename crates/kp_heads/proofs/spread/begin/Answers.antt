use Rattle.std.proofs.Common.{sym, ap, subst, ◌∙◌, [], ◌∷◌, ◌++◌, take}
use Rattle.std.proofs.lemmas.List.{take_more}
use Rattle.kp_heads.specs.Rows.{Began}
use Rattle.kp_heads.proofs.Rows.{began_none, began_more}
use Rattle.kp_heads.proofs.spread.begin.Goals as goal

pub loop-row-init : goal.loop-row-init
loop-row-init c = began_none c.args.rows.now c.args.found.now.keys

pub loop-row-preserved : goal.loop-row-preserved
loop-row-preserved c =
    let all = c.args.rows.now in
    let i = c.loop-row.row-index in
    let r = c.row-item.result in
    subst (λ l. Began all l c.args.found.now.keys c.try_row.new.found.keys) (ap (λ q. take i all ++ q ∷ []) c.row-item.is ∙ sym (take_more all i r c.loop-row-test.true))
    (began_more all (take i all) r c.args.found.now.keys c.loop-row.found.keys c.try_row.new.found.keys (i, c.loop-row-test.true, sym c.row-item.is) c.loop-row.invariant c.in_ok-try_row.ensures)
