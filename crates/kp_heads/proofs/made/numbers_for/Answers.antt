use Rattle.std.proofs.Common.{sym, ap, subst, ◌∙◌, [], ◌∷◌, ◌++◌, map, take}
use Rattle.std.proofs.lemmas.List.{map_more}
use Rattle.kp_kore.specs.View.{sort_view}
use Rattle.kp_signature.specs.Numbering.{sorts_in}
use Rattle.kp_heads.specs.Made.{HasNumbers}
use Rattle.kp_heads.proofs.Making.{numbers_more}
use Rattle.kp_heads.proofs.made.numbers_for.Goals as goal

pub loop-sort-preserved : goal.loop-sort-preserved
loop-sort-preserved c ix =
    let x = c.loop-sort.numbering in
    let y = c.number_for.new.self in
    let ss = c.args.sorts.now in
    let i = c.loop-sort.sort-index in
    let s = c.sort-item.result in
    let before = sorts_in c.args.numbering.now in
    let h = c.loop-sort.invariant ix in
    subst (λ l. HasNumbers before y l c.push.new.self.items) (ap (λ v. map sort_view (take i ss) ++ sort_view v ∷ []) c.sort-item.is ∙ sym (map_more sort_view ss i s c.loop-sort-test.true))
    (subst (λ l. HasNumbers before y (map sort_view (take i ss) ++ sort_view s ∷ []) l) (sym c.in_ok-push.ensures.items)
    (numbers_more before x y (map sort_view (take i ss)) c.loop-sort.numbers.items (sort_view s) c.in_ok-number_for.field-0 h (c.in_ok-number_for.ensures h.kept)))
