use Rattle.std.proofs.Common.{refl, sym, ◌∙◌, subst, arith, map, ◌<◌, length}
use Rattle.std.proofs.lemmas.Bool.{false≢true}
use Rattle.kp_overlap.specs.Graphs.{IsAt, never}
use Rattle.kp_overlap.specs.Views.{shape_view}
use Rattle.kp_overlap.proofs.HolderLemmas.{open_passed}
use Rattle.kp_overlap.proofs.LabelLemmas.{shape_there}
use Rattle.kp_overlap.proofs.label_holders.hold_closed.Goals as goal

pub returns-then-is_never : goal.returns-then-is_never
returns-then-is_never c = λ a fit old shapes follows.
    let xs = c.args.shapes.now in
    let n = c.args.place in
    let lt : n < length xs = omega arith in
    shapes n never (subst (λ s. IsAt (map shape_view xs) n s) (c.if-is_never.ensures.0 refl) (shape_there xs n c.index-shapes-place.result lt c.index-shapes-place.is))

pub returns : goal.returns
returns c = λ fit old.
    let xs = c.args.shapes.now in
    let n = c.args.place in
    let s = c.index-shapes-place.result in
    let lt : n < length xs = omega arith in
    open_passed n (map shape_view xs) c.args.labels.now c.args.holders.now.items (shape_view s) (shape_there xs n s lt c.index-shapes-place.is) (λ e. false≢true (sym c.if-is_never.false ∙ c.is_never.ensures.1 e)) (λ h. false≢true (sym c.if-is_closed.false ∙ c.is_closed.ensures.1 h)) old
