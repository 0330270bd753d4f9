use Rattle.std.proofs.Common.{◌≡◌, sym, subst, set, replicate, []}
use Rattle.kp_imports.specs.declared.imports.Mark.TheVariants as mark
use Rattle.kp_imports.specs.Walks.{IsOnWay}
use Rattle.kp_imports.proofs.Starting.{started}
use Rattle.kp_imports.proofs.walk.ImportWalk.start.Goals as goal

pub returns-clause-way : goal.returns-clause-way
returns-clause-way c rows main len found =
    let ms = c.in_ok-marks.marks.items in
    let are : ms ≡ replicate c.args.modules mark.Unseen = c.in_ok-marks.ensures.items in
    subst (λ ps. IsOnWay rows main ps c.args.start 0 c.new-2.result.items (set ms c.args.start mark.Open)) (sym c.new.ensures.items)
    (subst (λ ds. IsOnWay rows main [] c.args.start 0 ds (set ms c.args.start mark.Open)) (sym c.new-2.ensures.items)
    (started rows main c.args.start ms found (subst (λ k. ms ≡ replicate k mark.Unseen) (sym len) are)))
