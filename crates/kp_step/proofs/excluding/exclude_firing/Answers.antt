use Rattle.std.proofs.Common.{sym, subst}
use Rattle.kp_satisfiability.proofs.Answered.{if_ok}
use Rattle.kp_unify.specs.Views.{signature_of, part_view, numbered_view}
use Rattle.kp_step.specs.Silent.{IsExcluded}
use Rattle.kp_step.proofs.SilentLemmas.{untouched}
use Rattle.kp_step.proofs.excluding.exclude_firing.Goals as goal

pub returns-then-branch : goal.returns-then-branch
returns-then-branch c used body ready f =
    let g = signature_of c.args.setting.now in
    let q = numbered_view c.args.part.now in
    let whole = untouched g used body q ready ((c.in_ok-never_fires.ensures used body q.part f).0 c.if-branch.true) in
    if_ok c.alone.result _ _ (λ ps same. subst (IsExcluded g used body q.part) (sym same) whole) c.alone.ensures

pub returns : goal.returns
returns c used body ready f = c.kept_parts.ensures used body (part_view c.args.part.now) (c.in_ok-parts.ensures used body (part_view c.args.part.now) f)
