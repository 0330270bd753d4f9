use Rattle.std.proofs.Common.{sym, subst}
use Rattle.kp_kore.specs.Rules.{rewrite}
use Rattle.kp_rules.specs.Skeletons.{skeleton_view}
use Rattle.kp_satisfiability.proofs.Answered.{if_ok}
use Rattle.kp_unify.specs.Views.{signature_of, part_view, numbered_view}
use Rattle.kp_step.specs.Silent.{IsExcluded}
use Rattle.kp_step.specs.Firings.{IsFired}
use Rattle.kp_step.proofs.SilentLemmas.{fires_nowhere_there, untouched}
use Rattle.kp_step.proofs.excluding.exclude.Goals as goal

pub returns-in-Some : goal.returns-in-Some
returns-in-Some c used m setting sides verified ready =
    let g = signature_of c.args.setting.now in
    let form = skeleton_view c.args.sides.now.left in
    let p = part_view c.args.part.now in
    let fired = subst (IsFired g used m form p) c.in-Some.is (c.in_ok-found.ensures used m setting sides verified ready) in
    c.exclude_firing.ensures used (rewrite m) ready fired.firing

pub returns-in-None : goal.returns-in-None
returns-in-None c used m setting sides verified ready =
    let g = signature_of c.args.setting.now in
    let form = skeleton_view c.args.sides.now.left in
    let q = numbered_view c.args.part.now in
    let fired = subst (IsFired g used m form q.part) c.in-None.is (c.in_ok-found.ensures used m setting sides verified ready) in
    if_ok c.alone.result _ _ (λ ps same. subst (IsExcluded g used (rewrite m) q.part) (sym same) (untouched g used (rewrite m) q ready (fires_nowhere_there g (rewrite m) q.part fired))) c.alone.ensures
