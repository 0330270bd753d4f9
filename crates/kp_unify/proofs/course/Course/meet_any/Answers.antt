use Rattle.std.proofs.Common.{rules, ◌≡◌, subst}
use Rattle.std.specs.Prelude.{is_some}
use Rattle.kp_kore.specs.View.{sort_view}
use Rattle.kp_rules.specs.Skeletons.{any_of}
use Rattle.kp_symbolic.specs.View.{term_view}
use Rattle.kp_unify.specs.Replaced.{pair_of}
use Rattle.kp_unify.specs.Views.{signature_of, stage_view}
use Rattle.kp_unify.specs.Way.{IsAllApart, IsGone, IsPlaced, GoesOnIf}
use Rattle.kp_unify.proofs.PairLemmas.{any_going, any_gone}
use Rattle.kp_unify.proofs.PairSteps.{some_decides}
use Rattle.kp_unify.proofs.course.Course.meet_any.Goals as goal

pub returns : goal.returns
returns c used left p setting next =
    let g = signature_of c.args.setting.now in
    let s = sort_view c.args.sort.now in
    let stage = stage_view c.placed.new.self in
    let same : is_some c.in_ok-placed.placed ≡ c.is_some.result = search rules in
    subst (λ b. GoesOnIf b g used left p stage) same (some_decides c.in_ok-placed.placed (IsAllApart g left p) (IsGone g used left p stage) (λ t. IsPlaced g used left p (any_of s) s stage (term_view t))
    (c.in_ok-placed.ensures used left p (any_of s) setting (any_going g used left p (stage_view c.args.self.now) s (term_view c.args.term.now) next))
    (λ t h. any_gone g used left p (stage_view c.args.self.now) stage (pair_of (any_of s) (term_view c.args.term.now)) s (term_view t) next h))
