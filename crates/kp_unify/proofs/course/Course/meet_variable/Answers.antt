use Rattle.std.proofs.Common.{subst}
use Rattle.std.specs.Prelude.{MatchOption, string_bytes}
use Rattle.kp_kore.specs.View.{sort_view}
use Rattle.kp_rules.specs.Skeletons.{one_of}
use Rattle.kp_symbolic.specs.View.{term_view}
use Rattle.kp_unify.specs.Views.{signature_of, stage_view}
use Rattle.kp_unify.specs.Way.{IsAllApart, IsPlaced}
use Rattle.kp_unify.proofs.PairLemmas.{variable_going}
use Rattle.kp_unify.proofs.PairSteps.{bound_gone}
use Rattle.kp_unify.proofs.course.Course.meet_variable.Goals as goal

pub returns-in_ok-bind-in-Some : goal.returns-in_ok-bind-in-Some
returns-in_ok-bind-in-Some c used left p setting next =
    let g = signature_of c.args.setting.now in
    let x = string_bytes c.args.name.now.value in
    let s = sort_view c.args.sort.now in
    let stage = stage_view c.placed.new.self in
    bound_gone g used left p stage (stage_view c.bind.new.self) x s (term_view c.in-Some.term) next.told next.one
    (subst (λ o. MatchOption o (IsAllApart g left p) (λ t. IsPlaced g used left p (one_of x s) s stage (term_view t))) c.in-Some.is (c.in_ok-term.ensures used left p (one_of x s) setting (variable_going g used left p (stage_view c.args.self.now) x s (term_view c.args.term.now) next)))
    c.in_ok-bind-in-Some.ensures

pub returns-in-None : goal.returns-in-None
returns-in-None c used left p setting next =
    let g = signature_of c.args.setting.now in
    let x = string_bytes c.args.name.now.value in
    let s = sort_view c.args.sort.now in
    subst (λ o. MatchOption o (IsAllApart g left p) (λ t. IsPlaced g used left p (one_of x s) s (stage_view c.placed.new.self) (term_view t))) c.in-None.is (c.in_ok-term.ensures used left p (one_of x s) setting (variable_going g used left p (stage_view c.args.self.now) x s (term_view c.args.term.now) next))
