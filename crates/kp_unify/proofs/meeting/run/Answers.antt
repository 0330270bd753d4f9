use Rattle.std.proofs.Common.{rules, ◌≡◌, subst, ◌+◌, map, length, vec_len}
use Rattle.std.specs.Prelude.{MatchOption}
use Rattle.kp_unify.specs.Views.{signature_of, pair_view, stage_view}
use Rattle.kp_unify.specs.Way.{GoesOnIf}
use Rattle.kp_unify.proofs.EndLemmas.{taken, none_left, one_taken, all_taken, nothing_of}
use Rattle.kp_unify.proofs.meeting.run.Goals as goal

pub returns-in-None : goal.returns-in-None
returns-in-None c used left p setting gone =
    let g = signature_of c.args.setting.now in
    let before = c.loop-step.course.pairs in
    let after = c.pop.new.self in
    let lengths = subst (λ o. MatchOption o ((vec_len before ≡ 0) × (vec_len after ≡ 0)) (λ _. vec_len after + 1 ≡ vec_len before)) c.in-None.is c.pop.ensures.cases in
    let counted : vec_len after ≡ length after.items = search rules in
    none_left g used left p (stage_view c.loop-step.course) (map pair_view after.items) (all_taken before.items after.items c.pop.result c.pop.ensures.items c.in-None.is) (nothing_of after.items (vec_len after) counted lengths.1) (c.loop-step.invariant used left p setting gone)

pub returns-then-not-branch : goal.returns-then-not-branch
returns-then-not-branch c used left p setting gone =
    let g = signature_of c.args.setting.now in
    let stage = stage_view c.loop-step.course in
    let after = c.pop.new.self.items in
    let is = one_taken c.loop-step.course.pairs.items after c.pop.result c.in-Some.pair c.pop.ensures.items c.in-Some.is in
    let next = taken g used left p stage (map pair_view after) (pair_view c.in-Some.pair) is (c.loop-step.invariant used left p setting gone) in
    subst (λ b. GoesOnIf b g used left p (stage_view c.meet_pair.new.self)) c.if-not-branch.true (c.in_ok-meet_pair-in-Some.ensures used left p setting next)

pub loop-step-preserved : goal.loop-step-preserved
loop-step-preserved c used left p setting gone =
    let g = signature_of c.args.setting.now in
    let stage = stage_view c.loop-step.course in
    let after = c.pop.new.self.items in
    let is = one_taken c.loop-step.course.pairs.items after c.pop.result c.in-Some.pair c.pop.ensures.items c.in-Some.is in
    let next = taken g used left p stage (map pair_view after) (pair_view c.in-Some.pair) is (c.loop-step.invariant used left p setting gone) in
    subst (λ b. GoesOnIf b g used left p (stage_view c.meet_pair.new.self)) c.if-not-branch.false (c.in_ok-meet_pair-in-Some.ensures used left p setting next)
