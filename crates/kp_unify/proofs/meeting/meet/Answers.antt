use Rattle.std.proofs.Common.{◌≡◌, ap, subst, [], map}
use Rattle.std.specs.Prelude.{MatchBool}
use Rattle.kp_rules.specs.Skeletons.{skeleton_view}
use Rattle.kp_unify.specs.Views.{signature_of, part_view, numbered_view, stage_view}
use Rattle.kp_unify.specs.Way.{IsAllApart, IsGone}
use Rattle.kp_unify.proofs.EndLemmas.{set_out, clashed_at_once}
use Rattle.kp_unify.proofs.meeting.meet.Goals as goal

pub returns-then-differs : goal.returns-then-differs
returns-then-differs c used setting ready =
    clashed_at_once (signature_of c.args.setting.now) used (skeleton_view c.args.left.now) (numbered_view c.args.part.now) ready (c.differs.ensures.never c.if-differs.true)

pub returns-then-not-branch : goal.returns-then-not-branch
returns-then-not-branch c used setting ready =
    let g = signature_of c.args.setting.now in
    let l = skeleton_view c.args.left.now in
    let p = part_view c.args.part.now in
    let told = c.in_ok-course.ensures in
    let gone = set_out g used l (numbered_view c.args.part.now) (stage_view c.in_ok-course.course) ready told.course (ap (map numbered_view) told.apart) told.next in
    subst (λ b. MatchBool b (IsGone g used l p (stage_view c.run.new.course) × ((stage_view c.run.new.course).course.pairs ≡ [])) (IsAllApart g l p)) c.if-not-branch.true (c.in_ok-run.ensures used l p setting gone)

pub returns : goal.returns
returns c used setting ready =
    let g = signature_of c.args.setting.now in
    let l = skeleton_view c.args.left.now in
    let p = part_view c.args.part.now in
    let told = c.in_ok-course.ensures in
    let gone = set_out g used l (numbered_view c.args.part.now) (stage_view c.in_ok-course.course) ready told.course (ap (map numbered_view) told.apart) told.next in
    let out = subst (λ b. MatchBool b (IsGone g used l p (stage_view c.run.new.course) × ((stage_view c.run.new.course).course.pairs ≡ [])) (IsAllApart g l p)) c.if-not-branch.false (c.in_ok-run.ensures used l p setting gone) in
    c.met.ensures used l p out.0 out.1
