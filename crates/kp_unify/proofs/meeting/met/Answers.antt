use Rattle.std.proofs.Common.{rules, ◌≡◌, sym, subst, true, map}
use Rattle.std.specs.List.{AllByRecursion}
use Rattle.kp_symbolic.specs.View.{clauses_view}
use Rattle.kp_case_laws.specs.Narrowings as model
use Rattle.kp_case_laws.specs.Courses.{all_equality_clauses, IsSortedEquality}
use Rattle.kp_unify.specs.Views.{signature_of, met_view, numbered_view, equality_view, stage_view}
use Rattle.kp_unify.specs.Way.{IsPlacedEquality}
use Rattle.kp_unify.proofs.EndLemmas.{ended_never, met_so}
use Rattle.kp_unify.proofs.meeting.met.Goals as goal

pub returns-then-are_never : goal.returns-then-are_never
returns-then-are_never c used left p gone none =
    let g = signature_of c.args.setting.now in
    let never : model.are_never (all_equality_clauses g (stage_view c.args.course).course.equalities) ≡ true = search rules in
    ended_never g used left p (stage_view c.args.course) gone never

pub returns : goal.returns
returns c used left p gone none =
    let g = signature_of c.args.setting.now in
    let stage = stage_view c.args.course in
    let m = c.make_meeting.result in
    let cs = clauses_view c.in_ok-equations.equations.items in
    let says : cs ≡ all_equality_clauses g stage.course.equalities = search rules in
    let sorted = subst (λ es. AllByRecursion (IsSortedEquality g stage.course.part) (map equality_view es)) (sym c.deref-3.ensures.value) gone.way.on.sorted.equalities in
    let placed = subst (λ es. AllByRecursion (IsPlacedEquality g) (map equality_view es)) c.deref-3.ensures.value (c.are_placed.ensures stage.course.part (search rules) sorted) in
    met_so g used left p stage (met_view m.met) cs m.met.part.next (map numbered_view m.apart.items) gone none placed says c.make_meeting.ensures.met c.make_meeting.ensures.next c.make_meeting.ensures.apart
