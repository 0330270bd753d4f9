use Rattle.std.proofs.Common.{rules, ◌≡◌, subst}
use Rattle.kp_symbolic.specs.View.{clauses_view, state_view}
use Rattle.kp_unify.specs.Views.{signature_of}
use Rattle.kp_limits.specs.Wide.{first_wide}
use Rattle.kp_goals.specs.Goals.{IsAskedIn}
use Rattle.kp_goals.specs.View.{consequent_view}
use Rattle.kp_implies.specs.Printed.{told_of}
use Rattle.kp_implies.specs.Told.{ShowsWide}
use Rattle.kp_implies.proofs.ImplyingLemmas.{wide_goals, part_safe, goals_sorted}
use Rattle.kp_implies.proofs.implying.by_goals.Goals as goal

pub returns-in-Some-clause-answered : goal.returns-in-Some-clause-answered
returns-in-Some-clause-answered c used a c' m question is own parts =
    let g = signature_of c.args.setting.now in
    let s = state_view c.args.state.now in
    let k = consequent_view c.args.consequent.now in
    let p = state_view c.args.part.now in
    let q = state_view c.in_ok-asked.asked in
    let same : clauses_view c.in_ok-goals.goals.items ≡ clauses_view c.deref.result.now = search rules in
    let asked = subst (IsAskedIn g k (told_of g k s) m.met.part) same (c.in_ok-goals.ensures.asked m.met.part is) in
    wide_goals g used s k m p q (clauses_view c.deref.result.now) c.in-Some.wide is asked c.in_ok-asked.ensures (subst (ShowsWide (first_wide g q)) c.in-Some.is c.in_ok-wide.ensures)

pub returns-clause-answered : goal.returns-clause-answered
returns-clause-answered c used a c' m question is own parts =
    let g = signature_of c.args.setting.now in
    let s = state_view c.args.state.now in
    let k = consequent_view c.args.consequent.now in
    let p = state_view c.args.part.now in
    let goals = clauses_view c.deref-2.result.now in
    let same : clauses_view c.in_ok-goals.goals.items ≡ goals = search rules in
    let asked = subst (IsAskedIn g k (told_of g k s) m.met.part) same (c.in_ok-goals.ensures.asked m.met.part is) in
    c.by_these.ensures.answered used m is (part_safe g used a c' s k question m p is) own parts asked (goals_sorted g used a c' s k question m p goals is asked)
