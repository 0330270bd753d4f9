use Rattle.std.proofs.Common.{rules, ◌≡◌, IsTrue, None}
use Rattle.kp_kore.specs.View.{sort_view}
use Rattle.kp_symbolic.specs.View.{clauses_view, state_view}
use Rattle.kp_unify.specs.Views.{signature_of}
use Rattle.kp_goals.specs.View.{consequent_view}
use Rattle.kp_implies.proofs.ConcludedLemmas.{ok_always}
use Rattle.kp_implies.proofs.HandedLemmas.{heavy_handed}
use Rattle.kp_implies.proofs.answered.heavy_shown.Goals as goal

pub returns-clause-answered : goal.returns-clause-answered
returns-clause-answered c =
    let g = signature_of c.args.setting.now in
    let s = state_view c.args.state.now in
    let k = consequent_view c.args.consequent.now in
    let sort : sort_view c.deref.result.now ≡ sort_view c.args.state.now.sort.value = search rules in
    let shown : clauses_view c.deref-2.result.now ≡ clauses_view c.args.heavy.shown.items = search rules in
    let some : ¬ (c.args.heavy.over ≡ None) = search rules in
    let true' : IsTrue c.in_ok-is_within.field-0 = search rules in
    heavy_handed g s k c.args.heavy (sort_view c.deref.result.now) (clauses_view c.deref-2.result.now) c.shown_open.result sort shown some (c.in_ok-is_within.ensures true') c.shown_open.ensures.shown

pub returns-clause-weighed : goal.returns-clause-weighed
returns-clause-weighed c =
    let some : ¬ (c.args.heavy.over ≡ None) = search rules in
    ok_always c.shown_open.result some
