use Rattle.std.proofs.Common.{rules, ◌≡◌}
use Rattle.kp_kore.specs.View.{sort_view}
use Rattle.kp_symbolic.specs.View.{clauses_view, state_view}
use Rattle.kp_unify.specs.Views.{signature_of}
use Rattle.kp_implies.proofs.HandedLemmas.{own_handed}
use Rattle.kp_implies.proofs.answered.own_shown.Goals as goal

pub returns-clause-answered : goal.returns-clause-answered
returns-clause-answered c =
    let sort : sort_view c.deref.result.now ≡ sort_view c.args.state.now.sort.value = search rules in
    let shown : clauses_view c.deref-2.result.now ≡ clauses_view c.args.own.shown.items = search rules in
    own_handed (signature_of c.args.setting.now) (state_view c.args.state.now) c.args.own (sort_view c.deref.result.now) (clauses_view c.deref-2.result.now) c.shown_open.result sort shown c.shown_open.ensures.shown
