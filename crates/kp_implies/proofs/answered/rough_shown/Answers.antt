use Rattle.std.proofs.Common.{rules, ◌≡◌}
use Rattle.kp_kore.specs.View.{sort_view}
use Rattle.kp_symbolic.specs.View.{clauses_view, state_view}
use Rattle.kp_unify.specs.Views.{signature_of}
use Rattle.kp_implies.proofs.HandedLemmas.{rough_handed}
use Rattle.kp_implies.proofs.answered.rough_shown.Goals as goal

pub returns-clause-answered : goal.returns-clause-answered
returns-clause-answered c =
    let sort : sort_view c.deref.result.now ≡ sort_view c.args.state.now.sort.value = search rules in
    rough_handed (signature_of c.args.setting.now) (state_view c.args.state.now) (sort_view c.deref.result.now) (clauses_view c.args.rough.now) c.shown_open.result sort c.shown_open.ensures.shown
