use Rattle.std.proofs.Common.{rules, ◌≡◌, map, Some}
use Rattle.std.specs.List.{flat_map}
use Rattle.kp_kore.specs.View.{sort_view}
use Rattle.kp_symbolic.specs.View.{atom_view, state_view}
use Rattle.kp_unify.specs.Views.{signature_of}
use Rattle.kp_simplify.specs.Answers.{atom_sides, first_deep}
use Rattle.kp_goals.specs.View.{consequent_view}
use Rattle.kp_implies.specs.Printed.{equalities_of}
use Rattle.kp_implies.proofs.ValidLemmas.{deep_carried, valid_handed}
use Rattle.kp_implies.proofs.answered.valid.Goals as goal

pub returns-in-Some-clause-answered : goal.returns-in-Some-clause-answered
returns-in-Some-clause-answered c =
    let g = signature_of c.args.setting.now in
    let s = state_view c.args.state.now in
    let k = consequent_view c.args.consequent.now in
    let all = map atom_view c.in_ok-all.all.items in
    let deep : Some c.in-Some.levels ≡ first_deep g (flat_map atom_sides all) = search rules in
    deep_carried g s k c.in-Some.levels all c.shown_deep.result c.in_ok-all.ensures deep c.shown_deep.ensures

pub returns-clause-answered : goal.returns-clause-answered
returns-clause-answered c =
    let g = signature_of c.args.setting.now in
    let s = state_view c.args.state.now in
    let k = consequent_view c.args.consequent.now in
    let sort : sort_view c.deref-in-None.result.now ≡ sort_view c.args.state.now.sort.value = search rules in
    let same : map atom_view c.deref-in-None-2.result.now ≡ equalities_of g k s = search rules in
    valid_handed g s k (sort_view c.deref-in-None.result.now) (map atom_view c.deref-in-None-2.result.now) c.written.result sort same c.written.ensures.written
