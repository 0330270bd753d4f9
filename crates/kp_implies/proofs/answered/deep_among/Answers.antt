use Rattle.std.proofs.Common.{rules, ◌≡◌, ap, ◌∙◌, subst, map, IfOk}
use Rattle.kp_simplify.specs.Answers.{clause_sides, first_deep}
use Rattle.kp_symbolic.specs.View.{atom_view, clauses_view}
use Rattle.kp_unify.specs.Views.{signature_of}
use Rattle.kp_implies.specs.Printed.{alone_clauses}
use Rattle.kp_implies.proofs.DeepLemmas.{alone_sides}
use Rattle.kp_implies.proofs.answered.deep_among.Goals as goal

pub returns : goal.returns
returns c =
    let g = signature_of c.args.setting.now in
    let all = map atom_view c.args.all.now in
    let same : clauses_view c.deref.result.now ≡ alone_clauses all = search rules in
    subst (λ a. IfOk c.deep_clause.result (λ o. o ≡ first_deep g a)) (ap clause_sides same ∙ alone_sides all) c.deep_clause.ensures
