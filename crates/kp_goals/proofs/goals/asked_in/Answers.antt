use Rattle.std.proofs.Common.{rules, ◌≡◌, ◌∙◌, ap, sym, subst}
use Rattle.kp_symbolic.specs.Languages.{language_view}
use Rattle.kp_symbolic.specs.View.{state_view, variables_view, clauses_view}
use Rattle.kp_case_laws.specs.Parts.{whole}
use Rattle.kp_goals.specs.View.{consequent_view, with_clauses, nothing_given, IsGivenIn}
use Rattle.kp_goals.proofs.CodeLemmas.{match_given}
use Rattle.kp_goals.proofs.goals.asked_in.Goals as goal

pub loop-variable-init : goal.loop-variable-init
loop-variable-init c =
    let g = language_view c.args.language.now in
    let k = consequent_view c.args.consequent.now in
    let told = variables_view c.args.told.now in
    let s = state_view c.args.state.now in
    let bound : c.deref.result.now ≡ c.args.consequent.now.bound.items = search rules in
    let all : c.deref-2.result.now ≡ c.in_ok-clauses.clauses.items = search rules in
    let is = c.in_ok-given.ensures
    ∙ ap (λ xs. with_clauses g (variables_view xs) told nothing_given (clauses_view c.deref-2.result.now)) bound
    ∙ ap (λ cs. with_clauses g k.bound told nothing_given (clauses_view cs)) all in
    subst (λ o. IsGivenIn g k told s o) (sym is) (match_given g k told (whole s) (clauses_view c.in_ok-clauses.clauses.items) c.in_ok-clauses.ensures)
