use Rattle.std.proofs.Common.{rules, ◌≡◌, subst}
use Rattle.kp_kore.specs.View.{view}
use Rattle.kp_symbolic.specs.Languages.{language_view}
use Rattle.kp_symbolic.specs.View.{state_view}
use Rattle.kp_symbolic.specs.Writing.{InjectsWhereItStands, written_term}
use Rattle.kp_execute.proofs.written.term_of.Goals as goal

pub returns-in-Err-clause-wants : goal.returns-in-Err-clause-wants
returns-in-Err-clause-wants c = λ is.
    let g = language_view c.args.language.now in
    let s = state_view c.args.state.now in
    let same : view c.in_ok-term.term.value ≡ written_term g s.sort s.term = search rules in
    subst (λ p. InjectsWhereItStands g p → ⊥) same (c.in-Err.ensures.refused is)
