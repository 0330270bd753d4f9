use Rattle.std.proofs.Common.{rules, ◌≡◌, sym, subst, Some}
use Rattle.std.specs.List.{AllByRecursion}
use Rattle.std.proofs.lemmas.Result.{err_from_is_err_and}
use Rattle.kp_kore.specs.View.{sort_view}
use Rattle.kp_symbolic_laws.specs.Runs.{OfKeptWhole}
use Rattle.kp_symbolic_laws.specs.Kept.{CanBeWrittenAt}
use Rattle.kp_symbolic.specs.Languages.{language_view}
use Rattle.kp_symbolic.specs.View.{literal_view, clauses_view}
use Rattle.kp_literals.specs.Equations.{equation_view}
use Rattle.kp_clause_substitution.specs.Sums.{HasWrittenSums}
use Rattle.kp_outward.specs.Parts.{IsFaultlessAtom}
use Rattle.kp_solving.proofs.WayLemmas.{clauses_have}
use Rattle.kp_solving.proofs.solved_equation.solve_at.Goals as goal

pub returns-in_err-clauses-clause-refused : goal.returns-in_err-clauses-clause-refused
returns-in_err-clauses-clause-refused c =
    let g = language_view c.args.language.now in
    let p = err_from_is_err_and c.from_residual-in_err-clauses.result c.from_residual-in_err-clauses.ensures.1 in
    rw (p.1, p.2) (λ readable. c.in_err-clauses.ensures.refused
    (subst (AllByRecursion (λ d. AllByRecursion (λ l. HasWrittenSums g (literal_view l).atom) d.literals.value.items)) (sym c.deref-2.ensures.value) (clauses_have (λ l. HasWrittenSums g l.atom) c.args.state.now.clauses.items readable.sums))
    (subst (AllByRecursion (λ d. AllByRecursion (λ l. IsFaultlessAtom g (literal_view l).atom) d.literals.value.items)) (sym c.deref-2.ensures.value) (clauses_have (λ l. IsFaultlessAtom g l.atom) c.args.state.now.clauses.items readable.faultless)))

pub returns-in_err-term-clause-refused : goal.returns-in_err-term-clause-refused
returns-in_err-term-clause-refused c =
    let p = err_from_is_err_and c.from_residual-in_err-term.result c.from_residual-in_err-term.ensures.1 in
    rw (p.1, p.2) (λ readable. c.in_err-term.ensures.refused readable.term)

pub returns-clause-right : goal.returns-clause-right
returns-clause-right c =
    let g = language_view c.args.language.now in
    let e = equation_view c.args.equation.now in
    let same : sort_view c.deref.result.now ≡ sort_view c.args.state.now.sort.value = search rules in
    subst (λ s. OfKeptWhole g s e (CanBeWrittenAt g s) 0 (Some c.args.place) (clauses_view c.args.state.now.clauses.items)) same
    (subst (λ cs. OfKeptWhole g (sort_view c.deref.result.now) e (CanBeWrittenAt g (sort_view c.deref.result.now)) 0 (Some c.args.place) (clauses_view cs)) c.deref-2.ensures.value c.in_ok-clauses.ensures.right)
