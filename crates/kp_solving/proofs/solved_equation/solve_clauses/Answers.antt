use Rattle.std.proofs.Common.{rules, arith, ◌≡◌, refl, ◌+◌, Some, min, nat_eq}
use Rattle.std.specs.List.{AllByRecursion}
use Rattle.std.proofs.lemmas.Result.{err_from_is_err_and}
use Rattle.kp_kore.specs.View.{sort_view}
use Rattle.kp_symbolic.specs.Solving.{literals_in}
use Rattle.kp_symbolic.specs.Languages.{language_view}
use Rattle.kp_symbolic.specs.View.{clause_view, clauses_view, literal_view}
use Rattle.kp_literals.specs.Equations.{equation_view}
use Rattle.kp_solving.specs.Solvables.{solved_or_kept}
use Rattle.kp_symbolic_laws.specs.Runs.{OfKeptWhole}
use Rattle.kp_symbolic_laws.specs.Kept.{CanBeWrittenAt}
use Rattle.kp_clause_substitution.specs.Sums.{HasWrittenSums}
use Rattle.kp_outward.specs.Parts.{IsFaultlessAtom}
use Rattle.kp_solving.proofs.RoomLemmas.{kept_on, kept_all}
use Rattle.kp_solving.proofs.RoundLemmas.{clauses_solved_on, clauses_solved_all}
use Rattle.kp_solving.proofs.WayLemmas.{has_at}
use Rattle.kp_solving.proofs.solved_equation.solve_clauses.Goals as goal

pub loop-i-preserved : goal.loop-i-preserved
loop-i-preserved c =
    let g = language_view c.args.language.now in
    let sort = sort_view c.args.sort.now in
    let e = equation_view c.args.equation.now in
    let n = c.loop-i.so_far in
    let own = nat_eq c.loop-i.i c.args.place in
    let old = c.index-clauses-i.result in
    let solved = c.in_ok-solved.solved.items in
    let is : clauses_view solved ≡ solved_or_kept g sort e n own (clause_view old) = search rules in
    let counted : c.with_literals-so_far.result ≡ min (n + literals_in (clauses_view solved)) 16385 = search rules in
    let index = c.loop-i-test.true in (
      clauses_solved_on g sort e c.args.clauses.now c.args.place c.loop-i.i n c.with_literals-so_far.result own old c.loop-i.found.items solved c.append.new.self.items _
          index c.index-clauses-i.is refl is counted c.in_ok-append.ensures.items c.loop-i.invariant.0,
      kept_on g sort e (CanBeWrittenAt g sort) (OfKeptWhole g sort e (CanBeWrittenAt g sort) 0 (Some c.args.place) (clauses_view c.args.clauses.now)) c.args.clauses.now c.args.place c.loop-i.i n c.with_literals-so_far.result own old solved
          index c.index-clauses-i.is refl is counted c.in_ok-solved.ensures.right c.loop-i.invariant.1,
    )

pub returns-in_err-solved-clause-refused : goal.returns-in_err-solved-clause-refused
returns-in_err-solved-clause-refused c =
    let g = language_view c.args.language.now in
    let p = err_from_is_err_and c.from_residual.result c.from_residual.ensures.1 in
    rw (p.1, p.2) (λ written faultless. c.in_err-solved.ensures.refused
    (has_at (λ d. AllByRecursion (λ l. HasWrittenSums g (literal_view l).atom) d.literals.value.items) c.args.clauses.now c.loop-i.i c.index-clauses-i.result c.loop-i-test.true c.index-clauses-i.is written)
    (has_at (λ d. AllByRecursion (λ l. IsFaultlessAtom g (literal_view l).atom) d.literals.value.items) c.args.clauses.now c.loop-i.i c.index-clauses-i.result c.loop-i-test.true c.index-clauses-i.is faultless))

pub returns-clause-solved : goal.returns-clause-solved
returns-clause-solved c =
    clauses_solved_all (language_view c.args.language.now) (sort_view c.args.sort.now) (equation_view c.args.equation.now) c.args.clauses.now c.args.place c.loop-i.i c.loop-i.so_far (clauses_view c.loop-i.found.items) _ (omega arith) c.loop-i.invariant.0

pub returns-clause-right : goal.returns-clause-right
returns-clause-right c =
    let g = language_view c.args.language.now in
    kept_all g (sort_view c.args.sort.now) (equation_view c.args.equation.now) (CanBeWrittenAt g (sort_view c.args.sort.now)) _ c.args.clauses.now c.args.place c.loop-i.i c.loop-i.so_far (omega arith) c.loop-i.invariant.1
