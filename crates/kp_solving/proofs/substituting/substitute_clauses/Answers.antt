use Rattle.std.proofs.Common.{rules, ◌≡◌, ◌+◌, min, map}
use Rattle.std.specs.List.{AllByRecursion}
use Rattle.std.proofs.lemmas.Result.{err_from_is_err_and}
use Rattle.kp_kore.specs.View.{sort_view}
use Rattle.kp_symbolic.specs.Solving.{literals_in}
use Rattle.kp_symbolic.specs.Languages.{language_view}
use Rattle.kp_symbolic.specs.View.{clause_view, clauses_view, literal_view, replaced_view}
use Rattle.kp_clause_substitution.specs.Substituted.{substituted_clause}
use Rattle.kp_clause_substitution.specs.Sums.{HasWrittenSums}
use Rattle.kp_outward.specs.Parts.{IsFaultlessAtom}
use Rattle.kp_solving.proofs.WayLemmas.{has_at}
use Rattle.kp_solving.proofs.SubstitutedStates.{clauses_on}
use Rattle.kp_solving.proofs.substituting.substitute_clauses.Goals as goal

pub loop-i-preserved : goal.loop-i-preserved
loop-i-preserved c =
    let g = language_view c.args.language.now in
    let sort = sort_view c.args.sort.now in
    let qs = map replaced_view c.args.by.now in
    let n = c.loop-i.so_far in
    let old = c.index-clauses-i.result in
    let made = c.in_ok-substituted.substituted.items in
    let is : clauses_view made ≡ substituted_clause g sort qs n (clause_view old) = search rules in
    let counted : c.with_literals-so_far.result ≡ min (n + literals_in (clauses_view made)) 16385 = search rules in
    clauses_on g sort qs c.args.clauses.now c.loop-i.i n c.with_literals-so_far.result old c.loop-i.found.items made c.append.new.self.items _
    c.loop-i-test.true c.index-clauses-i.is is counted c.in_ok-append.ensures.items c.loop-i.invariant

pub returns-in_err-substituted-clause-refused : goal.returns-in_err-substituted-clause-refused
returns-in_err-substituted-clause-refused c =
    let g = language_view c.args.language.now in
    let p = err_from_is_err_and c.from_residual.result c.from_residual.ensures.1 in
    rw (p.1, p.2) (λ written faultless. c.in_err-substituted.ensures.refused
    (has_at (λ d. AllByRecursion (λ l. HasWrittenSums g (literal_view l).atom) d.literals.value.items) c.args.clauses.now c.loop-i.i c.index-clauses-i.result c.loop-i-test.true c.index-clauses-i.is written)
    (has_at (λ d. AllByRecursion (λ l. IsFaultlessAtom g (literal_view l).atom) d.literals.value.items) c.args.clauses.now c.loop-i.i c.index-clauses-i.result c.loop-i-test.true c.index-clauses-i.is faultless))
