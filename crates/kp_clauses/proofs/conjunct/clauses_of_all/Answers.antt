use Rattle.std.proofs.Common.{map}
use Rattle.std.proofs.lemmas.Result.{err_from_is_err_and}
use Rattle.kp_symbolic.specs.Languages.{language_view}
use Rattle.kp_symbolic.specs.View.{clauses_view, replaced_view}
use Rattle.kp_clauses.proofs.ConjunctLemmas.{next_conjunct}
use Rattle.kp_clauses.proofs.FaultlessLemmas.{at_place}
use Rattle.kp_clauses.proofs.conjunct.clauses_of_all.Goals as goal

pub loop-i-preserved : goal.loop-i-preserved
loop-i-preserved c = next_conjunct (language_view c.args.language.now) (map replaced_view c.args.replaced.now) c.loop-i.so_far c.in_ok-so_far.so_far
    (clauses_view c.loop-i.found.items) (clauses_view c.add_conjunct.new.found.items) _ c.args.predicates.now c.loop-i.i c.index-predicates-i.result
    c.loop-i.invariant.1 c.loop-i-test.true c.index-predicates-i.is c.in_ok-so_far.ensures.clauses c.in_ok-so_far.ensures.literals c.loop-i.invariant.0

pub returns-in_err-so_far-clause-refused : goal.returns-in_err-so_far-clause-refused
returns-in_err-so_far-clause-refused c =
    let p = err_from_is_err_and c.from_residual.result c.from_residual.ensures.1 in
    rw (p.1, p.2) (λ all. c.in_err-so_far.ensures.refused
    (at_place (language_view c.args.language.now) c.args.predicates.now c.loop-i.i c.index-predicates-i.result c.loop-i-test.true c.index-predicates-i.is all))
