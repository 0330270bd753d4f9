use Rattle.std.proofs.Common.{◌∙◌, ap, arith}
use Rattle.std.proofs.lemmas.List.{drop_all}
use Rattle.std.proofs.lemmas.Result.{err_from_is_err_and}
use Rattle.kp_ground.specs.Slots.{term_reads}
use Rattle.kp_ground.specs.Solves.{bound_names}
use Rattle.kp_ground.specs.Terms.{stays_narrow}
use Rattle.kp_ground.specs.TermView.{term_view}
use Rattle.kp_rules.specs.WideParts.{all_narrow}
use Rattle.kp_successors.proofs.Finding.{passes_at, fails_at, so_at}
use Rattle.kp_successors.proofs.narrow.evaluate_each.Goals as goal

pub evaluates-requires : goal.evaluates-requires
evaluates-requires c = so_at (term_reads (bound_names c.args.bindings.now)) c.args.terms.now c.loop-term.term-index c.term-item.result c.loop-term-test.true c.term-item.is c.requires

pub loop-term-preserved : goal.loop-term-preserved
loop-term-preserved c = λ v s.
    c.loop-term.invariant v s ∙ passes_at (λ t. stays_narrow v (term_view t)) c.args.terms.now c.loop-term.term-index c.term-item.result c.loop-term-test.true c.term-item.is (c.in_ok-evaluates.ensures.narrow v s)

pub returns-clause-narrow : goal.returns-clause-narrow
returns-clause-narrow c = λ v s. c.loop-term.invariant v s ∙ ap (all_narrow v) (drop_all c.loop-term.term-index c.args.terms.now (omega arith))

pub returns-in_err-evaluates-clause-wide : goal.returns-in_err-evaluates-clause-wide
returns-in_err-evaluates-clause-wide c =
    let p = err_from_is_err_and c.from_residual.result c.from_residual.ensures.1 in
    rw (p.1, p.2) (λ is v s. c.loop-term.invariant v s ∙ fails_at (λ t. stays_narrow v (term_view t)) c.args.terms.now c.loop-term.term-index c.term-item.result c.loop-term-test.true c.term-item.is (c.in_err-evaluates.ensures.wide is v s))
