use Rattle.std.proofs.Common.{rules, ◌≡◌, ◌≤◌, length, map}
use Rattle.kp_kore.specs.View.{view, sort_view}
use Rattle.kp_symbolic.specs.Writing.{written_clause}
use Rattle.kp_symbolic_laws.specs.Kept.{CanBeWrittenAt}
use Rattle.kp_symbolic.specs.Languages.{language_view}
use Rattle.kp_symbolic.specs.View.{clause_view}
use Rattle.kp_symbolic.specs.declared.clause.Clause.{Clause}
use Rattle.kp_outward.proofs.RoomLemmas.{all_further, all_done, written_further, written_all}
use Rattle.kp_step.proofs.NegateLemmas.{all_clauses}
use Rattle.kp_step.proofs.opposite.clauses_out.Goals as goal

pub loop-clause-preserved : goal.loop-clause-preserved
loop-clause-preserved c =
    let g = language_view c.args.language.now in
    let s = sort_view c.args.sort.now in
    let xs = c.args.clauses.now in
    let x = c.clause-item.result in
    let written : view c.in_ok-kept_out.field-0 ≡ written_clause g s (clause_view x) = search rules in (
      written_further view (written_clause g s) clause_view c.loop-clause.clause-index xs x c.loop-clause.found.items c.push.new.self.items c.in_ok-kept_out.field-0 c.loop-clause-test.true c.clause-item.is (search rules) written c.loop-clause.invariant.0,
      all_further (λ (d : Clause). CanBeWrittenAt g s (clause_view d)) c.loop-clause.clause-index xs x c.loop-clause-test.true c.clause-item.is c.in_ok-kept_out.ensures.right c.loop-clause.invariant.1,
    )

pub returns-clause-written : goal.returns-clause-written
returns-clause-written c =
    let g = language_view c.args.language.now in
    let s = sort_view c.args.sort.now in
    let past : length c.args.clauses.now ≤ c.loop-clause.clause-index = search rules in
    all_clauses g s c.loop-clause.found.items (map clause_view c.args.clauses.now)
    (written_all view (written_clause g s) clause_view c.loop-clause.clause-index c.args.clauses.now c.loop-clause.found.items (map (written_clause g s) (map clause_view c.args.clauses.now)) past c.loop-clause.invariant.0)

pub returns-clause-right : goal.returns-clause-right
returns-clause-right c =
    let past : length c.args.clauses.now ≤ c.loop-clause.clause-index = search rules in
    all_done (λ (d : Clause). CanBeWrittenAt (language_view c.args.language.now) (sort_view c.args.sort.now) (clause_view d)) c.loop-clause.clause-index c.args.clauses.now past c.loop-clause.invariant.1
