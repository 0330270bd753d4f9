use Rattle.std.proofs.Common.{rules, ◌≡◌, ◌∙◌, ◌≤◌, length, ap}
use Rattle.kp_demands.specs.Demands.{HasWay}
use Rattle.kp_signature.specs.View.{signature_view}
use Rattle.kp_clause_demands.specs.Ways.{items_of_ways, clause_ways, IsAskedMet, IsAskedSized, AreWaysSized}
use Rattle.kp_clause_demands.proofs.AskedLemmas.{step_more, step_end}
use Rattle.kp_clause_demands.proofs.clause_demands.asked_by.Goals as goal

pub loop-clause-preserved : goal.loop-clause-preserved
loop-clause-preserved c =
    let g = signature_view c.args.signature.now in
    let u = c.args.unknowns.now in
    let cs = c.args.clauses.now in
    let i = c.loop-clause.clause-index in
    let d = c.clause-item.result in
    let ways : items_of_ways c.in_ok-clause_ways.field-0.items ≡ clause_ways g u d.items = c.in_ok-clause_ways.ensures ∙ ap (clause_ways g u) c.deref.ensures.value in (
      λ a. step_more (λ d. HasWay a (clause_ways g u d.items)) cs i d (IsAskedMet a c.loop-clause.asked) (IsAskedMet a c.add_ways.new.asked) (HasWay a (items_of_ways c.in_ok-clause_ways.field-0.items)) c.loop-clause-test.true c.clause-item.is (c.loop-clause.invariant.0 a) (ap (HasWay a) ways) (c.in_ok-add_ways.ensures.met a),
      λ s. step_more (λ d. AreWaysSized s (clause_ways g u d.items)) cs i d (IsAskedSized s c.loop-clause.asked) (IsAskedSized s c.add_ways.new.asked) (AreWaysSized s (items_of_ways c.in_ok-clause_ways.field-0.items)) c.loop-clause-test.true c.clause-item.is (c.loop-clause.invariant.1 s) (ap (AreWaysSized s) ways) (c.in_ok-add_ways.ensures.sized s),
    )

pub returns-clause-met : goal.returns-clause-met
returns-clause-met c =
    let past : length c.args.clauses.now ≤ c.loop-clause.clause-index = search rules in
    λ a. step_end (λ d. HasWay a (clause_ways (signature_view c.args.signature.now) c.args.unknowns.now d.items)) c.args.clauses.now c.loop-clause.clause-index (IsAskedMet a c.loop-clause.asked) past (c.loop-clause.invariant.0 a)

pub returns-clause-sized : goal.returns-clause-sized
returns-clause-sized c =
    let past : length c.args.clauses.now ≤ c.loop-clause.clause-index = search rules in
    λ s. step_end (λ d. AreWaysSized s (clause_ways (signature_view c.args.signature.now) c.args.unknowns.now d.items)) c.args.clauses.now c.loop-clause.clause-index (IsAskedSized s c.loop-clause.asked) past (c.loop-clause.invariant.1 s)
