use Rattle.std.proofs.Common.{rules, length, ◌≤◌, map}
use Rattle.kp_literals.specs.Bounds.{difference_view}
use Rattle.kp_literals.proofs.BoundEnds.{bounds_end}
use Rattle.kp_literals.proofs.bounds.all_bounds.Goals as goal

pub returns : goal.returns
returns c =
    let past : length c.args.clauses.now ≤ c.loop-clause.clause-index = search rules in
    bounds_end c.args.clauses.now c.loop-clause.clause-index (map difference_view c.loop-clause.bounds.items) past c.loop-clause.invariant
