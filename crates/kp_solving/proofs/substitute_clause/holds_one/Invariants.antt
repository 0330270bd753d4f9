use Rattle.std.proofs.Common.{◌≡◌, map, drop}
use Rattle.kp_symbolic.specs.View.{literal_view, replaced_view}
use Rattle.kp_solving.specs.Holding.{holds_one}
use Rattle.kp_solving.proofs.substitute_clause.holds_one.Given as goal

abbrev pub invariant-loop-one : goal.invariant-loop-one
invariant-loop-one l = holds_one (map replaced_view l.by) (map literal_view l.literals) ≡ holds_one (map replaced_view (drop l.one-index l.by)) (map literal_view l.literals)
