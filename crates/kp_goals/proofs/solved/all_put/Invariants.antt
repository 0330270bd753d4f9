use Rattle.std.proofs.Common.{◌≡◌, ◌++◌, map, drop}
use Rattle.kp_symbolic.specs.View.{replaced_view}
use Rattle.kp_goals.proofs.solved.all_put.Given as goal

abbrev pub invariant-loop-replaced : goal.invariant-loop-replaced
invariant-loop-replaced l = map replaced_view l.all.items ++ map replaced_view (drop l.replaced-index l.put) ≡ map replaced_view l.put
