use Rattle.std.proofs.Common.{◌≡◌, map, take}
use Rattle.kp_symbolic.specs.View.{term_view}
use Rattle.kp_symbolic.proofs.term.Term.+same.Given as goal

abbrev pub invariant-all_same-loop-i : goal.invariant-all_same-loop-i
invariant-all_same-loop-i l = map term_view (take l.i l.terms) ≡ map term_view (take l.i l.others)
