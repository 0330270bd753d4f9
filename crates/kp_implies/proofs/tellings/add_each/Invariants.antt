use Rattle.std.proofs.Common.{◌≡◌, ◌++◌, map, drop}
use Rattle.kp_symbolic.specs.View.{atom_view}
use Rattle.kp_implies.proofs.tellings.add_each.Given as goal

abbrev pub invariant-loop-atom : goal.invariant-loop-atom
invariant-loop-atom l =
    map (λ a. atom_view a.now) l.found.items ++ map atom_view (drop l.atom-index l.all) ≡ map (λ a. atom_view a.now) l.fn.found.items ++ map atom_view l.all
