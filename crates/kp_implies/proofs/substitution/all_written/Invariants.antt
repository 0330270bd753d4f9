use Rattle.std.proofs.Common.{◌≡◌, ◌++◌, map, drop}
use Rattle.kp_kore.specs.View.{view, sort_view}
use Rattle.kp_symbolic.specs.Languages.{language_view}
use Rattle.kp_symbolic.specs.Writing.{written_atom}
use Rattle.kp_symbolic.specs.View.{atom_view}
use Rattle.kp_implies.proofs.substitution.all_written.Given as goal

abbrev pub invariant-loop-atom : goal.invariant-loop-atom
invariant-loop-atom l =
    map view l.found.items ++ map (λ a. written_atom (language_view l.language) (sort_view l.sort) a) (map atom_view (drop l.atom-index l.all)) ≡ map (λ a. written_atom (language_view l.language) (sort_view l.sort) a) (map atom_view l.all)
