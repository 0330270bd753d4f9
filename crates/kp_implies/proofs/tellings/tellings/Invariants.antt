use Rattle.std.proofs.Common.{◌≡◌, ◌++◌, map, drop}
use Rattle.kp_signature.specs.View.{signature_view}
use Rattle.kp_symbolic.specs.View.{atom_view, variables_view}
use Rattle.kp_implies.specs.Printed as model
use Rattle.kp_implies.specs.View.{telling_view}
use Rattle.kp_implies.proofs.tellings.tellings.Given as goal

abbrev pub invariant-loop-atom : goal.invariant-loop-atom
invariant-loop-atom l =
    map telling_view l.found.items ++ model.tellings (signature_view l.signature) (variables_view l.left.items) (map (λ a. atom_view a.now) (drop l.atom-index l.all)) ≡ model.tellings (signature_view l.signature) (variables_view l.bound) (map (λ a. atom_view a.now) l.all)
