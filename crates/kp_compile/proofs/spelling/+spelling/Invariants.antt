use Rattle.std.proofs.Common.{◌≡◌, map, take}
use Rattle.kp_kore.specs.View.{patterns_view, sorts_view}
use Rattle.kp_signature.specs.View.{signature_view}
use Rattle.kp_kore.specs.Value.{HaveSorts}
use Rattle.kp_ground.specs.View.{value_view, values_of}
use Rattle.kp_compile.specs.Spelled.{AllNumbersFit}
use Rattle.kp_compile.proofs.SpelledLists.{spelled_first}
use Rattle.kp_compile.proofs.spelling.+spelling.Given as goal

abbrev pub invariant-spelled_all-loop-i : goal.invariant-spelled_all-loop-i
invariant-spelled_all-loop-i l =
    (patterns_view l.patterns.items ≡ spelled_first (signature_view l.signature) l.i l.places l.values)
    × (HaveSorts (signature_view l.signature) (sorts_view l.places) (values_of (map value_view l.values)) → AllNumbersFit (values_of (map value_view (take l.i l.values))))
