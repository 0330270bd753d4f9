use Rattle.std.proofs.Common.{◌≡◌, ◌≤◌, max, map, suc}
use Rattle.kp_kore.specs.Limits.{most_depth}
use Rattle.kp_kore.specs.Parts.{most_term_depth}
use Rattle.kp_kore.specs.View.{sorts_view}
use Rattle.kp_signature.specs.View.{signature_view}
use Rattle.kp_ground.specs.View.{value_view, values_of}
use Rattle.kp_compile.specs.Spelled.{spellings}
use Rattle.kp_run.specs.Depths.{counted}
use Rattle.kp_run.specs.View.{AreDepthsOfAll}
use Rattle.kp_run.proofs.Levels.{depth_from}
use Rattle.kp_run.proofs.constructor_depths.most_levels.Given as goal

abbrev pub invariant-loop-i : goal.invariant-loop-i
invariant-loop-i l = AreDepthsOfAll (signature_view l.signature) l.values l.parts →
    (counted (max l.most (depth_from (signature_view l.signature) l.i l.places l.values)) ≡ counted (most_term_depth (spellings (signature_view l.signature) (sorts_view l.places) (values_of (map value_view l.values)))))
    × (l.most ≤ suc most_depth)
