-- The patterns that are held with their texts.
use Rattle.std.specs.Prelude.{List, map}
use Rattle.kp_kore.specs.Syntax.{KorePattern}
use Rattle.kp_kore.specs.View.{view}
use Rattle.kp_outward.specs.declared.texts.Spelled.{Spelled}

abbrev pub spelled_view : Spelled → KorePattern
spelled_view s = view s.pattern.value

abbrev pub patterns_in : List Spelled → List KorePattern
patterns_in = map spelled_view
