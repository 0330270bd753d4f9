-- What the code's replacements are seen as.
use Rattle.std.specs.Prelude.{List, map, string_bytes}
use Rattle.std.specs.Borrow.{Bor}
use Rattle.kp_kore.specs.View.{view}
use Rattle.kp_pattern_substitution.specs.Substitution.{ReplacedName}
use Rattle.kp_pattern_substitution.specs.declared.replace.Replacement.{Replacement}

abbrev pub replacement_view : Replacement → ReplacedName
replacement_view r = record { name = string_bytes r.name; term = view r.term }

abbrev pub replacements_view : List Replacement → List ReplacedName
replacements_view = map replacement_view

-- of lent ones
abbrev pub lent_view : List (Bor Replacement) → List ReplacedName
lent_view = map (λ r. replacement_view r.now)
