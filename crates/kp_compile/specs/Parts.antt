-- Lists of lent patterns.
use Rattle.std.specs.Prelude.{List, map}
use Rattle.std.specs.Borrow.{Bor}
use Rattle.kp_kore.specs.Syntax.{KorePattern}
use Rattle.kp_kore.specs.View.{view}
use Rattle.kp_kore.specs.declared.pattern.Pattern.{Pattern}

abbrev pub seen : List (Bor Pattern) → List KorePattern
seen = map (λ p. view p.now)
