-- The sizes of the three tables together.
use Rattle.std.specs.Prelude.{◌≡◌, ◌^◌, length}
use Rattle.kp_demands.specs.declared.tables.Tables.{Tables}
use Rattle.kp_demands.specs.declared.sized_demands.Limits.{Limits}
use Rattle.kp_demands.specs.Demands.{Sizes}

pub record AreSizesOf (s : Sizes) (t : Tables) : Type 0 where
  pub wholes : s.wholes ≡ t.matrix.size
  pub truths : s.truths ≡ length t.truths.items
  pub classes : s.classes ≡ length t.classes.items

-- the limits of the code, a power of two for the bounds
pub record AreLimitsOf (s : Sizes) (l : Limits) : Type 0 where
  pub wholes : s.wholes ≡ l.wholes
  pub truths : s.truths ≡ l.truths
  pub classes : s.classes ≡ l.classes
  pub bits : 2 ^ s.bits ≡ l.bound
