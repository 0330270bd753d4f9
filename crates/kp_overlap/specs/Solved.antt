-- What was answered of ranks.
-- Source: unification on term graphs, the circle that has no finite value (Baader, Snyder: Unification theory).
use Rattle.std.specs.Prelude.{Bool, true, false}
use Rattle.kp_overlap.specs.declared.ranks.Ranks.{Ranks}
use Rattle.kp_overlap.specs.declared.ranks.Ranks.TheVariants.{Circle, Ranked}

-- there are ranks, and no circle
abbrev pub is_ranked : Ranks → Bool
is_ranked Circle = false
is_ranked (Ranked rs) = true
