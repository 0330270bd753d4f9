-- Bounds of differences that follow from demands, and the room that they have.
use Rattle.std.specs.Prelude.{◌≡◌, ◌<◌, ◌≤◌, ◌+◌, ◌*◌, ℕ, ℤ, pos, List}
use Rattle.std.specs.List.{AllByRecursion}
use Rattle.kp_diff.specs.Bounds.{Meets, HaveBits}
use Rattle.kp_diff.specs.Rows.{Differences, bounds_of}
use Rattle.kp_demands.specs.declared.demand.Demand.{Demand}
use Rattle.kp_demands.specs.Demands.{MeetsBound}

-- whole numbers that meet the demands meet the bounds
abbrev pub Follow : List Demand → Differences → Type 0
Follow demands m = (values : ℕ → ℤ) → values 0 ≡ pos 0 → AllByRecursion (MeetsBound values) demands → Meets m.size (bounds_of m) values

-- where there is room for so many more, each of them may make the bounds two bits longer
abbrev pub HasRoom : ℕ → Differences → Type 0
HasRoom room m = 0 < room → (bits : ℕ) × (78 ≤ bits) × (bits + 2 * room ≤ 127) × HaveBits bits m.size (bounds_of m)
