-- What the code tells of a priority.
use Rattle.std.specs.Prelude.{◌≡◌, ◌<◌, ℕ, Option, Some, None}
use Rattle.kp_kore.specs.Rules.{most_priority}
use Rattle.kp_rule_reading.specs.declared.priority.Priority.{Priority}
use Rattle.kp_rule_reading.specs.declared.priority.Priority.TheVariants.{Number, TooLarge, NoNumber}

-- the number that is stated, that it is too large, or that there is none
abbrev pub Tells : Priority → Option ℕ → Type 0
Tells (Number n) stated = stated ≡ Some n
Tells TooLarge stated = (n : ℕ) × (stated ≡ Some n) × (most_priority < n)
Tells NoNumber stated = stated ≡ None
