-- The rules of a theory by their places.
use Rattle.std.specs.Prelude.{◌≡◌, ℕ, Some, slice_get}
use Rattle.kp_kore.specs.Rules.{Rewrite, rewrite, RewriteRule}
use Rattle.kp_kore.specs.Theory.{Theory}

-- the theory's rule of this place
abbrev pub IsAt : Theory → ℕ → RewriteRule → Type 0
IsAt t place r = slice_get t.rules place ≡ Some r

-- the rule of this place is read as this
abbrev pub IsReadAs : Theory → ℕ → Rewrite → Type 0
IsReadAs t place m = (r : RewriteRule) × IsAt t place r × (r.body ≡ rewrite m)

-- the number is the priority number of the rule of this place, where that is read
abbrev pub IsPriorityAt : Theory → ℕ → ℕ → Type 0
IsPriorityAt t place n = (r : RewriteRule) (m : Rewrite) → IsAt t place r → r.body ≡ rewrite m → r.priority ≡ n
