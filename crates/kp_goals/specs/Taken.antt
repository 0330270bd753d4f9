-- What it is to take what one goal gives, or to find that none gives more.
use Rattle.std.specs.Prelude.{List}
use Rattle.kp_kore.specs.Parts.{SortedName}
use Rattle.kp_kore.specs.Signature.{KoreSignature}
use Rattle.kp_symbolic.specs.States.{Literal, SymbolicState}
use Rattle.kp_goals.specs.Consequents.{Consequent}
use Rattle.kp_goals.specs.Gives.{Given}
use Rattle.kp_goals.specs.View.{IsGivenIn, IsAskedOf}

-- what is given then is given rightly, if what was given before is
abbrev pub KeepsGiven : KoreSignature → Consequent → List SortedName → SymbolicState → Given → Given → Type 0
KeepsGiven g k told s before after = IsGivenIn g k told s before → IsGivenIn g k told s after

-- these are the goals, and none gives more, if what was given before is given rightly
abbrev pub AsksOf : KoreSignature → Consequent → List SortedName → SymbolicState → Given → List (List Literal) → Type 0
AsksOf g k told s before goals = IsGivenIn g k told s before → IsAskedOf g k told s goals
