-- Constructors without arguments, the questions that they are, and what is asked of no unknown.
use Rattle.std.specs.Prelude.{Bool, Option, Some, None, ⊤}
use Rattle.kp_kore.specs.Syntax.{Text}
use Rattle.kp_kore.specs.Parts.{SortedName}
use Rattle.kp_kore.specs.Value.{Value, constructed, no_values}
use Rattle.kp_symbolic.specs.Terms.{SymbolicTerm, known}
use Rattle.kp_symbolic.specs.States.{one_head}
use Rattle.kp_symbolic.specs.Plain.{Form, asks}
use Rattle.kp_literals.specs.declared.form.LiteralForm.{LiteralForm as Said}
use Rattle.kp_literals.specs.declared.form.LiteralForm.TheVariants.{Asks, Gives}

-- the constructor that a value is, where it has no arguments
abbrev pub constant_said : Value → Option Text
constant_said (constructed c no_values) = Some c
constant_said _ = None

abbrev pub constant_known : SymbolicTerm → Option Text
constant_known (known u) = constant_said u
constant_known _ = None

-- the variable's head is this constructor, or isn't
abbrev pub asks_constant : Bool → SortedName → Option Text → Option Form
asks_constant b x (Some c) = Some (asks x (one_head c) b)
asks_constant b x None = None

-- what is said, if anything, is of a head or a solved equation: it asks for no number, truth value or token
abbrev pub IsSetApart : Option Said → Type 0
IsSetApart (Some (Asks x test b)) = ⊤
IsSetApart (Some (Gives x t)) = ⊤
IsSetApart (Some f) = ⊥
IsSetApart None = ⊤
