-- Which equations of kp_symbolic the code's are.
use Rattle.std.specs.Prelude.{Bool, true, false, ◌&&◌, Option, None, if◌then◌else◌}
use Rattle.std.specs.Bool.{beq}
use Rattle.kp_kore.specs.Attributes.{sorts_equal}
use Rattle.kp_kore.specs.Parts.{SortedName}
use Rattle.kp_kore.specs.Signature.{KoreSignature, SymbolMeaning}
use Rattle.kp_kore.specs.Value.{truth}
use Rattle.kp_symbolic.specs.Terms.{SymbolicTerm, known}
use Rattle.kp_symbolic.specs.Folding.{is_text_before}
use Rattle.kp_symbolic.specs.Solving as model
use Rattle.kp_symbolic.specs.View.{variable_view, term_view}
use Rattle.kp_literals.specs.declared.equation.Equation.{Equation}

abbrev pub equation_view : Equation → model.Equation
equation_view e = record { variable = variable_view e.variable.now; term = term_view e.term.now }

-- a call of this meaning, true or false, tells that its sides are equal
abbrev pub equates_if : Bool → SymbolMeaning → Bool
equates_if true m = model.tells_equal m
equates_if false m = model.tells_different m

-- of two variables, seen as these terms, the one that is solved for
abbrev pub solved_for_either : KoreSignature → SortedName → SymbolicTerm → SortedName → SymbolicTerm → Option model.Equation
solved_for_either g x t y u =
    if sorts_equal x.sort y.sort && is_text_before y.name x.name then model.equation_if g y t
    else model.first_equation (model.equation_if g x u) (model.equation_if g y t)

-- two sides that are to be equal
abbrev pub sides_if_true : KoreSignature → Bool → SymbolicTerm → SymbolicTerm → Option model.Equation
sides_if_true g true t u = model.equation_of_sides g t u
sides_if_true g false t u = None

-- what the equality of two terms, or its opposite, equates
abbrev pub of_equality : KoreSignature → Bool → SymbolicTerm → SymbolicTerm → Option model.Equation
of_equality g b t (known (truth a)) = model.first_equation (model.equation_of_truth g (beq a b) t) (sides_if_true g b t (known (truth a)))
of_equality g b (known (truth a)) u = model.first_equation (model.equation_of_truth g (beq a b) u) (sides_if_true g b (known (truth a)) u)
of_equality g b t u = sides_if_true g b t u
