-- Which formulas of kp_symbolic the code's are.
use Rattle.std.specs.Prelude.{List, [], ◌∷◌, ◌++◌, map}
use Rattle.kp_symbolic.specs.Formulas as model
use Rattle.kp_symbolic.specs.States as states
use Rattle.kp_symbolic.specs.View.{literal_view}
use Rattle.kp_formulas.specs.declared.formula.Formula.{Formula, fold-Formula}
use Rattle.kp_formulas.specs.declared.formula.Formula.TheOpen.{Formula-F}

abbrev pub formulas_of : List (model.Formula states.Literal) → model.Formulas states.Literal
formulas_of [] = model.no_formulas
formulas_of (f ∷ fs) = model.next_formula f (formulas_of fs)

-- the formulas as a list
abbrev pub formula_list : model.Formulas states.Literal → List (model.Formula states.Literal)
formula_list model.no_formulas = []
formula_list (model.next_formula f fs) = f ∷ formula_list fs

-- one level, with each part already seen as its formula
abbrev pub formula_step : Formula-F (model.Formula states.Literal) → model.Formula states.Literal
formula_step (Formula-F.Fact l) = model.fact (literal_view l)
formula_step (Formula-F.AllOf fs) = model.all_of (formulas_of fs.value.items)
formula_step (Formula-F.OneOf fs) = model.one_of (formulas_of fs.value.items)

abbrev pub formula_view : Formula → model.Formula states.Literal
formula_view = fold-Formula (model.Formula states.Literal) formula_step
