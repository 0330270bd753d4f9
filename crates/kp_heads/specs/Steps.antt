-- From which sorts' values a sort has one: a subsort's value is the sort's own, and a constructor makes one of its
-- arguments' values.
-- Source: the K framework's Kore language (subsorts, constructors).
use Rattle.std.specs.Prelude.{List, [], ◌∷◌, ◌++◌, map, Option, Some, None, if◌then◌else◌}
use Rattle.std.specs.List.{flat_map}
use Rattle.std.specs.Option.{option_and_then}
use Rattle.kp_kore.specs.Syntax.{Text, KoreSort, SymbolDeclaration}
use Rattle.kp_kore.specs.Parts.{sort_list}
use Rattle.kp_kore.specs.Signature.{KoreSignature, symbol_declared, is_constructor}

abbrev pub if_making : SymbolDeclaration → Option SymbolDeclaration
if_making d = if is_constructor d then Some d else None

-- the first declaration of the name, where it is a constructor's
abbrev pub constructor_declared : KoreSignature → Text → Option SymbolDeclaration
constructor_declared g name = option_and_then if_making (symbol_declared g name)

-- the sort `to` has a value where each of the sorts `from` has one
pub record Step : Type 0 where
  pub from : List KoreSort
  pub to : KoreSort

abbrev pub pair_step : KoreSort × KoreSort → Step
pair_step p = record { from = p.0 ∷ []; to = p.1 }

abbrev pub constructor_step : SymbolDeclaration → Step
constructor_step d = record { from = sort_list d.arguments; to = d.result }

abbrev pub constructor_steps : Option SymbolDeclaration → List Step
constructor_steps (Some d) = constructor_step d ∷ []
constructor_steps None = []

abbrev pub symbol_steps : KoreSignature → SymbolDeclaration → List Step
symbol_steps g d = constructor_steps (constructor_declared g d.name)

-- one step for each pair of a subsort attribute, and one for each constructor
abbrev pub steps_of : KoreSignature → List Step
steps_of g = map pair_step g.subsorts ++ flat_map (symbol_steps g) g.symbols
