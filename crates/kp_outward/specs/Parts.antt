-- Parts of what is written for terms and predicates.
-- Source: the K framework's Kore language; this project.
use Rattle.std.specs.Prelude.{List, [], map, unwrap_or, ⊤}
use Rattle.kp_kore.specs.Syntax.{Text, KoreSort, KorePattern, variable, application, literal, equals, sort_variable, no_sorts, no_patterns, next_pattern}
use Rattle.kp_kore.specs.Parts.{SortedName}
use Rattle.kp_kore.specs.Signature.{KoreSignature}
use Rattle.kp_kore.specs.Sorting.{result_sort}
use Rattle.kp_signature.specs.Places.{own_sort}
use Rattle.kp_compile.specs.Spelled.{placed}
use Rattle.kp_symbolic.specs.Terms.{Replaced, replacement_for}
use Rattle.kp_symbolic.specs.States.{Atom, same, has_head, quoted, variables_for}
use Rattle.kp_symbolic.specs.Folding.{folded}
use Rattle.kp_symbolic.specs.Writing.{bound_name, renamed, variables_of, written_term, written_under}
use Rattle.kp_symbolic_laws.specs.Runs.{IsRoomAt, HasRoom}
use Rattle.kp_symbolic.specs.Faultless.{IsFaultless}

-- a variable at its own sort
abbrev pub variable_pattern : SortedName → KorePattern
variable_pattern x = variable x.name x.sort

-- a symbol applied to a variable and a literal of these digits
abbrev pub sum_pattern : Text → SortedName → Text → KorePattern
sum_pattern f x digits = application f no_sorts (next_pattern (variable x.name x.sort) (next_pattern (literal x.sort digits) no_patterns))

-- that a variable is the constructor of these variables, as a predicate of the sort
abbrev pub construction_pattern : KoreSignature → KoreSort → SortedName → Text → List SortedName → KorePattern
construction_pattern g sort x c xs = equals x.sort sort (variable_pattern x) (placed (unwrap_or (result_sort g c no_sorts) x.sort) x.sort (application c no_sorts (variables_of xs)))

-- a term of Kore with terms in the place of its variables, at its own sort
abbrev pub written_leaf : KoreSignature → List Replaced → KorePattern → KorePattern
written_leaf g rs p = written_term g (unwrap_or (own_sort g p) (sort_variable [])) (folded g rs p)

-- a predicate under a binder of x, which may have another name now
abbrev pub written_bound : KoreSignature → List Replaced → Text → KoreSort → KorePattern → KorePattern
written_bound g rs x t p = written_under g (renamed x (bound_name rs x p) t rs) p

-- there is room for the new name of a binder of x, and for those under it
abbrev pub HasRoomUnder : List Replaced → Text → KoreSort → KorePattern → Type 0
HasRoomUnder rs x t p = IsRoomAt rs x p × HasRoom (renamed x (bound_name rs x p) t rs) p

-- the names of the variables that one variable stands for
abbrev pub names_for : List Replaced → SortedName → List Text
names_for rs x = map (λ y. y.name) (variables_for x (replacement_for rs x.name))

-- an atom that isn't opened is a pattern without verify faults
abbrev pub IsFaultlessAtom : KoreSignature → Atom → Type 0
IsFaultlessAtom g (same s t u) = ⊤
IsFaultlessAtom g (has_head x test) = ⊤
IsFaultlessAtom g (quoted p rs) = IsFaultless g p
