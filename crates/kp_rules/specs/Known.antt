-- Which variables the right side of a rule may have: new ones, and those of the left term.
-- Source: the K framework's Kore language (variables with their sorts, new variables of a right side).
use Rattle.std.specs.Prelude.{Bool, not, ◌&&◌, ◌||◌, List, ◌++◌}
use Rattle.std.specs.List.{list_all, list_any}
use Rattle.std.specs.Str.{bytes_eq}
use Rattle.kp_kore.specs.Syntax.{KorePattern}
use Rattle.kp_kore.specs.Attributes.{sorts_equal}
use Rattle.kp_kore.specs.Parts.{SortedName, free_variables, all_free_variables}
use Rattle.kp_kore.specs.View.{patterns_of}
use Rattle.kp_kore.specs.Instance.{is_named}

-- whether the variable is one of these, by name and sort
abbrev pub is_among : SortedName → List SortedName → Bool
is_among x = list_any (λ y. bytes_eq y.name x.name && sorts_equal y.sort x.sort)

-- a variable is new with its sort, or one of the left term's
abbrev pub is_known : List SortedName → List SortedName → SortedName → Bool
is_known left new x = is_among x new || (is_named x.name left && not (is_named x.name new))

-- what stands free in a term and in predicates
abbrev pub free_beside : KorePattern → List KorePattern → List SortedName
free_beside t qs = free_variables t ++ all_free_variables (patterns_of qs)

-- each variable of a term and of predicates is
abbrev pub are_known : List SortedName → List SortedName → KorePattern → List KorePattern → Bool
are_known left new t qs = list_all (is_known left new) (free_beside t qs)
