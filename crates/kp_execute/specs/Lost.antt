-- Which variables that a state's pattern has lost what is written mentions.
-- Source: matching logic (instances under valuations); this project.
use Rattle.std.specs.Prelude.{Bool, not, ◌&&◌, ◌||◌, List, [], ◌++◌, Option, Some, None}
use Rattle.std.specs.List.{list_all}
use Rattle.kp_kore.specs.Syntax.{KorePattern}
use Rattle.kp_kore.specs.Parts.{SortedName, free_variables}
use Rattle.kp_kore.specs.Instance.{is_named}
use Rattle.kp_results.specs.Results.{StateParts, NextParts}

-- the variable is shown, or isn't at hand
abbrev pub is_kept : List SortedName → List SortedName → SortedName → Bool
is_kept hand shown x = is_named x.name shown || not (is_named x.name hand)

abbrev pub if_any : Option KorePattern → List SortedName
if_any (Some p) = free_variables p
if_any None = []

-- the variables of a state's term and predicate
abbrev pub parts_variables : StateParts → List SortedName
parts_variables x = free_variables x.term ++ if_any x.predicate

-- the next state and its predicate mention only variables that are shown or aren't at hand
abbrev pub mentions_none_lost : List SortedName → List SortedName → NextParts → Bool
mentions_none_lost hand shown x = list_all (is_kept hand shown) (parts_variables x.state) && list_all (is_kept hand shown) (free_variables x.predicate)
