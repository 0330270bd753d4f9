-- Which variables the parts of a rule read: those of its left term, which a match binds.
use Rattle.std.specs.Prelude.{Bool, ◌&&◌, ◌||◌, List, [], Option, Some, None, is_some, string_bytes}
use Rattle.std.specs.List.{list_all}
use Rattle.kp_kore.specs.Syntax.{Text}
use Rattle.kp_ground.specs.Slots.{stands_at, is_numbered, left_places, left_variables, term_reads, condition_reads}
use Rattle.kp_ground.specs.declared.left_side.CompiledLeft.{CompiledLeft}
use Rattle.kp_ground.specs.declared.term.CompiledTerm.{CompiledTerm}
use Rattle.kp_ground.specs.declared.condition.Condition.{Condition}
use Rattle.kp_compile.specs.Names.{names_seen}
use Rattle.kp_rules.specs.declared.right_side.RightSide.{RightSide}
use Rattle.kp_rules.specs.declared.rule.SortTest.{SortTest}

-- each tested variable is one of these names, and tells its number
abbrev pub tests_read : List Text → List SortTest → Bool
tests_read xs tests = list_all (λ t. stands_at xs (string_bytes t.name) t.slot) tests

-- the left term's variables are numbered by first places, and the tests and the condition read no others
abbrev pub is_left_bound : CompiledLeft → List SortTest → Condition → Bool
is_left_bound l tests c = is_numbered [] (left_places l) && (tests_read (left_variables l) tests && condition_reads (left_variables l) c)

-- nor does the right term of a rule that doesn't choose
abbrev pub is_right_bound : CompiledLeft → Bool → Option RightSide → CompiledTerm → Bool
is_right_bound l chooses choice t = (chooses && is_some choice) || term_reads (left_variables l) t

-- the names that are kept beside the right side of a rule that chooses; where there is none, those that are given
abbrev pub names_of_choice : List Text → Option RightSide → List Text
names_of_choice xs None = xs
names_of_choice xs (Some s) = names_seen s.left_names
