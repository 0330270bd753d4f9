-- Short forms in which the laws are written.
use Rattle.std.specs.Prelude.{ℤ, Bool}
use Rattle.kp_kore.specs.Value.{Value, whole, truth, Values, no_values, next_value}
use Rattle.kp_kore.specs.Syntax.{Text, KoreSort, KorePattern, application, string_literal, no_sorts, next_sort, no_patterns, next_pattern}

-- f{A,B}(p), as inj has it
abbrev pub injected : Text → KoreSort → KoreSort → KorePattern → KorePattern
injected f a b p = application f (next_sort a (next_sort b no_sorts)) (next_pattern p no_patterns)

-- the attributes name{}() and name{}("text")
abbrev pub marked : Text → KorePattern
marked name = application name no_sorts no_patterns

abbrev pub marked_by : Text → Text → KorePattern
marked_by name text = application name no_sorts (next_pattern (string_literal text) no_patterns)

-- arguments: two values, two whole numbers, two truth values
abbrev pub two : Value → Value → Values
two u v = next_value u (next_value v no_values)

abbrev pub wholes : ℤ → ℤ → Values
wholes m n = two (whole m) (whole n)

abbrev pub truths : Bool → Bool → Values
truths a b = two (truth a) (truth b)
