-- What a test of heads says of each of a list's heads, and the parts of how a question for a head is read.
use Rattle.std.specs.Prelude.{Bool, true, false, ◌&&◌, List, [], ◌∷◌, if◌then◌else◌, Option, Some, None}
use Rattle.std.specs.Bool.{beq}
use Rattle.std.specs.Str.{bytes_eq}
use Rattle.kp_kore.specs.Attributes.{sorts_equal}
use Rattle.kp_kore.specs.Syntax.{Text, KoreSort, KoreSorts, next_sort, KorePattern, KorePatterns, variable}
use Rattle.kp_kore.specs.Parts.{SortedName}
use Rattle.kp_kore.specs.Signature.{KoreSignature, Head, is_head, meaning_of}
use Rattle.kp_symbolic.specs.States.{HeadTest, head_of_sort}
use Rattle.kp_symbolic.specs.Heads.{passes_head}
use Rattle.kp_symbolic.specs.Opening.{HeadQuestion, question_if, asked_of}

-- the head, where it is one of the sort's, passes the test or doesn't, as asked
abbrev pub agrees : KoreSignature → KoreSort → HeadTest → Bool → Head → Bool
agrees g s test wanted h = if is_head g s h then beq (passes_head g test h) wanted else true

abbrev pub all_agree : KoreSignature → KoreSort → HeadTest → Bool → List Head → Bool
all_agree g s test wanted [] = true
all_agree g s test wanted (h ∷ hs) = agrees g s test wanted h && all_agree g s test wanted hs

-- the pattern is the variable, at a place of its sort
abbrev pub is_variable_at : SortedName → KoreSort → KorePattern → Bool
is_variable_at x s (variable y t) = bytes_eq x.name y && sorts_equal x.sort t && sorts_equal x.sort s
is_variable_at x s p = false

-- the one bound variable under inj, at the first of the sorts
abbrev pub asked_sort : List SortedName → KorePattern → KoreSorts → KorePattern → Option HeadQuestion
asked_sort (x ∷ []) p (next_sort t ss) q = question_if (is_variable_at x t q) p (head_of_sort t)
asked_sort xs p ss q = None

-- the question that an equality of a pattern with an application of the symbol asks
abbrev pub asked_of_application : KoreSignature → List SortedName → KorePattern → Text → KoreSorts → KorePatterns → Option HeadQuestion
asked_of_application g xs p f ss ps = asked_of g xs p (meaning_of g f) f ss ps
