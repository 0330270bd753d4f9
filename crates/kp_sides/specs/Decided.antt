-- What is computed of two sides; for private clauses.
use Rattle.std.specs.Prelude.{Bool, false, Option, Some, None, if◌then◌else◌}
use Rattle.std.specs.Option.{option_map}
use Rattle.kp_kore.specs.Syntax.{Text, KoreSort, KorePattern}
use Rattle.kp_kore.specs.Attributes.{sorts_equal}
use Rattle.kp_kore.specs.Signature.{KoreSignature}
use Rattle.kp_kore.specs.Instance.{conjoined_terms}
use Rattle.kp_kore.specs.Rules.{only_one, under_binders}
use Rattle.kp_kore.specs.Sides.{first_unclear}
use Rattle.kp_signature.specs.Places.{own_sort}
use Rattle.kp_sides.specs.Sides.{SidesFault, idle, other_terms, unclear_name, idle_binder}

-- the sort of the one term
abbrev pub sort_of_one : KoreSignature → Option KorePattern → Option KoreSort
sort_of_one g (Some t) = own_sort g t
sort_of_one g None = None

abbrev pub term_sort : KoreSignature → KorePattern → Option KoreSort
term_sort g p = sort_of_one g (only_one (conjoined_terms p))

abbrev pub are_one_sort : Option KoreSort → Option KoreSort → Bool
are_one_sort (Some s) (Some t) = sorts_equal s t
are_one_sort _ _ = false

abbrev pub name_fault : KorePattern → KorePattern → Option SidesFault
name_fault a c = option_map unclear_name (first_unclear a c)

-- the fault behind that of a binder
abbrev pub term_fault : KoreSignature → KorePattern → KorePattern → Option SidesFault
term_fault g a c = if are_one_sort (term_sort g a) (term_sort g (under_binders c)) then name_fault a c else Some other_terms

abbrev pub behind : Option Text → Option SidesFault → Option SidesFault
behind (Some n) later = Some (idle n)
behind None later = later

abbrev pub first_fault : KoreSignature → KorePattern → KorePattern → Option SidesFault
first_fault g a c = behind (idle_binder c) (term_fault g a c)
