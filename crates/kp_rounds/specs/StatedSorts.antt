-- The sort of a conjunction.
-- Source: the K framework's Kore language (each connective states its sort).
use Rattle.std.specs.Prelude.{Option, Some, None, codes}
use Rattle.kp_kore.specs.Syntax as kore
use Rattle.kp_kore.specs.Syntax.{KoreSort, sort_of, no_sorts, KorePattern}

-- the sort that a pattern states of itself; an application states none, nor do a text, \mu and \nu
abbrev pub stated_sort : KorePattern → Option KoreSort
stated_sort (kore.variable x s) = Some s
stated_sort (kore.set_variable x s) = Some s
stated_sort (kore.application f ss ps) = None
stated_sort (kore.string_literal t) = None
stated_sort (kore.literal s t) = Some s
stated_sort (kore.top s) = Some s
stated_sort (kore.bottom s) = Some s
stated_sort (kore.negation s p) = Some s
stated_sort (kore.next s p) = Some s
stated_sort (kore.conjunction s ps) = Some s
stated_sort (kore.disjunction s ps) = Some s
stated_sort (kore.implication s p q) = Some s
stated_sort (kore.equivalence s p q) = Some s
stated_sort (kore.rewriting s p q) = Some s
stated_sort (kore.exists s x t p) = Some s
stated_sort (kore.forall s x t p) = Some s
stated_sort (kore.ceil a s p) = Some s
stated_sort (kore.floor a s p) = Some s
stated_sort (kore.equals a s p q) = Some s
stated_sort (kore.membership a s p q) = Some s
stated_sort (kore.mu x s p) = None
stated_sort (kore.nu x s p) = None

-- the sort at which a term is joined with this predicate: the predicate's own, else that of whole configurations
abbrev pub sort_beside : KorePattern → KoreSort
sort_beside p = of_stated (stated_sort p)
  where
    of_stated : Option KoreSort → KoreSort
    of_stated (Some s) = s
    of_stated None = sort_of (codes "SortGeneratedTopCell") no_sorts
