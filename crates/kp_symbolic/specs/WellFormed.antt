-- What holds of each symbolic state: its parts have the sorts of their places, and its variables are at hand.
-- Source: the K framework's Kore language (sorts of applications and of equalities).
use Rattle.std.specs.Prelude.{◌≡◌, Bool, true, false, List, [], Option, Some, None, IsTrue, ⊤}
use Rattle.std.specs.List.{AllByRecursion, Contains}
use Rattle.kp_kore.specs.Syntax.{KoreSort, KoreSorts, no_sorts, next_sort}
use Rattle.kp_kore.specs.Parts.{SortedName, free_variables}
use Rattle.kp_kore.specs.Signature.{KoreSignature, SymbolMeaning, construction, interpretation, meaning_of, is_number_sort, IsBelow, is_below}
use Rattle.kp_kore.specs.Sorting.{result_sort}
use Rattle.kp_kore.specs.Value.{HasSort, HaveSorts}
use Rattle.kp_kore.specs.Instance.{Valuation, GivesSorts}
use Rattle.kp_compile.specs.Spelled.{own_sort, places_of, NumbersFit}
use Rattle.kp_symbolic.specs.Terms.{SymbolicTerm, unknown, offset, known, headed, SymbolicTerms, no_terms, next_term, term_instance, term_instances, term_variables, Replaced, replacement_for}
use Rattle.kp_symbolic.specs.Folding.{can_be_added, term_for, replaced}
use Rattle.kp_symbolic.specs.States.{Atom, same, has_head, quoted, Literal, clause_variables, SymbolicState}

-- the sort of a term's head: a variable's own, a value's head's, or the symbol's result
abbrev pub term_sort : KoreSignature → SymbolicTerm → Option KoreSort
term_sort g (unknown x) = Some x.sort
term_sort g (offset x c) = Some x.sort
term_sort g (known u) = own_sort g u
term_sort g (headed f ts) = result_sort g f no_sorts

-- whether a sort that there may be is another's or below it
abbrev pub is_sort_below : KoreSignature → Option KoreSort → KoreSort → Bool
is_sort_below g (Some a) b = is_below g.subsorts a b
is_sort_below g None b = false

-- the term's own sort is the place's or below it
abbrev pub IsPlaced : KoreSignature → KoreSort → SymbolicTerm → Type 0
IsPlaced g place t = (own : KoreSort) × (term_sort g t ≡ Some own) × IsBelow g.subsorts own place

-- constructors and interpreted symbols stand in terms: inj is left out, and foreign symbols have no value
abbrev pub stands_in_terms : SymbolMeaning → Bool
stands_in_terms construction = true
stands_in_terms (interpretation h) = true
stands_in_terms _ = false

-- and so in all its parts; its numbers have 128 bits
abbrev mutual
  pub IsWellSorted : KoreSignature → KoreSort → SymbolicTerm → Type 0
  IsWellSorted g place (unknown x) = IsBelow g.subsorts x.sort place
  IsWellSorted g place (offset x c) = (is_number_sort g x.sort ≡ true) × (can_be_added g c ≡ true) × IsBelow g.subsorts x.sort place
  IsWellSorted g place (known u) = HasSort g place u × NumbersFit u
  IsWellSorted g place (headed f ts) = IsTrue (stands_in_terms (meaning_of g f)) × IsPlaced g place (headed f ts) × AreWellSorted g (places_of g f) ts

  pub AreWellSorted : KoreSignature → KoreSorts → SymbolicTerms → Type 0
  AreWellSorted g no_sorts no_terms = ⊤
  AreWellSorted g (next_sort s ss) (next_term t ts) = IsWellSorted g s t × AreWellSorted g ss ts
  AreWellSorted g no_sorts (next_term t ts) = ⊥
  AreWellSorted g (next_sort s ss) no_terms = ⊥

-- the term in each variable's place has the variable's sort
abbrev pub AreWellPlaced : KoreSignature → List Replaced → List SortedName → Type 0
AreWellPlaced g rs = AllByRecursion (λ x. IsWellSorted g x.sort (term_for x (replacement_for rs x.name)))

-- under a valuation, each symbol in the term is given values of the sorts of its arguments
abbrev mutual
  pub IsGivenSorts : KoreSignature → Valuation → SymbolicTerm → Type 0
  IsGivenSorts g v (headed f ts) = HaveSorts g (places_of g f) (term_instances g v ts) × AreGivenSorts g v ts
  IsGivenSorts g v t = ⊤

  pub AreGivenSorts : KoreSignature → Valuation → SymbolicTerms → Type 0
  AreGivenSorts g v no_terms = ⊤
  AreGivenSorts g v (next_term t ts) = IsGivenSorts g v t × AreGivenSorts g v ts

-- the sides of an equality have its sort, the terms in a quoted predicate those of the variables
abbrev pub IsWellSortedAtom : KoreSignature → Atom → Type 0
IsWellSortedAtom g (same s t u) = IsWellSorted g s t × IsWellSorted g s u
IsWellSortedAtom g (has_head x test) = ⊤
IsWellSortedAtom g (quoted p rs) = AreWellPlaced g rs (free_variables p)

-- under a valuation, the literal's variables have values of their sorts, and so have the sides of an equality
abbrev pub IsGivenAtom : KoreSignature → Valuation → Atom → Type 0
IsGivenAtom g v (same s t u) = GivesSorts g v (term_variables t) × GivesSorts g v (term_variables u) × IsGivenSorts g v t × IsGivenSorts g v u × HasSort g s (term_instance g v t) × HasSort g s (term_instance g v u)
IsGivenAtom g v (has_head x test) = HasSort g x.sort (v x.name)
IsGivenAtom g v (quoted p rs) = ⊤

abbrev pub AreGivenLiterals : KoreSignature → Valuation → List (List Literal) → Type 0
AreGivenLiterals g v = AllByRecursion (AllByRecursion (λ l. IsGivenAtom g v l.atom))

-- each of the variables is among those at hand
abbrev pub AreAtHand : List SortedName → List SortedName → Type 0
AreAtHand xs hand = AllByRecursion (λ x. Contains hand x) xs

-- the variables of each of the state's clauses are among those at hand
abbrev pub AreClausesAtHand : SymbolicState → Type 0
AreClausesAtHand s = AllByRecursion (λ c. AreAtHand (clause_variables c) s.variables) s.clauses

-- a term is in normal form where folding it again leaves it
abbrev pub IsFolded : KoreSignature → SymbolicTerm → Type 0
IsFolded g t = replaced g [] t ≡ t

abbrev pub IsFoldedAtom : KoreSignature → Atom → Type 0
IsFoldedAtom g (same s t u) = IsFolded g t × IsFolded g u
IsFoldedAtom g (has_head x test) = ⊤
IsFoldedAtom g (quoted p rs) = AllByRecursion (λ r. IsFolded g r.term) rs

pub record IsWellFormed (g : KoreSignature) (s : SymbolicState) : Type 0 where
  pub term : IsWellSorted g s.sort s.term
  pub literals : AllByRecursion (AllByRecursion (λ l. IsWellSortedAtom g l.atom)) s.clauses
  pub folded_term : IsFolded g s.term
  pub folded_clauses : AllByRecursion (AllByRecursion (λ l. IsFoldedAtom g l.atom)) s.clauses
  pub term_at_hand : AreAtHand (term_variables s.term) s.variables
  pub clauses_at_hand : AreClausesAtHand s
  pub one_sort_each : (x y : SortedName) → Contains s.variables x → Contains s.variables y → x.name ≡ y.name → x.sort ≡ y.sort
