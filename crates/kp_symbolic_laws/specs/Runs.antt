-- What holds of the states on the way from a pattern to the state that it is read as.
-- Source: equations of variables by substitution, as unification has them; the K framework's Kore language (sorts).
use Rattle.std.specs.Prelude.{◌≡◌, ◌↔◌, ◌+◌, ◌<◌, ◌^◌, ℕ, zero, suc, true, List, [], ◌∷◌, ◌++◌, length, Option, Some, None, ⊤, MatchBool}
use Rattle.std.specs.List.{AllByRecursion, Contains, list_any}
use Rattle.std.specs.Str.{bytes_eq}
use Rattle.kp_kore.specs.Syntax.{Text, KoreSort, KorePattern, KorePatterns, negation, conjunction, disjunction, implication, equivalence, exists, forall, ceil, floor, equals, membership, no_patterns, next_pattern}
use Rattle.kp_kore.specs.Parts.{SortedName, sort_list, is_term, free_variables, variable_names}
use Rattle.kp_kore.specs.Signature.{KoreSignature, construction, meaning_of}
use Rattle.kp_kore.specs.Instance.{Valuation, IsTrueUnder, is_named, is_predicate, is_conjoined_pair}
use Rattle.kp_compile.specs.Spelled.{places_of}
use Rattle.kp_symbolic.specs.Terms.{term_variables, Replaced}
use Rattle.kp_symbolic.specs.States.{HeadTest, one_head, head_of_sort, Atom, same, has_head, quoted, atom_variables, clause_variables, Literal, IsClauseTrue, SymbolicState}
use Rattle.kp_symbolic.specs.WellFormed.{IsWellSorted, IsWellSortedAtom, AreWellPlaced, AreAtHand}
use Rattle.kp_symbolic.specs.Folding.{folded}
use Rattle.kp_symbolic.specs.Clauses.{is_too_large}
use Rattle.kp_symbolic.specs.Writing.{names_coming_in, bound_name, renamed, written_clause}
use Rattle.kp_symbolic.specs.Solving.{Equation, replacement, opened_clause, solved_clause, literals_in, Solvable, first_solvable, solved_at}

-- a name among these variables has one sort
abbrev pub HasOneSortEach : List SortedName → Type 0
HasOneSortEach hand = (x y : SortedName) → Contains hand x → Contains hand y → x.name ≡ y.name → x.sort ≡ y.sort

-- a literal has the sorts of its places, and its variables are at hand
abbrev pub IsSortedLiteral : KoreSignature → List SortedName → Literal → Type 0
IsSortedLiteral g hand l = IsWellSortedAtom g l.atom × AreAtHand (atom_variables l.atom) hand

-- a state whose term and literals have the sorts of their places, whose variables are at hand, with one sort for each name
pub record IsSortedState (g : KoreSignature) (s : SymbolicState) : Type 0 where
  pub term : IsWellSorted g s.sort s.term
  pub term_at_hand : AreAtHand (term_variables s.term) s.variables
  pub literals : AllByRecursion (AllByRecursion (IsSortedLiteral g s.variables)) s.clauses
  pub one_sort_each : HasOneSortEach s.variables

-- ---- the states that solving comes by

-- a state on the way from another, itself included
pub data ComesBy (g : KoreSignature) : SymbolicState → SymbolicState → Type 0 where
  begins : (s : SymbolicState) → ComesBy g s s
  goes_by : (s x : SymbolicState) (o : Solvable) → first_solvable g s ≡ Some o → ComesBy g (solved_at g o s) x → ComesBy g s x

-- the one literal that stands for a clause that is too large to be opened again
abbrev pub kept_whole : KoreSignature → KoreSort → Equation → List Literal → List Literal
kept_whole g sort e c = record { holds = true; atom = quoted (written_clause g sort c) (replacement e) } ∷ []

-- P holds of the clause, if it holds the equation's variable and opens to too many literals behind so many: it stays one
abbrev pub IfKeptWhole : KoreSignature → Equation → (List Literal → Type 0) → ℕ → List Literal → Type 0
IfKeptWhole g e P n c = is_named e.variable.name (clause_variables c) ≡ true → is_too_large n (opened_clause g e c) ≡ true → P c

-- and so of each of these clauses but the equation's own
abbrev pub OfKeptWhole : KoreSignature → KoreSort → Equation → (List Literal → Type 0) → ℕ → Option ℕ → List (List Literal) → Type 0
OfKeptWhole g sort e P n place [] = ⊤
OfKeptWhole g sort e P n (Some zero) (c ∷ cs) = OfKeptWhole g sort e P (n + length c) None cs
OfKeptWhole g sort e P n (Some (suc i)) (c ∷ cs) = IfKeptWhole g e P n c × OfKeptWhole g sort e P (n + literals_in (solved_clause g sort e n c)) (Some i) cs
OfKeptWhole g sort e P n None (c ∷ cs) = IfKeptWhole g e P n c × OfKeptWhole g sort e P (n + literals_in (solved_clause g sort e n c)) None cs

-- P holds of each clause of the state that stays one literal where this equation is solved
abbrev pub OfKeptAt : KoreSignature → (SymbolicState → List Literal → Type 0) → SymbolicState → Solvable → Type 0
OfKeptAt g P s o = OfKeptWhole g s.sort o.equation (P s) 0 (Some o.place) s.clauses

-- what is written for the clause has no other variables than those at hand
abbrev pub IsWrittenOfThese : KoreSignature → SymbolicState → List Literal → Type 0
IsWrittenOfThese g s c = AreAtHand (free_variables (written_clause g s.sort c)) s.variables

-- under a valuation, what is written for the clause says what it says
abbrev pub IsWrittenRight : KoreSignature → Valuation → SymbolicState → List Literal → Type 0
IsWrittenRight g v s c = IsTrueUnder g v (written_clause g s.sort c) ↔ IsClauseTrue g v c

-- P holds of each clause that stays one literal on the way from this state on
abbrev pub OfEachKept : KoreSignature → (SymbolicState → List Literal → Type 0) → SymbolicState → Type 0
OfEachKept g P s = (x : SymbolicState) (o : Solvable) → ComesBy g s x → first_solvable g x ≡ Some o → OfKeptAt g P x o

-- ---- room for new names

-- where x is bound in p and a variable of that name comes in, fewer than 2 ^ 64 names come in or stand there
abbrev pub IsRoomAt : List Replaced → Text → KorePattern → Type 0
IsRoomAt rs x p = list_any (bytes_eq x) (names_coming_in rs x p) ≡ true → length (names_coming_in rs x p ++ variable_names p) < 2 ^ 64

-- and so at each binder of the predicate
abbrev mutual
  pub HasRoom : List Replaced → KorePattern → Type 0
  HasRoom rs (negation s p) = HasRoom rs p
  HasRoom rs (conjunction s ps) = AllHaveRoom rs ps
  HasRoom rs (disjunction s ps) = AllHaveRoom rs ps
  HasRoom rs (implication s p q) = HasRoom rs p × HasRoom rs q
  HasRoom rs (equivalence s p q) = HasRoom rs p × HasRoom rs q
  HasRoom rs (exists s x t p) = IsRoomAt rs x p × HasRoom (renamed x (bound_name rs x p) t rs) p
  HasRoom rs (forall s x t p) = IsRoomAt rs x p × HasRoom (renamed x (bound_name rs x p) t rs) p
  HasRoom rs (ceil a s p) = HasRoom rs p
  HasRoom rs (floor a s p) = HasRoom rs p
  HasRoom rs p = ⊤

  pub AllHaveRoom : List Replaced → KorePatterns → Type 0
  AllHaveRoom rs no_patterns = ⊤
  AllHaveRoom rs (next_pattern p ps) = HasRoom rs p × AllHaveRoom rs ps

-- the least new names are new: there is room at the binders of a predicate that isn't opened, a constructor that is asked for
-- has few arguments
abbrev pub HasRoomAtom : KoreSignature → Atom → Type 0
HasRoomAtom g (same s t u) = ⊤
HasRoomAtom g (has_head x (one_head c)) = 1 + length (sort_list (places_of g c)) < 2 ^ 64
HasRoomAtom g (has_head x (head_of_sort s)) = ⊤
HasRoomAtom g (quoted p rs) = HasRoom rs p

abbrev pub HasRoomClause : KoreSignature → List Literal → Type 0
HasRoomClause g = AllByRecursion (λ l. HasRoomAtom g l.atom)

-- the same of a clause in a state
abbrev pub HasRoomIn : KoreSignature → SymbolicState → List Literal → Type 0
HasRoomIn g s c = HasRoomClause g c

-- ---- predicates of well-sorted terms

-- a term that is well-sorted, with any well-sorted terms in the place of its variables
pub record IsSoundTerm (g : KoreSignature) (p : KorePattern) : Type 0 where
  pub term : is_term p ≡ true
  pub sorted : (rs : List Replaced) → AreWellPlaced g rs (free_variables p) → (s : KoreSort) × IsWellSorted g s (folded g rs p)

-- each variable of this name has this sort
abbrev pub IsOfOneSort : Text → KoreSort → List SortedName → Type 0
IsOfOneSort x t = AllByRecursion (λ z. bytes_eq z.name x ≡ true → z.sort ≡ t)

-- both members of a pair are such terms
abbrev pub IsSoundPair : KoreSignature → KorePattern → Type 0
IsSoundPair g (conjunction s (next_pattern p (next_pattern q no_patterns))) = IsSoundTerm g p × IsSoundTerm g q
IsSoundPair g p = ⊤

-- each of its terms is well-sorted, and the variables of a name that it binds have one sort
abbrev mutual
  pub IsSoundPredicate : KoreSignature → KorePattern → Type 0
  IsSoundPredicate g (negation s p) = IsSoundPredicate g p
  IsSoundPredicate g (conjunction s ps) = AreSoundPredicates g ps
  IsSoundPredicate g (disjunction s ps) = AreSoundPredicates g ps
  IsSoundPredicate g (implication s p q) = IsSoundPredicate g p × IsSoundPredicate g q
  IsSoundPredicate g (equivalence s p q) = IsSoundPredicate g p × IsSoundPredicate g q
  IsSoundPredicate g (exists s x t p) = IsOfOneSort x t (free_variables p) × IsSoundPredicate g p
  IsSoundPredicate g (forall s x t p) = IsOfOneSort x t (free_variables p) × IsSoundPredicate g p
  IsSoundPredicate g (ceil a s p) = MatchBool (is_term p) ⊤ (MatchBool (is_conjoined_pair p) (IsSoundPair g p) (IsSoundPredicate g p))
  IsSoundPredicate g (floor a s p) = MatchBool (is_term p) (IsSoundTerm g p) (IsSoundPredicate g p)
  IsSoundPredicate g (equals a s p q) = IsSoundTerm g p × IsSoundTerm g q
  IsSoundPredicate g (membership a s p q) = IsSoundTerm g p × IsSoundTerm g q
  IsSoundPredicate g p = ⊤

  pub AreSoundPredicates : KoreSignature → KorePatterns → Type 0
  AreSoundPredicates g no_patterns = ⊤
  AreSoundPredicates g (next_pattern p ps) = IsSoundPredicate g p × AreSoundPredicates g ps

-- ---- literals that are written right

-- a head that is asked for is a constructor's, or any of a sort's
abbrev pub IsMeantTest : KoreSignature → HeadTest → Type 0
IsMeantTest g (one_head c) = meaning_of g c ≡ construction
IsMeantTest g (head_of_sort s) = ⊤

-- what isn't opened is a predicate
abbrev pub IsPredicateAtom : Atom → Type 0
IsPredicateAtom (same s t u) = ⊤
IsPredicateAtom (has_head x test) = ⊤
IsPredicateAtom (quoted p rs) = is_predicate p ≡ true

-- and each of its terms is well-sorted
abbrev pub IsSoundAtom : KoreSignature → Atom → Type 0
IsSoundAtom g (same s t u) = ⊤
IsSoundAtom g (has_head x test) = IsMeantTest g test
IsSoundAtom g (quoted p rs) = (is_predicate p ≡ true) × IsSoundPredicate g p

-- a state with the sorts of its places, each of whose literals is such a one
pub record IsSoundState (g : KoreSignature) (s : SymbolicState) : Type 0 where
  pub sorted : IsSortedState g s
  pub sound : AllByRecursion (AllByRecursion (λ l. IsSoundAtom g l.atom)) s.clauses

-- such a literal, with room for new names
abbrev pub IsWrittenAtom : KoreSignature → Atom → Type 0
IsWrittenAtom g a = IsSoundAtom g a × HasRoomAtom g a

abbrev pub AreWrittenAtoms : KoreSignature → SymbolicState → List Literal → Type 0
AreWrittenAtoms g s c = AllByRecursion (λ l. IsWrittenAtom g l.atom) c
