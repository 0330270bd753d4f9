-- Terms in the place of a state's variables: what is asked of them, and what they keep.
-- Source: simultaneous substitution; the K framework's Kore language (sorts).
use Rattle.std.specs.Prelude.{◌↔◌, List}
use Rattle.std.specs.List.{AllByRecursion}
use Rattle.kp_kore.specs.Signature.{KoreSignature}
use Rattle.kp_kore.specs.Value.{Value}
use Rattle.kp_kore.specs.Instance.{Valuation}
use Rattle.kp_symbolic.specs.Terms.{Replaced, under_replaced}
use Rattle.kp_symbolic.specs.States.{SymbolicState, IsStateInstance}
use Rattle.kp_symbolic.specs.WellFormed.{AreWellPlaced}
use Rattle.kp_symbolic_laws.specs.Runs.{HasOneSortEach, IsPredicateAtom, IsSortedState, IsWrittenAtom}
use Rattle.kp_clause_substitution.specs.Substituted.{substituted}

-- the state's parts have the sorts of their places, and the terms those of its variables
pub record CanBePlaced (g : KoreSignature) (qs : List Replaced) (s : SymbolicState) : Type 0 where
  pub sorted : IsSortedState g s
  pub placed : AreWellPlaced g qs s.variables

-- each of its literals is written right, with room for new names
abbrev pub HasWrittenLiterals : KoreSignature → SymbolicState → Type 0
HasWrittenLiterals g s = AllByRecursion (AllByRecursion (λ l. IsWrittenAtom g l.atom)) s.clauses

-- what isn't opened in it is a predicate
abbrev pub HasPredicates : SymbolicState → Type 0
HasPredicates s = AllByRecursion (AllByRecursion (λ l. IsPredicateAtom l.atom)) s.clauses

-- each name among the variables that are at hand then has one sort
abbrev pub HasOneSortThen : KoreSignature → List Replaced → SymbolicState → Type 0
HasOneSortThen g qs s = HasOneSortEach (substituted g qs s).variables

-- with the terms in its variables' places it has the instances that it has where these stand for those of the terms
abbrev pub HasInstancesUnder : KoreSignature → Valuation → List Replaced → SymbolicState → Type 0
HasInstancesUnder g v qs s = (u : Value) → IsStateInstance g v (substituted g qs s) u ↔ IsStateInstance g (under_replaced g qs v) s u
