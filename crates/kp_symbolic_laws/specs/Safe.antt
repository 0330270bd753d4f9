-- States whose terms are in normal form, whose literals have the sorts of their places, and whose quoted predicates are written
-- right where there is room for new names.
-- Source: this project.
use Rattle.std.specs.Prelude.{◌≡◌, true, List, ⊤}
use Rattle.std.specs.List.{AllByRecursion}
use Rattle.kp_kore.specs.Syntax.{KorePattern}
use Rattle.kp_kore.specs.Signature.{KoreSignature}
use Rattle.kp_kore.specs.Instance.{is_predicate}
use Rattle.kp_symbolic.specs.Terms.{SymbolicTerm, headed, SymbolicTerms, no_terms, next_term, Replaced}
use Rattle.kp_symbolic.specs.WellFormed.{IsFolded}
use Rattle.kp_symbolic.specs.States.{Atom, same, has_head, quoted, Literal, SymbolicState}
use Rattle.kp_symbolic_laws.specs.Runs.{IsMeantTest, IsSortedState, IsSoundPredicate}

-- in normal form with all its parts
abbrev mutual
  pub IsNormal : KoreSignature → SymbolicTerm → Type 0
  IsNormal g (headed f ts) = IsFolded g (headed f ts) × AreNormal g ts
  IsNormal g t = IsFolded g t

  pub AreNormal : KoreSignature → SymbolicTerms → Type 0
  AreNormal g no_terms = ⊤
  AreNormal g (next_term t ts) = IsNormal g t × AreNormal g ts

-- and so are the terms that stand for variables
abbrev pub PutNormal : KoreSignature → List Replaced → Type 0
PutNormal g = AllByRecursion (λ r. IsNormal g r.term)

-- its terms are in normal form, its test is one that is asked, its predicate has the property
abbrev pub IsFormed : KoreSignature → (KorePattern → Type 0) → Atom → Type 0
IsFormed g V (same s t u) = IsNormal g t × IsNormal g u
IsFormed g V (has_head x test) = IsMeantTest g test
IsFormed g V (quoted p rs) = V p × PutNormal g rs

abbrev pub Formed : KoreSignature → (KorePattern → Type 0) → Literal → Type 0
Formed g V l = IsFormed g V l.atom

-- the term and all literals
pub record IsFormedState (g : KoreSignature) (V : KorePattern → Type 0) (s : SymbolicState) : Type 0 where
  pub term : IsNormal g s.term
  pub literals : AllByRecursion (AllByRecursion (Formed g V)) s.clauses

-- a predicate that is written right
abbrev pub IsSoundQuote : KoreSignature → KorePattern → Type 0
IsSoundQuote g p = (is_predicate p ≡ true) × IsSoundPredicate g p

-- sorted, and formed
pub record IsSafe (g : KoreSignature) (s : SymbolicState) : Type 0 where
  pub sorted : IsSortedState g s
  pub formed : IsFormedState g (IsSoundQuote g) s
