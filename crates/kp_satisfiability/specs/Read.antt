-- What is known of the clauses of a state where their numbers, truth values and tokens are looked at.
-- Source: satisfiability of clauses; the order of the tests is this project's.
use Rattle.std.specs.Prelude.{◌≡◌, Bool, true, false, not, List, [], ◌∷◌, map, Vec}
use Rattle.std.specs.List.{AllByRecursion, Contains, list_all, filter}
use Rattle.std.specs.declared.alloc.Global.{Global}
use Rattle.kp_kore.specs.Parts.{SortedName}
use Rattle.kp_kore.specs.Signature.{KoreSignature}
use Rattle.kp_heads.specs.Heads.{HasValue}
use Rattle.kp_symbolic.specs.States.{clause_variables, Literal, SymbolicState}
use Rattle.kp_symbolic.specs.WellFormed.{IsWellSortedAtom, AreAtHand}
use Rattle.kp_symbolic.specs.Plain as model
use Rattle.kp_symbolic.specs.Plain.{is_plain_clause, literals_of, read_clauses}
use Rattle.kp_literals.specs.Readings.{clauses_view}
use Rattle.kp_literals.specs.Unknowns.{AreReadOfKind}
use Rattle.kp_literals.specs.declared.reading.ReadLiteral.{ReadLiteral}
use Rattle.kp_satisfiability.specs.Heads.{AreStanding}

-- the literals of the state's clauses have the sorts of their places, their variables are at hand, and each name has one sort
pub record HasSortedClauses (g : KoreSignature) (s : SymbolicState) : Type 0 where
  pub literals : AllByRecursion (AllByRecursion (λ l. IsWellSortedAtom g l.atom)) s.clauses
  pub clauses_at_hand : AllByRecursion (λ c. AreAtHand (clause_variables c) s.variables) s.clauses
  pub one_sort_each : (x y : SortedName) → Contains s.variables x → Contains s.variables y → x.name ≡ y.name → x.sort ≡ y.sort

-- the clause isn't empty
abbrev pub has_literal : List Literal → Bool
has_literal [] = false
has_literal (l ∷ c) = true

-- those of the read clauses that aren't plain
abbrev pub rough_in : List (List model.ReadLiteral) → List (List Literal)
rough_in rs = map literals_of (filter (λ c. not (is_plain_clause c)) rs)

-- these are the state's clauses, which have the sorts of their places; neither a sort without values, nor an empty clause, nor heads refute them
pub record AreReadOf (g : KoreSignature) (s : SymbolicState) (cs : List (Vec ReadLiteral Global)) : Type 0 where
  pub sorted : HasSortedClauses g s
  pub read : clauses_view cs ≡ read_clauses g s
  pub kinds : AreReadOfKind g cs
  pub values : AllByRecursion (λ x. HasValue g x.sort) s.variables
  pub literals : list_all has_literal s.clauses ≡ true
  pub heads : AreStanding g (clauses_view cs)
