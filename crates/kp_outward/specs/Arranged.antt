-- Clauses in the order in which they are written: what is written for a state is what kp_symbolic's Writing says of its
-- clauses in that order.
-- Source: the K framework's Kore JSON, version 1; the order is this project's.
use Rattle.std.specs.Prelude.{◌≡◌, List, map}
use Rattle.std.specs.List.{Contains}
use Rattle.std.specs.List.Sorted.{IsPermutation}
use Rattle.kp_kore.specs.Syntax.{KoreSort, KorePattern}
use Rattle.kp_kore.specs.Signature.{KoreSignature}
use Rattle.kp_symbolic.specs.Shown.{AreDifferent}
use Rattle.kp_symbolic.specs.States.{Literal, SymbolicState}
use Rattle.kp_symbolic.specs.Writing.{written_literal, written_clause}
use Rattle.kp_symbolic.specs.View.{clause_view}
use Rattle.kp_symbolic.specs.declared.clause.Clause.{Clause}
use Rattle.kp_outward.specs.Order.{AreInOrder}
use Rattle.kp_outward.specs.View.{spelled_view}
use Rattle.kp_outward.specs.declared.texts.Spelled.{Spelled}

-- the clause with its literals in the order of what is written for them
pub record IsArrangedClause (g : KoreSignature) (sort : KoreSort) (c d : List Literal) : Type 0 where
  pub same : IsPermutation c d
  pub in_order : AreInOrder (map (written_literal g sort) d)

-- the pattern is what is written for the clause in order
abbrev pub IsWrittenClause : KoreSignature → KoreSort → List Literal → KorePattern → Type 0
IsWrittenClause g sort c p = (d : List Literal) × IsArrangedClause g sort c d × (p ≡ written_clause g sort d)

-- the pattern that is held with its text is what is written for the clause in order
abbrev pub IsSpelledClause : KoreSignature → KoreSort → Clause → Spelled → Type 0
IsSpelledClause g sort c p = IsWrittenClause g sort (clause_view c) (spelled_view p)

-- among the clauses stands this one, in order
abbrev pub Arranges : KoreSignature → KoreSort → List (List Literal) → List Literal → Type 0
Arranges g sort cs d = (c : List Literal) × Contains cs c × IsArrangedClause g sort c d

-- what is written for the clause stands among what is written for these
abbrev pub IsWrittenAmong : KoreSignature → KoreSort → List (List Literal) → List Literal → Type 0
IsWrittenAmong g sort ds c = (d : List Literal) × IsArrangedClause g sort c d × Contains (map (written_clause g sort) ds) (written_clause g sort d)

-- The clauses, each in order, in the order of what is written for them; of clauses that are written alike one.
pub record AreArranged (g : KoreSignature) (sort : KoreSort) (cs ds : List (List Literal)) : Type 0 where
  pub from_these : (d : List Literal) → Contains ds d → Arranges g sort cs d
  pub all_of_these : (c : List Literal) → Contains cs c → IsWrittenAmong g sort ds c
  pub once : AreDifferent (map (written_clause g sort) ds)
  pub in_order : AreInOrder (map (written_clause g sort) ds)

-- the state with other clauses
abbrev pub with_clauses : SymbolicState → List (List Literal) → SymbolicState
with_clauses s cs = record { term = s.term; sort = s.sort; clauses = cs; variables = s.variables }
