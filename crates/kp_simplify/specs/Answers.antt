-- What simplify answers of the state that a pattern is read as, by what the state's clauses are found to be.
-- Source: the K Haskell backend's JSON-RPC documentation (simplify); which states are left undecided is this project's.
use Rattle.std.specs.Prelude.{◌≡◌, ℕ, min, nat_le, List, [], ◌∷◌, Option, Some, None, if◌then◌else◌}
use Rattle.std.specs.List.{flat_map}
use Rattle.kp_kore.specs.Syntax.{KoreSort, KorePattern}
use Rattle.kp_kore.specs.Limits.{most_depth}
use Rattle.kp_kore.specs.Parts.{term_depth}
use Rattle.kp_kore.specs.Signature.{KoreSignature}
use Rattle.kp_kore.specs.Implied.{Simplified, state, nothing}
use Rattle.kp_symbolic.specs.Terms.{SymbolicTerm}
use Rattle.kp_symbolic.specs.States.{Atom, same, Literal, SymbolicState}
use Rattle.kp_symbolic.specs.Writing.{written_term, written_predicate, written_state}
use Rattle.kp_symbolic.specs.Verdicts.{Verdict, Weighed, some_valuation, no_valuation, undecided, IsRightVerdict}
use Rattle.kp_symbolic.specs.Shown.{unknown_clauses, weight_passed, wide_number, deep, most_told}
use Rattle.kp_symbolic.specs.Endings.{Result, answered, what_is_undecided}
use Rattle.kp_limits.specs.Wide.{WideCall, first_wide}
use Rattle.kp_outward.specs.Arranged.{AreArranged, with_clauses}

-- ---- what is written

-- the predicate of these clauses in order
abbrev pub IsArrangedPredicate : KoreSignature → KoreSort → List (List Literal) → KorePattern → Type 0
IsArrangedPredicate g sort cs p = (ds : List (List Literal)) × AreArranged g sort cs ds × (written_predicate g sort ds ≡ Some p)

-- the pattern of the state, its clauses in order
abbrev pub IsArrangedPattern : KoreSignature → SymbolicState → KorePattern → Type 0
IsArrangedPattern g s p = (ds : List (List Literal)) × AreArranged g s.sort s.clauses ds × (p ≡ written_state g (with_clauses s ds))

-- ---- how deep it is

-- a term and the sort at which it is written
pub record Side : Type 0 where
  pub sort : KoreSort
  pub term : SymbolicTerm

abbrev pub side_of : KoreSort → SymbolicTerm → Side
side_of s t = record { sort = s; term = t }

abbrev pub atom_sides : Atom → List Side
atom_sides (same s t u) = side_of s t ∷ side_of s u ∷ []
atom_sides a = []

abbrev pub clause_sides : List (List Literal) → List Side
clause_sides cs = flat_map (λ c. flat_map (λ l. atom_sides l.atom) c) cs

-- the state's term, then the sides of equalities in its clauses
abbrev pub state_sides : SymbolicState → List Side
state_sides s = side_of s.sort s.term ∷ clause_sides s.clauses

abbrev pub depth_of : KoreSignature → Side → ℕ
depth_of g x = term_depth (written_term g x.sort x.term)

-- more levels than a term may have
abbrev pub too_deep : ℕ → Option ℕ
too_deep n = if nat_le n most_depth then None else Some n

abbrev pub first_number : Option ℕ → Option ℕ → Option ℕ
first_number (Some n) o = Some n
first_number None o = o

-- of the first of these terms that has more
abbrev pub first_deep : KoreSignature → List Side → Option ℕ
first_deep g [] = None
first_deep g (x ∷ xs) = first_number (too_deep (depth_of g x)) (first_deep g xs)

-- ---- the answer

-- a right verdict says something else than that no values make the clauses true
abbrev pub MayBeTrue : KoreSignature → SymbolicState → Type 0
MayBeTrue g s = (d : Verdict) × IsRightVerdict g s d × ¬ (d ≡ no_valuation)

-- In the order of the causes, each told where none before it is: no values, a number, clauses that aren't decided, depth.
pub data IsAnswer (g : KoreSignature) (s : SymbolicState) : Result Simplified → Type 0 where
  -- no values of the variables make the clauses true
  empty : IsRightVerdict g s no_valuation → IsAnswer g s (answered (nothing s.sort))
  -- a call of two numbers that leaves 128 bits
  wide : (c : WideCall) → MayBeTrue g s → first_wide g s ≡ Some c → IsAnswer g s (what_is_undecided (wide_number c.symbol c.first c.second))
  -- clauses that aren't plain
  rough : (cs : List (List Literal)) (p : KorePattern) → IsRightVerdict g s (undecided cs None) → first_wide g s ≡ None → IsArrangedPredicate g s.sort cs p → IsAnswer g s (what_is_undecided (unknown_clauses p))
  -- clauses over a weight
  heavy : (cs : List (List Literal)) (h : Weighed) (p : KorePattern) → IsRightVerdict g s (undecided cs (Some h)) → first_wide g s ≡ None → IsArrangedPredicate g s.sort cs p → IsAnswer g s (what_is_undecided (weight_passed p h.weight (min h.number most_told)))
  -- a term that is too deep
  deeper : (n : ℕ) → IsRightVerdict g s some_valuation → first_wide g s ≡ None → first_deep g (state_sides s) ≡ Some n → IsAnswer g s (what_is_undecided (deep n))
  -- some values of the variables make them true
  some : (p : KorePattern) → IsRightVerdict g s some_valuation → first_wide g s ≡ None → first_deep g (state_sides s) ≡ None → IsArrangedPattern g s p → IsAnswer g s (answered (state p))
