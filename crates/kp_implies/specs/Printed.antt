-- The substitution as it is written: equalities that tell the bound variables, in the binders' order.
-- Source: the K Haskell backend's JSON-RPC documentation (implies: substitution).
use Rattle.std.specs.Prelude.{Bool, true, false, not, ◌&&◌, neg_ℤ, List, [], ◌∷◌, ◌++◌, map, Option, Some, None, if◌then◌else◌}
use Rattle.std.specs.List.{flat_map}
use Rattle.std.specs.Str.{bytes_eq}
use Rattle.kp_kore.specs.Syntax.{KoreSort, KorePattern, KorePatterns, top, conjunction}
use Rattle.kp_kore.specs.View.{patterns_of}
use Rattle.kp_kore.specs.Attributes.{sorts_equal}
use Rattle.kp_kore.specs.Parts.{SortedName}
use Rattle.kp_kore.specs.Signature.{KoreSignature, meaning_of}
use Rattle.kp_kore.specs.Instance.{is_named}
use Rattle.kp_symbolic.specs.Terms.{SymbolicTerm, unknown, offset, headed}
use Rattle.kp_symbolic.specs.Heads.{is_construction}
use Rattle.kp_symbolic.specs.States.{Atom, same, Literal, SymbolicState}
use Rattle.kp_symbolic.specs.Endings.{open_places}
use Rattle.kp_symbolic.specs.Writing.{written_atom, is_solved_by}
use Rattle.kp_case_laws.specs.Parts.{whole}
use Rattle.kp_case_laws.specs.Courses.{equality_clauses}
use Rattle.kp_step.specs.Conditions.{condition_clauses}
use Rattle.kp_goals.specs.Consequents.{Consequent}
use Rattle.kp_goals.specs.Gives.{has_bound, shifted, match_clauses}

-- ---- how an equality is written

-- at the variable's sort, where it can be solved for
abbrev pub at_variable : KoreSignature → KoreSort → SymbolicTerm → SymbolicTerm → Atom
at_variable g s (unknown x) u = if is_solved_by g x u then same x.sort (unknown x) u else same s (unknown x) u
at_variable g s t u = same s t u

-- t is u where the variable y is the term: y first, where it can be solved for
abbrev pub alone_first : KoreSignature → KoreSort → SymbolicTerm → SymbolicTerm → SortedName → Option SymbolicTerm → Atom
alone_first g s t u y (Some n) = if is_solved_by g y n then same y.sort (unknown y) n else at_variable g s t u
alone_first g s t u y None = at_variable g s t u

-- a part of the antecedent's term is one of the consequent's: its variable first, alone where it can be; else the antecedent's variable
abbrev pub oriented : KoreSignature → KoreSort → SymbolicTerm → SymbolicTerm → Atom
oriented g s t (unknown y) = alone_first g s t (unknown y) y (Some t)
oriented g s t (offset y c) = alone_first g s t (offset y c) y (shifted g (neg_ℤ c) t)
oriented g s t u = at_variable g s t u

-- the atom of a clause of one literal that holds
abbrev pub only_atom : List Literal → Option Atom
only_atom (l ∷ []) = if l.holds then Some l.atom else None
only_atom c = None

-- an equality as it is written
abbrev pub equality_in : (KoreSort → SymbolicTerm → SymbolicTerm → Atom) → Option Atom → List Atom
equality_in write (Some (same s t u)) = write s t u ∷ []
equality_in write o = []

abbrev pub equalities_in : (KoreSort → SymbolicTerm → SymbolicTerm → Atom) → List (List Literal) → List Atom
equalities_in write cs = flat_map (λ c. equality_in write (only_atom c)) cs

-- ---- a variable that is matched twice

-- a variable that is matched at a sort with the application of a constructor
pub record Matched : Type 0 where
  pub variable : SortedName
  pub sort : KoreSort
  pub term : SymbolicTerm

abbrev pub is_constructed : KoreSignature → SymbolicTerm → Bool
is_constructed g (headed f ts) = is_construction (meaning_of g f)
is_constructed g t = false

abbrev pub matched_if : KoreSignature → KoreSort → SortedName → SymbolicTerm → Option Matched
matched_if g s x t = if is_constructed g t then Some (record { variable = x; sort = s; term = t }) else None

abbrev pub matched_in : KoreSignature → Option Atom → Option Matched
matched_in g (Some (same s (unknown x) t)) = matched_if g s x t
matched_in g o = None

-- what the same variable was matched with first
abbrev pub first_of : List Matched → Matched → Option SymbolicTerm
first_of [] m = None
first_of (n ∷ before) m = if bytes_eq n.variable.name m.variable.name && sorts_equal n.sort m.sort then Some n.term else first_of before m

-- in the clause's place that the one application is the other
abbrev pub exchanged_for : KoreSignature → List Literal → Matched → Option SymbolicTerm → List (List Literal)
exchanged_for g c m (Some t) = equality_clauses g (record { sort = m.sort; left = t; right = m.term })
exchanged_for g c m None = c ∷ []

abbrev pub exchanged_one : KoreSignature → List Matched → List Literal → Option Matched → List (List Literal)
exchanged_one g before c (Some m) = exchanged_for g c m (first_of before m)
exchanged_one g before c None = c ∷ []

abbrev pub with_match : List Matched → Option Matched → List Matched
with_match before (Some m) = before ++ m ∷ []
with_match before None = before

abbrev pub exchanged : KoreSignature → List Matched → List (List Literal) → List (List Literal)
exchanged g before [] = []
exchanged g before (c ∷ cs) = exchanged_one g before c (matched_in g (only_atom c)) ++ exchanged g (with_match before (matched_in g (only_atom c))) cs

-- the equalities of the match, and those of the predicates as they stand
abbrev pub equalities : KoreSignature → List (List Literal) → List (List Literal) → List Atom
equalities g match asked = equalities_in (oriented g) (exchanged g [] match) ++ equalities_in same asked

-- ---- what an equality tells

abbrev pub only_if : {X : Type 0} → Bool → X → List X
only_if b x = if b then x ∷ [] else []

abbrev pub open_in : KoreSignature → List SortedName → SymbolicTerm → List SortedName
open_in g left t = flat_map (λ x. only_if (is_named x.name (open_places g t)) x) left

-- Of the bound variables that are left, those that stand on one side outside of calls, where on the other side none of them stands.
abbrev pub told_by_sides : KoreSignature → List SortedName → SymbolicTerm → SymbolicTerm → List SortedName
told_by_sides g left t u = if has_bound left t then (if has_bound left u then [] else open_in g left t) else open_in g left u

abbrev pub told_by : KoreSignature → List SortedName → Atom → List SortedName
told_by g left (same s t u) = told_by_sides g left t u
told_by g left a = []

abbrev pub without : List SortedName → List SortedName → List SortedName
without told left = flat_map (λ x. only_if (not (is_named x.name told)) x) left

-- an equality with the bound variables that it tells
pub record Telling : Type 0 where
  pub atom : Atom
  pub told : List SortedName

-- one by one, of those that are left
abbrev pub tellings : KoreSignature → List SortedName → List Atom → List Telling
tellings g left [] = []
tellings g left (a ∷ later) = record { atom = a; told = told_by g left a } ∷ tellings g (without (told_by g left a) left) later

-- through all equalities as often as there are bound variables
abbrev pub all_tellings : KoreSignature → List SortedName → List Atom → List Telling
all_tellings g bound all = tellings g bound (flat_map (λ x. all) bound)

abbrev pub told_variables : List Telling → List SortedName
told_variables ts = flat_map (λ t. t.told) ts

-- ---- the substitution

abbrev pub begins_with : SortedName → List SortedName → Bool
begins_with x [] = false
begins_with x (y ∷ ys) = bytes_eq y.name x.name

-- what tells the variable, where that tells none before it
abbrev pub written_for : List Telling → SortedName → List Atom
written_for ts x = flat_map (λ t. only_if (begins_with x t.told) t.atom) ts

abbrev pub in_binders_order : List Telling → List SortedName → List Atom
in_binders_order ts bound = flat_map (written_for ts) bound

abbrev pub patterns_from : KoreSignature → KoreSort → List Atom → KorePatterns
patterns_from g sort all = patterns_of (map (λ a. written_atom g sort a) all)

abbrev pub joined_atoms : KoreSignature → KoreSort → List Atom → KorePattern
joined_atoms g sort [] = top sort
joined_atoms g sort (a ∷ []) = written_atom g sort a
joined_atoms g sort atoms = conjunction sort (patterns_from g sort atoms)

-- each as a clause
abbrev pub alone_clauses : List Atom → List (List Literal)
alone_clauses [] = []
alone_clauses (a ∷ later) = (record { holds = true; atom = a } ∷ []) ∷ alone_clauses later

-- by the match of the two terms as they were read, and by the predicates
abbrev pub tellings_of : KoreSignature → Consequent → SymbolicState → List Telling
tellings_of g k s = all_tellings g k.bound (equalities g (match_clauses g k (whole s)) (condition_clauses g [] k.predicates))

abbrev pub equalities_of : KoreSignature → Consequent → SymbolicState → List Atom
equalities_of g k s = in_binders_order (tellings_of g k s) k.bound

abbrev pub substitution_of : KoreSignature → Consequent → SymbolicState → KorePattern
substitution_of g k s = joined_atoms g s.sort (equalities_of g k s)

-- the bound variables that it tells
abbrev pub told_of : KoreSignature → Consequent → SymbolicState → List SortedName
told_of g k s = told_variables (tellings_of g k s)
