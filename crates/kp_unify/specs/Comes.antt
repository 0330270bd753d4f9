-- How a part comes of another where a left side is laid on its term and variables are narrowed.
-- Source: narrowing; this project.
use Rattle.std.specs.Prelude.{false, List, [], ◌∷◌}
use Rattle.kp_kore.specs.Syntax.{Text, KoreSort}
use Rattle.kp_kore.specs.Parts.{SortedName}
use Rattle.kp_kore.specs.Signature.{KoreSignature}
use Rattle.kp_symbolic.specs.Terms.{SymbolicTerm, unknown}
use Rattle.kp_symbolic.specs.States.{head_of_sort, Literal}
use Rattle.kp_rules.specs.Skeletons.{Form, Forms}
use Rattle.kp_case_laws.specs.Parts.{StatePart, with_clauses}
use Rattle.kp_case_laws.specs.Narrowings.{head_clauses, has_other_head, heads_inside, heads_outside, constructor_term, part_with_term}
use Rattle.kp_case_laws.specs.Courses.{IsMeet}
use Rattle.kp_case_laws.specs.Rows.{HasMembers, AsksSort}
use Rattle.kp_unify.specs.Matched.{LiesOn}

-- what the form asks the variable to be: a new one of the sort below its own and the form's; the form's constructor of new ones
pub data IsAskedTerm (g : KoreSignature) (form : Form) (x : SortedName) : List SortedName → SymbolicTerm → Type 0 where
  of_sort : (s : KoreSort) (y : SortedName) → AsksSort g form s → IsMeet g x.sort s y.sort → IsAskedTerm g form x (y ∷ []) (unknown y)
  of_members : (c : Text) (forms : Forms) (new : List SortedName) → HasMembers form c forms → IsAskedTerm g form x new (constructor_term g c new)

-- what the clauses tell of the variable's head: that it isn't of the sort below its own and the form's; that it is another than the
-- form's constructor; that it is one of the form's sort, or none of them
pub data TellsHead (g : KoreSignature) (form : Form) (x : SortedName) : List (List Literal) → Type 0 where
  beyond : (s m : KoreSort) → AsksSort g form s → IsMeet g x.sort s m → TellsHead g form x (head_clauses g false x (head_of_sort m))
  another : (c : Text) (forms : Forms) (new : List SortedName) → HasMembers form c forms → TellsHead g form x (has_other_head g x c new)
  inside : (s : KoreSort) → AsksSort g form s → TellsHead g form x (heads_inside g x s)
  outside : (s : KoreSort) → AsksSort g form s → TellsHead g form x (heads_outside g x s)

-- Step by step, a variable on which a part of the left side lies becomes what that part asks, or is told of. Nothing else stands in
-- the part.
pub data IsNarrowedFrom (g : KoreSignature) (left : Form) (p : StatePart) : StatePart → Type 0 where
  itself : IsNarrowedFrom g left p p
  with_term : (r : StatePart) (form : Form) (x : SortedName) (new : List SortedName) (t : SymbolicTerm) → IsNarrowedFrom g left p r → LiesOn g left r.state.term form (unknown x) →
      IsAskedTerm g form x new t → IsNarrowedFrom g left p (part_with_term g (record { variable = x; term = t }) new r)
  with_head : (r : StatePart) (form : Form) (x : SortedName) (clauses : List (List Literal)) → IsNarrowedFrom g left p r → LiesOn g left r.state.term form (unknown x) →
      TellsHead g form x clauses → IsNarrowedFrom g left p (with_clauses r clauses)
