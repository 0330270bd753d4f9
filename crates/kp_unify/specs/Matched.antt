-- A left side laid on a term, part on part, by their forms.
-- Source: matching (terms in the place of a pattern's variables) and narrowing; this project.
use Rattle.std.specs.Prelude.{◌≡◌, List, Some}
use Rattle.std.specs.List.{AllByRecursion, Contains}
use Rattle.kp_kore.specs.Syntax.{Text, KoreSort}
use Rattle.kp_kore.specs.Signature.{KoreSignature, construction, meaning_of}
use Rattle.kp_kore.specs.Value.{Value}
use Rattle.kp_compile.specs.Spelled.{own_sort}
use Rattle.kp_symbolic.specs.Terms.{SymbolicTerm, known, SymbolicTerms, no_terms, next_term, Replaced, replacement_for}
use Rattle.kp_symbolic.specs.Folding.{applied_term}
use Rattle.kp_rules.specs.Skeletons.{Form, anything, any_of, one_of, fixed, Forms, no_forms, next_form}
use Rattle.kp_case_laws.specs.Courses.{FormPair, Equality, Course}
use Rattle.kp_case_laws.specs.Rows.{HasMembers}

-- ---- places

-- the form asks a constructor with these members, and the term is that constructor's with these
pub record AreMembers (g : KoreSignature) (form : Form) (t : SymbolicTerm) (forms : Forms) (terms : SymbolicTerms) : Type 0 where
  pub constructor : Text
  pub constructs : meaning_of g constructor ≡ construction
  pub asks : HasMembers form constructor forms
  pub is : t ≡ applied_term g constructor terms

-- the form and the term have the same place in their lists
pub data HaveOnePlace : Forms → SymbolicTerms → Form → SymbolicTerm → Type 0 where
  first : (form : Form) (forms : Forms) (t : SymbolicTerm) (ts : SymbolicTerms) → HaveOnePlace (next_form form forms) (next_term t ts) form t
  later : (other : Form) (forms : Forms) (u : SymbolicTerm) (ts : SymbolicTerms) (form : Form) (t : SymbolicTerm) →
      HaveOnePlace forms ts form t → HaveOnePlace (next_form other forms) (next_term u ts) form t

-- where a left side is laid on a term, this part of the one lies on this part of the other
pub data LiesOn (g : KoreSignature) : Form → SymbolicTerm → Form → SymbolicTerm → Type 0 where
  itself : (form : Form) (t : SymbolicTerm) → LiesOn g form t form t
  inside : (left : Form) (all : SymbolicTerm) (forms : Forms) (ts : SymbolicTerms) (member : Form) (u : SymbolicTerm) (form : Form) (t : SymbolicTerm) →
      AreMembers g left all forms ts → HaveOnePlace forms ts member u → LiesOn g member u form t → LiesOn g left all form t

-- ---- matches

-- The form is the term, with the bindings' terms in its variables' places. Where a variable that is bound meets a further term, or a
-- value meets a term, an equality stands for it. These pairs are still to be matched.
mutual
  pub data Matches (g : KoreSignature) (bindings : List Replaced) (equalities : List Equality) (pairs : List FormPair) : Form → SymbolicTerm → Type 0 where
    to_come : (form : Form) (t : SymbolicTerm) → Contains pairs (record { form = form; term = t }) → Matches g bindings equalities pairs form t
    by_any : (t : SymbolicTerm) → Matches g bindings equalities pairs anything t
    by_sort : (s : KoreSort) (t : SymbolicTerm) → Matches g bindings equalities pairs (any_of s) t
    by_binding : (x : Text) (s : KoreSort) (t : SymbolicTerm) → replacement_for bindings x ≡ Some t → Matches g bindings equalities pairs (one_of x s) t
    by_equality : (x : Text) (s : KoreSort) (b t : SymbolicTerm) → replacement_for bindings x ≡ Some b → Contains equalities (record { sort = s; left = b; right = t }) →
        Matches g bindings equalities pairs (one_of x s) t
    by_value : (u : Value) → Matches g bindings equalities pairs (fixed u) (known u)
    by_equal_value : (u : Value) (s : KoreSort) (t : SymbolicTerm) → Contains equalities (record { sort = s; left = t; right = known u }) → Matches g bindings equalities pairs (fixed u) t
    by_members : (form : Form) (t : SymbolicTerm) (forms : Forms) (ts : SymbolicTerms) → AreMembers g form t forms ts → AllMatch g bindings equalities pairs forms ts →
        Matches g bindings equalities pairs form t

  pub data AllMatch (g : KoreSignature) (bindings : List Replaced) (equalities : List Equality) (pairs : List FormPair) : Forms → SymbolicTerms → Type 0 where
    no_members : AllMatch g bindings equalities pairs no_forms no_terms
    next_members : (form : Form) (forms : Forms) (t : SymbolicTerm) (ts : SymbolicTerms) → Matches g bindings equalities pairs form t → AllMatch g bindings equalities pairs forms ts →
        AllMatch g bindings equalities pairs (next_form form forms) (next_term t ts)

-- ---- what is found

-- the bound term lies under the variable
abbrev pub IsBindingAt : KoreSignature → Form → SymbolicTerm → Replaced → Type 0
IsBindingAt g left all b = (s : KoreSort) × LiesOn g left all (one_of b.name s) b.term

-- the equality is of what a variable stands for and of a further term that lies under it; or of a term and of the value that lies on it
pub data IsEqualityAt (g : KoreSignature) (left : Form) (all : SymbolicTerm) (bindings : List Replaced) : Equality → Type 0 where
  of_variable : (x : Text) (s : KoreSort) (b t : SymbolicTerm) → LiesOn g left all (one_of x s) t → replacement_for bindings x ≡ Some b →
      IsEqualityAt g left all bindings (record { sort = s; left = b; right = t })
  of_value : (u : Value) (s : KoreSort) (t : SymbolicTerm) → LiesOn g left all (fixed u) t → own_sort g u ≡ Some s →
      IsEqualityAt g left all bindings (record { sort = s; left = t; right = known u })

-- what was found on a course makes the left side the part's term, but for the pairs to come; all of it has its place there
pub record IsLaid (g : KoreSignature) (left : Form) (k : Course) : Type 0 where
  pub matches : Matches g k.bindings k.equalities k.pairs left k.part.state.term
  pub pairs : AllByRecursion (λ q. LiesOn g left k.part.state.term q.form q.term) k.pairs
  pub bindings : AllByRecursion (IsBindingAt g left k.part.state.term) k.bindings
  pub equalities : AllByRecursion (IsEqualityAt g left k.part.state.term k.bindings) k.equalities
