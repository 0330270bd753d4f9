-- Left sides that stand for no value of a term: a head that differs, or a variable that stands for two values.
-- Source: K's Kore language (constructors are without confusion); this project.
use Rattle.std.specs.Prelude.{◌≡◌, ◌⊎◌, ℤ, ⊤}
use Rattle.kp_kore.specs.Syntax.{Text, KoreSort}
use Rattle.kp_kore.specs.Parts.{SortedName}
use Rattle.kp_kore.specs.Signature.{KoreSignature}
use Rattle.kp_kore.specs.Value.{Value, constructed, Values, no_values, next_value}
use Rattle.kp_kore.specs.Instance.{Valuation, GivesSorts}
use Rattle.kp_symbolic.specs.Terms.{SymbolicTerm, offset, known, headed, SymbolicTerms, no_terms, next_term, term_instance, term_variables}
use Rattle.kp_symbolic.specs.WellFormed.{IsWellSorted}
use Rattle.kp_rules.specs.Skeletons.{Form, one_of, fixed, Forms, no_forms, next_form, Admits}
use Rattle.kp_case_laws.specs.Rows.{HasMembers}
use Rattle.kp_unify.specs.Literals.{IsLiteral}
use Rattle.kp_unify.specs.Matched.{HaveOnePlace}

-- under no valuations the form stands for a value of the well-sorted term
abbrev pub IsNeverOf : Form → SymbolicTerm → Type 0
IsNeverOf f t = (g : KoreSignature) (r w : Valuation) (place : KoreSort) → IsWellSorted g place t → GivesSorts g w (term_variables t) → ¬ Admits g r f (term_instance g w t)

-- ---- heads that differ

-- the form asks another head than the value has, or a member of the form does of the value on which it lies
mutual
  pub data AsksOtherHead : Form → Value → Type 0 where
    asks_literal : (l u : Value) → IsLiteral l → ¬ (l ≡ u) → AsksOtherHead (fixed l) u
    on_literal : (form : Form) (c : Text) (forms : Forms) (u : Value) → HasMembers form c forms → IsLiteral u → AsksOtherHead form u
    on_other : (form : Form) (c d : Text) (forms : Forms) (us : Values) → HasMembers form c forms → ¬ (d ≡ c) → AsksOtherHead form (constructed d us)
    through_members : (form : Form) (c : Text) (forms : Forms) (us : Values) → HasMembers form c forms → AskOtherHeads forms us → AsksOtherHead form (constructed c us)

  pub data AskOtherHeads : Forms → Values → Type 0 where
    too_few : (u : Value) (us : Values) → AskOtherHeads no_forms (next_value u us)
    too_many : (form : Form) (forms : Forms) → AskOtherHeads (next_form form forms) no_values
    through_first : (form : Form) (forms : Forms) (u : Value) (us : Values) → AsksOtherHead form u → AskOtherHeads (next_form form forms) (next_value u us)
    through_later : (form : Form) (forms : Forms) (u : Value) (us : Values) → AskOtherHeads forms us → AskOtherHeads (next_form form forms) (next_value u us)

-- the same of a term: no constructor is the head of a sum, nor of a symbol of another name; a literal is asked of values alone, and a variable may have any head
mutual
  pub data AsksOtherHeadOf : Form → SymbolicTerm → Type 0 where
    on_value : (form : Form) (u : Value) → AsksOtherHead form u → AsksOtherHeadOf form (known u)
    on_sum : (form : Form) (c : Text) (forms : Forms) (x : SortedName) (z : ℤ) → HasMembers form c forms → AsksOtherHeadOf form (offset x z)
    on_other_of : (form : Form) (c d : Text) (forms : Forms) (ts : SymbolicTerms) → HasMembers form c forms → ¬ (d ≡ c) → AsksOtherHeadOf form (headed d ts)
    through_members_of : (form : Form) (c : Text) (forms : Forms) (ts : SymbolicTerms) → HasMembers form c forms → AskOtherHeadsOf forms ts → AsksOtherHeadOf form (headed c ts)

  pub data AskOtherHeadsOf : Forms → SymbolicTerms → Type 0 where
    too_few_of : (t : SymbolicTerm) (ts : SymbolicTerms) → AskOtherHeadsOf no_forms (next_term t ts)
    too_many_of : (form : Form) (forms : Forms) → AskOtherHeadsOf (next_form form forms) no_terms
    through_first_of : (form : Form) (forms : Forms) (t : SymbolicTerm) (ts : SymbolicTerms) → AsksOtherHeadOf form t → AskOtherHeadsOf (next_form form forms) (next_term t ts)
    through_later_of : (form : Form) (forms : Forms) (t : SymbolicTerm) (ts : SymbolicTerms) → AskOtherHeadsOf forms ts → AskOtherHeadsOf (next_form form forms) (next_term t ts)

-- ---- a variable that stands for two

-- there are as many forms as terms
abbrev pub AreAsMany : Forms → SymbolicTerms → Type 0
AreAsMany no_forms no_terms = ⊤
AreAsMany (next_form form forms) (next_term t ts) = AreAsMany forms ts
AreAsMany no_forms (next_term t ts) = ⊥
AreAsMany (next_form form forms) no_terms = ⊥

-- there are as many members as terms, and this holds of one of them and the term on which it lies
pub record HoldsOfOne (P : Form → SymbolicTerm → Type 0) (forms : Forms) (ts : SymbolicTerms) : Type 0 where
  pub as_many : AreAsMany forms ts
  pub member : Form
  pub term : SymbolicTerm
  pub there : HaveOnePlace forms ts member term
  pub holds : P member term

-- the form is laid on the term, member on member where there are as many, by whatever symbols, but not on a value's members: there the variable stands on this part of the term
pub data StandsOn (x : Text) : Form → SymbolicTerm → SymbolicTerm → Type 0 where
  as_variable : (s : KoreSort) (t : SymbolicTerm) → StandsOn x (one_of x s) t t
  as_member : (form : Form) (c d : Text) (forms : Forms) (ts : SymbolicTerms) (member : Form) (u part : SymbolicTerm) →
      HasMembers form c forms → AreAsMany forms ts → HaveOnePlace forms ts member u → StandsOn x member u part → StandsOn x form (headed d ts) part

-- the variable stands on a term that has another head than the value
pub record StandsOnOther (x : Text) (u : Value) (form : Form) (t : SymbolicTerm) : Type 0 where
  pub part : SymbolicTerm
  pub stands : StandsOn x form t part
  pub other : AsksOtherHeadOf (fixed u) part

-- a variable of the form stands on a value, and in the left side, laid on the whole term, on a term that has another head
pub record StandsOnTwo (left : Form) (all : SymbolicTerm) (form : Form) (t : SymbolicTerm) : Type 0 where
  pub name : Text
  pub value : Value
  pub stands : StandsOn name form t (known value)
  pub elsewhere : StandsOnOther name value left all

-- a head differs, or a variable stands on a value and on a term that has another head
abbrev pub Differs : Form → SymbolicTerm → Type 0
Differs left t = AsksOtherHeadOf left t ⊎ StandsOnTwo left t left t
