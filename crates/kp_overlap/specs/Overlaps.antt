-- Two forms, each with variables of its own, that stand for one value; and a state's term that a left side meets.
-- Source: order-sorted unification (Baader, Snyder: Unification theory); matching logic's terms.
use Rattle.kp_kore.specs.Syntax.{Text, KoreSort, no_sorts}
use Rattle.kp_kore.specs.Signature.{KoreSignature, SymbolMeaning, injection, construction, interpretation, foreign, meaning_of}
use Rattle.kp_kore.specs.Sorting.{result_sort}
use Rattle.kp_kore.specs.Value.{Value, HasSort}
use Rattle.kp_kore.specs.Instance.{Valuation}
use Rattle.kp_symbolic.specs.Terms.{SymbolicTerm, unknown, offset, known, headed, SymbolicTerms, no_terms, next_term}
use Rattle.kp_symbolic.specs.Sources.{MayMean}
use Rattle.kp_rules.specs.Skeletons.{Form, nothing, any_of, one_of, fixed, built, Forms, no_forms, next_form, Admits, maybe_form}

-- some value of the sort may stand for both, each under a valuation of its own
pub record Overlap (g : KoreSignature) (s : KoreSort) (first second : Form) : Type 0 where
  pub value : Value
  pub sort : HasSort g s value
  pub of_first : Valuation
  pub is_first : Admits g of_first first value
  pub of_second : Valuation
  pub is_second : Admits g of_second second value

-- some value of the sort is an instance of the term, each call standing for any value of its sort, and may stand for the left side
pub record MeetsForm (g : KoreSignature) (s : KoreSort) (t : SymbolicTerm) (left : Form) : Type 0 where
  pub value : Value
  pub sort : HasSort g s value
  pub of_state : Valuation
  pub is_term : MayMean g of_state t value
  pub of_rule : Valuation
  pub is_left : Admits g of_rule left value

-- ---- terms as forms

abbrev pub headed_form : SymbolMeaning → Text → Forms → Form → Form
headed_form construction f ks any = built f ks
headed_form injection f ks any = nothing
headed_form (interpretation h) f ks any = any
headed_form foreign f ks any = any

-- a call may be any value of its sort
abbrev mutual
  pub term_form : KoreSignature → SymbolicTerm → Form
  term_form g (unknown x) = one_of x.name x.sort
  term_form g (offset x c) = any_of x.sort
  term_form g (known u) = fixed u
  term_form g (headed f ts) = headed_form (meaning_of g f) f (term_forms g ts) (maybe_form (result_sort g f no_sorts))

  pub term_forms : KoreSignature → SymbolicTerms → Forms
  term_forms g no_terms = no_forms
  term_forms g (next_term t ts) = next_form (term_form g t) (term_forms g ts)
