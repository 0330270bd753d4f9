-- A constructor that doesn't stand in two terms stands in no literal that their equality opens to.
use Rattle.std.proofs.Common.{Bool}
use Rattle.std.specs.Bool.{beq}
use Rattle.kp_kore.specs.Syntax.{Text, KoreSort}
use Rattle.kp_kore.specs.Signature.{KoreSignature, meaning_of, integers}
use Rattle.kp_kore.specs.Value.{Values, no_values, next_value, head_of}
use Rattle.kp_symbolic.specs.Terms.{SymbolicTerm, unknown, offset, known, headed, SymbolicTerms, no_terms, next_term}
use Rattle.kp_symbolic.specs.Formulas.{Formula}
use Rattle.kp_symbolic.specs.States.{HeadTest, has_head, Literal}
use Rattle.kp_symbolic.specs.Heads.{passes_head, head_answer}
use Rattle.kp_symbolic.specs.Opening.{literal_fact, opened_same, opened_test}
use Rattle.kp_symbolic.proofs.Facts.{AllFacts, fixed_good, fixed_or_good}
use Rattle.kp_symbolic.proofs.KeptFacts.{AreTerms, AreValues, IsKept, same_kept, test_by}
use Rattle.kp_source_laws.specs.Symbols.{AvoidValues, AvoidsTerm, AvoidTerms, AvoidsAtom}

abbrev pub Avoids : Text → Literal → Type 0
Avoids f l = AvoidsAtom f l.atom

-- ---- equalities

terms_avoid : (z : Text) (ts : SymbolicTerms) → AvoidTerms z ts → AreTerms (AvoidsTerm z) ts
terms_avoid z no_terms h = tt
terms_avoid z (next_term t ts) h = (h.0, terms_avoid z ts h.1)

values_avoid : (z : Text) (us : Values) → AvoidValues z us → AreValues (AvoidsTerm z) us
values_avoid z no_values h = tt
values_avoid z (next_value u us) h = (h.0, values_avoid z us h.1)

avoids_kept : (g : KoreSignature) (z : Text) → IsKept g (AvoidsTerm z) (Avoids z)
avoids_kept g z = record { equality = λ b s t u i j. (i, j); yes = tt; members = λ f ts h. terms_avoid z ts h.1; parts = λ c us h. values_avoid z us h.1 }

pub same_avoids : (g : KoreSignature) (z : Text) (alone b : Bool) (s : KoreSort) (t u : SymbolicTerm) → AvoidsTerm z t → AvoidsTerm z u → AllFacts (Avoids z) (opened_same g alone b s t u)
same_avoids g z alone b s t u i j = same_kept g (AvoidsTerm z) (Avoids z) (avoids_kept g z) alone b s t u i j

-- ---- tests of heads

pub test_avoids : (g : KoreSignature) (z : Text) (b : Bool) (test : HeadTest) (kept : Formula Literal) (t : SymbolicTerm) → AllFacts (Avoids z) kept → AllFacts (Avoids z) (opened_test g b test kept t)
test_avoids g z b test kept (unknown x) k = fixed_or_good (Avoids z) (head_answer g x.sort test) b (literal_fact b (has_head x test)) tt
test_avoids g z b test kept (offset x c) k = fixed_good (Avoids z) (beq (passes_head g test integers) b)
test_avoids g z b test kept (known u) k = fixed_good (Avoids z) (beq (passes_head g test (head_of u)) b)
test_avoids g z b test kept (headed f ts) k = test_by g (Avoids z) b test kept f (meaning_of g f) k
