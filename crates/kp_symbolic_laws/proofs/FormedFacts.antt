-- Each literal that an equality of normal terms opens to has normal terms, and asks for heads as its test did.
use Rattle.std.proofs.Common.{refl, Bool}
use Rattle.std.specs.Bool.{beq}
use Rattle.kp_kore.specs.Syntax.{KoreSort, KorePattern}
use Rattle.kp_kore.specs.Signature.{KoreSignature, meaning_of, integers}
use Rattle.kp_kore.specs.Value.{Values, no_values, next_value, head_of}
use Rattle.kp_symbolic.specs.Terms.{SymbolicTerm, unknown, offset, known, headed, SymbolicTerms, no_terms, next_term}
use Rattle.kp_symbolic.specs.Formulas.{Formula}
use Rattle.kp_symbolic.specs.States.{HeadTest, has_head, Literal}
use Rattle.kp_symbolic.specs.Heads.{passes_head, head_answer}
use Rattle.kp_symbolic.specs.Opening.{literal_fact, opened_same, opened_test}
use Rattle.kp_symbolic.proofs.Facts.{AllFacts, fixed_good, fixed_or_good}
use Rattle.kp_symbolic.proofs.KeptFacts.{AreTerms, AreValues, IsKept, same_kept, test_by}
use Rattle.kp_symbolic_laws.specs.Runs.{IsMeantTest}
use Rattle.kp_symbolic_laws.specs.Safe.{AreNormal, Formed, IsNormal}

-- ---- equalities of normal terms

normal_terms : (g : KoreSignature) (ts : SymbolicTerms) → AreNormal g ts → AreTerms (IsNormal g) ts
normal_terms g no_terms h = tt
normal_terms g (next_term t ts) h = (h.0, normal_terms g ts h.1)

normal_values : (g : KoreSignature) (us : Values) → AreValues (IsNormal g) us
normal_values g no_values = tt
normal_values g (next_value u us) = (refl, normal_values g us)

formed_kept : (g : KoreSignature) (V : KorePattern → Type 0) → IsKept g (IsNormal g) (Formed g V)
formed_kept g V = record { equality = λ b s t u i j. (i, j); yes = refl; members = λ f ts h. normal_terms g ts h.1; parts = λ c us h. normal_values g us }

pub same_formed : (g : KoreSignature) (V : KorePattern → Type 0) (alone b : Bool) (s : KoreSort) (t u : SymbolicTerm) → IsNormal g t → IsNormal g u → AllFacts (Formed g V) (opened_same g alone b s t u)
same_formed g V alone b s t u i j = same_kept g (IsNormal g) (Formed g V) (formed_kept g V) alone b s t u i j

-- ---- tests of heads

pub test_formed : (g : KoreSignature) (V : KorePattern → Type 0) (b : Bool) (test : HeadTest) (kept : Formula Literal) (t : SymbolicTerm) → IsMeantTest g test → AllFacts (Formed g V) kept → AllFacts (Formed g V) (opened_test g b test kept t)
test_formed g V b test kept (unknown x) m k = fixed_or_good (Formed g V) (head_answer g x.sort test) b (literal_fact b (has_head x test)) m
test_formed g V b test kept (offset x c) m k = fixed_good (Formed g V) (beq (passes_head g test integers) b)
test_formed g V b test kept (known u) m k = fixed_good (Formed g V) (beq (passes_head g test (head_of u)) b)
test_formed g V b test kept (headed f ts) m k = test_by g (Formed g V) b test kept f (meaning_of g f) k
