-- A well-sorted term's instance has its sort, and so have the arguments of each symbol in it.
use Rattle.std.proofs.Common.{◌≡◌, refl, sym, ◌∙◌, ap, subst, ◌+ℤ◌, Bool, true, false, [], Option, Some, None}
use Rattle.kp_kore.specs.Syntax.{Text, KoreSort, KoreSorts, no_sorts, next_sort, SymbolDeclaration}
use Rattle.kp_kore.specs.Hooks.{Hook, addition, whole_arithmetic}
use Rattle.kp_kore.specs.Signature.{KoreSignature, SymbolMeaning, injection, construction, interpretation, foreign, meaning_of, symbol_declared, alias_declared, is_identity, is_constructor, is_plain, fitting_hook, integer_sort, is_integer_sort, has_only_numbers, is_number_sort, IsBelow, itself}
use Rattle.kp_kore.specs.Sorting.{at_arguments, all_at_arguments, result_sort}
use Rattle.kp_kore.specs.Value.{whole, Values, HasSort, HaveSorts}
use Rattle.kp_kore.specs.Forms.{two}
use Rattle.kp_kore.specs.Interpretation.{interpreted}
use Rattle.kp_kore.specs.Instance.{Valuation, GivesSorts, applied}
use Rattle.kp_kore.proofs.InstanceLemmas.{first_true}
use Rattle.kp_signature.specs.Places.{argument_sorts}
use Rattle.kp_signature.proofs.Below.{onwards}
use Rattle.kp_signature.proofs.SortLemmas.{has_sort_above, at_no_arguments, all_at_no_arguments, is_that_sort}
use Rattle.kp_signature.proofs.CallLemmas.{call_is_sorted}
use Rattle.kp_signature.proofs.MeaningLemmas.{meaning_by_tests, an_interpretation, it_fits, no_parameters, constructor_is_plain}
use Rattle.kp_signature.proofs.NumberLemmas.{number_value}
use Rattle.kp_signature.proofs.ApplicationLemmas.{sorts_by}
use Rattle.kp_signature.proofs.OwnSorts.{profile_by, result_by}
use Rattle.kp_compile.specs.Spelled.{places_of}
use Rattle.kp_symbolic.specs.Terms.{SymbolicTerm, unknown, offset, known, headed, SymbolicTerms, no_terms, next_term, term_instance, term_instances, term_variables, all_term_variables}
use Rattle.kp_symbolic.specs.WellFormed.{stands_in_terms, IsWellSorted, AreWellSorted, IsGivenSorts, AreGivenSorts}
use Rattle.kp_symbolic.specs.Folding.{AreWritten, AreAllWritten}
use Rattle.kp_symbolic.proofs.Distribution.{all_first, all_second}
use Rattle.kp_symbolic.proofs.CallOpening.{meaning_by}

-- ---- a symbol that stands in terms has no sort parameters

pub record IsPlainSymbol (g : KoreSignature) (f : Text) : Type 0 where
  pub declaration : SymbolDeclaration
  pub declared : symbol_declared g f ≡ Some declaration
  pub parameters : declaration.parameters ≡ []

plain_if_standing : (i c p : Bool) (o : Option Hook) → (c ≡ true → p ≡ true) → stands_in_terms (meaning_by_tests i c p o) ≡ true → p ≡ true
plain_if_standing true c p o h e = absurd (cc)
plain_if_standing false true p o h e = h refl
plain_if_standing false false true o h e = refl
plain_if_standing false false false o h e = absurd (cc)

pub plain_symbol : (g : KoreSignature) (f : Text) → stands_in_terms (meaning_of g f) ≡ true → IsPlainSymbol g f
plain_symbol g f e = by (symbol_declared g f) refl
  where
    by : (o : Option SymbolDeclaration) → symbol_declared g f ≡ o → IsPlainSymbol g f
    by None n = absurd (no_standing (sym (ap (λ o. stands_in_terms (meaning_by g o)) n) ∙ e))
      where
        no_standing : false ≡ true → ⊥
        no_standing h = cc
    by (Some d) n = record {
      declaration = d;
      declared = n;
      parameters = no_parameters d (plain_if_standing (is_identity d) (is_constructor d) (is_plain d) (fitting_hook g d) (constructor_is_plain d) (sym (ap (λ o. stands_in_terms (meaning_by g o)) n) ∙ e));
    }

abbrev places_by : Option SymbolDeclaration → KoreSorts
places_by (Some d) = d.arguments
places_by None = no_sorts

pub places_are : (g : KoreSignature) (f : Text) (k : IsPlainSymbol g f) → places_of g f ≡ k.declaration.arguments
places_are g f k = ap places_by k.declared

pub result_is : (g : KoreSignature) (f : Text) (ss : KoreSorts) (k : IsPlainSymbol g f) → result_sort g f ss ≡ Some k.declaration.result
result_is g f ss k = ap (λ o. result_by ss o (alias_declared g f)) k.declared ∙ ap (λ ns. Some (at_arguments ns ss k.declaration.result)) k.parameters ∙ ap Some (at_no_arguments ss k.declaration.result)

pub arguments_are : (g : KoreSignature) (f : Text) (ss : KoreSorts) (k : IsPlainSymbol g f) → argument_sorts g f ss ≡ places_of g f
arguments_are g f ss k = ap (λ o. sorts_by ss (profile_by o (alias_declared g f))) k.declared ∙ ap (λ ns. all_at_arguments ns ss k.declaration.arguments) k.parameters ∙ all_at_no_arguments ss k.declaration.arguments ∙ sym (places_are g f k)

-- ---- values of symbols that stand in terms

some_inside : {A : Type 0} {a b : A} → Some a ≡ Some b → a ≡ b
some_inside e = cc

pub applied_has_sort : (g : KoreSignature) (f : Text) (us : Values) (k : IsPlainSymbol g f) (m : SymbolMeaning) → meaning_of g f ≡ m → stands_in_terms m ≡ true → HaveSorts g (places_of g f) us → HasSort g k.declaration.result (applied m f us)
applied_has_sort g f us k construction e i h = (
  (k.declaration.result, (k.declaration, k.declared, sym (ap (meaning_by g) k.declared) ∙ e, refl), itself k.declaration.result),
  k.declaration.arguments,
  (k.declaration, k.declared, refl),
  subst (λ ss. HaveSorts g ss us) (places_are g f k) h,
)
applied_has_sort g f us k (interpretation h') e i h =
    let d = k.declaration in
    call_is_sorted g h' d.arguments d.result us (it_fits g d h' (an_interpretation (is_identity d) (is_constructor d) (is_plain d) (fitting_hook g d) h' (sym (ap (meaning_by g) k.declared) ∙ e)).1) (subst (λ ss. HaveSorts g ss us) (places_are g f k) h)
applied_has_sort g f us k injection e i h = absurd (cc)
applied_has_sort g f us k foreign e i h = absurd (cc)

-- the sort of numbers alone is that of whole numbers
pub number_sort_is : (g : KoreSignature) (s : KoreSort) → is_number_sort g s ≡ true → integer_sort g ≡ Some s
number_sort_is g s e = is_that_sort (integer_sort g) s (first_true (is_integer_sort g s) (has_only_numbers g s) e)

-- ---- terms

mutual
  pub term_sorted : (g : KoreSignature) (v : Valuation) (s : KoreSort) (t : SymbolicTerm) → IsWellSorted g s t → GivesSorts g v (term_variables t) → HasSort g s (term_instance g v t)
  term_sorted g v s (unknown x) w h = has_sort_above g x.sort s (v x.name) w h.0
  term_sorted g v s (offset x c) w h =
      let n = number_value g x.sort (v x.name) w.0 h.0 in
      subst (λ u. HasSort g s (interpreted (whole_arithmetic addition) (two u (whole c)))) (sym n.1) (has_sort_above g x.sort s (whole (n.0 +ℤ c)) w.2 (x.sort, number_sort_is g x.sort w.0, itself x.sort))
  term_sorted g v s (known u) w h = w.0
  term_sorted g v s (headed f ts) w h =
      let k = plain_symbol g f w.0 in
      let e : w.1.0 ≡ k.declaration.result = some_inside (sym w.1.1 ∙ result_is g f no_sorts k) in
      has_sort_above g w.1.0 s (term_instance g v (headed f ts)) w.1.2 (subst (λ o. HasSort g o (term_instance g v (headed f ts))) (sym e) (applied_has_sort g f (term_instances g v ts) k (meaning_of g f) refl w.0 (terms_sorted g v (places_of g f) ts w.2 h)))

  pub terms_sorted : (g : KoreSignature) (v : Valuation) (ss : KoreSorts) (ts : SymbolicTerms) → AreWellSorted g ss ts → GivesSorts g v (all_term_variables ts) → HaveSorts g ss (term_instances g v ts)
  terms_sorted g v no_sorts no_terms w h = tt
  terms_sorted g v (next_sort s ss) (next_term t ts) w h = (
    term_sorted g v s t w.0 (all_first (λ x. HasSort g x.sort (v x.name)) (term_variables t) (all_term_variables ts) h),
    terms_sorted g v ss ts w.1 (all_second (λ x. HasSort g x.sort (v x.name)) (term_variables t) (all_term_variables ts) h),
  )
  terms_sorted g v no_sorts (next_term t ts) w h = absurd w
  terms_sorted g v (next_sort s ss) no_terms w h = absurd w

mutual
  pub term_given : (g : KoreSignature) (v : Valuation) (s : KoreSort) (t : SymbolicTerm) → IsWellSorted g s t → GivesSorts g v (term_variables t) → IsGivenSorts g v t
  term_given g v s (headed f ts) w h = (terms_sorted g v (places_of g f) ts w.2 h, terms_given g v (places_of g f) ts w.2 h)
  term_given g v s (unknown x) w h = tt
  term_given g v s (offset x c) w h = tt
  term_given g v s (known u) w h = tt

  pub terms_given : (g : KoreSignature) (v : Valuation) (ss : KoreSorts) (ts : SymbolicTerms) → AreWellSorted g ss ts → GivesSorts g v (all_term_variables ts) → AreGivenSorts g v ts
  terms_given g v no_sorts no_terms w h = tt
  terms_given g v (next_sort s ss) (next_term t ts) w h = (
    term_given g v s t w.0 (all_first (λ x. HasSort g x.sort (v x.name)) (term_variables t) (all_term_variables ts) h),
    terms_given g v ss ts w.1 (all_second (λ x. HasSort g x.sort (v x.name)) (term_variables t) (all_term_variables ts) h),
  )
  terms_given g v no_sorts (next_term t ts) w h = absurd w
  terms_given g v (next_sort s ss) no_terms w h = absurd w

-- ---- upwards; each sum can be written

pub sorted_above : (g : KoreSignature) (a b : KoreSort) (t : SymbolicTerm) → IsBelow g.subsorts a b → IsWellSorted g a t → IsWellSorted g b t
sorted_above g a b (unknown x) i w = onwards g.subsorts x.sort a b w i
sorted_above g a b (offset x c) i w = (w.0, w.1, onwards g.subsorts x.sort a b w.2 i)
sorted_above g a b (known u) i w = (has_sort_above g a b u i w.0, w.1)
sorted_above g a b (headed f ts) i w = (w.0, (w.1.0, w.1.1, onwards g.subsorts w.1.0 a b w.1.2 i), w.2)

mutual
  pub sorted_written : (g : KoreSignature) (s : KoreSort) (t : SymbolicTerm) → IsWellSorted g s t → AreWritten g t
  sorted_written g s (unknown x) w = tt
  sorted_written g s (offset x c) w = w.1
  sorted_written g s (known u) w = tt
  sorted_written g s (headed f ts) w = all_sorted_written g (places_of g f) ts w.2

  pub all_sorted_written : (g : KoreSignature) (ss : KoreSorts) (ts : SymbolicTerms) → AreWellSorted g ss ts → AreAllWritten g ts
  all_sorted_written g no_sorts no_terms w = tt
  all_sorted_written g (next_sort s ss) (next_term t ts) w = (sorted_written g s t w.0, all_sorted_written g ss ts w.1)
  all_sorted_written g no_sorts (next_term t ts) w = absurd w
  all_sorted_written g (next_sort s ss) no_terms w = absurd w
