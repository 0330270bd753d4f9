-- A spelling is a closed term, whatever the value.
use Rattle.std.proofs.Common.{◌≡◌, refl, ◌∙◌, Bool, true, false, not, ◌&&◌, List, [], ◌∷◌, ◌++◌}
use Rattle.std.specs.Prelude.{IsTrue, if◌then◌else◌}
use Rattle.std.specs.List.{list_all}
use Rattle.std.proofs.lemmas.List.Folds.{list_all-append}
use Rattle.kp_kore.specs.Syntax.{KoreSort, KoreSorts, no_sorts, next_sort, KorePattern, application, literal}
use Rattle.kp_kore.specs.Attributes.{sorts_equal}
use Rattle.kp_kore.specs.Parts.{is_term, are_terms, subpatterns, all_subpatterns, free_variables, all_free_variables}
use Rattle.kp_kore.specs.Signature.{KoreSignature}
use Rattle.kp_kore.specs.Value.{Value, whole, truth, token, constructed, Values, no_values, next_value}
use Rattle.kp_kore.specs.Foreign.{none_within}
use Rattle.kp_compile.specs.Spelled.{is_other_form, spelling, spellings, places_of, placed, injected}

pub chosen : {A : Type 0} (P : A → Type 0) (b : Bool) (p q : A) → P p → P q → P (if b then p else q)
chosen P true p q h k = h
chosen P false p q h k = k

pub both_true : (a b : Bool) → a ≡ true → b ≡ true → (a && b) ≡ true
both_true true b e f = f
both_true false b e f = absurd (cc)

pub left_true : (a b : Bool) → (a && b) ≡ true → a ≡ true
left_true true b e = refl
left_true false b e = absurd (cc)

pub right_true : (a b : Bool) → (a && b) ≡ true → b ≡ true
right_true true b e = e
right_true false b e = absurd (cc)

placed_term : (own s : KoreSort) (p : KorePattern) → IsTrue (is_term p) → IsTrue (is_term (placed own s p))
placed_term own s p h = chosen (λ q. IsTrue (is_term q)) (sorts_equal own s) p (injected own s p) h (both_true (is_term p) true h refl)

mutual
  pub spelling_term : (g : KoreSignature) (s : KoreSort) (u : Value) → IsTrue (is_term (spelling g s u))
  spelling_term g s (whole n) = placed_term _ s (literal _ _) refl
  spelling_term g s (truth b) = placed_term _ s (literal _ _) refl
  spelling_term g s (token t x) = placed_term _ s (literal _ _) refl
  spelling_term g s (constructed c us) = placed_term _ s (application c no_sorts (spellings g (places_of g c) us)) (spellings_term g (places_of g c) us)

  pub spellings_term : (g : KoreSignature) (ss : KoreSorts) (us : Values) → IsTrue (are_terms (spellings g ss us))
  spellings_term g no_sorts us = refl
  spellings_term g (next_sort s ss) no_values = refl
  spellings_term g (next_sort s ss) (next_value u us) = both_true _ _ (spelling_term g s u) (spellings_term g ss us)

no_more : {A : Type 0} (xs ys : List A) → xs ≡ [] → ys ≡ [] → xs ++ ys ≡ []
no_more [] ys e f = f
no_more (x ∷ xs) ys e f = absurd (cc)

placed_closed : (own s : KoreSort) (p : KorePattern) → free_variables p ≡ [] → free_variables (placed own s p) ≡ []
placed_closed own s p h = chosen (λ q. free_variables q ≡ []) (sorts_equal own s) p (injected own s p) h (no_more (free_variables p) [] h refl)

mutual
  pub spelling_closed : (g : KoreSignature) (s : KoreSort) (u : Value) → free_variables (spelling g s u) ≡ []
  spelling_closed g s (whole n) = placed_closed _ s (literal _ _) refl
  spelling_closed g s (truth b) = placed_closed _ s (literal _ _) refl
  spelling_closed g s (token t x) = placed_closed _ s (literal _ _) refl
  spelling_closed g s (constructed c us) = placed_closed _ s (application c no_sorts (spellings g (places_of g c) us)) (spellings_closed g (places_of g c) us)

  pub spellings_closed : (g : KoreSignature) (ss : KoreSorts) (us : Values) → all_free_variables (spellings g ss us) ≡ []
  spellings_closed g no_sorts us = refl
  spellings_closed g (next_sort s ss) no_values = refl
  spellings_closed g (next_sort s ss) (next_value u us) = no_more _ _ (spelling_closed g s u) (spellings_closed g ss us)

-- ---- an application or a literal everywhere

placed_written : (own s : KoreSort) (p : KorePattern) → IsTrue (none_within is_other_form p) → IsTrue (none_within is_other_form (placed own s p))
placed_written own s p h = chosen (λ q. IsTrue (none_within is_other_form q)) (sorts_equal own s) p (injected own s p) h
    (list_all-append (λ q. not (is_other_form q)) (subpatterns p) [] ∙ both_true _ _ h refl)

mutual
  pub spelling_written : (g : KoreSignature) (s : KoreSort) (u : Value) → IsTrue (none_within is_other_form (spelling g s u))
  spelling_written g s (whole n) = placed_written _ s (literal _ _) refl
  spelling_written g s (truth b) = placed_written _ s (literal _ _) refl
  spelling_written g s (token t x) = placed_written _ s (literal _ _) refl
  spelling_written g s (constructed c us) = placed_written _ s (application c no_sorts (spellings g (places_of g c) us)) (spellings_written g (places_of g c) us)

  spellings_written : (g : KoreSignature) (ss : KoreSorts) (us : Values) → IsTrue (list_all (λ q. not (is_other_form q)) (all_subpatterns (spellings g ss us)))
  spellings_written g no_sorts us = refl
  spellings_written g (next_sort s ss) no_values = refl
  spellings_written g (next_sort s ss) (next_value u us) =
      list_all-append (λ q. not (is_other_form q)) (subpatterns (spelling g s u)) (all_subpatterns (spellings g ss us))
      ∙ both_true _ _ (spelling_written g s u) (spellings_written g ss us)
