-- What a term may mean is what its form stands for.
use Rattle.std.proofs.Common.{◌≡◌, ◌↔◌, ◌∙◌, refl, ap, ℕ, ◌≤◌, List, [], ◌∷◌, length, map, take, Option, Some, None}
use Rattle.std.proofs.lemmas.List.{take_all}
use Rattle.kp_kore.specs.Syntax.{Text, KoreSort, sort_of, sort_variable, no_sorts}
use Rattle.kp_kore.specs.Signature.{KoreSignature, SymbolMeaning, injection, construction, interpretation, foreign, meaning_of}
use Rattle.kp_kore.specs.Sorting.{result_sort}
use Rattle.kp_kore.specs.Value.{Value, whole, truth, token, constructed, Values, no_values, next_value}
use Rattle.kp_kore.specs.Instance.{Valuation}
use Rattle.kp_kore.specs.Foreign.{IsAnyOfMaybe, IsConstructedBy, by_meaning}
use Rattle.kp_symbolic.specs.Terms.{SymbolicTerm, unknown, offset, known, headed, SymbolicTerms, no_terms, next_term}
use Rattle.kp_symbolic.specs.Sources.{MayMean, AllMayMean}
use Rattle.kp_symbolic.specs.View.{term_view, terms_of}
use Rattle.kp_symbolic.specs.declared.term.Term.{Term}
use Rattle.kp_rules.specs.Skeletons.{Form, Forms, Admits, AdmitAll, maybe_form, forms_of, skeleton_view}
use Rattle.kp_rules.specs.declared.skeleton.Skeleton.{Skeleton}
use Rattle.kp_overlap.specs.Overlaps.{Overlap, MeetsForm, headed_form, term_form, term_forms}

-- any value of a call's sort
any_told : (g : KoreSignature) (v : Valuation) (o : Option KoreSort) (u : Value) → IsAnyOfMaybe g o u ↔ Admits g v (maybe_form o) u
any_told g v None u = (λ h. tt, λ h. tt)
any_told g v (Some (sort_of n ss)) u = (λ h. h, λ h. h)
any_told g v (Some (sort_variable n)) u = (λ h. tt, λ h. tt)

built_told : (f : Text) (P Q : Values → Type 0) (u : Value) → ((us : Values) → P us ↔ Q us) → IsConstructedBy f P u ↔ IsConstructedBy f Q u
built_told f P Q (constructed c us) e = (λ h. (h.0, (e us).0 h.1), λ h. (h.0, (e us).1 h.1))
built_told f P Q (whole n) e = (λ h. absurd h, λ h. absurd h)
built_told f P Q (truth b) e = (λ h. absurd h, λ h. absurd h)
built_told f P Q (token s t) e = (λ h. absurd h, λ h. absurd h)

headed_told : (g : KoreSignature) (v : Valuation) (m : SymbolMeaning) (f : Text) (P : Values → Type 0) (ks : Forms) (o : Option KoreSort) (u : Value) → ((us : Values) → P us ↔ AdmitAll g v ks us) → by_meaning m (IsConstructedBy f P u) ⊥ (IsAnyOfMaybe g o u) ↔ Admits g v (headed_form m f ks (maybe_form o)) u
headed_told g v construction f P ks o u e = built_told f P (AdmitAll g v ks) u e
headed_told g v injection f P ks o u e = (λ h. h, λ h. h)
headed_told g v (interpretation h) f P ks o u e = any_told g v o u
headed_told g v foreign f P ks o u e = any_told g v o u

mutual
  pub means_form : (g : KoreSignature) (v : Valuation) (t : SymbolicTerm) (u : Value) → MayMean g v t u ↔ Admits g v (term_form g t) u
  means_form g v (unknown x) u = (λ h. h, λ h. h)
  means_form g v (offset x c) u = (λ h. h, λ h. h)
  means_form g v (known w) u = (λ h. h, λ h. h)
  means_form g v (headed f ts) u = headed_told g v (meaning_of g f) f (AllMayMean g v ts) (term_forms g ts) (result_sort g f no_sorts) u (λ us. mean_forms g v ts us)

  mean_forms : (g : KoreSignature) (v : Valuation) (ts : SymbolicTerms) (us : Values) → AllMayMean g v ts us ↔ AdmitAll g v (term_forms g ts) us
  mean_forms g v no_terms no_values = (λ h. tt, λ h. tt)
  mean_forms g v no_terms (next_value u us) = (λ h. h, λ h. h)
  mean_forms g v (next_term t ts) no_values = (λ h. h, λ h. h)
  mean_forms g v (next_term t ts) (next_value u us) =
      let first = means_form g v t u in
      let rest = mean_forms g v ts us in
      (λ h. (first.0 h.0, rest.0 h.1), λ h. (first.1 h.0, rest.1 h.1))

pub forms_are : (g : KoreSignature) (ts : List Term) → forms_of (map (λ t. term_form g (term_view t)) ts) ≡ term_forms g (terms_of (map term_view ts))
forms_are g [] = refl
forms_are g (t ∷ ts) = ap (λ ks. Forms.next_form (term_form g (term_view t)) ks) (forms_are g ts)

pub forms_made : (g : KoreSignature) (ks : List Skeleton) (ts : List Term) (i : ℕ) → length ts ≤ i → map skeleton_view ks ≡ map (λ t. term_form g (term_view t)) (take i ts) → forms_of (map skeleton_view ks) ≡ term_forms g (terms_of (map term_view ts))
forms_made g ks ts i past e = ap forms_of (e ∙ ap (map (λ t. term_form g (term_view t))) (take_all i ts past)) ∙ forms_are g ts

-- the term's form overlaps where the term meets
pub overlap_meets : (g : KoreSignature) (s : KoreSort) (t : SymbolicTerm) (left : Form) → Overlap g s (term_form g t) left ↔ MeetsForm g s t left
overlap_meets g s t left = (
  (λ o. record { value = o.value; sort = o.sort; of_state = o.of_first; is_term = (means_form g o.of_first t o.value).1 o.is_first; of_rule = o.of_second; is_left = o.is_second }),
  (λ m. record { value = m.value; sort = m.sort; of_first = m.of_state; is_first = (means_form g m.of_state t m.value).0 m.is_term; of_second = m.of_rule; is_second = m.is_left }),
)
