-- Terms of which all are known, and calls.
use Rattle.std.proofs.Common.{◌≡◌, refl, sym, ap, ◌∙◌, ℕ, zero, suc, ◌<◌, ◌≤◌, Bool, true, false, List, [], ◌∷◌, length, get_or, take, map, Option, Some, None, arith}
use Rattle.std.proofs.lemmas.List.{take_all}
use Rattle.kp_kore.specs.Hooks.{Hook, whole_arithmetic, whole_comparison, truth_connective, truth_negation, values_equal, values_different}
use Rattle.kp_kore.specs.Value as model
use Rattle.kp_kore.specs.Value.{whole, truth, no_values, next_value}
use Rattle.kp_kore.specs.Interpretation.{interpreted, no_meaning}
use Rattle.kp_kore.specs.Replies.{is_wide_value}
use Rattle.kp_kore.specs.HookView.{hook_view}
use Rattle.kp_kore.specs.declared.hook.Hook as code
use Rattle.kp_kore.specs.declared.hook.Hook.TheVariants as code_hook
use Rattle.kp_ground.specs.View.{value_view, values_of}
use Rattle.kp_ground.specs.declared.value.Value.{Value}
use Rattle.kp_symbolic.specs.Terms.{known}
use Rattle.kp_symbolic.specs.Folding.{with_first, value_known, values_known, only_term}
use Rattle.kp_symbolic.specs.View.{term_view, terms_of}
use Rattle.kp_symbolic.specs.declared.term.Term.{Term}

all_known : (us : List Value) → values_known (terms_of (map (λ u. known (value_view u)) us)) ≡ Some (values_of (map value_view us))
all_known [] = refl
all_known (u ∷ us) = ap (with_first (Some (value_view u))) (all_known us)

-- terms that are these values
pub known_values : (us : List Value) (ts : List Term) (i : ℕ) → map (λ u. known (value_view u)) us ≡ map term_view (take i ts) → length ts ≤ i → Some (values_of (map value_view us)) ≡ values_known (terms_of (map term_view ts))
known_values us ts i e n = sym (all_known us) ∙ ap (λ l. values_known (terms_of l)) (e ∙ ap (map term_view) (take_all i ts n))

no_first : (o : Option model.Value) → with_first o None ≡ None
no_first (Some u) = refl
no_first None = refl

pub not_all_known : (ts : List Term) (i : ℕ) (t : Term) → i < length ts → t ≡ get_or ts i t → value_known (term_view t) ≡ None → None ≡ values_known (terms_of (map term_view ts))
not_all_known [] i t h p k = absurd (omega (arith, h))
not_all_known (a ∷ ts) zero t h p k = sym (ap (λ o. with_first o (values_known (terms_of (map term_view ts)))) (ap (λ x. value_known (term_view x)) (sym p) ∙ k))
not_all_known (a ∷ ts) (suc i) t h p k = sym (ap (with_first (value_known (term_view a))) (sym (not_all_known ts i t (omega (arith, h)) p k)) ∙ no_first (value_known (term_view a)))

-- ---- calls

pub are_two : model.Values → Bool
are_two (next_value u (next_value w no_values)) = true
are_two _ = false

pub are_one : model.Values → Bool
are_one (next_value u no_values) = true
are_one _ = false

pub not_two_values : (us : List Value) → (length us ≡ 2 → ⊥) → are_two (values_of (map value_view us)) ≡ false
unfolding are_two
not_two_values [] n = refl
not_two_values (u ∷ []) n = refl
not_two_values (u ∷ w ∷ []) n = absurd (n refl)
not_two_values (u ∷ w ∷ x ∷ us) n = refl

pub not_one_value : (us : List Value) → (length us ≡ 1 → ⊥) → are_one (values_of (map value_view us)) ≡ false
unfolding are_one
not_one_value [] n = refl
not_one_value (u ∷ []) n = absurd (n refl)
not_one_value (u ∷ w ∷ us) n = refl

pub no_call_of_two : (h : Hook) (us : model.Values) → are_two us ≡ false → (h ≡ truth_negation → ⊥) → interpreted h us ≡ no_meaning
unfolding are_two
no_call_of_two (whole_arithmetic a) (next_value (whole m) (next_value (whole n) no_values)) k d = absurd (cc)
no_call_of_two (whole_comparison c) (next_value (whole m) (next_value (whole n) no_values)) k d = absurd (cc)
no_call_of_two (truth_connective c) (next_value (truth a) (next_value (truth b) no_values)) k d = absurd (cc)
no_call_of_two truth_negation us k d = absurd (d refl)
no_call_of_two values_equal (next_value u (next_value w no_values)) k d = absurd (cc)
no_call_of_two values_different (next_value u (next_value w no_values)) k d = absurd (cc)
no_call_of_two h us k d = refl

pub no_call_of_one : (us : model.Values) → are_one us ≡ false → interpreted truth_negation us ≡ no_meaning
unfolding are_one
no_call_of_one (next_value (truth a) no_values) k = absurd (cc)
no_call_of_one us k = refl

pub not_negation : (h : code.Hook) → hook_view h ≡ truth_negation → ⊥
not_negation (code_hook.Arithmetic a) e = absurd (cc)
not_negation (code_hook.Comparison c) e = absurd (cc)
not_negation (code_hook.Connective c) e = absurd (cc)
not_negation code_hook.Equal e = absurd (cc)
not_negation code_hook.Different e = absurd (cc)

pub nothing_called : (w u : model.Value) → w ≡ no_meaning → u ≡ truth false → (u ≡ w) × (is_wide_value w ≡ false)
nothing_called w u e f = (f ∙ sym e, ap is_wide_value e)

-- ---- inj

pub no_one_term : (ts : List Term) → (length ts ≡ 1 → ⊥) → only_term (terms_of (map term_view ts)) ≡ known no_meaning
no_one_term [] n = refl
no_one_term (a ∷ []) n = absurd (n refl)
no_one_term (a ∷ b ∷ ts) n = refl
