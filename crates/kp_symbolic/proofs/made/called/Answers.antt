use Rattle.std.proofs.Common.{rules, ◌≡◌, ◌∙◌, ap, map, length}
use Rattle.kp_kore.specs.Interpretation.{interpreted}
use Rattle.kp_kore.specs.HookView.{hook_view}
use Rattle.kp_ground.specs.View.{value_view, values_of}
use Rattle.kp_signature.specs.Meanings.{function_view}
use Rattle.kp_symbolic.proofs.MadeLemmas.{not_two_values, not_one_value, no_call_of_two, no_call_of_one, not_negation, nothing_called}
use Rattle.kp_symbolic.proofs.made.called.Goals as goal
use Rattle.kp_symbolic.proofs.made.called.Goals.{in_default-via-then-values-lt2, in_default-via-else-values-lt2+else-values-lt3, in_default-values-via-then-values-lt1, in_default-values-via-else-values-lt1+else-values-lt2-2}

pub returns-in_default : goal.returns-in_default
returns-in_default c =
    let us = values_of (map value_view c.args.values.now) in
    let other : length c.args.values.now ≡ 2 → ⊥ = λ e. elim c.in_default.branch [ in_default-via-then-values-lt2 w ↦ search rules | in_default-via-else-values-lt2+else-values-lt3 w ↦ search rules ] in
    nothing_called (interpreted (function_view c.args.function) us) (value_view c.no_meaning.result)
    (ap (λ f. interpreted (function_view f) us) c.in-Two.is ∙ no_call_of_two (hook_view c.in-Two.hook) us (not_two_values c.args.values.now other) (not_negation c.in-Two.hook)) c.no_meaning.ensures

pub returns-in_default-values : goal.returns-in_default-values
returns-in_default-values c =
    let us = values_of (map value_view c.args.values.now) in
    let other : length c.args.values.now ≡ 1 → ⊥ = λ e. elim c.in_default-values.branch [ in_default-values-via-then-values-lt1 w ↦ search rules | in_default-values-via-else-values-lt1+else-values-lt2-2 w ↦ search rules ] in
    nothing_called (interpreted (function_view c.args.function) us) (value_view c.no_meaning-in_default-values.result)
    (ap (λ f. interpreted (function_view f) us) c.in-Negation.is ∙ no_call_of_one us (not_one_value c.args.values.now other)) c.no_meaning-in_default-values.ensures
