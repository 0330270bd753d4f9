use Rattle.std.proofs.Common.{◌≡◌, subst, ◌∙◌, sym, ap, ◌+◌, ◌-◌, ◌<◌, length, arith}
use Rattle.kp_kore.specs.View.{sort_view}
use Rattle.kp_kore.specs.Signature as head
use Rattle.kp_signature.specs.View.{signature_view}
use Rattle.kp_symbolic.specs.declared.variable.Variable.{Variable}
use Rattle.kp_limits.proofs.NameLemmas.{Counts}
use Rattle.kp_limits.proofs.NameCounts.{names_from, with_variable, without_variable}
use Rattle.kp_limits.proofs.counts.whole_variables.Goals as goal
use Rattle.kp_limits.proofs.counts.whole_variables.Goals.{then-has_only_numbers+in_ok-add_once, else-has_only_numbers}

pub loop-i-preserved : goal.loop-i-preserved
loop-i-preserved c =
    let g = signature_view c.args.signature.now in
    let xs = c.args.variables.now in
    let k = length xs - 1 - c.loop-i.i in
    let x = c.index-variables-variables.result in
    let from : length xs - c.loop-i.i ≡ k + 1 = omega arith in
    let to : k ≡ length xs - (c.loop-i.i + 1) = omega arith in
    let below : k < length xs = omega arith in
    let before : Counts c.loop-i.later (names_from g xs (k + 1)) = subst (λ n. Counts c.loop-i.later (names_from g xs n)) from c.loop-i.invariant in
    let told : c.has_only_numbers.result ≡ head.has_only_numbers g (sort_view x.value.sort) = c.has_only_numbers.ensures ∙ ap (λ (v : Variable). head.has_only_numbers g (sort_view v.sort)) c.deref.ensures in
    subst (λ n. Counts c.if-has_only_numbers.later (names_from g xs n)) to
    (elim c.if-has_only_numbers.branch [
      | then-has_only_numbers+in_ok-add_once w ↦
          subst (λ f. Counts f (names_from g xs k)) (sym w.later-is)
          (with_variable g c.loop-i.later w.add_once.new.found xs k x c.has_only_numbers.result below c.index-variables-variables.is told w.if-has_only_numbers.true
          (rw w.deref-then-has_only_numbers.ensures at w.in_ok-add_once.ensures.named) (rw w.deref-then-has_only_numbers.ensures at w.in_ok-add_once.ensures.counted) before)
      | else-has_only_numbers w ↦
          subst (λ f. Counts f (names_from g xs k)) (sym w.later-is)
          (without_variable g c.loop-i.later xs k x c.has_only_numbers.result below c.index-variables-variables.is told w.if-has_only_numbers.false before)
    ])
