use Rattle.std.proofs.Common.{◌≡◌, sym, ap, subst, ◌∙◌}
use Rattle.kp_signature.specs.View.{signature_view}
use Rattle.kp_kore.specs.Theory.{rewrite_axioms}
use Rattle.kp_modules.specs.Made.{IsSetOf}
use Rattle.kp_modules.specs.Extending.{AreTakenFrom}
use Rattle.kp_modules.proofs.own_rule_set.set_at.Goals as goal

pub returns : goal.returns
returns c g d main ms keeps set stand =
    let axioms = rewrite_axioms ms in
    let whole : signature_view c.rule_set.result.now.signature.value ≡ g = ap (λ r. signature_view r.signature.value) c.rule_set.ensures ∙ set.signature in
    let found : AreTakenFrom g axioms c.deref.result.now = subst (AreTakenFrom g axioms) (sym c.deref.ensures.value) (c.in_ok-found.ensures g d main ms keeps set stand) in
    let made : IsSetOf g axioms c.in_ok-called.field-0 =
    subst (λ k. IsSetOf k axioms c.in_ok-called.field-0) whole (c.in_ok-called.ensures axioms (subst (λ k. AreTakenFrom k axioms c.deref.result.now) (sym whole) found)) in
    subst (IsSetOf g axioms) (sym c.in_ok-new.ensures.ok) made
