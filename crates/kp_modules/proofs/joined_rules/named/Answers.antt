use Rattle.std.proofs.Common.{refl, sym, subst}
use Rattle.kp_rules.specs.declared.rule.Rule.{Rule}
use Rattle.kp_modules.specs.Sources.{IsSourceOf}
use Rattle.kp_modules.proofs.Taken.{called, same_parts}
use Rattle.kp_modules.proofs.joined_rules.named.Goals as goal

pub returns : goal.returns
returns c g names a counts taken =
    let new : Rule = record { id = c.in_ok-rule_id.field-0; priority = c.args.rule.now.priority; body = c.in_ok-clone.field-0; source = c.in_ok-clone-2.field-0 } in
    called g names a new
    (same_parts g a c.args.rule.now new taken c.in_ok-clone.ensures.cases c.in_ok-clone-2.ensures.cases refl)
    (c.in_ok-rule_id.ensures names a counts (subst (IsSourceOf a) (sym c.deref.ensures) taken.is_source))
