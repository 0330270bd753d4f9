use Rattle.std.proofs.Common.{sym, subst}
use Rattle.kp_rules.specs.Bodies.{IsReadAs}
use Rattle.kp_modules.specs.Axioms.{axiom_view}
use Rattle.kp_modules.specs.Sources.{IsSourceOf}
use Rattle.kp_modules.proofs.Ruled.{made}
use Rattle.kp_modules.proofs.rules.rule_from.Goals as goal

pub returns-clause-made : goal.returns-clause-made
returns-clause-made c g names counts read =
    let a = axiom_view c.args.rewriting.now in
    made g names a
    (record { id = c.in_ok-rule_id.field-0; priority = c.args.priority; body = c.in_ok-body.body; source = c.in_ok-new.field-0 })
    (subst (IsReadAs g a.axiom_of c.args.priority) (sym c.in_ok-body.ensures.ok) read)
    (c.in_ok-rule_id.ensures names a counts c.in_ok-source.ensures)
    (subst (IsSourceOf a) (sym c.in_ok-new.ensures.ok) c.in_ok-source.ensures)
