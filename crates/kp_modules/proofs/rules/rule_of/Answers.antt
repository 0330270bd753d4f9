use Rattle.kp_rules.specs.Bodies.{IsFaulty}
use Rattle.kp_signature.specs.View.{signature_view}
use Rattle.kp_modules.specs.Axioms.{axiom_view}
use Rattle.kp_modules.proofs.Firsts.{no_axiom, on_value}
use Rattle.kp_modules.proofs.rules.rule_of.Goals as goal

pub returns-in-Ok-clause-err : goal.returns-in-Ok-clause-err
returns-in-Ok-clause-err c rewriting = no_axiom (signature_view c.args.signature.now) (axiom_view c.args.rewriting.now) c.rule_from.result c.rule_from.ensures.fault

pub returns-in-Ok-clause-sound : goal.returns-in-Ok-clause-sound
returns-in-Ok-clause-sound c rewriting = on_value (¬ IsFaulty (signature_view c.args.signature.now) (axiom_view c.args.rewriting.now).axiom_of) c.rule_from.result (c.in-Ok.ensures.unfaulty rewriting)

pub returns-in-Ok-clause-ok : goal.returns-in-Ok-clause-ok
returns-in-Ok-clause-ok c names is rewriting = c.rule_from.ensures.made (signature_view c.args.signature.now) names is (c.in-Ok.ensures.read rewriting)
