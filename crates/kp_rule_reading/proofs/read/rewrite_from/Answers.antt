use Rattle.std.proofs.Common.{refl, ◌∙◌, sym}
use Rattle.std.specs.List.{list_all}
use Rattle.kp_kore.specs.Parts.{free_variables}
use Rattle.kp_kore.specs.View.{view}
use Rattle.kp_kore.specs.Instance.{is_named}
use Rattle.kp_rule_reading.specs.ReadRules.{is_plain_over, is_binder, is_top_pattern}
use Rattle.kp_rule_reading.proofs.Named.{plain_parts}
use Rattle.kp_rules.specs.Shapes.{seen}
use Rattle.kp_rule_reading.proofs.read.rewrite_from.Goals as goal

pub returns-in-Ok-clause-made : goal.returns-in-Ok-clause-made
returns-in-Ok-clause-made c = (c.in-Ok.ensures.made.0, c.in-Ok.ensures.made.1 ∙ c.in_ok-chooses.ensures)

pub returns-in-Err-clause-sound : goal.returns-in-Err-clause-sound
returns-in-Err-clause-sound c = λ sound. c.refused.ensures (c.in-Err.ensures.sound sound)

-- the right term of a rule that doesn't choose
pub compiled-requires-clause-right : goal.compiled-requires-clause-right
compiled-requires-clause-right c = λ plain.
    let left = view c.args.shape.now.left.term.now in
    let right = view c.args.right.now in
    let ensured = seen c.args.shape.now.right.predicates.items in
    let parts = plain_parts (is_plain_over left right ensured) (is_binder right) (list_all is_top_pattern ensured) (list_all (λ x. is_named x.name (free_variables left)) (free_variables right)) refl (sym c.in_ok-chooses.ensures ∙ plain) in
    c.requires.right parts.0 parts.1

pub compiled-requires-clause-condition : goal.compiled-requires-clause-condition
compiled-requires-clause-condition c = c.requires.condition

pub compiled-requires-clause-known : goal.compiled-requires-clause-known
compiled-requires-clause-known c = c.requires.known
