use Rattle.std.proofs.Common.{◌∙◌, ap, sym}
use Rattle.kp_rules.specs.declared.rule.Rule.{Rule}
use Rattle.kp_rule_sets.specs.Keys.{key}
use Rattle.kp_rule_sets.proofs.Keyed.{keys_more}
use Rattle.kp_rule_sets.proofs.turn.keys_of.Goals as goal

pub loop-place-preserved : goal.loop-place-preserved
loop-place-preserved c =
    keys_more c.args.rules.now c.loop-place.place c.index-rules-place.result c.key_of.result c.loop-place.keys.items c.push.new.self.items c.loop-place-test.true c.index-rules-place.is c.loop-place.invariant
    (c.key_of.ensures ∙ ap (λ (r : Rule). key r.priority c.loop-place.place) (sym c.index-rules-place.is)) c.in_ok-push.ensures.items
