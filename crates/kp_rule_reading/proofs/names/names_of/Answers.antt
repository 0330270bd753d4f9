use Rattle.std.proofs.Common.{rules, ◌≡◌, subst, cond, true, string_bytes}
use Rattle.std.specs.Str.{bytes_eq}
use Rattle.std.proofs.lemmas.Map.Text.{hash_set_updates_text}
use Rattle.indexmap.specs.IndexSet.{contains_text}
use Rattle.kp_kore.specs.Syntax.{Text}
use Rattle.kp_rule_reading.proofs.NameSets.{fills_more}
use Rattle.kp_rule_reading.proofs.names.names_of.Goals as goal

pub loop-variable-preserved : goal.loop-variable-preserved
loop-variable-preserved c =
    let same : string_bytes c.in_ok-clone.field-0 ≡ string_bytes c.variable-item.result.name = search rules in
    fills_more c.loop-variable.names c.insert.new.self c.args.variables.now c.loop-variable.variable-index c.variable-item.result c.loop-variable-test.true c.variable-item.is
    (subst (λ bs. (n : Text) → contains_text c.insert.new.self n ≡ cond (bytes_eq bs n) true (contains_text c.loop-variable.names n)) same
    (hash_set_updates_text (string_bytes c.in_ok-clone.field-0) c.loop-variable.names c.insert.new.self true c.in_ok-insert.ensures.updates))
    c.loop-variable.invariant
