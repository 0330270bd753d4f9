use Rattle.std.proofs.Common.{rules, ◌≡◌, sym, subst, cond, ◌+◌, ◌-◌, true, length, string_bytes, arith}
use Rattle.std.specs.Str.{bytes_eq}
use Rattle.std.proofs.lemmas.Map.Text.{hash_set_updates_text}
use Rattle.indexmap.specs.IndexSet.{contains_text}
use Rattle.kp_kore.specs.Syntax.{Text}
use Rattle.kp_kore.specs.Foreign.{repeats_literals_only}
use Rattle.kp_signature.specs.View.{signature_view}
use Rattle.kp_rule_reading.specs.ReadRules.{Names}
use Rattle.kp_rule_reading.proofs.NameSets.{names_from, named_more, repeats_more, repeats_not}
use Rattle.kp_rule_reading.proofs.names.repeats_literals_only.Goals as goal

pub returns-then-is_named_without_literals : goal.returns-then-is_named_without_literals
returns-then-is_named_without_literals c =
    let vs = c.args.variables.now in
    let g = signature_view c.args.signature.now in
    let later = c.loop-i.later in
    let from : length vs - c.loop-i.i ≡ (length vs - 1 - c.loop-i.i) + 1 = omega arith in
    sym (repeats_not g later vs (length vs - 1 - c.loop-i.i) c.index-variables-variables.result (omega arith) c.index-variables-variables.is
    (subst (λ k. Names later (names_from vs k)) from c.loop-i.invariant.names) (search rules))

pub loop-i-preserved : goal.loop-i-preserved
loop-i-preserved c =
    let vs = c.args.variables.now in
    let g = signature_view c.args.signature.now in
    let later = c.loop-i.later in
    let v = c.index-variables-variables.result in
    let from : length vs - c.loop-i.i ≡ (length vs - 1 - c.loop-i.i) + 1 = omega arith in
    let to : length vs - 1 - c.loop-i.i ≡ length vs - (c.loop-i.i + 1) = omega arith in
    let same : string_bytes c.in_ok-clone.field-0 ≡ string_bytes v.name = search rules in
    let names = subst (λ k. Names later (names_from vs k)) from c.loop-i.invariant.names in
    let so = subst (λ k. repeats_literals_only g (names_from vs k) ≡ true) from c.loop-i.invariant.so in
    record {
      names = subst (λ k. Names c.insert.new.self (names_from vs k)) to (named_more later c.insert.new.self vs (length vs - 1 - c.loop-i.i) v (omega arith) c.index-variables-variables.is
          (subst (λ bs. (n : Text) → contains_text c.insert.new.self n ≡ cond (bytes_eq bs n) true (contains_text later n)) same
          (hash_set_updates_text (string_bytes c.in_ok-clone.field-0) later c.insert.new.self true c.in_ok-insert.ensures.updates)) names);
      so = subst (λ k. repeats_literals_only g (names_from vs k) ≡ true) to (repeats_more g later vs (length vs - 1 - c.loop-i.i) v (omega arith) c.index-variables-variables.is names (search rules) so);
    }
