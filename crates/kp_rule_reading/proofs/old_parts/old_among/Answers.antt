use Rattle.std.proofs.Common.{◌∙◌, sym, ap, not, ◌&&◌, map, arith}
use Rattle.std.specs.List.{list_any}
use Rattle.std.proofs.lemmas.List.{drop_all}
use Rattle.std.proofs.lemmas.Result.{err_from_is_err_and}
use Rattle.kp_kore.specs.View.{sorted_variable_view}
use Rattle.kp_signature.specs.View.{signature_view}
use Rattle.kp_kore.specs.Numbers.{computes_wide}
use Rattle.kp_compile.specs.Names.{names_seen}
use Rattle.kp_compile.specs.Verified.{IsVerifiedTerm}
use Rattle.kp_rules.specs.Shapes.{seen}
use Rattle.kp_rules.specs.WideParts.{holds_none, all_narrow}
use Rattle.kp_rule_reading.specs.Compiled.{IsOldNamed}
use Rattle.kp_rule_reading.proofs.OldParts.{lent_at, one_further, at_the_end}
use Rattle.kp_rule_reading.proofs.old_parts.old_among.Goals as goal

pub loop-part-preserved : goal.loop-part-preserved
loop-part-preserved c =
    let g = signature_view c.args.signature.now in
    let new = map sorted_variable_view c.args.new_variables.now in
    let i = c.loop-part.part-index in
    let d = c.part-item.result in
    let old = c.loop-part.found.items in
    let now = c.add_old.new.found.items in
    let added = c.in_ok-add_old.ensures.added in (
      (λ v. one_further g v new c.args.parts.now i d old now _ c.loop-part-test.true c.part-item.is (added.narrow v) (c.loop-part.invariant.0 v)),
      (λ named. added.reads (lent_at (IsOldNamed (names_seen c.args.names.now) new) c.args.parts.now i d c.loop-part-test.true c.part-item.is named) (c.loop-part.invariant.1 named)),
    )

pub returns-clause-parts : goal.returns-clause-parts
returns-clause-parts c =
    let g = signature_view c.args.signature.now in
    let new = map sorted_variable_view c.args.new_variables.now in
    let ts = c.loop-part.found.items in
    record {
      narrow = λ v. at_the_end (all_narrow v ts) _
          (ap (λ ps. all_narrow v ts && not (list_any (λ q. holds_none new q && computes_wide g v q) (seen ps))) (sym (drop_all c.loop-part.part-index c.args.parts.now (omega arith))) ∙ c.loop-part.invariant.0 v);
      reads = c.loop-part.invariant.1;
    }

pub returns-in_err-add_old-clause-refused : goal.returns-in_err-add_old-clause-refused
returns-in_err-add_old-clause-refused c =
    let p = err_from_is_err_and c.from_residual.result c.from_residual.ensures.1 in
    rw (p.1, p.2) (λ all. c.in_err-add_old.ensures.refused (lent_at (IsVerifiedTerm (signature_view c.args.signature.now)) c.args.parts.now c.loop-part.part-index c.part-item.result c.loop-part-test.true c.part-item.is all))
