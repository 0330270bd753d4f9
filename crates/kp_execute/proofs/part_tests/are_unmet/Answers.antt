use Rattle.std.proofs.Common.{◌≡◌, sym, ap, subst, ◌∙◌, true, false, [], ◌∷◌, ◌++◌, take, string_bytes}
use Rattle.std.specs.List.{list_any}
use Rattle.std.specs.Str.{bytes_eq}
use Rattle.kp_names.specs.Met.{Lists}
use Rattle.kp_execute.specs.Checks.{rule_ids}
use Rattle.kp_execute.proofs.ChecksLemmas.{id_of, one_more, id_met, id_new}
use Rattle.kp_execute.proofs.part_tests.are_unmet.Goals as goal

pub returns-then-is_noted : goal.returns-then-is_noted
returns-then-is_noted c before is =
    let rs = c.args.rules.now in
    let i = c.loop-rule.rule-index in
    let known = before ++ rule_ids (take i rs) in
    let left = c.loop-rule.invariant before is in
    id_met before rs i c.rule-item.result c.loop-rule-test.true c.rule-item.is
    (subst (λ x. list_any (bytes_eq x) known ≡ true) (ap string_bytes c.deref.ensures) (sym (c.is_noted.ensures known left.0) ∙ c.if-is_noted.true)) left.1

pub loop-rule-preserved : goal.loop-rule-preserved
loop-rule-preserved c before is =
    let rs = c.args.rules.now in
    let i = c.loop-rule.rule-index in
    let r = c.rule-item.result in
    let known = before ++ rule_ids (take i rs) in
    let left = c.loop-rule.invariant before is in
    let new : list_any (bytes_eq (id_of r)) known ≡ false = subst (λ x. list_any (bytes_eq x) known ≡ false) (ap string_bytes c.deref.ensures) (sym (c.is_noted.ensures known left.0) ∙ c.if-is_noted.false) in (
      subst (λ l. Lists l c.note.new.names) (one_more before rs i r c.loop-rule-test.true c.rule-item.is)
          (subst (λ x. Lists (known ++ x ∷ []) c.note.new.names) (ap string_bytes c.deref-in-loop-rule.ensures) (c.in_ok-note.ensures known left.0)),
      id_new before rs i r c.loop-rule-test.true c.rule-item.is new left.1,
    )
