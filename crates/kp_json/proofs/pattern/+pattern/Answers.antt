use Rattle.std.proofs.Common.{◌-◌, ◌+◌, drop, sym, ap, ◌∙◌, arith, rules}
use Rattle.serde_json.specs.View.{members_view}
use Rattle.kp_json.specs.Faults.{after, pattern_tagged, pattern_within}
use Rattle.kp_json.proofs.Patterns.{within_next, patterns_after, patterns_step, patterns_all}
use Rattle.kp_json.proofs.pattern.+pattern.Goals as goal

pub pattern_at-returns-in_err-tag-clause-fault : goal.pattern_at-returns-in_err-tag-clause-fault
pattern_at-returns-in_err-tag-clause-fault t c =
    rw (within_next c.args.levels (members_view c.args.object.now.entries) (omega (arith, c.if-levels-eq0.false))) (search rules)

pub pattern_at-returns-clause-found : goal.pattern_at-returns-clause-found
pattern_at-returns-clause-found t c =
    let o = members_view c.args.object.now.entries in
    rw (within_next c.args.levels o (omega (arith, c.if-levels-eq0.false)) ∙ ap (λ r. after r (pattern_tagged (pattern_within (c.args.levels - 1)) o)) c.in_ok-tag.ensures.found) c.pattern_tagged.ensures.found

pub pattern_at-returns-clause-fault : goal.pattern_at-returns-clause-fault
pattern_at-returns-clause-fault t c =
    let o = members_view c.args.object.now.entries in
    rw (within_next c.args.levels o (omega (arith, c.if-levels-eq0.false)) ∙ ap (λ r. after r (pattern_tagged (pattern_within (c.args.levels - 1)) o)) c.in_ok-tag.ensures.found) c.pattern_tagged.ensures.fault

pub patterns_of-loop-value-preserved : goal.patterns_of-loop-value-preserved
patterns_of-loop-value-preserved t c =
    c.loop-value.invariant ∙ patterns_step (pattern_within c.args.below) c.loop-value.patterns.items c.args.key.now c.args.values.now c.loop-value.value-index c.value-item.result (members_view c.in_ok-object.object.now.entries) c.in_ok-pattern_at.field-0 c.loop-value-test.true c.value-item.is c.in_ok-object.ensures.found c.in_ok-pattern_at.ensures.found
    ∙ ap (λ l. patterns_after (pattern_within c.args.below) l c.args.key.now (drop (c.loop-value.value-index + 1) c.args.values.now)) (sym c.in_ok-push.ensures.items)

pub patterns_of-returns-clause-found : goal.patterns_of-returns-clause-found
patterns_of-returns-clause-found t c = c.loop-value.invariant ∙ patterns_all (pattern_within c.args.below) c.loop-value.patterns.items c.args.key.now c.args.values.now c.loop-value.value-index (omega (arith, c.loop-value-test.false))
