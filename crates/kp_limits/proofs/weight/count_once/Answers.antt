use Rattle.std.proofs.Common.{rules, ◌≡◌, subst, ◌∙◌, ◌+◌, ◌-◌, ◌≤◌, length, arith}
use Rattle.kp_limits.proofs.NameLemmas.{Counts, texts_from, counts_more}
use Rattle.kp_limits.proofs.weight.count_once.Goals as goal

pub loop-i-preserved : goal.loop-i-preserved
loop-i-preserved c =
    let ns = c.args.names.now in
    let from : length ns - c.loop-i.i ≡ (length ns - 1 - c.loop-i.i) + 1 = omega arith in
    let to : length ns - 1 - c.loop-i.i ≡ length ns - (c.loop-i.i + 1) = omega arith in
    subst (λ k. Counts c.add_once.new.found (texts_from ns k)) to
    (counts_more c.loop-i.later c.add_once.new.found ns (length ns - 1 - c.loop-i.i) c.index-names-names.result (omega arith) c.index-names-names.is
    c.in_ok-add_once.ensures.named c.in_ok-add_once.ensures.counted
    (subst (λ k. Counts c.loop-i.later (texts_from ns k)) from c.loop-i.invariant))

pub returns : goal.returns
returns c =
    let ns = c.args.names.now in
    let past : length ns ≤ c.loop-i.i = search rules in
    let none : length ns - c.loop-i.i ≡ 0 = omega (arith, past) in
    c.len.ensures.len ∙ (subst (λ k. Counts c.loop-i.later (texts_from ns k)) none c.loop-i.invariant).counted
