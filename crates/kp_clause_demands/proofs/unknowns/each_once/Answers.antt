use Rattle.std.proofs.Common.{arith, ◌≡◌, ◌+◌, ◌-◌, subst, drop, length}
use Rattle.kp_clause_demands.specs.Numbers.{texts, AreEachOnce}
use Rattle.kp_clause_demands.proofs.NameLemmas.{once_more}
use Rattle.kp_clause_demands.proofs.unknowns.each_once.Goals as goal

pub loop-i-preserved : goal.loop-i-preserved
loop-i-preserved c =
    let ns = c.args.names.now in
    let i = c.loop-i.i in
    let before = texts c.loop-i.found.items in
    let after = texts c.add_once.new.found.items in
    let lt = c.loop-i-test.true in
    let from : length ns - i ≡ (length ns - 1 - i) + 1 = omega (arith, lt) in
    let to : length ns - 1 - i ≡ length ns - (i + 1) = omega (arith, lt) in
    subst (λ k. AreEachOnce after (texts (drop k ns))) to
    (once_more before after ns (length ns - 1 - i) c.index-names-names.result (omega (arith, lt)) c.index-names-names.is c.in_ok-add_once.ensures
    (subst (λ k. AreEachOnce before (texts (drop k ns))) from c.loop-i.invariant))
