use Rattle.std.proofs.Common.{rules, ◌≡◌, ◌++◌}
use Rattle.kp_signature.specs.View.{signature_view}
use Rattle.kp_step.proofs.ImpliedLemmas.{more_follow}
use Rattle.kp_step.proofs.call_equalities.implied.Goals as goal

pub loop-clause-preserved : goal.loop-clause-preserved
loop-clause-preserved c =
    let l = c.loop-clause in
    let found = l.found.items in
    let more = c.in_ok-more.more.items in
    let all = c.append.new.self.items in
    let both : all ≡ found ++ more = search rules in
    more_follow (signature_view c.args.signature.now) c.args.clauses.now l.clause-index c.clause-item.result found more all c.loop-clause-test.true c.clause-item.is both c.in_ok-more.ensures l.invariant
