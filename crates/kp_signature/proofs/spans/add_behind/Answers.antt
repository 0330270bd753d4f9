use Rattle.kp_signature.proofs.SpanLemmas.{pushed_one}
use Rattle.kp_signature.proofs.spans.add_behind.Goals as goal

pub returns-then-joins : goal.returns-then-joins
returns-then-joins c j =
    let near = c.joins.ensures c.if-joins.true in
    pushed_one c.args.spans.now.items c.push.new.self.items c.joined.result j c.in_ok-push.ensures.items (c.joined.ensures near.0 near.1 j)
