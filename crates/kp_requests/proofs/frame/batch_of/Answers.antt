use Rattle.std.proofs.Common.{rules, ◌≡◌, nat_eq, length, false}
use Rattle.kp_requests.specs.View.{calls_view}
use Rattle.kp_requests.proofs.Frames.{full_batch}
use Rattle.kp_requests.proofs.frame.batch_of.Goals as goal

pub returns : goal.returns
returns c =
    let empty : c.is_empty.result ≡ nat_eq (length c.args.members.now) 0 = search rules in
    let isnt : c.is_empty.result ≡ false = search rules in
    full_batch c.args.members.now (calls_view c.in_ok-calls_of.field-0.items) c.is_empty.result empty isnt c.in_ok-calls_of.ensures
