use Rattle.std.proofs.Common.{arith}
use Rattle.kp_unify.specs.Forms.{form_view, members_view}
use Rattle.kp_unify.proofs.AddedLemmas.{member_added}
use Rattle.kp_unify.proofs.course.add_members.Goals as goal

pub loop-left-preserved : goal.loop-left-preserved
loop-left-preserved c =
    let most = c.loop-left.invariant.0 in
    let some = c.loop-left-test.true in (
      omega (arith, most),
      member_added (members_view c.args.members) c.args.terms.now c.args.pairs.now.items c.loop-left.pairs.items c.push.new.self.items c.in_ok-make_pair.field-0 (form_view c.at.result) c.index-terms-left.result c.loop-left.left
          some most c.requires c.in_ok-push.ensures.items c.loop-left.invariant.1 (c.at.ensures (form_view c.at.result)) c.index-terms-left.is c.in_ok-make_pair.ensures,
    )
