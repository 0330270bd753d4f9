use Rattle.std.proofs.Common.{rules, ◌≡◌, ◌≤◌, length}
use Rattle.kp_signature.specs.View.{signature_view}
use Rattle.kp_case_laws.specs.Courses.{IsSortedEquality}
use Rattle.kp_unify.specs.Views.{equality_view}
use Rattle.kp_unify.specs.Way.{IsPlacedEquality}
use Rattle.kp_unify.proofs.PlacedLemmas.{one_more, all_past}
use Rattle.kp_unify.proofs.meeting.are_placed.Goals as goal

pub loop-equality-preserved : goal.loop-equality-preserved
loop-equality-preserved c p sorted rest =
    let g = signature_view c.args.signature.now in
    one_more (IsSortedEquality g p) (IsPlacedEquality g) equality_view c.loop-equality.equality-index c.args.equalities.now c.equality-item.result c.loop-equality-test.true c.equality-item.is (c.is_placed.ensures p (search rules)) sorted (c.loop-equality.invariant p sorted) rest

pub returns : goal.returns
returns c p all sorted =
    let g = signature_view c.args.signature.now in
    let past : length c.args.equalities.now ≤ c.loop-equality.equality-index = search rules in
    all_past (IsPlacedEquality g) equality_view c.loop-equality.equality-index c.args.equalities.now past (c.loop-equality.invariant p sorted)
