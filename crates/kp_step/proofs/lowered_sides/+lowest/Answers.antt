use Rattle.std.proofs.Common.{subst, string_bytes}
use Rattle.std.specs.Prelude.{MatchOption, ⊤}
use Rattle.kp_kore.specs.View.{sort_view}
use Rattle.kp_signature.specs.View.{signature_view}
use Rattle.kp_rules.specs.Skeletons.{skeleton_view}
use Rattle.kp_case_laws.specs.Courses.{form_variables}
use Rattle.kp_step.specs.OneSort.{IsLowest}
use Rattle.kp_step.proofs.LoweredLemmas.{lowering_goes_on}
use Rattle.kp_step.proofs.lowered_sides.+lowest.Goals as goal

pub lowest_among-loop-skeleton-preserved : goal.lowest_among-loop-skeleton-preserved
lowest_among-loop-skeleton-preserved t c =
    let g = signature_view c.args.signature.now in
    let name = string_bytes c.args.name.now.value in
    let low = sort_view c.loop-skeleton.low.now in
    let xs = form_variables (skeleton_view c.skeleton-item.result) in
    let one = subst (λ o. MatchOption o ⊤ (λ next. IsLowest g name low xs (sort_view next.now))) c.in-Some.is c.lowest.ensures in
    lowering_goes_on g name (sort_view c.args.sort.now) low (sort_view c.in-Some.next.now) c.args.skeletons.now c.loop-skeleton.skeleton-index c.skeleton-item.result c.loop-skeleton-test.true c.skeleton-item.is one c.loop-skeleton.invariant
