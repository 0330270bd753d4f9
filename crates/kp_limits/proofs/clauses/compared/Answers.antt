use Rattle.std.proofs.Common.{rules, ◌≡◌, subst, map}
use Rattle.kp_signature.specs.View.{signature_view}
use Rattle.kp_symbolic.specs.Plain as plain
use Rattle.kp_symbolic.specs.View.{state_view}
use Rattle.kp_symbolic.specs.Weights.{IsBitLength, largest, all_bounds, bits}
use Rattle.kp_literals.specs.Bounds.{difference_view}
use Rattle.kp_literals.specs.Readings.{clauses_view}
use Rattle.kp_limits.specs.Told.{TellsWeight}
use Rattle.kp_limits.proofs.WeightNames.{names_told}
use Rattle.kp_limits.proofs.clauses.compared.Goals as goal

pub returns : goal.returns
returns c =
    let cs = plain.read_clauses (signature_view c.args.signature.now) (state_view c.args.state.now) in
    let read : clauses_view c.in_ok-clauses.clauses.items ≡ cs = c.in_ok-clauses.ensures.view in
    let bounds : map difference_view c.deref-3.result.now ≡ all_bounds cs = search rules in
    let long : IsBitLength (largest (all_bounds cs)) c.largest_length.result = subst (λ bs. IsBitLength (largest bs) c.largest_length.result) bounds c.largest_length.ensures in
    let told : TellsWeight cs bits c.in_ok-weight.weight = search rules in
    names_told c.names_in.result cs c.in_ok-weight.weight c.largest_length.result told long c.names_in.ensures.whole c.names_in.ensures.sum
