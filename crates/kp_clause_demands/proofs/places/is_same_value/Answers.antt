use Rattle.kp_ground.specs.View.{value_view}
use Rattle.kp_clause_demands.proofs.PlaceLemmas.{tested}
use Rattle.kp_kore.specs.Value.{values_same}
use Rattle.kp_kore.proofs.SameLemmas.{values_same-Decides}
use Rattle.kp_clause_demands.proofs.places.is_same_value.Goals as goal

pub returns : goal.returns
returns c =
    let u = value_view c.args.value.now in
    let w = value_view c.args.other.now in
    tested c.equal.result (values_same u w) c.equal.ensures (values_same-Decides u w)
