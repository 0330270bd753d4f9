use Rattle.kp_kore.specs.Signature.{IsBelow, is_below}
use Rattle.kp_kore.specs.View.{sort_view}
use Rattle.kp_signature.specs.View.{signature_view}
use Rattle.kp_signature.proofs.Below.{is_below-Decides}
use Rattle.kp_formulas.proofs.SameLemmas.{same_decision}
use Rattle.kp_formulas.proofs.head.lies_below.Goals as goal

pub returns : goal.returns
returns c =
    let pairs = (signature_view c.args.signature.now).subsorts in
    let a = sort_view c.args.lower.now in
    let b = sort_view c.args.upper.now in
    same_decision c.subsort.result (is_below pairs a b) (IsBelow pairs a b) c.subsort.ensures (is_below-Decides pairs a b)
