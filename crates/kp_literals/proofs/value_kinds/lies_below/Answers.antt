use Rattle.kp_kore.specs.View.{sort_view}
use Rattle.kp_signature.specs.View.{signature_view}
use Rattle.kp_signature.proofs.AloneLemmas.{below_is}
use Rattle.kp_literals.proofs.value_kinds.lies_below.Goals as goal

pub returns : goal.returns
returns c = below_is (signature_view c.args.signature.now).subsorts (sort_view c.args.lower.now) (sort_view c.args.upper.now) c.subsort.result c.subsort.ensures
