use Rattle.kp_kore.specs.View.{sort_view}
use Rattle.kp_literals.proofs.KindLemmas.{same_is}
use Rattle.kp_literals.proofs.value_kinds.is_same.Goals as goal

pub returns : goal.returns
returns c = same_is (sort_view c.args.first.now) (sort_view c.args.second.now) c.equal.result c.equal.ensures.0 c.equal.ensures.1
