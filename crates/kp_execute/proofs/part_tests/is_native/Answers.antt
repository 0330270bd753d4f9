use Rattle.std.proofs.Common.{ap, not, ◌∙◌}
use Rattle.kp_kore.specs.View.{view}
use Rattle.kp_signature.specs.View.{signature_view}
use Rattle.kp_execute.proofs.ChecksLemmas.{none_foreign}
use Rattle.kp_execute.proofs.part_tests.is_native.Goals as goal

pub returns : goal.returns
returns c told = none_foreign c.in_ok-first.first (signature_view c.args.signature.now) (view c.args.pattern.now) c.in_ok-first.ensures (c.is_none.ensures ∙ ap not told)
