use Rattle.std.proofs.Common.{◌∙◌}
use Rattle.kp_kore.specs.View.{sort_view}
use Rattle.kp_signature.specs.View.{signature_view}
use Rattle.kp_literals.proofs.KindLemmas.{tokens_are_all}
use Rattle.kp_literals.proofs.value_kinds.has_only_tokens.Goals as goal

pub returns : goal.returns
returns c = c.has_tokens_at_most.ensures ∙ tokens_are_all (signature_view c.args.signature.now) (sort_view c.args.sort.now)
