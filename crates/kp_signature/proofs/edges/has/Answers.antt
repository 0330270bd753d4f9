use Rattle.std.proofs.Common.{◌∙◌, sym}
use Rattle.kp_signature.proofs.EdgeLemmas.{in_set}
use Rattle.kp_signature.proofs.edges.has.Goals as goal

pub returns : goal.returns
returns c = let d = in_set c.args.found.now.keys c.args.number in (λ h. d.0 (sym c.contains.ensures ∙ h), λ h. c.contains.ensures ∙ d.1 h)
