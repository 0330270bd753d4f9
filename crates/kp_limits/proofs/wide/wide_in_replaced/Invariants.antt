use Rattle.kp_signature.specs.View.{signature_view}
use Rattle.kp_limits.proofs.WideLemmas.{ReplacedLeft}
use Rattle.kp_limits.proofs.wide.wide_in_replaced.Given as goal

abbrev pub invariant-loop-one : goal.invariant-loop-one
invariant-loop-one l = ReplacedLeft (signature_view l.signature) l.replaced l.one-index
