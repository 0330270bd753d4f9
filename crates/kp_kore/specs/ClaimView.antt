-- What the code's claim stands for.
use Rattle.kp_kore.specs.View.{view}
use Rattle.kp_kore.specs.Claims.{ReachabilityClaim}
use Rattle.kp_kore.specs.declared.claim.Claim.{Claim}

abbrev pub claim_view : Claim → ReachabilityClaim
claim_view c = record { left = view c.left; right = view c.right }
