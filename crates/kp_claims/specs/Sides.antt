-- What the code's sides stand for.
use Rattle.kp_kore.specs.View.{view, sort_view}
use Rattle.kp_claims.specs.Claims.{ClaimSides}
use Rattle.kp_claims.specs.Faults.{Fault}
use Rattle.kp_claims.specs.declared.outline.ClaimOutline.{ClaimOutline}
use Rattle.kp_claims.specs.declared.fault.ClaimError.{ClaimError}
use Rattle.kp_claims.specs.declared.fault.ClaimError.TheVariants as error
use Rattle.kp_claims.specs.declared.fault.ClaimFault.TheVariants as told
use Rattle.kp_signature.specs.declared.error.VerifyError.{VerifyError}
use Rattle.kp_signature.specs.declared.error.VerifyError.TheVariants as verify

abbrev pub sides_view : ClaimOutline → ClaimSides
sides_view c = record { sort = sort_view c.sort.now; left = view c.left.now; right = view c.right.now }

-- ---- errors of the crates below

abbrev pub error_of_verify : VerifyError → ClaimError
error_of_verify verify.Memory = error.Memory
error_of_verify e = error.Fault (told.Unverified e)
