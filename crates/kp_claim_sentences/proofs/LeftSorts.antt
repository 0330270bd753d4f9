-- A name of a verified claim's left side has one sort.
use Rattle.std.proofs.Common.{◌≡◌, Option, None}
use Rattle.kp_kore.specs.Parts.{free_variables}
use Rattle.kp_kore.specs.Signature.{KoreSignature}
use Rattle.kp_kore.specs.Cases.{HaveOneSort}
use Rattle.kp_signature.specs.Places.{the_top, part_at, after}
use Rattle.kp_signature.specs.Verify.{first_fault, fault_at}
use Rattle.kp_signature.proofs.OneSort.{agrees, one_sort_among, two_parts}
use Rattle.kp_claims.specs.Claims.{ClaimSides}
use Rattle.kp_claims.specs.Faults.{bare_claim}

-- the names of a verified claim's left side
pub left_has_one_sort : (g : KoreSignature) (c : ClaimSides) → first_fault g the_top (bare_claim c) ≡ None → HaveOneSort (free_variables c.left)
left_has_one_sort g c h =
    let k = two_parts (fault_at g the_top (bare_claim c)) (first_fault g (part_at the_top c.sort) c.left) (first_fault g (after c.left (part_at the_top c.sort)) c.right) h in
    let a = agrees g (part_at the_top c.sort) c.left k.0 in
    one_sort_among (free_variables c.left) (free_variables c.left) (free_variables c.left) a a
