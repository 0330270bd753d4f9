use Rattle.std.proofs.Common.{◌≡◌, ◌&&◌, ◌∙◌, sym, refl, true}
use Rattle.kp_signature.specs.View.{signature_view}
use Rattle.kp_claims.specs.Faults.{TellsOf}
use Rattle.kp_claims.specs.Sides.{sides_view}
use Rattle.kp_claims.proofs.OneMore.{exit}
use Rattle.kp_claim_files.specs.Ground.{is_ground, AreBeyond}
use Rattle.kp_claim_files.proofs.GroundClaims.{other_told, not_ground, both_ground, wide_left, wide_right, sides_ok}
use Rattle.kp_claim_files.proofs.GroundSides.{left_is_ground, right_is_ground}
use Rattle.kp_claim_files.proofs.ground.check_sides.Goals as goal

pub returns-then-not-branch-clause-err : goal.returns-then-not-branch-clause-err
returns-then-not-branch-clause-err c meant =
    let g = signature_view c.args.signature.now in
    let s = sides_view c.args.sides in
    other_told (AreBeyond g s) (not_ground g s (sym c.in_ok-are_ground.ensures ∙ c.if-not-branch.true), refl)

pub returns-in_err-check_number-clause-err : goal.returns-in_err-check_number-clause-err
returns-in_err-check_number-clause-err c meant =
    let g = signature_view c.args.signature.now in
    let s = sides_view c.args.sides in
    let ground : (is_ground s.left && is_ground s.right) ≡ true = sym c.in_ok-are_ground.ensures ∙ c.if-not-branch.false in
    let both = both_ground (is_ground s.left) (is_ground s.right) ground in
    let e = c.in_err-check_number.field-0.0 in
    exit c.from_residual-in_err-check_number.result (TellsOf (AreBeyond g s)) e c.from_residual-in_err-check_number.ensures
    (wide_left g s e (c.in_err-check_number.ensures.err (left_is_ground g s meant.verified meant.known both.0)))

pub returns-clause-ok : goal.returns-clause-ok
returns-clause-ok c =
    let g = signature_view c.args.signature.now in
    let s = sides_view c.args.sides in
    let ground : (is_ground s.left && is_ground s.right) ≡ true = sym c.in_ok-are_ground.ensures ∙ c.if-not-branch.false in
    sides_ok g s c.check_number-2.result ground c.in_ok-check_number.ensures.ok c.check_number-2.ensures.ok

pub returns-clause-err : goal.returns-clause-err
returns-clause-err c meant =
    let g = signature_view c.args.signature.now in
    let s = sides_view c.args.sides in
    let ground : (is_ground s.left && is_ground s.right) ≡ true = sym c.in_ok-are_ground.ensures ∙ c.if-not-branch.false in
    let both = both_ground (is_ground s.left) (is_ground s.right) ground in
    wide_right g s c.check_number-2.result (c.check_number-2.ensures.err (right_is_ground g s meant.verified meant.known both.0 both.1))
