-- From the parts of a claim to its first fault.
use Rattle.std.proofs.Common.{◌≡◌, refl, sym, ap, ◌∙◌, Bool, true, false, cond, Option, Some, None, is_some}
use Rattle.kp_kore.specs.Syntax.{Statement}
use Rattle.kp_claims.specs.Claims.{is_one_path}
use Rattle.kp_claims.specs.Faults.{Fault, one_path, other_shape}
use Rattle.kp_claim_sentences.specs.Claims.{clear_sides}
use Rattle.kp_claim_sentences.specs.Faults.{shape_fault}

pub shape_one : (s : Statement) → is_one_path s.pattern ≡ true → shape_fault s ≡ Some one_path
shape_one s h = ap (λ b. cond b (Some one_path) (cond (is_some (clear_sides s)) None (Some other_shape))) h

pub shape_other : (s : Statement) → is_one_path s.pattern ≡ false → clear_sides s ≡ None → shape_fault s ≡ Some other_shape
shape_other s h none =
    ap (λ b. cond b (Some one_path) (cond (is_some (clear_sides s)) None (Some other_shape))) h
    ∙ ap (λ o. cond (is_some o) None (Some other_shape)) none
