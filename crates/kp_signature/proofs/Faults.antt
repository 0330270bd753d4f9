-- Whether two sorts are the same, as a fault.
use Rattle.std.proofs.Common.{◌≡◌, refl, Bool, true, false, ap, Some, None}
use Rattle.kp_kore.specs.Syntax.{KoreSort}
use Rattle.kp_kore.specs.Attributes.{sorts_equal}
use Rattle.kp_kore.proofs.SameLemmas.{sorts_equal-Decides}
use Rattle.kp_signature.specs.Verify.{VerifyFault, fault_unless}

pub same_is_no_fault : (s t : KoreSort) (f : VerifyFault) → s ≡ t → fault_unless (sorts_equal s t) f ≡ None
same_is_no_fault s t f e = ap (λ b. fault_unless b f) ((sorts_equal-Decides s t).1 e)

pub other_is_a_fault : (s t : KoreSort) (f : VerifyFault) → (s ≡ t → ⊥) → fault_unless (sorts_equal s t) f ≡ Some f
other_is_a_fault s t f n = ap (λ b. fault_unless b f) (is_false (sorts_equal s t) (λ h. n ((sorts_equal-Decides s t).0 h)))
  where
    is_false : (b : Bool) → (b ≡ true → ⊥) → b ≡ false
    is_false true n = absurd (n refl)
    is_false false n = refl
