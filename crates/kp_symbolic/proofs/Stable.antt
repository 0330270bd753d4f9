-- A literal that can't be refuted is true.
use Rattle.std.proofs.Common.{◌≡◌, refl, Bool, true, false}
use Rattle.std.specs.Prelude.{MatchBool}
use Rattle.kp_kore.specs.Signature.{KoreSignature}
use Rattle.std.specs.Bool.{Decides}
use Rattle.kp_kore.specs.Value.{Value, values_same}
use Rattle.kp_kore.proofs.SameLemmas.{same_values_decide}
use Rattle.kp_kore.specs.Instance.{Valuation}
use Rattle.kp_kore.proofs.TruthLemmas.{stable_truth}
use Rattle.kp_symbolic.specs.Terms.{under_replaced}
use Rattle.kp_symbolic.specs.States.{Atom, same, has_head, quoted, IsAtomTrue, Literal, IsLiteralTrue}

pub stable_same : (u w : Value) → ¬ ¬ (u ≡ w) → u ≡ w
stable_same u w n = by_same (values_same u w) (same_values_decide u w)
  where
    by_same : (b : Bool) → Decides b (u ≡ w) → u ≡ w
    by_same true d = d.0 refl
    by_same false d = absurd (n (λ e. cc_false (d.1 e)))
      where
        cc_false : false ≡ true → ⊥
        cc_false h = cc

pub stable_atom : (g : KoreSignature) (v : Valuation) (a : Atom) → ¬ ¬ IsAtomTrue g v a → IsAtomTrue g v a
stable_atom g v (same s t u) n = stable_same _ _ n
stable_atom g v (has_head x test) n = λ k. n (λ h. h k)
stable_atom g v (quoted p rs) n = stable_truth g p (under_replaced g rs v) n

by_sign : (b : Bool) (A : Type 0) → (¬ ¬ A → A) → ¬ ¬ MatchBool b A (¬ A) → MatchBool b A (¬ A)
by_sign true A s n = s n
by_sign false A s n = λ a. n (λ k. k a)

pub stable_literal : (g : KoreSignature) (v : Valuation) (l : Literal) → ¬ ¬ IsLiteralTrue g v l → IsLiteralTrue g v l
stable_literal g v l n = by_sign l.holds (IsAtomTrue g v l.atom) (stable_atom g v l.atom) n
