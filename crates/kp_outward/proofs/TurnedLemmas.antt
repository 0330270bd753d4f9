-- An equation of its own with its sides turned.
use Rattle.std.proofs.Common.{◌≡◌, refl, sym, subst, Bool, true, false, IfOk, Result}
use Rattle.kp_kore.specs.Syntax.{KoreSort, KorePattern}
use Rattle.kp_kore.specs.Signature.{KoreSignature}
use Rattle.kp_symbolic.specs.Terms.{SymbolicTerm, unknown, offset, known, headed}
use Rattle.kp_symbolic.specs.States.{Literal, Atom, same, has_head, quoted}
use Rattle.kp_symbolic.specs.Writing.{variable_first, turned_if, written_literal}
use Rattle.kp_outward.specs.Turned.{is_turned}

pub equation_first : (g : KoreSignature) (s : KoreSort) (t u : SymbolicTerm) → variable_first g (record { holds = true; atom = same s t u }) ≡ record { holds = true; atom = turned_if (is_turned g t u) s t u }
equation_first g s (unknown x) (unknown y) = refl
equation_first g s (unknown x) (offset y d) = refl
equation_first g s (unknown x) (known w) = refl
equation_first g s (unknown x) (headed h us) = refl
equation_first g s (offset x c) (unknown y) = refl
equation_first g s (offset x c) (offset y d) = refl
equation_first g s (offset x c) (known w) = refl
equation_first g s (offset x c) (headed h us) = refl
equation_first g s (known v) (unknown y) = refl
equation_first g s (known v) (offset y d) = refl
equation_first g s (known v) (known w) = refl
equation_first g s (known v) (headed h us) = refl
equation_first g s (headed f ts) (unknown y) = refl
equation_first g s (headed f ts) (offset y d) = refl
equation_first g s (headed f ts) (known w) = refl
equation_first g s (headed f ts) (headed h us) = refl

-- what is written for the literal as it stands is what is written for it with the variable first, where that is the same
pub as_it_stands : {P E : Type 0} (seen : P → KorePattern) (g : KoreSignature) (s : KoreSort) (l : Literal) (r : Result P E) → variable_first g l ≡ l →
    IfOk r (λ p. seen p ≡ written_literal g s l) → IfOk r (λ p. seen p ≡ written_literal g s (variable_first g l))
as_it_stands seen g s l r e told = subst (λ x. IfOk r (λ p. seen p ≡ written_literal g s x)) (sym e) told

-- all else is written as it stands
pub denied_first : (g : KoreSignature) (l : Literal) → l.holds ≡ false → variable_first g l ≡ l
denied_first g l h = denied l.holds l.atom h
  where
    denied : (b : Bool) (a : Atom) → b ≡ false → variable_first g (record { holds = b; atom = a }) ≡ record { holds = b; atom = a }
    denied true a h = absurd (cc)
    denied false a h = refl

abbrev pub is_equality : Atom → Bool
is_equality (same s t u) = true
is_equality (has_head x test) = false
is_equality (quoted p rs) = false

pub other_first : (g : KoreSignature) (l : Literal) → is_equality l.atom ≡ false → variable_first g l ≡ l
other_first g l h = other l.holds l.atom h
  where
    other : (b : Bool) (a : Atom) → is_equality a ≡ false → variable_first g (record { holds = b; atom = a }) ≡ record { holds = b; atom = a }
    other b (same s t u) h = absurd (cc)
    other true (has_head x test) h = refl
    other true (quoted p rs) h = refl
    other false (has_head x test) h = refl
    other false (quoted p rs) h = refl
