-- Clauses without faults in code and as data.
use Rattle.std.proofs.Common.{◌≡◌, subst, sym, arith, ℕ, zero, suc, ◌<◌, List, [], ◌∷◌, length, get_or, map}
use Rattle.std.specs.List.{AllByRecursion}
use Rattle.kp_kore.specs.Signature.{KoreSignature}
use Rattle.kp_symbolic.specs.View.{literal_view, clauses_view}
use Rattle.kp_symbolic.specs.declared.clause.Clause.{Clause}
use Rattle.kp_symbolic.specs.declared.clause.Literal.{Literal}
use Rattle.kp_outward.specs.Parts.{IsFaultlessAtom}
use Rattle.kp_outward.specs.Errors.{AreFaultless, AreFaultlessIn}

literals_faultless : (g : KoreSignature) (ls : List Literal) → AllByRecursion (λ l. IsFaultlessAtom g l.atom) (map literal_view ls) → AllByRecursion (λ l. IsFaultlessAtom g (literal_view l).atom) ls
literals_faultless g [] all = tt
literals_faultless g (l ∷ ls) all = (all.0, literals_faultless g ls all.1)

pub clauses_faultless : (g : KoreSignature) (cs : List Clause) → AreFaultless g (clauses_view cs) → AreFaultlessIn g cs
clauses_faultless g [] all = tt
clauses_faultless g (c ∷ cs) all = (literals_faultless g c.literals.value.items all.0, clauses_faultless g cs all.1)

pub only_faultless : (g : KoreSignature) (ls : List Literal) (l : Literal) → length ls ≡ 1 → l ≡ get_or ls 0 l → AllByRecursion (λ l. IsFaultlessAtom g (literal_view l).atom) ls → IsFaultlessAtom g (literal_view l).atom
only_faultless g [] l n is all = absurd (cc)
only_faultless g (k ∷ ls) l n is all = subst (λ x. IsFaultlessAtom g (literal_view x).atom) (sym is) all.0

-- one of the clauses
pub one_faultless : (g : KoreSignature) (cs : List Clause) (i : ℕ) (c : Clause) → i < length cs → c ≡ get_or cs i c → AreFaultlessIn g cs → AllByRecursion (λ l. IsFaultlessAtom g (literal_view l).atom) c.literals.value.items
one_faultless g [] i c h is all = absurd (omega (arith, h))
one_faultless g (d ∷ cs) zero c h is all = subst (λ x. AllByRecursion (λ l. IsFaultlessAtom g (literal_view l).atom) x.literals.value.items) (sym is) all.0
one_faultless g (d ∷ cs) (suc i) c h is all = one_faultless g cs i c (omega (arith, h)) is all.1
