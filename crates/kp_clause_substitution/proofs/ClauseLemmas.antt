-- A clause with terms in the place of variables, and the clause in which an equation's variable is replaced.
use Rattle.std.proofs.Common.{◌≡◌, refl, ap, ap₂, Bool, List, [], ◌∷◌}
use Rattle.kp_kore.specs.Signature.{KoreSignature}
use Rattle.kp_symbolic.specs.Terms.{Replaced}
use Rattle.kp_symbolic.specs.Formulas.{one_of, next_formula}
use Rattle.kp_symbolic.specs.States.{Atom, same, has_head, quoted, Literal}
use Rattle.kp_symbolic.specs.Solving.{Equation, replacement, is_single, opened_with, all_opened_with, opened_clause}
use Rattle.kp_formulas.specs.Distribution.{distribution_of, distributions_of, one_distributed}
use Rattle.kp_formulas.proofs.DistributionLemmas.{one_is}
use Rattle.kp_clause_substitution.specs.Replacing.{opened_under, all_opened_under, clause_under}

pub one_of_literals : (g : KoreSignature) (qs : List Replaced) (c : List Literal) →
    one_distributed (distributions_of (all_opened_under g qs (is_single c) c)) ≡ distribution_of (clause_under g qs c)
one_of_literals g qs c = one_is (all_opened_under g qs (is_single c) c)

-- ---- for callers: a variable that an equation solves

atom_with : (g : KoreSignature) (e : Equation) (alone b : Bool) (a : Atom) → opened_under g (replacement e) alone b a ≡ opened_with g e alone b a
atom_with g e alone b (same s t u) = refl
atom_with g e alone b (has_head x test) = refl
atom_with g e alone b (quoted p rs) = refl

literals_with : (g : KoreSignature) (e : Equation) (alone : Bool) (c : List Literal) → all_opened_under g (replacement e) alone c ≡ all_opened_with g e alone c
literals_with g e alone [] = refl
literals_with g e alone (l ∷ c) = ap₂ (λ f fs. next_formula f fs) (atom_with g e alone l.holds l.atom) (literals_with g e alone c)

pub clause_solved : (g : KoreSignature) (e : Equation) (c : List Literal) → clause_under g (replacement e) c ≡ opened_clause g e c
clause_solved g e c = ap (λ fs. one_of fs) (literals_with g e (is_single c) c)
