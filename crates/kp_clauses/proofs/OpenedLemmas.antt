-- What is kept of a predicate's clauses, by what is kept of those of its parts.
use Rattle.std.proofs.Common.{◌≡◌, sym, subst, arith, ℕ, zero, suc, ◌<◌, Bool, true, false, List, [], ◌∷◌, length, get_or}
use Rattle.std.specs.List.{AllByRecursion}
use Rattle.kp_kore.specs.Syntax.{KoreSort, KorePattern, KorePatterns, conjunction, disjunction, implication, equivalence}
use Rattle.kp_kore.specs.Signature.{KoreSignature}
use Rattle.kp_kore.specs.View.{view}
use Rattle.kp_kore.specs.declared.pattern.Pattern.{Pattern}
use Rattle.kp_symbolic.specs.Opening.{all_opened, opened_leaf, pair}
use Rattle.kp_symbolic.specs.Terms.{Replaced}
use Rattle.kp_symbolic.specs.Faultless.{IsFaultless}
use Rattle.kp_formulas.specs.Distribution.{distribution_of, distributions_of, all_distributed, one_distributed, agreement_of}
use Rattle.kp_formulas.proofs.DistributionLemmas.{all_are, one_is, agreement_is}
use Rattle.kp_clauses.specs.OpenedPredicates.{opened_by}

pub conjunction_holds : (g : KoreSignature) (rs : List Replaced) (a : Bool) (s : KoreSort) (ps : KorePatterns) →
    all_distributed (distributions_of (all_opened (opened_leaf g rs) a true ps)) ≡ distribution_of (opened_by g rs a true (conjunction s ps))
conjunction_holds g rs true s ps = all_are (all_opened (opened_leaf g rs) true true ps)
conjunction_holds g rs false s ps = all_are (all_opened (opened_leaf g rs) false true ps)

pub conjunction_fails : (g : KoreSignature) (rs : List Replaced) (a : Bool) (s : KoreSort) (ps : KorePatterns) →
    one_distributed (distributions_of (all_opened (opened_leaf g rs) false false ps)) ≡ distribution_of (opened_by g rs a false (conjunction s ps))
conjunction_fails g rs true s ps = one_is (all_opened (opened_leaf g rs) false false ps)
conjunction_fails g rs false s ps = one_is (all_opened (opened_leaf g rs) false false ps)

pub disjunction_holds : (g : KoreSignature) (rs : List Replaced) (a : Bool) (s : KoreSort) (ps : KorePatterns) →
    one_distributed (distributions_of (all_opened (opened_leaf g rs) false true ps)) ≡ distribution_of (opened_by g rs a true (disjunction s ps))
disjunction_holds g rs true s ps = one_is (all_opened (opened_leaf g rs) false true ps)
disjunction_holds g rs false s ps = one_is (all_opened (opened_leaf g rs) false true ps)

pub disjunction_fails : (g : KoreSignature) (rs : List Replaced) (a : Bool) (s : KoreSort) (ps : KorePatterns) →
    all_distributed (distributions_of (all_opened (opened_leaf g rs) a false ps)) ≡ distribution_of (opened_by g rs a false (disjunction s ps))
disjunction_fails g rs true s ps = all_are (all_opened (opened_leaf g rs) true false ps)
disjunction_fails g rs false s ps = all_are (all_opened (opened_leaf g rs) false false ps)

pub implication_holds : (g : KoreSignature) (rs : List Replaced) (a : Bool) (s : KoreSort) (p q : KorePattern) →
    one_distributed (distribution_of (opened_by g rs false false p) ∷ distribution_of (opened_by g rs false true q) ∷ []) ≡ distribution_of (opened_by g rs a true (implication s p q))
implication_holds g rs true s p q = one_is (pair (opened_by g rs false false p) (opened_by g rs false true q))
implication_holds g rs false s p q = one_is (pair (opened_by g rs false false p) (opened_by g rs false true q))

pub implication_fails : (g : KoreSignature) (rs : List Replaced) (a : Bool) (s : KoreSort) (p q : KorePattern) →
    all_distributed (distribution_of (opened_by g rs a true p) ∷ distribution_of (opened_by g rs a false q) ∷ []) ≡ distribution_of (opened_by g rs a false (implication s p q))
implication_fails g rs true s p q = all_are (pair (opened_by g rs true true p) (opened_by g rs true false q))
implication_fails g rs false s p q = all_are (pair (opened_by g rs false true p) (opened_by g rs false false q))

pub agreement_holds : (g : KoreSignature) (rs : List Replaced) (a : Bool) (s : KoreSort) (p q : KorePattern) →
    agreement_of (distribution_of (opened_by g rs false true p)) (distribution_of (opened_by g rs false false p)) (distribution_of (opened_by g rs false true q)) (distribution_of (opened_by g rs false false q)) ≡ distribution_of (opened_by g rs a true (equivalence s p q))
agreement_holds g rs a s p q = agreement_is (opened_by g rs false true p) (opened_by g rs false false p) (opened_by g rs false true q) (opened_by g rs false false q)

pub agreement_fails : (g : KoreSignature) (rs : List Replaced) (a : Bool) (s : KoreSort) (p q : KorePattern) →
    agreement_of (distribution_of (opened_by g rs false true p)) (distribution_of (opened_by g rs false false p)) (distribution_of (opened_by g rs false false q)) (distribution_of (opened_by g rs false true q)) ≡ distribution_of (opened_by g rs a false (equivalence s p q))
agreement_fails g rs a s p q = agreement_is (opened_by g rs false true p) (opened_by g rs false false p) (opened_by g rs false false q) (opened_by g rs false true q)

-- one of several predicates without verify faults has none
pub faultless_at : (g : KoreSignature) (ps : List Pattern) (i : ℕ) (p : Pattern) → i < length ps → p ≡ get_or ps i p → AllByRecursion (λ q. IsFaultless g (view q)) ps → IsFaultless g (view p)
faultless_at g [] i p lt is all = absurd (omega (arith, lt))
faultless_at g (q ∷ ps) zero p lt is all = subst (λ x. IsFaultless g (view x)) (sym is) all.0
faultless_at g (q ∷ ps) (suc i) p lt is all = faultless_at g ps i p (omega (arith, lt)) is all.1
