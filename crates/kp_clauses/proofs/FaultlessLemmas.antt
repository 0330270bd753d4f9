-- Predicates of a pattern without verify faults have none: its conjuncts, its first term, and those that are no terms.
use Rattle.std.proofs.Common.{◌≡◌, refl, sym, subst, arith, Bool, true, false, not, ℕ, zero, suc, ◌<◌, List, [], ◌∷◌, ◌++◌, length, get_or, Bor, Option, Some, None, Result, Ok, Err, IfErr}
use Rattle.std.specs.Prelude.{if◌then◌else◌}
use Rattle.std.specs.List.{AllByRecursion, filter, find}
use Rattle.kp_compile.specs.Parts.{seen}
use Rattle.kp_compile.specs.declared.error.CompileError.{CompileError}
use Rattle.kp_compile.specs.declared.error.CompileError.TheVariants.{Memory}
use Rattle.kp_kore.specs.Syntax.{KorePattern, KorePatterns, conjunction, no_patterns, next_pattern}
use Rattle.kp_kore.specs.Parts.{is_term}
use Rattle.kp_kore.specs.Signature.{KoreSignature}
use Rattle.kp_kore.specs.View.{view}
use Rattle.kp_kore.specs.declared.pattern.Pattern.{Pattern}
use Rattle.kp_kore.specs.Instance.{conjuncts, all_conjuncts}
use Rattle.kp_signature.specs.Places.{Place, earlier, part_at, after}
use Rattle.kp_signature.specs.Verify.{VerifyFault, first_fault, fault_at, members_fault}
use Rattle.kp_symbolic.specs.Faultless.{IsFaultless}

earlier_none : (a b : Option VerifyFault) → earlier a b ≡ None → a ≡ None
earlier_none None b e = refl
earlier_none (Some f) b e = absurd (cc)

later_none : (a b : Option VerifyFault) → earlier a b ≡ None → b ≡ None
later_none None b e = e
later_none (Some f) b e = absurd (cc)

-- ---- conjuncts

both_lists : (g : KoreSignature) (ps qs : List KorePattern) → AllByRecursion (IsFaultless g) ps → AllByRecursion (IsFaultless g) qs → AllByRecursion (IsFaultless g) (ps ++ qs)
both_lists g [] qs h k = k
both_lists g (p ∷ ps) qs h k = (h.0, both_lists g ps qs h.1 k)

mutual
  conjuncts_at : (g : KoreSignature) (c : Place) (p : KorePattern) → first_fault g c p ≡ None → AllByRecursion (IsFaultless g) (conjuncts p)
  conjuncts_at g c (conjunction s ps) e = members_at g (part_at c s) ps (later_none (fault_at g c (conjunction s ps)) _ e)
  conjuncts_at g c p e = (record { place = c; faultless = e }, tt)

  members_at : (g : KoreSignature) (c : Place) (ps : KorePatterns) → members_fault g c ps ≡ None → AllByRecursion (IsFaultless g) (all_conjuncts ps)
  members_at g c no_patterns e = tt
  members_at g c (next_pattern p ps) e =
      both_lists g (conjuncts p) (all_conjuncts ps) (conjuncts_at g c p (earlier_none (first_fault g c p) _ e)) (members_at g (after p c) ps (later_none (first_fault g c p) _ e))

pub of_conjuncts : (g : KoreSignature) (p : KorePattern) (ps : List KorePattern) → ps ≡ conjuncts p → IsFaultless g p → AllByRecursion (IsFaultless g) ps
of_conjuncts g p ps is h = subst (AllByRecursion (IsFaultless g)) (sym is) (conjuncts_at g h.place p h.faultless)

-- ---- one of a list

pub at_place : (g : KoreSignature) (ps : List (Bor Pattern)) (i : ℕ) (p : Bor Pattern) → i < length ps → p ≡ get_or ps i p → AllByRecursion (IsFaultless g) (seen ps) → IsFaultless g (view p.now)
at_place g [] i p lt is all = absurd (omega (arith, lt))
at_place g (q ∷ ps) zero p lt is all = subst (λ x. IsFaultless g (view x.now)) (sym is) all.0
at_place g (q ∷ ps) (suc i) p lt is all = at_place g ps i p (omega (arith, lt)) is all.1

kept_by : (g : KoreSignature) (test : KorePattern → Bool) (ps : List KorePattern) → AllByRecursion (IsFaultless g) ps → AllByRecursion (IsFaultless g) (filter test ps)
kept_by g test [] all = tt
kept_by g test (p ∷ ps) all = by (test p) (kept_by g test ps all.1)
  where
    by : (b : Bool) → AllByRecursion (IsFaultless g) (filter test ps) → AllByRecursion (IsFaultless g) (if b then p ∷ filter test ps else filter test ps)
    by true rest = (all.0, rest)
    by false rest = rest

found_by : (g : KoreSignature) (test : KorePattern → Bool) (ps : List KorePattern) (t : KorePattern) → find test ps ≡ Some t → AllByRecursion (IsFaultless g) ps → IsFaultless g t
found_by g test [] t is all = absurd (cc)
found_by g test (p ∷ ps) t is all = by (test p) (λ k. found_by g test ps t k all.1) is
  where
    by : (b : Bool) → (find test ps ≡ Some t → IsFaultless g t) → (if b then Some p else find test ps) ≡ Some t → IsFaultless g t
    by true k e = let same : p ≡ t = cc in subst (IsFaultless g) same all.0
    by false k e = k e

-- what is told of the first term and the others is told of all members
pub of_members : {A : Type 0} (g : KoreSignature) (r : Result A CompileError) (ms ps : List KorePattern) (t : KorePattern) → Some t ≡ find is_term ms → ps ≡ filter (λ q. not (is_term q)) ms →
    IfErr r (λ e. IsFaultless g t → AllByRecursion (IsFaultless g) ps → e ≡ Memory) →
    IfErr r (λ e. (u : KorePattern) → find is_term ms ≡ Some u → AllByRecursion (IsFaultless g) ms → e ≡ Memory)
of_members g (Ok a) ms ps t is are told = tt
of_members g (Err e) ms ps t is are told = λ u found all. told (found_by g is_term ms t (sym is) all) (subst (AllByRecursion (IsFaultless g)) (sym are) (kept_by g (λ q. not (is_term q)) ms all))

pub not_found : (o : Option KorePattern) (u : KorePattern) → o ≡ None → o ≡ Some u → ⊥
not_found o u none is = absurd (cc)
