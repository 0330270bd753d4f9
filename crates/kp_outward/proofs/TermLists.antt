-- What is written for lists of terms, one by one.
use Rattle.std.proofs.Common.{◌≡◌, refl, ap, ap₂, ◌∙◌, ℕ, zero, suc, ◌+◌, ◌<◌, ◌≤◌, min, List, [], ◌∷◌, ◌++◌, length, map, take, get_or, add-one, arith}
use Rattle.kp_kore.specs.Syntax.{KorePatterns, no_patterns, next_pattern}
use Rattle.kp_kore.specs.View.{view, sort_view, sorts_view, patterns_view}
use Rattle.kp_kore.specs.Signature.{KoreSignature}
use Rattle.kp_kore.specs.declared.sort.Sort.{Sort}
use Rattle.kp_kore.specs.declared.pattern.Pattern.{Pattern}
use Rattle.kp_symbolic.specs.Writing.{written_term, written_terms}
use Rattle.kp_symbolic.specs.View.{term_view, terms_of}
use Rattle.kp_symbolic.specs.declared.term.Term.{Term}

-- what is written for the first i terms at the first i places
abbrev pub written_first : KoreSignature → ℕ → List Sort → List Term → KorePatterns
written_first g i ss ts = written_terms g (sorts_view (take i ss)) (terms_of (map term_view (take i ts)))

one_written : (g : KoreSignature) (i : ℕ) (ss : List Sort) (ts : List Term) (ps : List Pattern) (s : Sort) (t : Term) (p : Pattern) → i < length ss → i < length ts → s ≡ get_or ss i s → t ≡ get_or ts i t →
    patterns_view ps ≡ written_first g i ss ts → view p ≡ written_term g (sort_view s) (term_view t) → patterns_view (ps ++ p ∷ []) ≡ written_first g (suc i) ss ts
one_written g i [] ts ps s t p h k e f z w = absurd (omega arith)
one_written g i (a ∷ ss) [] ps s t p h k e f z w = absurd (omega arith)
one_written g zero (a ∷ ss) (b ∷ ts) [] s t p h k e f z w = ap (λ x. next_pattern x no_patterns) (w ∙ ap₂ (λ x y. written_term g (sort_view x) (term_view y)) e f)
one_written g zero (a ∷ ss) (b ∷ ts) (q ∷ ps) s t p h k e f z w = absurd (cc)
one_written g (suc i) (a ∷ ss) (b ∷ ts) [] s t p h k e f z w = absurd (cc)
one_written g (suc i) (a ∷ ss) (b ∷ ts) (q ∷ ps) s t p h k e f z w =
    let first : view q ≡ written_term g (sort_view a) (term_view b) = cc in
    let rest : patterns_view ps ≡ written_first g i ss ts = cc in
    ap₂ next_pattern first (one_written g i ss ts ps s t p (omega arith) (omega arith) e f rest w)

pub next_written : (g : KoreSignature) (i : ℕ) (ss : List Sort) (ts : List Term) (ps : List Pattern) (s : Sort) (t : Term) (p : Pattern) → i < min (length ts) (length ss) → s ≡ get_or ss i s → t ≡ get_or ts i t →
    patterns_view ps ≡ written_first g i ss ts → view p ≡ written_term g (sort_view s) (term_view t) → patterns_view (ps ++ p ∷ []) ≡ written_first g (i + 1) ss ts
next_written g i ss ts ps s t p h e f z w = rw add-one (one_written g i ss ts ps s t p (omega arith) (omega arith) e f z w)

pub all_written : (g : KoreSignature) (i : ℕ) (ss : List Sort) (ts : List Term) → min (length ts) (length ss) ≤ i → written_first g i ss ts ≡ written_terms g (sorts_view ss) (terms_of (map term_view ts))
all_written g i [] ts h = none i
  where
    none : (i : ℕ) → written_first g i [] ts ≡ written_terms g (sorts_view []) (terms_of (map term_view ts))
    none zero = refl
    none (suc i) = refl
all_written g zero (a ∷ ss) [] h = refl
all_written g (suc i) (a ∷ ss) [] h = refl
all_written g zero (a ∷ ss) (b ∷ ts) h = absurd (omega arith)
all_written g (suc i) (a ∷ ss) (b ∷ ts) h = ap (next_pattern (written_term g (sort_view a) (term_view b))) (all_written g i ss ts (omega arith))
