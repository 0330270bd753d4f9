-- Spellings of lists of values, one by one.
use Rattle.std.proofs.Common.{◌≡◌, refl, sym, ap, ap₂, subst, ◌∙◌, ℕ, zero, suc, ◌+◌, ◌<◌, ◌≤◌, min, List, [], ◌∷◌, ◌++◌, length, map, take, get_or, add-one, arith}
use Rattle.kp_kore.specs.Syntax.{KorePatterns, no_patterns, next_pattern}
use Rattle.kp_kore.specs.View.{view, sort_view, sorts_view, patterns_view}
use Rattle.kp_kore.specs.Signature.{KoreSignature}
use Rattle.kp_kore.specs.declared.sort.Sort.{Sort}
use Rattle.kp_kore.specs.declared.pattern.Pattern.{Pattern}
use Rattle.kp_kore.specs.Value.{HasSort, HaveSorts}
use Rattle.kp_ground.specs.View.{value_view, values_of}
use Rattle.kp_ground.specs.declared.value.Value.{Value}
use Rattle.kp_compile.specs.Spelled.{spelling, spellings, NumbersFit, AllNumbersFit}

-- the spellings of the first i values at the first i places
abbrev pub spelled_first : KoreSignature → ℕ → List Sort → List Value → KorePatterns
spelled_first g i ss us = spellings g (sorts_view (take i ss)) (values_of (map value_view (take i us)))

one_spelled : (g : KoreSignature) (i : ℕ) (ss : List Sort) (us : List Value) (ps : List Pattern) (s : Sort) (u : Value) (p : Pattern) → i < length ss → i < length us → s ≡ get_or ss i s → u ≡ get_or us i u →
    patterns_view ps ≡ spelled_first g i ss us → view p ≡ spelling g (sort_view s) (value_view u) → patterns_view (ps ++ p ∷ []) ≡ spelled_first g (suc i) ss us
one_spelled g i [] us ps s u p h k e f z w = absurd (omega arith)
one_spelled g i (t ∷ ss) [] ps s u p h k e f z w = absurd (omega arith)
one_spelled g zero (t ∷ ss) (a ∷ us) [] s u p h k e f z w = ap (λ x. next_pattern x no_patterns) (w ∙ ap₂ (λ x y. spelling g (sort_view x) (value_view y)) e f)
one_spelled g zero (t ∷ ss) (a ∷ us) (q ∷ ps) s u p h k e f z w = absurd (cc)
one_spelled g (suc i) (t ∷ ss) (a ∷ us) [] s u p h k e f z w = absurd (cc)
one_spelled g (suc i) (t ∷ ss) (a ∷ us) (q ∷ ps) s u p h k e f z w =
    let first : view q ≡ spelling g (sort_view t) (value_view a) = cc in
    let rest : patterns_view ps ≡ spelled_first g i ss us = cc in
    ap₂ next_pattern first (one_spelled g i ss us ps s u p (omega arith) (omega arith) e f rest w)

pub next_spelled : (g : KoreSignature) (i : ℕ) (ss : List Sort) (us : List Value) (ps : List Pattern) (s : Sort) (u : Value) (p : Pattern) → i < min (length us) (length ss) → s ≡ get_or ss i s → u ≡ get_or us i u →
    patterns_view ps ≡ spelled_first g i ss us → view p ≡ spelling g (sort_view s) (value_view u) → patterns_view (ps ++ p ∷ []) ≡ spelled_first g (i + 1) ss us
next_spelled g i ss us ps s u p h e f z w = rw add-one (one_spelled g i ss us ps s u p (omega arith) (omega arith) e f z w)

pub all_spelled : (g : KoreSignature) (i : ℕ) (ss : List Sort) (us : List Value) → min (length us) (length ss) ≤ i → spelled_first g i ss us ≡ spellings g (sorts_view ss) (values_of (map value_view us))
all_spelled g i [] us h = none i
  where
    none : (i : ℕ) → spelled_first g i [] us ≡ spellings g (sorts_view []) (values_of (map value_view us))
    none zero = refl
    none (suc i) = refl
all_spelled g zero (t ∷ ss) [] h = refl
all_spelled g (suc i) (t ∷ ss) [] h = refl
all_spelled g zero (t ∷ ss) (a ∷ us) h = absurd (omega arith)
all_spelled g (suc i) (t ∷ ss) (a ∷ us) h = ap (next_pattern (spelling g (sort_view t) (value_view a))) (all_spelled g i ss us (omega arith))

-- ---- numbers

one_fits : (i : ℕ) (us : List Value) (u : Value) → i < length us → u ≡ get_or us i u → AllNumbersFit (values_of (map value_view (take i us))) → NumbersFit (value_view u) → AllNumbersFit (values_of (map value_view (take (suc i) us)))
one_fits i [] u h e z f = absurd (omega arith)
one_fits zero (a ∷ us) u h e z f = (subst (λ x. NumbersFit (value_view x)) e f, tt)
one_fits (suc i) (a ∷ us) u h e z f = (z.0, one_fits i us u (omega arith) e z.1 f)

pub next_fits : (i : ℕ) (us : List Value) (u : Value) → i < length us → u ≡ get_or us i u → AllNumbersFit (values_of (map value_view (take i us))) → NumbersFit (value_view u) → AllNumbersFit (values_of (map value_view (take (i + 1) us)))
next_fits i us u h e z f = rw add-one (one_fits i us u h e z f)

pub all_fit : (i : ℕ) (us : List Value) → length us ≤ i → AllNumbersFit (values_of (map value_view (take i us))) → AllNumbersFit (values_of (map value_view us))
all_fit i [] h z = tt
all_fit zero (a ∷ us) h z = absurd (omega arith)
all_fit (suc i) (a ∷ us) h z = (z.0, all_fit i us (omega arith) z.1)

-- ---- sorts

pub as_many : (g : KoreSignature) (ss : List Sort) (us : List Value) → HaveSorts g (sorts_view ss) (values_of (map value_view us)) → length us ≡ length ss
as_many g [] [] h = refl
as_many g [] (a ∷ us) h = absurd h
as_many g (t ∷ ss) [] h = absurd h
as_many g (t ∷ ss) (a ∷ us) h = ap suc (as_many g ss us h.1)

pub sort_at : (g : KoreSignature) (i : ℕ) (ss : List Sort) (us : List Value) (s : Sort) (u : Value) → i < length ss → i < length us → s ≡ get_or ss i s → u ≡ get_or us i u → HaveSorts g (sorts_view ss) (values_of (map value_view us)) → HasSort g (sort_view s) (value_view u)
sort_at g i [] us s u h k e f z = absurd (omega arith)
sort_at g i (t ∷ ss) [] s u h k e f z = absurd (omega arith)
sort_at g zero (t ∷ ss) (a ∷ us) s u h k e f z = subst (λ x. HasSort g (sort_view x) (value_view u)) (sym e) (subst (λ y. HasSort g (sort_view t) (value_view y)) (sym f) z.0)
sort_at g (suc i) (t ∷ ss) (a ∷ us) s u h k e f z = sort_at g i ss us s u (omega arith) (omega arith) e f z.1

pub all_values : (g : KoreSignature) (i : ℕ) (ss : List Sort) (us : List Value) → min (length us) (length ss) ≤ i → HaveSorts g (sorts_view ss) (values_of (map value_view us)) → length us ≤ i
all_values g i ss us h z = omega (arith, as_many g ss us z)
