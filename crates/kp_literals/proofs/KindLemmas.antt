-- The tests head by head tell of which kind all values of a sort are.
use Rattle.std.proofs.Common.{◌≡◌, refl, sym, ap, subst, ◌∙◌, arith, ℕ, zero, suc, ◌<◌, Bool, true, false, not, ◌&&◌, ◌||◌, cond, List, [], ◌∷◌, ◌++◌, map, length, slice_index_or, Option, Some, None}
use Rattle.std.specs.Prelude.{if◌then◌else◌}
use Rattle.std.specs.List.{filter, list_all, list_any}
use Rattle.kp_kore.specs.Syntax.{KoreSort, SymbolDeclaration}
use Rattle.kp_kore.specs.Attributes.{sorts_equal}
use Rattle.kp_kore.specs.Signature.{KoreSignature, Head, integers, booleans, tokens, constructor_of, is_the, is_integer_sort, is_boolean_sort, is_own_below, is_head, are_numbers, are_truths, has_only_numbers, has_only_truths, is_number_sort, is_truth_sort, IsBelow, is_below, itself, through}
use Rattle.kp_kore.proofs.SameLemmas.{sorts_equal-Decides}
use Rattle.kp_signature.proofs.Below.{is_below-Decides}
use Rattle.kp_signature.proofs.AloneLemmas.{constructors_step, by_both}
use Rattle.kp_symbolic.specs.Plain.{is_tokens_of, are_tokens_of_one, has_only_tokens}
use Rattle.kp_literals.specs.Kinds.{lower_sorts, lowers, some_below, no_tokens_among, no_constructors_among, are_other, tokens_are, one_kind_of_tokens}

-- ---- heads of one kind

abbrev constructors_in : KoreSignature → List Head
constructors_in g = map (λ d. constructor_of d.name) g.symbols

tokens_step : (are : List Head → Bool) (keep : Head → Bool) (zs : List Head) → ((t : KoreSort) (hs : List Head) → are (tokens t ∷ hs) ≡ false) → (ts : List KoreSort) →
    are (filter keep (map tokens ts ++ zs)) ≡ list_all (λ t. not (keep (tokens t))) ts && are (filter keep zs)
tokens_step are keep zs n [] = refl
tokens_step are keep zs n (t ∷ ts) = by (keep (tokens t)) (tokens_step are keep zs n ts)
  where
    by : (b : Bool) → are (filter keep (map tokens ts ++ zs)) ≡ list_all (λ u. not (keep (tokens u))) ts && are (filter keep zs) →
        are (cond b (tokens t ∷ filter keep (map tokens ts ++ zs)) (filter keep (map tokens ts ++ zs))) ≡ (not b && list_all (λ u. not (keep (tokens u))) ts) && are (filter keep zs)
    by true e = n t (filter keep (map tokens ts ++ zs))
    by false e = e

numbers_first : (hs : List Head) (a b o : Bool) → are_numbers hs ≡ o →
    are_numbers (cond a (integers ∷ cond b (booleans ∷ hs) hs) (cond b (booleans ∷ hs) hs)) ≡ not b && o
numbers_first hs true true o e = refl
numbers_first hs true false o e = e
numbers_first hs false true o e = refl
numbers_first hs false false o e = e

truths_first : (hs : List Head) (a b o : Bool) → are_truths hs ≡ o →
    are_truths (cond a (integers ∷ cond b (booleans ∷ hs) hs) (cond b (booleans ∷ hs) hs)) ≡ not a && o
truths_first hs true b o e = refl
truths_first hs false true o e = e
truths_first hs false false o e = e

pub numbers_are : (g : KoreSignature) (s : KoreSort) → not (is_head g s booleans) && are_other g s ≡ has_only_numbers g s
numbers_are g s = sym (numbers_first (filter (is_head g s) (map tokens (lowers g s) ++ constructors_in g)) (is_head g s integers) (is_head g s booleans) (are_other g s)
    (tokens_step are_numbers (is_head g s) (constructors_in g) (λ t hs. refl) (lowers g s)
    ∙ ap (λ b. no_tokens_among g s (lowers g s) && b) (constructors_step are_numbers (is_head g s) refl (λ c hs. refl) g.symbols)))

pub truths_are : (g : KoreSignature) (s : KoreSort) → not (is_head g s integers) && are_other g s ≡ has_only_truths g s
truths_are g s = sym (truths_first (filter (is_head g s) (map tokens (lowers g s) ++ constructors_in g)) (is_head g s integers) (is_head g s booleans) (are_other g s)
    (tokens_step are_truths (is_head g s) (constructors_in g) (λ t hs. refl) (lowers g s)
    ∙ ap (λ b. no_tokens_among g s (lowers g s) && b) (constructors_step are_truths (is_head g s) refl (λ c hs. refl) g.symbols)))

-- ---- tokens of one sort

all_kept : (keep : Head → Bool) (t : KoreSort) (zs : List Head) (ts : List KoreSort) →
    list_all (is_tokens_of t) (filter keep (map tokens ts ++ zs)) ≡ list_all (λ u. sorts_equal t u || not (keep (tokens u))) ts && list_all (is_tokens_of t) (filter keep zs)
all_kept keep t zs [] = refl
all_kept keep t zs (u ∷ ts) = by (keep (tokens u)) (sorts_equal t u) refl (all_kept keep t zs ts)
  where
    by : (b same : Bool) → sorts_equal t u ≡ same → list_all (is_tokens_of t) (filter keep (map tokens ts ++ zs)) ≡ list_all (λ w. sorts_equal t w || not (keep (tokens w))) ts && list_all (is_tokens_of t) (filter keep zs) →
        list_all (is_tokens_of t) (cond b (tokens u ∷ filter keep (map tokens ts ++ zs)) (filter keep (map tokens ts ++ zs))) ≡ ((same || not b) && list_all (λ w. sorts_equal t w || not (keep (tokens w))) ts) && list_all (is_tokens_of t) (filter keep zs)
    by true true q e = rw q e
    by true false q e = rw q refl
    by false true q e = e
    by false false q e = e

none_of_them : (keep : Head → Bool) (t : KoreSort) (ds : List SymbolDeclaration) → list_all (is_tokens_of t) (filter keep (map (λ d. constructor_of d.name) ds)) ≡ list_all (λ d. not (keep (constructor_of d.name))) ds
none_of_them keep t ds = constructors_step (list_all (is_tokens_of t)) keep refl (λ c hs. refl) ds

no_tokens_there : (keep : Head → Bool) (ds : List SymbolDeclaration) → are_tokens_of_one (filter keep (map (λ d. constructor_of d.name) ds)) ≡ false
no_tokens_there keep [] = refl
no_tokens_there keep (d ∷ ds) = by (keep (constructor_of d.name)) (no_tokens_there keep ds)
  where
    by : (b : Bool) → are_tokens_of_one (filter keep (map (λ e. constructor_of e.name) ds)) ≡ false → are_tokens_of_one (cond b (constructor_of d.name ∷ filter keep (map (λ e. constructor_of e.name) ds)) (filter keep (map (λ e. constructor_of e.name) ds))) ≡ false
    by true e = refl
    by false e = e

one_kind : (g : KoreSignature) (s : KoreSort) (ts : List KoreSort) → are_tokens_of_one (filter (is_head g s) (map tokens ts ++ constructors_in g)) ≡ one_kind_of_tokens g s ts && no_constructors_among g s g.symbols
one_kind g s [] = no_tokens_there (is_head g s) g.symbols
one_kind g s (t ∷ ts) = by (is_head g s (tokens t)) (one_kind g s ts)
  where
    by : (b : Bool) → are_tokens_of_one (filter (is_head g s) (map tokens ts ++ constructors_in g)) ≡ one_kind_of_tokens g s ts && no_constructors_among g s g.symbols →
        are_tokens_of_one (cond b (tokens t ∷ filter (is_head g s) (map tokens ts ++ constructors_in g)) (filter (is_head g s) (map tokens ts ++ constructors_in g))) ≡ (if b then tokens_are g s t ts else one_kind_of_tokens g s ts) && no_constructors_among g s g.symbols
    by true e = all_kept (is_head g s) t (constructors_in g) ts ∙ ap (λ b. tokens_are g s t ts && b) (none_of_them (is_head g s) t g.symbols)
    by false e = e

tokens_first : (hs : List Head) (a b o : Bool) → are_tokens_of_one hs ≡ o →
    are_tokens_of_one (cond a (integers ∷ cond b (booleans ∷ hs) hs) (cond b (booleans ∷ hs) hs)) ≡ not a && not b && o
tokens_first hs true b o e = refl
tokens_first hs false true o e = refl
tokens_first hs false false o e = e

pub tokens_are_all : (g : KoreSignature) (s : KoreSort) → not (is_head g s integers) && not (is_head g s booleans) && (one_kind_of_tokens g s (lowers g s) && no_constructors_among g s g.symbols) ≡ has_only_tokens g s
tokens_are_all g s = sym (tokens_first (filter (is_head g s) (map tokens (lowers g s) ++ constructors_in g)) (is_head g s integers) (is_head g s booleans) (one_kind_of_tokens g s (lowers g s) && no_constructors_among g s g.symbols) (one_kind g s (lowers g s)))

-- ---- the sorts of whole numbers and of truth values

both_true : (b c : Bool) → b && c ≡ true → (b ≡ true) × (c ≡ true)
both_true true c e = (refl, e)
both_true false c e = absurd (cc)

either_true : (b c : Bool) (P : Type 0) → (b ≡ true → P) → (c ≡ true → P) → b || c ≡ true → P
either_true true c P f h e = f refl
either_true false c P f h e = h e

or_second : (b c : Bool) → c ≡ true → b || c ≡ true
or_second true c e = refl
or_second false c e = e

left_passes : (ps : List (KoreSort × KoreSort)) (a b : KoreSort) (k : ℕ) (test : KoreSort → Bool) → k < length ps → slice_index_or ps k (a, b) ≡ (a, b) → test a ≡ true → list_any test (lower_sorts ps) ≡ true
left_passes [] a b k test l e t = absurd (omega (arith, l))
left_passes (p ∷ ps) a b zero test l e t = rw (ap (λ q. test q.0) e ∙ t) refl
left_passes (p ∷ ps) a b (suc k) test l e t = or_second (test p.0) (list_any test (lower_sorts ps)) (left_passes ps a b k test (omega (arith, l)) e t)

some_passes : (test : KoreSort → Bool) (P : Type 0) (ts : List KoreSort) → ((t : KoreSort) → test t ≡ true → P) → list_any test ts ≡ true → P
some_passes test P [] f e = absurd (cc)
some_passes test P (t ∷ ts) f e = either_true (test t) (list_any test ts) P (f t) (some_passes test P ts f) e

none_of_none : (g : KoreSignature) (s : KoreSort) (ts : List KoreSort) → some_below g s (is_the None) ts ≡ false
none_of_none g s [] = refl
none_of_none g s (t ∷ ts) = none_of_none g s ts

pub sort_below : (g : KoreSignature) (s : KoreSort) (o : Option KoreSort) → is_the o s || some_below g s (is_the o) (lower_sorts g.subsorts) ≡ is_own_below g s o
sort_below g s None = none_of_none g s (lower_sorts g.subsorts)
sort_below g s (Some i) = by_both (sorts_equal i s || some_below g s (is_the (Some i)) (lower_sorts g.subsorts)) (is_below g.subsorts i s)
    (either_true (sorts_equal i s) (some_below g s (is_the (Some i)) (lower_sorts g.subsorts)) (is_below g.subsorts i s ≡ true)
    (λ e. (is_below-Decides g.subsorts i s).1 (subst (λ t. IsBelow g.subsorts i t) ((sorts_equal-Decides i s).0 e) (itself i)))
    (some_passes (λ t. sorts_equal i t && is_below g.subsorts t s) (is_below g.subsorts i s ≡ true) (lower_sorts g.subsorts)
    (λ t e. let p = both_true (sorts_equal i t) (is_below g.subsorts t s) e in subst (λ u. is_below g.subsorts u s ≡ true) (sym ((sorts_equal-Decides i t).0 p.0)) p.1)))
    (λ e. above i s ((is_below-Decides g.subsorts i s).0 e))
  where
    above : (a t : KoreSort) → IsBelow g.subsorts a t → sorts_equal a t || some_below g t (is_the (Some a)) (lower_sorts g.subsorts) ≡ true
    above a _ (itself _) = rw ((sorts_equal-Decides a a).1 refl) refl
    above a t (through _ b _ c rest) = or_second (sorts_equal a t) (some_below g t (is_the (Some a)) (lower_sorts g.subsorts)) (left_passes g.subsorts a b c.0 (λ u. sorts_equal a u && is_below g.subsorts u t) c.1 c.2
        (rw ((sorts_equal-Decides a a).1 refl) ((is_below-Decides g.subsorts a t).1 (through a b t c rest))))

pub number_sort_has : (g : KoreSignature) (s : KoreSort) → is_number_sort g s ≡ true → true ≡ has_only_numbers g s
number_sort_has g s e = sym (both_true (is_integer_sort g s) (has_only_numbers g s) e).1

pub truth_sort_has : (g : KoreSignature) (s : KoreSort) → is_truth_sort g s ≡ true → true ≡ has_only_truths g s
truth_sort_has g s e = sym (both_true (is_boolean_sort g s) (has_only_truths g s) e).1

pub same_is : (s t : KoreSort) (b : Bool) → (b ≡ true → s ≡ t) → (s ≡ t → b ≡ true) → b ≡ sorts_equal s t
same_is s t b f h = by_both b (sorts_equal s t) (λ e. (sorts_equal-Decides s t).1 (f e)) (λ e. h ((sorts_equal-Decides s t).0 e))
