-- Patterns in the order of their texts, and each of them once.
use Rattle.std.proofs.Common.{◌≡◌, ◌↔◌, ◌⊎◌, inl, inr, refl, sym, ap, ◌∙◌, subst, ℕ, zero, suc, ◌+◌, ◌<◌, ◌≤◌, Bool, true, false, ◌&&◌, ◌==◌, nat_lt, List, [], ◌∷◌, ◌++◌, length, get_or, drop, arith, IsPermutation}
use Rattle.std.specs.List.{AllByRecursion, Contains}
use Rattle.std.specs.Ordering.{nat_cmp, is_lt}
use Rattle.std.specs.Cmp.Lexicographic.{slice_cmp}
use Rattle.std.specs.Cmp.{IsStrictWeakOrder}
use Rattle.std.specs.List.Sorted.{IsSortedBy}
use Rattle.std.proofs.lemmas.Bool.{or_parts}
use Rattle.std.proofs.lemmas.Bool.Decides.{nat_tests}
use Rattle.std.proofs.lemmas.Cmp.{same_from_slice_cmp, nat_list_cmp_total}
use Rattle.std.proofs.lemmas.List.{append_assoc, append-nil, map-append}
use Rattle.std.proofs.lemmas.List.Elements.{Contains-append_left, Contains-append_right, Contains-append_cases, Contains-push_cases}
use Rattle.std.proofs.lemmas.List.Sorted.{ranks_by, sorted_far, Contains-permutation, IsPermutation-sym}
use Rattle.kp_kore.specs.Syntax.{Text, KorePattern}
use Rattle.kp_symbolic.specs.Folding.{is_text_before}
use Rattle.kp_symbolic.specs.Shown.{AreDifferent}
use Rattle.kp_outward.specs.Order.{json_text, AreInOrder, IsOrderedOnce}
use Rattle.kp_outward.specs.View.{spelled_view, patterns_in}
use Rattle.kp_outward.specs.declared.texts.Spelled.{Spelled}

-- ---- texts

same_number : (a b : ℕ) → nat_lt a b ≡ false → nat_lt b a ≡ false → a ≡ b
same_number a b h k = grind (arith, nat_tests)

number_is : (a : ℕ) → (a == a) ≡ true
number_is a = grind (arith, nat_tests)

-- of two texts neither of which is before the other
pub same_text : (x y : Text) → is_text_before x y ≡ false → is_text_before y x ≡ false → x ≡ y
same_text [] [] h k = refl
same_text [] (b ∷ y) h k = absurd (cc)
same_text (a ∷ x) [] h k = absurd (cc)
same_text (a ∷ x) (b ∷ y) h k =
    let p = or_parts (nat_lt a b) ((a == b) && is_text_before x y) h in
    let q = or_parts (nat_lt b a) ((b == a) && is_text_before y x) k in
    let e : a ≡ b = same_number a b p.0 q.0 in
    let f : is_text_before x y ≡ false = ap (λ t. t && is_text_before x y) (sym (ap (λ n. a == n) (sym e) ∙ number_is a)) ∙ p.1 in
    let g : is_text_before y x ≡ false = ap (λ t. t && is_text_before y x) (sym (ap (λ n. n == a) (sym e) ∙ number_is a)) ∙ q.1 in
    ap (λ n. n ∷ x) e ∙ ap (λ l. b ∷ l) (same_text x y f g)

pub told_before : (x y : Text) → is_lt (slice_cmp nat_cmp x y) ≡ is_text_before x y
told_before x y = same_from_slice_cmp nat_cmp is_lt is_text_before refl (λ _ _. refl) (λ _ _. refl) (λ x y xs ys o h. grind (arith, nat_tests)) x y (slice_cmp nat_cmp x y) refl

-- ---- what a sort by texts makes

abbrev pub by_text : Spelled → Spelled → Bool
by_text s t = is_lt (slice_cmp nat_cmp s.text.items t.text.items)

pub text_order : IsStrictWeakOrder by_text
text_order = ranks_by nat_list_cmp_total (λ s. s.text.items)

texts_told : (s t : Spelled) → by_text s t ≡ false → is_text_before (json_text (spelled_view s)) (json_text (spelled_view t)) ≡ false
texts_told s t h =
    ap (λ x. is_text_before x (json_text (spelled_view t))) (sym s.told)
    ∙ ap (is_text_before s.text.items) (sym t.told)
    ∙ sym (told_before s.text.items t.text.items) ∙ h

each_behind : (s : Spelled) (ss : List Spelled) → ((j : ℕ) (d : Spelled) → j < length ss → by_text (get_or ss j d) s ≡ false) →
    AllByRecursion (λ q. is_text_before (json_text q) (json_text (spelled_view s)) ≡ false) (patterns_in ss)
each_behind s [] h = tt
each_behind s (t ∷ ss) h = (texts_told t s (h 0 t (omega arith)), each_behind s ss (λ j d k. h (suc j) d (omega (arith, k))))

all_in_order : (ss : List Spelled) → ((i j : ℕ) (d : Spelled) → i ≤ j → j < length ss → by_text (get_or ss j d) (get_or ss i d) ≡ false) → AreInOrder (patterns_in ss)
all_in_order [] h = tt
all_in_order (s ∷ ss) h = (
  each_behind s ss (λ j d k. h 0 (suc j) d (omega arith) (omega (arith, k))),
  all_in_order ss (λ i j d k l. h (suc i) (suc j) d (omega (arith, k)) (omega (arith, l))),
)

pub sorted_in_order : (ss : List Spelled) → IsSortedBy by_text ss → AreInOrder (patterns_in ss)
sorted_in_order ss up = all_in_order ss (sorted_far by_text text_order ss up)

-- ---- one pattern behind others in order

at_each : (P : KorePattern → Type 0) (ks : List Spelled) (rest : List KorePattern) (i : ℕ) (s : Spelled) → i < length ks → s ≡ get_or ks i s →
    AllByRecursion P (patterns_in ks ++ rest) → P (spelled_view s)
at_each P [] rest i s h is all = absurd (omega (arith, h))
at_each P (k ∷ ks) rest zero s h is all = subst (λ t. P (spelled_view t)) (sym is) all.0
at_each P (k ∷ ks) rest (suc i) s h is all = at_each P ks rest i s (omega (arith, h)) is all.1

last_of : (P : KorePattern → Type 0) (ks : List Spelled) (p : KorePattern) → AllByRecursion P (patterns_in ks ++ p ∷ []) → P p
last_of P [] p all = all.0
last_of P (k ∷ ks) p all = last_of P ks p all.1

last_behind : (ks : List Spelled) (p : KorePattern) (i : ℕ) (s : Spelled) → i < length ks → s ≡ get_or ks i s → AreInOrder (patterns_in ks ++ p ∷ []) →
    is_text_before (json_text p) (json_text (spelled_view s)) ≡ false
last_behind [] p i s h is up = absurd (omega (arith, h))
last_behind (k ∷ ks) p zero s h is up = subst (λ t. is_text_before (json_text p) (json_text (spelled_view t)) ≡ false) (sym is) (last_of _ ks p up.0)
last_behind (k ∷ ks) p (suc i) s h is up = last_behind ks p i s (omega (arith, h)) is up.1

-- none of the patterns from i on is p
abbrev pub AreOther : KorePattern → List KorePattern → Type 0
AreOther p = AllByRecursion (λ q. q ≡ p → ⊥)

-- where the pattern at i has another text than p behind all, and none behind i is p, none is
pub different_from : (ks : List Spelled) (p : KorePattern) (i : ℕ) (s : Spelled) → i < length ks → s ≡ get_or ks i s → AreInOrder (patterns_in ks ++ p ∷ []) →
    (json_text (spelled_view s) ≡ json_text p → ⊥) → AreOther p (patterns_in (drop (suc i) ks)) → AreOther p (patterns_in ks)
different_from [] p i s h is up d rest = tt
different_from (k ∷ ks) p zero s h is up d rest = (λ e. d (ap json_text (ap spelled_view is ∙ e)), rest)
different_from (k ∷ ks) p (suc i) s h is up d rest = (
  (λ e. d (same_text (json_text (spelled_view s)) (json_text p)
      (subst (λ q. is_text_before (json_text (spelled_view s)) (json_text q) ≡ false) e (at_each _ ks (p ∷ []) i s (omega (arith, h)) is up.0))
      (last_behind ks p i s (omega (arith, h)) is up.1))),
  different_from ks p i s (omega (arith, h)) is up.1 d rest,
)

pub other_more : (ks : List Spelled) (p : KorePattern) (i : ℕ) (s : Spelled) → i < length ks → s ≡ get_or ks i s → (spelled_view s ≡ p → ⊥) → AreOther p (patterns_in (drop (suc i) ks)) → AreOther p (patterns_in (drop i ks))
other_more [] p i s h is d rest = absurd (omega (arith, h))
other_more (k ∷ ks) p zero s h is d rest = ((λ e. d (ap spelled_view is ∙ e)), rest)
other_more (k ∷ ks) p (suc i) s h is d rest = other_more ks p i s (omega (arith, h)) is d rest

pub not_among : (p : KorePattern) (ps : List KorePattern) → AreOther p ps → Contains ps p → ⊥
not_among p [] all (k, h, e) = omega (arith, h)
not_among p (q ∷ ps) all (zero, h, e) = all.0 e
not_among p (q ∷ ps) all (suc k, h, e) = not_among p ps all.1 (k, omega (arith, h), e)

pub is_among : (ks : List Spelled) (p : KorePattern) (i : ℕ) (s : Spelled) → i < length ks → s ≡ get_or ks i s → spelled_view s ≡ p → Contains (patterns_in ks) p
is_among [] p i s h is e = absurd (omega (arith, h))
is_among (k ∷ ks) p zero s h is e = (0, omega arith, ap spelled_view (sym is) ∙ e)
is_among (k ∷ ks) p (suc i) s h is e = let there = is_among ks p i s (omega (arith, h)) is e in (suc there.0, omega (arith, there.1), there.2)

-- ---- each once

-- of all patterns, those that are kept, each once, and the rest behind them in order
pub record AreKept (all kept rest : List KorePattern) : Type 0 where
  pub same : (p : KorePattern) → Contains all p ↔ Contains (kept ++ rest) p
  pub once : AreDifferent kept
  pub in_order : AreInOrder (kept ++ rest)

all_before : (P : KorePattern → Type 0) (ps rest : List KorePattern) → AllByRecursion P (ps ++ rest) → AllByRecursion P ps
all_before P [] rest all = tt
all_before P (p ∷ ps) rest all = (all.0, all_before P ps rest all.1)

in_order_before : (ps rest : List KorePattern) → AreInOrder (ps ++ rest) → AreInOrder ps
in_order_before [] rest up = tt
in_order_before (p ∷ ps) rest up = (all_before _ ps rest up.0, in_order_before ps rest up.1)

all_without : (P : KorePattern → Type 0) (ps rest : List KorePattern) (p : KorePattern) → AllByRecursion P (ps ++ p ∷ rest) → AllByRecursion P (ps ++ rest)
all_without P [] rest p all = all.1
all_without P (q ∷ ps) rest p all = (all.0, all_without P ps rest p all.1)

in_order_without : (ps rest : List KorePattern) (p : KorePattern) → AreInOrder (ps ++ p ∷ rest) → AreInOrder (ps ++ rest)
in_order_without [] rest p up = up.1
in_order_without (q ∷ ps) rest p up = (all_without _ ps rest p up.0, in_order_without ps rest p up.1)

different_more : (ks : List KorePattern) (p : KorePattern) → AreDifferent ks → (Contains ks p → ⊥) → AreDifferent (ks ++ p ∷ [])
different_more [] p d n = ((λ h. not_among p [] tt h), tt)
different_more (k ∷ ks) p d n = (
  (λ h. elim (Contains-push_cases ks p k h) [ inl there ↦ d.0 there | inr same ↦ n (0, omega arith, sym same) ]),
  different_more ks p d.1 (λ h. n (suc h.0, omega (arith, h.1), h.2)),
)

behind_first : (p q : KorePattern) (ps : List KorePattern) → Contains (p ∷ ps) q → (p ≡ q) ⊎ Contains ps q
behind_first p q ps (zero, h, e) = inl e
behind_first p q ps (suc k, h, e) = inr (k, omega (arith, h), e)

pub none_kept : (ps : List KorePattern) → AreInOrder ps → AreKept ps [] ps
none_kept ps up = record { same = λ p. ((λ h. h), (λ h. h)); once = tt; in_order = up }

kept_next : (all kept rest : List KorePattern) (p : KorePattern) → AreKept all kept (p ∷ rest) → (Contains kept p → ⊥) → AreKept all (kept ++ p ∷ []) rest
kept_next all kept rest p k n = record {
  same = λ q. subst (λ l. Contains all q ↔ Contains l q) (sym (append_assoc kept (p ∷ []) rest)) (k.same q);
  once = different_more kept p k.once n;
  in_order = subst AreInOrder (sym (append_assoc kept (p ∷ []) rest)) k.in_order;
}

without_next : (kept rest : List KorePattern) (p q : KorePattern) → Contains kept p → Contains (kept ++ p ∷ rest) q → Contains (kept ++ rest) q
without_next kept rest p q there h = elim (Contains-append_cases kept (p ∷ rest) q h) [
  | inl old ↦ Contains-append_left kept rest q old
  | inr new ↦ elim (behind_first p q rest new) [ inl is ↦ Contains-append_left kept rest q (subst (Contains kept) is there) | inr later ↦ Contains-append_right kept rest q later ]
]

with_next : (kept rest : List KorePattern) (p q : KorePattern) → Contains (kept ++ rest) q → Contains (kept ++ p ∷ rest) q
with_next kept rest p q h = elim (Contains-append_cases kept rest q h) [
  | inl old ↦ Contains-append_left kept (p ∷ rest) q old
  | inr new ↦ Contains-append_right kept (p ∷ rest) q (suc new.0, omega (arith, new.1), new.2)
]

passed_next : (all kept rest : List KorePattern) (p : KorePattern) → AreKept all kept (p ∷ rest) → Contains kept p → AreKept all kept rest
passed_next all kept rest p k there = record {
  same = λ q. ((λ h. without_next kept rest p q there ((k.same q).0 h)), (λ h. (k.same q).1 (with_next kept rest p q h)));
  once = k.once;
  in_order = in_order_without kept rest p k.in_order;
}

-- the kept and the next stand in order
pub next_in_order : (all : List KorePattern) (kept rest later : List Spelled) (one : Spelled) → rest ≡ one ∷ later → AreKept all (patterns_in kept) (patterns_in rest) →
    AreInOrder (patterns_in kept ++ spelled_view one ∷ [])
next_in_order all kept rest later one is k =
    let p = spelled_view one in
    let up : AreInOrder (patterns_in kept ++ p ∷ patterns_in later) = subst (λ l. AreInOrder (patterns_in kept ++ patterns_in l)) is k.in_order in
    in_order_before (patterns_in kept ++ p ∷ []) (patterns_in later) (subst AreInOrder (sym (append_assoc (patterns_in kept) (p ∷ []) (patterns_in later))) up)

-- the next is kept
pub one_kept : (all : List KorePattern) (kept new rest later : List Spelled) (one : Spelled) → rest ≡ one ∷ later → new ≡ kept ++ one ∷ [] → AreKept all (patterns_in kept) (patterns_in rest) →
    (Contains (patterns_in kept) (spelled_view one) → ⊥) → AreKept all (patterns_in new) (patterns_in later)
one_kept all kept new rest later one is grown k n =
    subst (λ l. AreKept all l (patterns_in later)) (sym (map-append spelled_view kept (one ∷ [])) ∙ ap patterns_in (sym grown))
    (kept_next all (patterns_in kept) (patterns_in later) (spelled_view one) (subst (λ l. AreKept all (patterns_in kept) (patterns_in l)) is k) n)

-- the next is there already
pub one_passed : (all : List KorePattern) (kept rest later : List Spelled) (one : Spelled) → rest ≡ one ∷ later → AreKept all (patterns_in kept) (patterns_in rest) →
    Contains (patterns_in kept) (spelled_view one) → AreKept all (patterns_in kept) (patterns_in later)
one_passed all kept rest later one is k there =
    passed_next all (patterns_in kept) (patterns_in later) (spelled_view one) (subst (λ l. AreKept all (patterns_in kept) (patterns_in l)) is k) there

pub each_kept : (all kept : List KorePattern) (rest : List Spelled) → length rest ≡ 0 → AreKept all kept (patterns_in rest) → IsOrderedOnce all kept
each_kept all kept [] n k = record {
  same = λ p. subst (λ l. Contains all p ↔ Contains l p) (append-nil kept) (k.same p);
  once = k.once;
  in_order = subst AreInOrder (append-nil kept) k.in_order;
}
each_kept all kept (s ∷ rest) n k = absurd (cc)

-- ---- in order, and then each once

pub once_of_moved : (ps qs kept : List KorePattern) → IsPermutation ps qs → IsOrderedOnce qs kept → IsOrderedOnce ps kept
once_of_moved ps qs kept moved k = record {
  same = λ p. (
    (λ h. (k.same p).0 (Contains-permutation ps qs p moved h)),
    (λ h. Contains-permutation qs ps p (IsPermutation-sym ps qs moved) ((k.same p).1 h)),
  );
  once = k.once;
  in_order = k.in_order;
}
