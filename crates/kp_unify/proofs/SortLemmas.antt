-- The sort that has exactly the heads that two others share.
use Rattle.std.proofs.Common.{◌≡◌, refl, sym, ap, subst, ◌∙◌, Bool, true, false, not, ◌&&◌, cond, ℕ, zero, suc, List, [], ◌∷◌, length, slice_index_or, Option, Some, None, map, arith, ◌<◌}
use Rattle.std.specs.Prelude.{MatchOption}
use Rattle.std.specs.Option.{option_map}
use Rattle.std.specs.List.{list_all, filter, find}
use Rattle.kp_kore.specs.Syntax.{KoreSort}
use Rattle.kp_kore.specs.Signature.{KoreSignature, Head, is_head, possible_heads, IsHeadOf, IsBelow, itself, through, is_below}
use Rattle.kp_signature.proofs.HeadLemmas.{is_head-Decides, passed_by_heads}
use Rattle.kp_signature.proofs.Below.{is_below-Decides}
use Rattle.kp_kore.proofs.InstanceLemmas.{first_true, second_true}
use Rattle.kp_case_laws.specs.Courses.{IsMeet}
use Rattle.kp_unify.specs.Heads.{is_common_in, has_common_heads, is_meet}

true_false : true ≡ false → ⊥
true_false e = cc

-- ---- heads that are shared

common_is : (g : KoreSignature) (b m : KoreSort) (h : Head) → is_common_in g b m h ≡ true → IsHeadOf g b h → IsHeadOf g m h
common_is g b m h e j = by (is_head g m h) refl
  where
    by : (k : Bool) → is_head g m h ≡ k → IsHeadOf g m h
    by true q = (is_head-Decides g m h).0 q
    by false q = absurd (true_false (sym e ∙ ap not (ap (λ c. c && not (is_head g m h)) ((is_head-Decides g b h).1 j) ∙ ap not q)))

common_in : (g : KoreSignature) (b m : KoreSort) (h : Head) → (IsHeadOf g b h → IsHeadOf g m h) → is_common_in g b m h ≡ true
common_in g b m h f = by (is_head g b h) refl
  where
    by : (k : Bool) → is_head g b h ≡ k → is_common_in g b m h ≡ true
    by true q = ap (λ c. not (is_head g b h && not c)) ((is_head-Decides g m h).1 (f ((is_head-Decides g b h).0 q))) ∙ last (is_head g b h)
      where
        last : (c : Bool) → not (c && false) ≡ true
        last true = refl
        last false = refl
    by false q = ap (λ c. not (c && not (is_head g m h))) q

all_kept : (test keep : Head → Bool) (xs : List Head) → ((h : Head) → keep h ≡ true → test h ≡ true) → list_all test (filter keep xs) ≡ true
all_kept test keep [] f = refl
all_kept test keep (x ∷ xs) f = by (keep x) refl (all_kept test keep xs f)
  where
    both : (b c : Bool) → b ≡ true → c ≡ true → (b && c) ≡ true
    both true c e i = i
    both false c e i = absurd (cc)

    by : (b : Bool) → keep x ≡ b → list_all test (filter keep xs) ≡ true → list_all test (cond b (x ∷ filter keep xs) (filter keep xs)) ≡ true
    by true e i = both (test x) (list_all test (filter keep xs)) (f x e) i
    by false e i = i

-- ---- meets

pub meet_is : (g : KoreSignature) (a b m : KoreSort) → is_meet g a b m ≡ true → IsMeet g a b m
meet_is g a b m e =
    let below = first_true (is_below g.subsorts m a && is_below g.subsorts m b) (has_common_heads g a b m) e in
    record {
      below_first = (is_below-Decides g.subsorts m a).0 (first_true (is_below g.subsorts m a) (is_below g.subsorts m b) below);
      below_second = (is_below-Decides g.subsorts m b).0 (second_true (is_below g.subsorts m a) (is_below g.subsorts m b) below);
      common = λ h i j. common_is g b m h (passed_by_heads g a h (is_common_in g b m) (second_true (is_below g.subsorts m a && is_below g.subsorts m b) (has_common_heads g a b m) e) i) j;
    }

pub is_a_meet : (g : KoreSignature) (a b m : KoreSort) → IsMeet g a b m → is_meet g a b m ≡ true
is_a_meet g a b m i =
    three (is_below g.subsorts m a) (is_below g.subsorts m b) (has_common_heads g a b m) ((is_below-Decides g.subsorts m a).1 i.below_first) ((is_below-Decides g.subsorts m b).1 i.below_second)
    (all_kept (is_common_in g b m) (is_head g a) (possible_heads g a) (λ h e. common_in g b m h (λ j. i.common h ((is_head-Decides g a h).0 e) j)))
  where
    three : (p q r : Bool) → p ≡ true → q ≡ true → r ≡ true → ((p && q) && r) ≡ true
    three true true r d e f = f
    three true false r d e f = absurd (cc)
    three false q r d e f = absurd (cc)

-- ---- the one that is found

pub lower_is_meet : (g : KoreSignature) (a b : KoreSort) → is_below g.subsorts b a ≡ true → IsMeet g a b b
lower_is_meet g a b e = record { below_first = (is_below-Decides g.subsorts b a).0 e; below_second = itself b; common = λ h i j. j }

pub upper_is_meet : (g : KoreSignature) (a b : KoreSort) → is_below g.subsorts a b ≡ true → IsMeet g a b a
upper_is_meet g a b e = record { below_first = itself a; below_second = (is_below-Decides g.subsorts a b).0 e; common = λ h i j. i }

found_passes : (test : KoreSort → Bool) (xs : List KoreSort) (m : KoreSort) → find test xs ≡ Some m → test m ≡ true
found_passes test [] m e = absurd (cc)
found_passes test (x ∷ xs) m e = by (test x) refl e (found_passes test xs m)
  where
    inside : Some x ≡ Some m → x ≡ m
    inside q = cc

    by : (b : Bool) → test x ≡ b → cond b (Some x) (find test xs) ≡ Some m → (find test xs ≡ Some m → test m ≡ true) → test m ≡ true
    by true p q more = sym (ap test (inside q)) ∙ p
    by false p q more = more q

none_passes : (test : KoreSort → Bool) (xs : List KoreSort) (m : KoreSort) → find test xs ≡ None → test m ≡ true → (k : ℕ) → k < length xs → slice_index_or xs k m ≡ m → ⊥
none_passes test [] m e p k l i = absurd (omega arith)
none_passes test (x ∷ xs) m e p zero l i = by (test x) refl e
  where
    by : (b : Bool) → test x ≡ b → cond b (Some x) (find test xs) ≡ None → ⊥
    by true q f = absurd (cc)
    by false q f = true_false (sym p ∙ ap test (sym i) ∙ q)
none_passes test (x ∷ xs) m e p (suc k) l i = by (test x) e (λ f. none_passes test xs m f p k (omega (arith, l)) i)
  where
    by : (b : Bool) → cond b (Some x) (find test xs) ≡ None → (find test xs ≡ None → ⊥) → ⊥
    by true f more = absurd (cc)
    by false f more = more f

-- a sort below two that aren't below each other stands on the left of a pair
lower_at : (pairs : List (KoreSort × KoreSort)) (a b : KoreSort) (k : ℕ) → k < length pairs → slice_index_or pairs k (a, b) ≡ (a, b) → (k < length (map (λ p. p.0) pairs)) × (slice_index_or (map (λ p. p.0) pairs) k a ≡ a)
lower_at [] a b k l i = absurd (omega arith)
lower_at (p ∷ pairs) a b zero l i = (omega arith, ap (λ q. q.0) i)
lower_at (p ∷ pairs) a b (suc k) l i = let more = lower_at pairs a b k (omega arith) i in (omega (arith, more.0), more.1)

no_other : (g : KoreSignature) (a b m : KoreSort) → find (is_meet g a b) (map (λ p. p.0) g.subsorts) ≡ None → (IsBelow g.subsorts m b → m ≡ a → ⊥) → IsMeet g a b m → IsBelow g.subsorts m a → ⊥
no_other g a b m e n i (itself _) = n i.below_second refl
no_other g a b m e n i (through _ c _ at rest) =
    let stands = lower_at g.subsorts m c at.0 at.1 at.2 in
    none_passes (is_meet g a b) (map (λ p. p.0) g.subsorts) m e (is_a_meet g a b m i) at.0 stands.0 stands.1

pub none_is_meet : (g : KoreSignature) (a b m : KoreSort) → is_below g.subsorts a b ≡ false → find (is_meet g a b) (map (λ p. p.0) g.subsorts) ≡ None → IsMeet g a b m → ⊥
none_is_meet g a b m e f i = no_other g a b m f (λ j q. true_false (sym ((is_below-Decides g.subsorts a b).1 (subst (λ z. IsBelow g.subsorts z b) q j)) ∙ e)) i i.below_first

pub found_is_meet : (g : KoreSignature) (a b m : KoreSort) → find (is_meet g a b) (map (λ p. p.0) g.subsorts) ≡ Some m → IsMeet g a b m
found_is_meet g a b m e = meet_is g a b m (found_passes (is_meet g a b) (map (λ p. p.0) g.subsorts) m e)

pub found_meant : {X : Type 0} (g : KoreSignature) (a b : KoreSort) (view : X → KoreSort) (o : Option X) → is_below g.subsorts a b ≡ false → option_map view o ≡ find (is_meet g a b) (map (λ p. p.0) g.subsorts) →
    MatchOption o ((m : KoreSort) → ¬ IsMeet g a b m) (λ m. IsMeet g a b (view m))
found_meant g a b view (Some m) n e = found_is_meet g a b (view m) (sym e)
found_meant g a b view None n e = λ m i. none_is_meet g a b m n (sym e) i

-- ---- heads one by one

pub passed_on : (test : Head → Bool) (before after : List Head) (h : Head) (all : Bool) → before ≡ h ∷ after → test h ≡ true → list_all test before ≡ all → list_all test after ≡ all
passed_on test before after h all e t is = sym (ap (λ b. b && list_all test after) t) ∙ sym (ap (list_all test) e) ∙ is

pub stopped : (test : Head → Bool) (before after : List Head) (h : Head) (all : Bool) → before ≡ h ∷ after → test h ≡ false → list_all test before ≡ all → all ≡ false
stopped test before after h all e t is = sym is ∙ ap (list_all test) e ∙ ap (λ b. b && list_all test after) t

pub ended : (test : Head → Bool) (before : List Head) (all : Bool) → before ≡ [] → list_all test before ≡ all → all ≡ true
ended test before all e is = sym is ∙ ap (list_all test) e
