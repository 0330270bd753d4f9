-- Opened equalities: of the truth sort, of constructors member by member, of all else.
use Rattle.std.proofs.Common.{◌≡◌, refl, sym, ap, subst, Bool, true, false, not, ◌&&◌, Option, Some, None}
use Rattle.std.specs.Prelude.{if◌then◌else◌}
use Rattle.std.specs.Str.{bytes_eq}
use Rattle.std.proofs.lemmas.Slice.Eq.{bytes_eq-Decides}
use Rattle.kp_kore.specs.Syntax.{Text, KoreSort, KoreSorts, no_sorts, next_sort}
use Rattle.kp_kore.specs.Signature.{KoreSignature, is_truth_sort}
use Rattle.kp_kore.specs.Value.{Value, constructed, Values, no_values, next_value, HasSort, HaveSorts, ArgumentSorts}
use Rattle.kp_kore.specs.Instance.{Valuation}
use Rattle.kp_signature.proofs.NumberLemmas.{truth_value}
use Rattle.kp_compile.specs.Spelled.{places_of}
use Rattle.kp_symbolic.specs.Terms.{SymbolicTerm, term_instance}
use Rattle.kp_symbolic.specs.Formulas.{Formula, Formulas, no_formulas, next_formula, NoneHold}
use Rattle.kp_symbolic.specs.States.{Literal, IsLiteralTrue}
use Rattle.kp_symbolic.specs.Alike.{terms_same}
use Rattle.kp_symbolic.specs.Opening.{all_if, fixed, equality_fact, is_never, Seen, seen, Seens, none_seen, next_seen, opened_truths, opened_sides, sorts_of_members, opened_seen, opened_members}
use Rattle.kp_symbolic.proofs.AlikeLemmas.{terms_are}
use Rattle.kp_symbolic.proofs.Opened.{fixed_says, never_says}
use Rattle.kp_symbolic.proofs.SeenLemmas.{Says, says_the_same, equality_says, SaysHead, IsSeen, IsRight, AreRight, IsTruth, seen_instance, seen_instances, truths_say}
use Rattle.kp_symbolic.proofs.SideLemmas.{never_is, never_or, unconstructed_say}

-- ---- members

-- the formulas say that the lists are the same, by the sign
abbrev pub AllSay : KoreSignature → Valuation → Bool → Formulas Literal → Type 0 → Type 0
AllSay g v b fs A = Says g v b (all_if b fs) A

none_stable : (P : Literal → Type 0) (fs : Formulas Literal) → ¬ ¬ NoneHold P fs → NoneHold P fs
none_stable P no_formulas n = tt
none_stable P (next_formula f fs) n = ((λ h. n (λ k. k.0 h)), none_stable P fs (λ m. n (λ k. m k.1)))

next_says : (g : KoreSignature) (v : Valuation) (b : Bool) (f : Formula Literal) (fs : Formulas Literal) (u w : Value) (us ws : Values) → Says g v b f (u ≡ w) → AllSay g v b fs (us ≡ ws) → AllSay g v b (next_formula f fs) (next_value u us ≡ next_value w ws)
next_says g v true f fs u w us ws i j = (
  (λ h. let e : u ≡ w = i.0 h.0 in let d : us ≡ ws = j.0 h.1 in cc),
  (λ e. (i.1 (first_inside e), j.1 (rest_inside e))),
)
  where
    first_inside : next_value u us ≡ next_value w ws → u ≡ w
    first_inside e = cc

    rest_inside : next_value u us ≡ next_value w ws → us ≡ ws
    rest_inside e = cc
next_says g v false f fs u w us ws i j = (
  (λ n e. n ((λ h. i.0 h (first_inside e)), none_stable (IsLiteralTrue g v) fs (λ m. j.0 m (rest_inside e)))),
  (λ n k. k.0 (i.1 (λ e. j.1 (λ d. n (both e d)) k.1))),
)
  where
    first_inside : next_value u us ≡ next_value w ws → u ≡ w
    first_inside e = cc

    rest_inside : next_value u us ≡ next_value w ws → us ≡ ws
    rest_inside e = cc

    both : u ≡ w → us ≡ ws → next_value u us ≡ next_value w ws
    both e d = cc

none_say : (g : KoreSignature) (v : Valuation) (b : Bool) → AllSay g v b no_formulas (no_values ≡ no_values)
none_say g v b = fixed_says (IsLiteralTrue g v) b (no_values ≡ no_values) refl

-- ---- two constructors

inside : {c d : Text} {us ws : Values} → constructed c us ≡ constructed d ws → (c ≡ d) × (us ≡ ws)
inside e = (cc, cc)

constructed_say : (g : KoreSignature) (v : Valuation) (b s : Bool) (fs : Formulas Literal) (c d : Text) (us ws : Values) → (s ≡ true → c ≡ d) → (c ≡ d → s ≡ true) → (s ≡ true → AllSay g v b fs (us ≡ ws)) → Says g v b (if s then all_if b fs else fixed (not b)) (constructed c us ≡ constructed d ws)
constructed_say g v b true fs c d us ws y n i = says_the_same g v b (all_if b fs) (us ≡ ws) (constructed c us ≡ constructed d ws)
    ((λ e. let f : c ≡ d = y refl in cc), (λ e. (inside e).1)) (i refl)
constructed_say g v b false fs c d us ws y n i = never_says (IsLiteralTrue g v) b (constructed c us ≡ constructed d ws) (λ e. absurd (false_true (n (inside e).0)))
  where
    false_true : false ≡ true → ⊥
    false_true h = cc

sides_say : (g : KoreSignature) (v : Valuation) (b : Bool) (kept : Formula Literal) (t u : SymbolicTerm) (p q : Bool → Bool → Formula Literal → Formula Literal) (c d : Option Text) (ms ns : Seens) (fs : Formulas Literal) → IsSeen g v t p c ms → IsSeen g v u q d ns → terms_same t u ≡ false
    → ((k l : Text) → c ≡ Some k → d ≡ Some l → k ≡ l → AllSay g v b fs (seen_instances g v ms ≡ seen_instances g v ns)) → Says g v b kept (term_instance g v t ≡ term_instance g v u) → Says g v b (opened_sides g b kept t u c d fs) (term_instance g v t ≡ term_instance g v u)
sides_say g v b kept t u p q (Some k) (Some l) ms ns fs i j n a h =
    let us = seen_instances g v ms in
    let ws = seen_instances g v ns in
    subst (λ x. Says g v b (if bytes_eq k l then all_if b fs else fixed (not b)) (x ≡ term_instance g v u)) (sym i.head_is.1)
    (subst (λ y. Says g v b (if bytes_eq k l then all_if b fs else fixed (not b)) (constructed k us ≡ y)) (sym j.head_is.1)
    (constructed_say g v b (bytes_eq k l) fs k l us ws (bytes_eq-Decides k l).0 (bytes_eq-Decides k l).1 (λ e. a k l refl refl ((bytes_eq-Decides k l).0 e))))
sides_say g v b kept t u p q (Some k) None ms ns fs i j n a h = never_or g v b (is_never g t u) kept (term_instance g v t ≡ term_instance g v u) (λ e. never_is g v t u k (seen_instances g v ms) i.head_is.0 i.head_is.1 j.head_is e) h
sides_say g v b kept t u p q None (Some l) ms ns fs i j n a h = never_or g v b (is_never g u t) kept (term_instance g v t ≡ term_instance g v u) (λ e d. never_is g v u t l (seen_instances g v ns) j.head_is.0 j.head_is.1 i.head_is e (sym d)) h
sides_say g v b kept t u p q None None ms ns fs i j n a h = unconstructed_say g v b kept t u i.given j.given n h

-- ---- the sorts of members

places_are : (g : KoreSignature) (c : Text) (ss : KoreSorts) → ArgumentSorts g c ss → places_of g c ≡ ss
places_are g c ss a = rw a.1 a.2

members_sorted : (g : KoreSignature) (s : KoreSort) (u : Value) (c : Text) (us : Values) → u ≡ constructed c us → HasSort g s u → HaveSorts g (places_of g c) us
members_sorted g s u c us e h = let k : HasSort g s (constructed c us) = subst (HasSort g s) e h in subst (λ ss. HaveSorts g ss us) (sym (places_are g c k.1 k.2)) k.3

pub is_truth : (g : KoreSignature) (s : KoreSort) (u : Value) → is_truth_sort g s ≡ true → HasSort g s u → IsTruth u
is_truth g s u e h = truth_value g s u e h

by_form : (g : KoreSignature) (v : Valuation) (b c d : Bool) (truths sides : Formula Literal) (A : Type 0) → (c ≡ true → A) → (c ≡ false → d ≡ true → Says g v b truths A) → (c ≡ false → Says g v b sides A) → Says g v b (if c then fixed b else if d then truths else sides) A
by_form g v b true d truths sides A y i j = fixed_says (IsLiteralTrue g v) b A (y refl)
by_form g v b false true truths sides A y i j = i refl refl
by_form g v b false false truths sides A y i j = j refl

mutual
  pub seen_says : (g : KoreSignature) (v : Valuation) (alone b : Bool) (s x y : KoreSort) (kept : Formula Literal) (m n : Seen) → IsRight g v m → IsRight g v n → HasSort g x (seen_instance g v m) → HasSort g y (seen_instance g v n) → (is_truth_sort g s ≡ true → IsTruth (seen_instance g v m) × IsTruth (seen_instance g v n)) → Says g v b kept (seen_instance g v m ≡ seen_instance g v n) → Says g v b (opened_seen g alone b s kept m n) (seen_instance g v m ≡ seen_instance g v n)
  seen_says g v alone b s x y kept (seen t p c ms) (seen u q d ns) i j h k o a =
      by_form g v b (terms_same t u) (is_truth_sort g s) (opened_truths g alone b kept (seen t p c ms) (seen u q d ns)) (opened_sides g b kept t u c d (opened_members g (alone && b) b (sorts_of_members g c) ms ns)) (term_instance g v t ≡ term_instance g v u)
      (λ e. ap (term_instance g v) (terms_are t u e))
      (λ f e. truths_say g v alone b kept (seen t p c ms) (seen u q d ns) i j (o e).0 (o e).1 a)
      (λ f. sides_say g v b kept t u p q c d ms ns (opened_members g (alone && b) b (sorts_of_members g c) ms ns) i.0 j.0 f (members_of c d i.0.head_is j.0.head_is (λ ss w z. members_say g v (alone && b) b ss ms ns i.1 j.1 w z)) a)
    where
      members_of : (c d : Option Text) → SaysHead g v t c ms → SaysHead g v u d ns → ((ss : KoreSorts) → HaveSorts g ss (seen_instances g v ms) → HaveSorts g ss (seen_instances g v ns) → AllSay g v b (opened_members g (alone && b) b ss ms ns) (seen_instances g v ms ≡ seen_instances g v ns)) → (k' l : Text) → c ≡ Some k' → d ≡ Some l → k' ≡ l → AllSay g v b (opened_members g (alone && b) b (sorts_of_members g c) ms ns) (seen_instances g v ms ≡ seen_instances g v ns)
      members_of (Some c') (Some d') w z all k' l e f same = all (places_of g c') (members_sorted g x (term_instance g v t) c' (seen_instances g v ms) w.1 h) (subst (λ n. HaveSorts g (places_of g n) (seen_instances g v ns)) (same_name e f same) (members_sorted g y (term_instance g v u) d' (seen_instances g v ns) z.1 k))
        where
          same_name : Some c' ≡ Some k' → Some d' ≡ Some l → k' ≡ l → d' ≡ c'
          same_name e f same = cc
      members_of None d w z all k' l e f same = absurd (cc)
      members_of (Some c') None w z all k' l e f same = absurd (cc)

  pub members_say : (g : KoreSignature) (v : Valuation) (alone b : Bool) (ss : KoreSorts) (ms ns : Seens) → AreRight g v ms → AreRight g v ns → HaveSorts g ss (seen_instances g v ms) → HaveSorts g ss (seen_instances g v ns) → AllSay g v b (opened_members g alone b ss ms ns) (seen_instances g v ms ≡ seen_instances g v ns)
  members_say g v alone b no_sorts none_seen none_seen i j h k = none_say g v b
  members_say g v alone b (next_sort s ss) (next_seen (seen t p c ms) rest) (next_seen (seen u q d ns) others) i j h k =
      next_says g v b (opened_seen g alone b s (equality_fact b s t u) (seen t p c ms) (seen u q d ns)) (opened_members g alone b ss rest others) (term_instance g v t) (term_instance g v u) (seen_instances g v rest) (seen_instances g v others)
      (seen_says g v alone b s s s (equality_fact b s t u) (seen t p c ms) (seen u q d ns) i.0 j.0 h.0 k.0 (λ e. (is_truth g s (term_instance g v t) e h.0, is_truth g s (term_instance g v u) e k.0)) (equality_says g v b s t u))
      (members_say g v alone b ss rest others i.1 j.1 h.1 k.1)
  members_say g v alone b no_sorts (next_seen m ms) ns i j h k = absurd h
  members_say g v alone b no_sorts none_seen (next_seen n ns) i j h k = absurd k
  members_say g v alone b (next_sort s ss) none_seen ns i j h k = absurd h
  members_say g v alone b (next_sort s ss) (next_seen m ms) none_seen i j h k = absurd k
