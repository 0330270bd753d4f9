-- The heads of a sort, gone through for one of which something holds that holds of no dead head.
use Rattle.std.proofs.Common.{◌≡◌, refl, sym, ap, subst, ◌∙◌, Bool, true, false, not, ◌&&◌, cond, List, [], ◌∷◌, ◌++◌}
use Rattle.std.specs.List.{AllByRecursion, Contains, list_all, filter}
use Rattle.std.specs.Str.{bytes_eq}
use Rattle.std.proofs.lemmas.List.{append_assoc}
use Rattle.std.proofs.lemmas.List.Elements.{Contains-append_left, Contains-append_right, Contains-push}
use Rattle.std.proofs.lemmas.Slice.Eq.{bytes_eq-Decides}
use Rattle.kp_kore.specs.Syntax.{KoreSort}
use Rattle.kp_kore.specs.Attributes.{sorts_equal}
use Rattle.kp_kore.specs.Signature.{KoreSignature, Head, integers, booleans, tokens, constructor_of, is_head, possible_heads, heads_of, IsHeadOf}
use Rattle.kp_kore.proofs.ListLemmas.{all_append, all_right}
use Rattle.kp_kore.proofs.SameLemmas.{sorts_equal-Decides}
use Rattle.kp_signature.proofs.HeadLemmas.{passed_by_heads}
use Rattle.kp_heads.specs.Heads.{IsLive}
use Rattle.kp_sort_heads.specs.Live.{Passed}

true_false : true ≡ false → ⊥
true_false e = cc

-- ---- heads are told apart

abbrev heads_same : Head → Head → Bool
heads_same integers integers = true
heads_same booleans booleans = true
heads_same (tokens s) (tokens t) = sorts_equal s t
heads_same (constructor_of c) (constructor_of d) = bytes_eq c d
heads_same h k = false

same_are : (h k : Head) → heads_same h k ≡ true → h ≡ k
same_are integers integers e = refl
same_are booleans booleans e = refl
same_are (tokens s) (tokens t) e = ap tokens ((sorts_equal-Decides s t).0 e)
same_are (constructor_of c) (constructor_of d) e = ap constructor_of ((bytes_eq-Decides c d).0 e)
same_are integers booleans e = absurd (cc)
same_are integers (tokens t) e = absurd (cc)
same_are integers (constructor_of d) e = absurd (cc)
same_are booleans integers e = absurd (cc)
same_are booleans (tokens t) e = absurd (cc)
same_are booleans (constructor_of d) e = absurd (cc)
same_are (tokens s) integers e = absurd (cc)
same_are (tokens s) booleans e = absurd (cc)
same_are (tokens s) (constructor_of d) e = absurd (cc)
same_are (constructor_of c) integers e = absurd (cc)
same_are (constructor_of c) booleans e = absurd (cc)
same_are (constructor_of c) (tokens t) e = absurd (cc)

same_itself : (h : Head) → heads_same h h ≡ true
same_itself integers = refl
same_itself booleans = refl
same_itself (tokens s) = (sorts_equal-Decides s s).1 refl
same_itself (constructor_of c) = (bytes_eq-Decides c c).1 refl

both_and : (a b : Bool) → a ≡ true → b ≡ true → (a && b) ≡ true
both_and true b e f = f
both_and false b e f = absurd (cc)

all_differ : (P : Head → Type 0) (h : Head) (xs : List Head) → AllByRecursion (λ k. ¬ P k) xs → P h → list_all (λ k. not (heads_same k h)) xs ≡ true
all_differ P h [] none p = refl
all_differ P h (x ∷ xs) none p = both_and (not (heads_same x h)) (list_all (λ k. not (heads_same k h)) xs) (by (heads_same x h) refl) (all_differ P h xs none.1 p)
  where
    by : (b : Bool) → heads_same x h ≡ b → not b ≡ true
    by false e = refl
    by true e = absurd (none.0 (subst P (sym (same_are x h e)) p))

-- what holds of none of the heads of a sort holds of no head that its values may have
none_other : (g : KoreSignature) (s : KoreSort) (P : Head → Type 0) (h : Head) → AllByRecursion (λ k. ¬ P k) (heads_of g s) → IsHeadOf g s h → P h → ⊥
none_other g s P h none is p =
    let differs : not (heads_same h h) ≡ true = passed_by_heads g s h (λ k. not (heads_same k h)) (all_differ P h (heads_of g s) none p) is in
    true_false (sym differs ∙ ap not (same_itself h))

-- ---- going through

-- of none of the sort's heads that stand before these it holds
pub record HasPassed (g : KoreSignature) (s : KoreSort) (P : Head → Type 0) (left : List Head) : Type 0 where
  pub passed : List Head
  pub is : heads_of g s ≡ passed ++ left
  pub none : AllByRecursion (λ k. ¬ P k) passed

pub none_passed : (g : KoreSignature) (s : KoreSort) (P : Head → Type 0) (left : List Head) → left ≡ heads_of g s → HasPassed g s P left
none_passed g s P left e = record { passed = []; is = sym e; none = tt }

each_of : (P : Head → Type 0) (xs : List Head) → ((k : Head) → Contains xs k → P k) → AllByRecursion P xs
each_of P [] f = tt
each_of P (x ∷ xs) f = (f x (Contains-append_left (x ∷ []) xs x (Contains-push [] x)), each_of P xs (λ k at. f k (Contains-append_right (x ∷ []) xs k at)))

-- the dead ones and one more
pub one_passed : (g : KoreSignature) (s : KoreSort) (P : Head → Type 0) (before after : List Head) (h : Head) → ((k : Head) → P k → IsLive g k) → HasPassed g s P before → Passed g before (h ∷ after) → ¬ P h → HasPassed g s P after
one_passed g s P before after h live b p n = record {
  passed = b.passed ++ (p.passed ++ h ∷ []);
  is = b.is ∙ ap (λ hs. b.passed ++ hs) (p.is ∙ sym (append_assoc p.passed (h ∷ []) after)) ∙ sym (append_assoc b.passed (p.passed ++ h ∷ []) after);
  none = all_append (λ k. ¬ P k) b.passed (p.passed ++ h ∷ []) b.none (all_append (λ k. ¬ P k) p.passed (h ∷ []) (each_of (λ k. ¬ P k) p.passed (λ k at m. p.none k at (live k m))) (n, tt));
}

all_heads : (keep : Head → Bool) (xs : List Head) → AllByRecursion (λ k. keep k ≡ true) (filter keep xs)
all_heads keep [] = tt
all_heads keep (x ∷ xs) = by (keep x) refl (all_heads keep xs)
  where
    by : (b : Bool) → keep x ≡ b → AllByRecursion (λ k. keep k ≡ true) (filter keep xs) → AllByRecursion (λ k. keep k ≡ true) (cond b (x ∷ filter keep xs) (filter keep xs))
    by true e h = (e, h)
    by false e h = h

-- the next one is a head of the sort
pub next_is_head : (g : KoreSignature) (s : KoreSort) (P : Head → Type 0) (before after : List Head) (h : Head) → HasPassed g s P before → Passed g before (h ∷ after) → is_head g s h ≡ true
next_is_head g s P before after h b p =
    let Kept = λ (k : Head). is_head g s k ≡ true in
    let all : AllByRecursion Kept (b.passed ++ (p.passed ++ h ∷ after)) = subst (AllByRecursion Kept) (b.is ∙ ap (λ hs. b.passed ++ hs) p.is) (all_heads (is_head g s) (possible_heads g s)) in
    (all_right Kept p.passed (h ∷ after) (all_right Kept b.passed (p.passed ++ h ∷ after) all)).0

-- where none is left, it holds of no head of the sort
pub all_passed : (g : KoreSignature) (s : KoreSort) (P : Head → Type 0) (before : List Head) (h : Head) → ((k : Head) → P k → IsLive g k) → HasPassed g s P before → Passed g before [] → IsHeadOf g s h → P h → ⊥
all_passed g s P before h live b p is holds =
    let none : AllByRecursion (λ k. ¬ P k) (b.passed ++ (p.passed ++ [])) = all_append (λ k. ¬ P k) b.passed (p.passed ++ []) b.none (all_append (λ k. ¬ P k) p.passed [] (each_of (λ k. ¬ P k) p.passed (λ k at m. p.none k at (live k m))) tt) in
    none_other g s P h (subst (AllByRecursion (λ k. ¬ P k)) (sym (b.is ∙ ap (λ hs. b.passed ++ hs) p.is)) none) is holds
