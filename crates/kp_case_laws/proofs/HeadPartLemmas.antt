-- The heads that two sorts share: a variable has one of them, or none.
use Rattle.std.proofs.Common.{◌≡◌, refl, sym, ◌∙◌, ap, subst, Bool, true, false, not, cond, ◌&&◌, ◌||◌, List, [], ◌∷◌, map, inl, inr, ◌⊎◌, ◌↔◌}
use Rattle.std.specs.List.{AllByRecursion, filter, list_all}
use Rattle.kp_kore.specs.Syntax.{KoreSort}
use Rattle.kp_kore.specs.Parts.{SortedName}
use Rattle.kp_kore.specs.Signature.{KoreSignature, Head, integers, booleans, tokens, constructor_of, IsHeadOf, is_head, heads_of, IsBelow, itself}
use Rattle.kp_kore.specs.Value.{HasSort, head_of}
use Rattle.kp_kore.specs.Instance.{Valuation, GivesSorts}
use Rattle.kp_kore.specs.Scopes.{IsWithin}
use Rattle.kp_signature.proofs.Below.{onwards}
use Rattle.kp_signature.proofs.HeadLemmas.{is_head-Decides, passed_by_heads}
use Rattle.kp_symbolic.specs.States.{PassesHead, IsLiteralTrue, IsClauseTrue, AreTrue}
use Rattle.kp_symbolic.specs.Heads.{passes_head}
use Rattle.kp_symbolic.proofs.Distribution.{all_both, all_first}
use Rattle.kp_symbolic.proofs.HeadLemmas.{passes-Decides, head_from_sort}
use Rattle.kp_symbolic.proofs.Leaf.{once_says}
use Rattle.kp_case_laws.specs.Narrowings.{IsMade, IsNarrowing, sort_or_none, test_of, tested, shared_heads, other_heads, heads_outside, heads_inside}
use Rattle.kp_case_laws.proofs.PartLemmas.{agrees_itself}

-- ---- truth values

false_true : false ≡ true → ⊥
false_true e = cc

first_true : (a b : Bool) → a && b ≡ true → a ≡ true
first_true true b e = refl
first_true false b e = absurd (cc)

second_true : (a b : Bool) → a && b ≡ true → b ≡ true
second_true true b e = e
second_true false b e = absurd (cc)

not_true : (a : Bool) → not a ≡ true → a ≡ true → ⊥
not_true true e f = cc
not_true false e f = cc

-- ---- a head's own test

own_test : (g : KoreSignature) (s : KoreSort) (h : Head) → IsHeadOf g s h → PassesHead g (test_of g h) h
own_test g s integers (own, e, b) = (own, e, subst (λ o. IsBelow g.subsorts own (sort_or_none o)) (sym e) (itself own))
own_test g s booleans (own, e, b) = (own, e, subst (λ o. IsBelow g.subsorts own (sort_or_none o)) (sym e) (itself own))
own_test g s (tokens t) (own, e, b) = (own, e, subst (λ o. IsBelow g.subsorts o t) e.0 (itself t))
own_test g s (constructor_of c) i = refl

head_above : (g : KoreSignature) (a b : KoreSort) (h : Head) → IsBelow g.subsorts a b → IsHeadOf g a h → IsHeadOf g b h
head_above g a b h k (own, e, i) = (own, e, onwards g.subsorts own a b i k)

-- what passes the test of a head of the sort is a head of the sort
passing : (g : KoreSignature) (s : KoreSort) (h k : Head) → IsHeadOf g s h → PassesHead g (test_of g h) k → IsHeadOf g s k
passing g s integers k (own, e, b) p = head_above g own s k b (subst (λ o. IsHeadOf g (sort_or_none o) k) e p)
passing g s booleans k (own, e, b) p = head_above g own s k b (subst (λ o. IsHeadOf g (sort_or_none o) k) e p)
passing g s (tokens t) k (own, e, b) p = head_above g own s k b (subst (λ o. IsHeadOf g o k) e.0 p)
passing g s (constructor_of c) k i p = subst (λ h. IsHeadOf g s h) (sym p) i

-- ---- lists of heads

-- of all heads that pass a test, as a test of all heads
as_test : (keep says : Head → Bool) (hs : List Head) → AllByRecursion (λ h. says h ≡ true) (filter keep hs) → list_all (λ h. not (keep h) || says h) hs ≡ true
as_test keep says [] a = refl
as_test keep says (h ∷ hs) a = by (keep h) (as_test keep says hs) a
  where
    both : (b c : Bool) → b ≡ true → c ≡ true → b && c ≡ true
    both true c e f = f
    both false c e f = absurd (cc)

    by : (b : Bool) → (AllByRecursion (λ h. says h ≡ true) (filter keep hs) → list_all (λ h. not (keep h) || says h) hs ≡ true) → AllByRecursion (λ h. says h ≡ true) (cond b (h ∷ filter keep hs) (filter keep hs)) → (not b || says h) && list_all (λ h. not (keep h) || says h) hs ≡ true
    by true rest a = both (says h) (list_all (λ h. not (keep h) || says h) hs) a.0 (rest a.1)
    by false rest a = rest a

-- what holds of each that is kept
each_kept : (P : Head → Type 0) (keep : Head → Bool) (hs : List Head) → ((h : Head) → keep h ≡ true → P h) → AllByRecursion P (filter keep hs)
each_kept P keep [] f = tt
each_kept P keep (h ∷ hs) f = by (keep h) refl (each_kept P keep hs f)
  where
    by : (b : Bool) → keep h ≡ b → AllByRecursion P (filter keep hs) → AllByRecursion P (cond b (h ∷ filter keep hs) (filter keep hs))
    by true e rest = (f h e, rest)
    by false e rest = rest

kept_still : (P : Head → Type 0) (keep : Head → Bool) (hs : List Head) → AllByRecursion P hs → AllByRecursion P (filter keep hs)
kept_still P keep [] a = tt
kept_still P keep (h ∷ hs) a = by (keep h) (kept_still P keep hs a.1)
  where
    by : (b : Bool) → AllByRecursion P (filter keep hs) → AllByRecursion P (cond b (h ∷ filter keep hs) (filter keep hs))
    by true rest = (a.0, rest)
    by false rest = rest

all_true : (f : Head → Bool) (hs : List Head) → list_all f hs ≡ true → AllByRecursion (λ h. f h ≡ true) hs
all_true f [] e = tt
all_true f (h ∷ hs) e = (first_true (f h) (list_all f hs) e, all_true f hs (second_true (f h) (list_all f hs) e))

true_of_all : (f : Head → Bool) (hs : List Head) → AllByRecursion (λ h. f h ≡ true) hs → list_all f hs ≡ true
true_of_all f [] a = refl
true_of_all f (h ∷ hs) a = ap (λ b. b && list_all f hs) a.0 ∙ true_of_all f hs a.1

not_of : (b : Bool) → (b ≡ true → ⊥) → not b ≡ true
not_of true n = absurd (n refl)
not_of false n = refl

each_weaker : (P Q : Head → Type 0) (hs : List Head) → ((h : Head) → P h → Q h) → AllByRecursion P hs → AllByRecursion Q hs
each_weaker P Q [] f a = tt
each_weaker P Q (h ∷ hs) f a = (f h a.0, each_weaker P Q hs f a.1)

refused : (a b : Bool) → a ≡ true → b ≡ true → not a || not b ≡ true → ⊥
refused true true e f t = cc
refused false b e f t = cc
refused true false e f t = cc

refused_all : (a b c : Bool) → a ≡ true → b ≡ true → c ≡ true → not a || (not b || not c) ≡ true → ⊥
refused_all true b c e f k t = refused b c f k t
refused_all false b c e f k t = cc

-- ---- what the clauses say of a head

abbrev Fails : KoreSignature → Head → Head → Type 0
Fails g k h = ¬ PassesHead g (test_of g h) k

unit_says : (g : KoreSignature) (w : Valuation) (x : SortedName) (h : Head) → IsClauseTrue g w (tested g false x h ∷ []) ↔ Fails g (head_of (w x.name)) h
unit_says g w x h = ((λ t p. t ((λ n. n (λ m. m p)), tt)), (λ n none. none.0 (λ d. d n)))

units_say : (g : KoreSignature) (w : Valuation) (x : SortedName) (hs : List Head) → AreTrue g w (map (λ h. tested g false x h ∷ []) hs) ↔ AllByRecursion (Fails g (head_of (w x.name))) hs
units_say g w x [] = ((λ t. tt), (λ t. tt))
units_say g w x (h ∷ hs) =
    let i = unit_says g w x h in
    let j = units_say g w x hs in
    ((λ t. (i.0 t.0, j.0 t.1)), (λ t. (i.1 t.0, j.1 t.1)))

-- the head passes the other's test, and no shared one's that passes it
abbrev IsRefused : KoreSignature → SortedName → KoreSort → Head → Head → Type 0
IsRefused g x s k h = (¬ ¬ PassesHead g (test_of g h) k) × AllByRecursion (Fails g k) (filter (passes_head g (test_of g h)) (shared_heads g x s))

none_positive : (g : KoreSignature) (w : Valuation) (x : SortedName) (hs : List Head) → AllByRecursion (λ l. ¬ IsLiteralTrue g w l) (map (tested g true x) hs) ↔ AllByRecursion (Fails g (head_of (w x.name))) hs
none_positive g w x [] = ((λ t. tt), (λ t. tt))
none_positive g w x (h ∷ hs) =
    let j = none_positive g w x hs in
    ((λ t. ((λ p. t.0 (λ m. m p)), j.0 t.1)), (λ t. ((λ d. d t.0), j.1 t.1)))

clause_says : (g : KoreSignature) (w : Valuation) (x : SortedName) (s : KoreSort) (h : Head) → IsClauseTrue g w (tested g false x h ∷ map (tested g true x) (filter (passes_head g (test_of g h)) (shared_heads g x s))) ↔ (¬ IsRefused g x s (head_of (w x.name)) h)
clause_says g w x s h =
    let j = none_positive g w x (filter (passes_head g (test_of g h)) (shared_heads g x s)) in (
      (λ t n. t ((λ l. l n.0), j.1 n.1)),
      (λ f none. f ((λ m. none.0 (λ d. d m)), j.0 none.1)),
    )

clauses_say : (g : KoreSignature) (w : Valuation) (x : SortedName) (s : KoreSort) (hs : List Head) → AreTrue g w (map (λ h. tested g false x h ∷ map (tested g true x) (filter (passes_head g (test_of g h)) (shared_heads g x s))) hs) ↔ AllByRecursion (λ h. ¬ IsRefused g x s (head_of (w x.name)) h) hs
clauses_say g w x s [] = ((λ t. tt), (λ t. tt))
clauses_say g w x s (h ∷ hs) =
    let i = clause_says g w x s h in
    let j = clauses_say g w x s hs in
    ((λ t. (i.0 t.0, j.0 t.1)), (λ t. (i.1 t.0, j.1 t.1)))

-- ---- of a value of the variable's sort

abbrev passes : KoreSignature → Head → Head → Bool
passes g k h = passes_head g (test_of g h) k

none_shared : (g : KoreSignature) (a s : KoreSort) (k : Head) → IsHeadOf g a k → IsHeadOf g s k → ¬ AllByRecursion (Fails g k) (filter (is_head g s) (heads_of g a))
none_shared g a s k i j all =
    refused (is_head g s k) (passes g k k) ((is_head-Decides g s k).1 j) ((passes-Decides g (test_of g k) k).1 (own_test g s k j))
    (passed_by_heads g a k (λ h. not (is_head g s h) || not (passes g k h))
    (as_test (is_head g s) (λ h. not (passes g k h)) (heads_of g a) (each_weaker (Fails g k) (λ h. not (passes g k h) ≡ true) (filter (is_head g s) (heads_of g a)) (λ h n. not_of (passes g k h) (λ e. n ((passes-Decides g (test_of g h) k).0 e))) all)) i)

pub outside_says : (g : KoreSignature) (w : Valuation) (x : SortedName) (s : KoreSort) → HasSort g x.sort (w x.name) → AreTrue g w (heads_outside g x s) ↔ (¬ IsHeadOf g s (head_of (w x.name)))
outside_says g w x s h =
    let once = once_says g w (map (λ h. tested g false x h ∷ []) (shared_heads g x s)) in
    let units = units_say g w x (shared_heads g x s) in (
      (λ t j. none_shared g x.sort s (head_of (w x.name)) (head_from_sort g x.sort (w x.name) h) j (units.0 (once.0 t))),
      (λ n. once.1 (units.1 (each_kept (Fails g (head_of (w x.name))) (is_head g s) (heads_of g x.sort) (λ k e p. n (passing g s k (head_of (w x.name)) ((is_head-Decides g s k).0 e) p))))),
    )

-- the shared heads that pass another's test don't all fail
shared_passes : (g : KoreSignature) (x : SortedName) (s : KoreSort) (k h : Head) → IsHeadOf g x.sort k → IsHeadOf g s k → PassesHead g (test_of g h) k → ¬ AllByRecursion (Fails g k) (filter (passes_head g (test_of g h)) (shared_heads g x s))
shared_passes g x s k h i j p all =
    let of_test = passes_head g (test_of g h) in
    let inner : list_all (λ m. not (of_test m) || not (passes g k m)) (shared_heads g x s) ≡ true = as_test of_test (λ m. not (passes g k m)) (shared_heads g x s)
    (each_weaker (Fails g k) (λ m. not (passes g k m) ≡ true) (filter of_test (shared_heads g x s)) (λ m n. not_of (passes g k m) (λ e. n ((passes-Decides g (test_of g m) k).0 e))) all) in
    refused_all (is_head g s k) (of_test k) (passes g k k) ((is_head-Decides g s k).1 j) ((passes-Decides g (test_of g h) k).1 p) ((passes-Decides g (test_of g k) k).1 (own_test g s k j))
    (passed_by_heads g x.sort k (λ m. not (is_head g s m) || (not (of_test m) || not (passes g k m)))
    (as_test (is_head g s) (λ m. not (of_test m) || not (passes g k m)) (heads_of g x.sort) (all_true (λ m. not (of_test m) || not (passes g k m)) (shared_heads g x s) inner)) i)

abbrev refuses : KoreSignature → SortedName → KoreSort → Head → Head → Bool
refuses g x s k h = passes g k h && list_all (λ m. not (passes g k m)) (filter (passes_head g (test_of g h)) (shared_heads g x s))

refuses_says : (g : KoreSignature) (x : SortedName) (s : KoreSort) (k h : Head) → refuses g x s k h ≡ true → IsRefused g x s k h
refuses_says g x s k h e =
    let kept = filter (passes_head g (test_of g h)) (shared_heads g x s) in
    let all = list_all (λ m. not (passes g k m)) kept in
    let p : PassesHead g (test_of g h) k = (passes-Decides g (test_of g h) k).0 (first_true (passes g k h) all e) in
    ((λ n. n p), each_weaker (λ m. not (passes g k m) ≡ true) (Fails g k) kept (λ m f q. not_true (passes g k m) f ((passes-Decides g (test_of g m) k).1 q)) (all_true (λ m. not (passes g k m)) kept (second_true (passes g k h) all e)))

none_passes : (g : KoreSignature) (x : SortedName) (s : KoreSort) (k h : Head) → (¬ IsHeadOf g s k) → list_all (λ m. not (passes g k m)) (filter (passes_head g (test_of g h)) (shared_heads g x s)) ≡ true
none_passes g x s k h n =
    let fails : (m : Head) → is_head g s m ≡ true → not (passes g k m) ≡ true = λ m e. not_of (passes g k m) (λ p. n (passing g s m k ((is_head-Decides g s m).0 e) ((passes-Decides g (test_of g m) k).0 p))) in
    true_of_all (λ m. not (passes g k m)) (filter (passes_head g (test_of g h)) (shared_heads g x s)) (kept_still (λ m. not (passes g k m) ≡ true) (passes_head g (test_of g h)) (shared_heads g x s) (each_kept (λ m. not (passes g k m) ≡ true) (is_head g s) (heads_of g x.sort) fails))

some_other : (g : KoreSignature) (x : SortedName) (s : KoreSort) (k : Head) → IsHeadOf g x.sort k → AllByRecursion (λ h. ¬ IsRefused g x s k h) (other_heads g x s) → IsHeadOf g s k
some_other g x s k i all = by (is_head g s k) refl
  where
    at_own : (¬ IsHeadOf g s k) → refuses g x s k k ≡ true
    at_own n = ap (λ b. b && list_all (λ m. not (passes g k m)) (filter (passes_head g (test_of g k)) (shared_heads g x s))) ((passes-Decides g (test_of g k) k).1 (own_test g x.sort k i)) ∙ none_passes g x s k k n

    by : (b : Bool) → is_head g s k ≡ b → IsHeadOf g s k
    by true e = (is_head-Decides g s k).0 e
    by false e =
        let n : ¬ IsHeadOf g s k = λ j. false_true (sym e ∙ (is_head-Decides g s k).1 j) in
        absurd (refused (not (is_head g s k)) (refuses g x s k k) (ap not e) (at_own n)
        (passed_by_heads g x.sort k (λ h. not (not (is_head g s h)) || not (refuses g x s k h))
        (as_test (λ h. not (is_head g s h)) (λ h. not (refuses g x s k h)) (heads_of g x.sort)
        (each_weaker (λ h. ¬ IsRefused g x s k h) (λ h. not (refuses g x s k h) ≡ true) (other_heads g x s) (λ h f. not_of (refuses g x s k h) (λ t. f (refuses_says g x s k h t))) all)) i))

pub inside_says : (g : KoreSignature) (w : Valuation) (x : SortedName) (s : KoreSort) → HasSort g x.sort (w x.name) → AreTrue g w (heads_inside g x s) ↔ IsHeadOf g s (head_of (w x.name))
inside_says g w x s h =
    let k = head_of (w x.name) in
    let i : IsHeadOf g x.sort k = head_from_sort g x.sort (w x.name) h in
    let once = once_says g w (map (λ h. tested g false x h ∷ map (tested g true x) (filter (passes_head g (test_of g h)) (shared_heads g x s))) (other_heads g x s)) in
    let clauses = clauses_say g w x s (other_heads g x s) in (
      (λ t. some_other g x s k i (clauses.0 (once.0 t))),
      (λ j. once.1 (clauses.1 (each_kept (λ h. ¬ IsRefused g x s k h) (λ h. not (is_head g s h)) (heads_of g x.sort) (λ h e r. r.0 (λ p. shared_passes g x s k h i j p r.1))))),
    )

-- ---- the narrowing

pub heads_narrow : (g : KoreSignature) (scope : List SortedName) (x : SortedName) (s : KoreSort) → IsWithin g (x ∷ []) scope → IsNarrowing g scope [] (heads_inside g x s) (heads_outside g x s)
heads_narrow g scope x s i = record {
  either = λ v h. by v h (is_head g s (head_of (v x.name))) refl;
  determined = λ w y h k e t u. tt;
  not_both = λ w y h k e t o.
      (outside_says g y x s (i.sorts y k).0).0 o
      (subst (λ u. IsHeadOf g s (head_of u)) (sym (i.agree w y e).0) ((inside_says g w x s (i.sorts w (all_first (λ z. HasSort g z.sort (w z.name)) scope [] h)).0).0 t));
}
  where
    by : (v : Valuation) → GivesSorts g v scope → (b : Bool) → is_head g s (head_of (v x.name)) ≡ b → IsMade g scope [] (heads_inside g x s) v ⊎ AreTrue g v (heads_outside g x s)
    by v h true e = inl (record {
      chosen = v;
      extends = record { agrees = agrees_itself scope v; sorts = all_both (λ z. HasSort g z.sort (v z.name)) scope [] h tt };
      are_true = (inside_says g v x s (i.sorts v h).0).1 ((is_head-Decides g s (head_of (v x.name))).0 e);
    })
    by v h false e = inr ((outside_says g v x s (i.sorts v h).0).1 (λ k. false_true (sym e ∙ (is_head-Decides g s (head_of (v x.name))).1 k)))
