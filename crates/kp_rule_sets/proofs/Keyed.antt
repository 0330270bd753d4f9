-- Sorted keys are turns.
use Rattle.std.proofs.Common.{◌≡◌, refl, sym, ap, subst, ◌∙◌, ℕ, zero, suc, ◌+◌, ◌*◌, ◌^◌, ◌%◌, ◌<◌, ◌≤◌, Bool, true, false, cond, not, ◌&&◌, ◌||◌, ◌==◌, List, [], ◌∷◌, ◌++◌, length, take, map, get_or, slice_get, count_by, nat_lt, arith, tests, ◌≢◌, slice_index_or}
use Rattle.std.specs.List.{list_all}
use Rattle.std.specs.List.Sorted.{IsPermutation, IsNonDecreasingBy, IsSortedByKey}
use Rattle.std.specs.Ordering.{nat_cmp}
use Rattle.std.specs.List.{list_any}
use Rattle.std.proofs.Math.Nat.{add-mul, mod-lt, mul-le-mul_right}
use Rattle.std.proofs.lemmas.Nat.{mod-mul-add}
use Rattle.std.proofs.lemmas.Bool.Decides.{Decides-eqb, Decides-ltb}
use Rattle.std.proofs.lemmas.List.Sorted.{IsNonDecreasingBy-from_sort, IsNonDecreasingBy-drop, sum_by-IsPermutation, list_any-IsPermutation}
use Rattle.std.proofs.lemmas.List.{take_more, length-take-le}
use Rattle.std.proofs.lemmas.List.Sums.{sum_by-cons}
use Rattle.kp_rules.specs.declared.rule.Rule.{Rule}
use Rattle.kp_rule_sets.specs.Turns.{is_mine, number_of, goes_before, are_ordered, AreInTurn}
use Rattle.kp_rule_sets.specs.Keys.{key, keys_from}

-- ---- one key more

pub keys_push : (n : ℕ) (rules : List Rule) (r : Rule) → keys_from n (rules ++ r ∷ []) ≡ keys_from n rules ++ key r.priority (n + length rules) ∷ []
keys_push n [] r = ap (λ k. key r.priority k ∷ []) (let same : n ≡ n + 0 = omega arith in same)
keys_push n (q ∷ rules) r = ap (λ l. key q.priority n ∷ l) (keys_push (suc n) rules r ∙ ap (λ k. keys_from (suc n) rules ++ key r.priority k ∷ []) (let same : suc n + length rules ≡ n + suc (length rules) = omega arith in same))

-- one rule further
pub keys_more : (rules : List Rule) (n : ℕ) (r : Rule) (k : ℕ) (old new : List ℕ) → n < length rules → r ≡ get_or rules n r → old ≡ keys_from 0 (take n rules) → k ≡ key r.priority n → new ≡ old ++ k ∷ [] → new ≡ keys_from 0 (take (n + 1) rules)
keys_more rules n r k old new h is before e after =
    let place : 0 + length (take n rules) ≡ n = (let z : (m : ℕ) → 0 + m ≡ m = λ m. omega arith in z (length (take n rules))) ∙ length-take-le n rules (let le : n ≤ length rules = omega arith in le) in
    after
    ∙ ap (λ l. l ++ k ∷ []) before
    ∙ ap (λ m. keys_from 0 (take n rules) ++ m ∷ []) (e ∙ ap (key r.priority) (sym place))
    ∙ sym (keys_push 0 (take n rules) r)
    ∙ ap (keys_from 0) (sym (take_more rules n r h ∙ ap (λ q. take n rules ++ q ∷ []) (sym is)))

-- ---- numbers

plus_none : (m : ℕ) → 0 + m ≡ m
plus_none m = omega arith

no_more : (n : ℕ) → n ≡ n + 0
no_more n = omega arith

next : (n : ℕ) → n + 0 < suc n
next n = omega arith

room : (n k w : ℕ) → n + suc k ≤ w → n < w
room n k w h = omega arith

one_on : (n k w : ℕ) → n + suc k ≤ w → suc n + k ≤ w
one_on n k w h = omega arith

later : (i n : ℕ) → i < n → i < suc n
later i n h = omega arith

not_same : (i n : ℕ) → i < n → n ≡ i → ⊥
not_same i n h e = omega arith

further : (n m : ℕ) → n ≡ n + suc m → ⊥
further n m e = omega arith

shifted : (n m : ℕ) → n + suc m ≡ suc n + m
shifted n m = omega arith

too_far : (a x y : ℕ) → y < x → a + x ≤ a + y → ⊥
too_far a x y h k = omega arith

too_large : (w a b x y : ℕ) → y < w → 1 * w + b ≤ a → a + x ≤ b + y → ⊥
too_large w a b x y h k l = omega arith

positive : (n : ℕ) → 0 < suc n
positive n = omega arith

further_on : (j n : ℕ) → j < n → suc j < suc n
further_on j n h = omega arith

nothing_less : (n : ℕ) → 0 ≤ n
nothing_less n = omega arith

no_larger : (n w : ℕ) → n < w → 0 + n ≤ w
no_larger n w h = omega arith

-- ---- the place of a key

abbrev pub place : ℕ → ℕ
place k = k % 2 ^ 64

place_of_key : (a n : ℕ) → n < 2 ^ 64 → place (key a n) ≡ n
place_of_key a n h = mod-mul-add a (2 ^ 64) n h

-- ---- how often a place stands among those of the keys

counted_map : (i : ℕ) (ks : List ℕ) → count_by (λ j. j == i) (map place ks) ≡ count_by (λ k. place k == i) ks
counted_map i [] = refl
counted_map i (k ∷ ks) = sum_by-cons (λ j. cond (j == i) 1 0) (place k) (map place ks) ∙ ap (λ n. cond (place k == i) 1 0 + n) (counted_map i ks) ∙ sym (sum_by-cons (λ l. cond (place l == i) 1 0) k ks)

apart : (x i : ℕ) → x ≢ i → (x == i) ≡ false
apart x i far = by (x == i) refl
  where
    by : (b : Bool) → (x == i) ≡ b → b ≡ false
    by false e = refl
    by true e = absurd (far ((Decides-eqb x i).0 e))

one_count : (i a n : ℕ) (ks : List ℕ) (b : Bool) → n < 2 ^ 64 → (n == i) ≡ b → count_by (λ k. place k == i) (key a n ∷ ks) ≡ cond b 1 0 + count_by (λ k. place k == i) ks
one_count i a n ks b h e = sum_by-cons (λ k. cond (place k == i) 1 0) (key a n) ks ∙ ap (λ c. cond c 1 0 + count_by (λ k. place k == i) ks) (ap (λ x. x == i) (place_of_key a n h) ∙ e)

none_below : (n : ℕ) (rules : List Rule) (i : ℕ) → i < n → n + length rules ≤ 2 ^ 64 → count_by (λ k. place k == i) (keys_from n rules) ≡ 0
none_below n [] i h l = refl
none_below n (r ∷ rules) i h l =
    one_count i r.priority n (keys_from (suc n) rules) false (room n (length rules) (2 ^ 64) l) (apart n i (λ e. not_same i n h e))
    ∙ plus_none (count_by (λ k. place k == i) (keys_from (suc n) rules))
    ∙ none_below (suc n) rules i (later i n h) (one_on n (length rules) (2 ^ 64) l)

once : (n : ℕ) (rules : List Rule) (m : ℕ) → n + length rules ≤ 2 ^ 64 → count_by (λ k. place k == n + m) (keys_from n rules) ≡ cond (is_mine (λ _. true) (slice_get rules m)) 1 0
once n [] m l = refl
once n (r ∷ rules) zero l =
    one_count (n + 0) r.priority n (keys_from (suc n) rules) true (room n (length rules) (2 ^ 64) l) ((Decides-eqb n (n + 0)).1 (no_more n))
    ∙ ap (λ c. 1 + c) (none_below (suc n) rules (n + 0) (next n) (one_on n (length rules) (2 ^ 64) l))
once n (r ∷ rules) (suc m) l =
    one_count (n + suc m) r.priority n (keys_from (suc n) rules) false (room n (length rules) (2 ^ 64) l) (apart n (n + suc m) (λ e. further n m e))
    ∙ plus_none (count_by (λ k. place k == n + suc m) (keys_from (suc n) rules))
    ∙ ap (λ i. count_by (λ k. place k == i) (keys_from (suc n) rules)) (shifted n m)
    ∙ once (suc n) rules m (one_on n (length rules) (2 ^ 64) l)

-- ---- keys are those of the rules at their places

abbrev is_good : List Rule → ℕ → Bool
is_good rules k = k == key (number_of (slice_get rules (place k))) (place k)

-- where the rules from a place on are these
good_from : (all rules : List Rule) (n : ℕ) → n + length rules ≤ 2 ^ 64 → ((m : ℕ) → slice_get all (n + m) ≡ slice_get rules m) → list_any (λ k. not (is_good all k)) (keys_from n rules) ≡ false
good_from all [] n l same = refl
good_from all (r ∷ rules) n l same =
    let here : place (key r.priority n) ≡ n = place_of_key r.priority n (room n (length rules) (2 ^ 64) l) in
    let found : number_of (slice_get all (place (key r.priority n))) ≡ r.priority = ap (λ i. number_of (slice_get all i)) (here ∙ no_more n) ∙ ap number_of (same 0) in
    let good : is_good all (key r.priority n) ≡ true = (Decides-eqb (key r.priority n) (key (number_of (slice_get all (place (key r.priority n)))) (place (key r.priority n)))).1 (sym (ap (λ a. key a (place (key r.priority n))) found ∙ ap (key r.priority) here)) in
    ap (λ b. not b || list_any (λ k. not (is_good all k)) (keys_from (suc n) rules)) good
    ∙ good_from all rules (suc n) (one_on n (length rules) (2 ^ 64) l) (λ m. ap (slice_get all) (sym (shifted n m)) ∙ same (suc m))

-- ---- in order

not_before : (w a x b y : ℕ) → y < w → a * w + x ≤ b * w + y → (nat_lt b a || (b == a && nat_lt y x)) ≡ false
not_before w a x b y h le = by (nat_lt b a) (b == a) (nat_lt y x) refl refl refl
  where
    by : (p q r : Bool) → nat_lt b a ≡ p → (b == a) ≡ q → nat_lt y x ≡ r → (p || (q && r)) ≡ false
    by false false r e f k = refl
    by false true false e f k = refl
    by false true true e f k =
        let same : b ≡ a = (Decides-eqb b a).0 f in
        let less : y < x = (Decides-ltb y x).0 k in
        absurd (too_far (a * w) x y less (subst (λ c. a * w + x ≤ c * w + y) same le))
    by true q r e f k =
        let less : b < a = (Decides-ltb b a).0 e in
        let one_up : 1 + b ≤ a = omega arith in
        absurd (too_large w (a * w) (b * w) x y h (subst (λ m. m ≤ a * w) (add-mul 1 b w) (mul-le-mul_right w one_up)) le)

good_order : (rules : List Rule) (k l : ℕ) → is_good rules k ≡ true → is_good rules l ≡ true → k ≤ l → not (goes_before rules (place l) (place k)) ≡ true
good_order rules k l g h le =
    ap not (not_before (2 ^ 64) (number_of (slice_get rules (place k))) (place k) (number_of (slice_get rules (place l))) (place l) (mod-lt l (search tests))
    (subst (λ m. m ≤ key (number_of (slice_get rules (place l))) (place l)) ((Decides-eqb k (key (number_of (slice_get rules (place k))) (place k))).0 g)
    (subst (λ m. k ≤ m) ((Decides-eqb l (key (number_of (slice_get rules (place l))) (place l))).0 h) le)))

-- k is at most each of the numbers
abbrev is_least : ℕ → List ℕ → Type 0
is_least k ls = (j d : ℕ) → j < length ls → k ≤ slice_index_or ls j d

all_after : (rules : List Rule) (k : ℕ) (ls : List ℕ) → is_good rules k ≡ true → list_any (λ l. not (is_good rules l)) ls ≡ false → is_least k ls → list_all (λ j. not (goes_before rules j (place k))) (map place ls) ≡ true
all_after rules k [] g good least = refl
all_after rules k (l ∷ ls) g good least = by (λ h. all_after rules k ls g h (λ j d lt. least (suc j) d (further_on j (length ls) lt))) (is_good rules l) refl good
  where
    by : (list_any (λ l. not (is_good rules l)) ls ≡ false → list_all (λ j. not (goes_before rules j (place k))) (map place ls) ≡ true) → (b : Bool) → is_good rules l ≡ b → (not b || list_any (λ l. not (is_good rules l)) ls) ≡ false → list_all (λ j. not (goes_before rules j (place k))) (map place (l ∷ ls)) ≡ true
    by rest true e h = ap (λ b. b && list_all (λ j. not (goes_before rules j (place k))) (map place ls)) (good_order rules k l g e (least 0 l (positive (length ls)))) ∙ rest h
    by rest false e h = absurd (cc)

ordered : (rules : List Rule) (ks : List ℕ) → list_any (λ k. not (is_good rules k)) ks ≡ false → IsNonDecreasingBy (λ k. k) ks → are_ordered rules (map place ks) ≡ true
ordered rules [] good rises = refl
ordered rules (k ∷ ks) good rises = by (λ h. ordered rules ks h (IsNonDecreasingBy-drop (λ l. l) 1 (k ∷ ks) rises)) (is_good rules k) refl good
  where
    by : (list_any (λ l. not (is_good rules l)) ks ≡ false → are_ordered rules (map place ks) ≡ true) → (b : Bool) → is_good rules k ≡ b → (not b || list_any (λ l. not (is_good rules l)) ks) ≡ false → are_ordered rules (map place (k ∷ ks)) ≡ true
    by rest true e h = ap (λ b. b && are_ordered rules (map place ks)) (all_after rules k ks e h (λ j d lt. rises 0 (suc j) d (nothing_less (suc j)) (further_on j (length ks) lt))) ∙ rest h
    by rest false e h = absurd (cc)

-- ---- the turns

pub turns : (rules : List Rule) (ks : List ℕ) → length rules < 2 ^ 64 → IsPermutation (keys_from 0 rules) ks → IsSortedByKey (λ k. k) nat_cmp ks → AreInTurn rules (λ _. true) (map place ks)
turns rules ks small same rises = record {
  exact = λ i. counted_map i ks ∙ sum_by-IsPermutation (λ k. cond (place k == i) 1 0) (keys_from 0 rules) ks same ∙ ap (λ j. count_by (λ k. place k == j) (keys_from 0 rules)) (sym (plus_none i)) ∙ once 0 rules i (no_larger (length rules) (2 ^ 64) small);
  ordered = ordered rules ks
      (sym (list_any-IsPermutation (λ k. not (is_good rules k)) (keys_from 0 rules) ks same) ∙ good_from rules rules 0 (no_larger (length rules) (2 ^ 64) small) (λ m. ap (slice_get rules) (plus_none m)))
      (IsNonDecreasingBy-from_sort (λ k. k) ks rises);
}
