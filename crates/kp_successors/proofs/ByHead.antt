-- What the rules that may have a value's head come to is what all rules come to. Of one priority number, turns are the
-- order of places.
use Rattle.std.proofs.Common.{◌≡◌, ◌≢◌, refl, sym, ap, subst, ◌∙◌, arith, ℕ, zero, suc, ◌+◌, ◌<◌, ◌≤◌, Bool, true, false, not, ◌&&◌, ◌||◌, ◌==◌, nat_lt, List, [], ◌∷◌, ◌++◌, map, Option, Some, None, slice_get, inl, inr, ◌⊎◌}
use Rattle.std.specs.Prelude.{⊤}
use Rattle.std.specs.List.{AllByRecursion, list_all}
use Rattle.std.proofs.lemmas.Bool.Decides.{Decides-eqb, Decides-ltb}
use Rattle.std.proofs.lemmas.List.{append-nil}
use Rattle.kp_kore.specs.Syntax.{KorePattern}
use Rattle.kp_kore.specs.Signature.{KoreSignature}
use Rattle.kp_kore.specs.Value.{Value}
use Rattle.kp_rules.specs.declared.rule.Rule.{Rule}
use Rattle.kp_rules.specs.declared.rule.RuleBody.{RuleBody}
use Rattle.kp_rules.specs.declared.rule.RuleBody.TheVariants.{Rewrite, Foreign}
use Rattle.kp_rule_sets.specs.Tops.{may_have, top_of}
use Rattle.kp_rule_sets.specs.Turns.{number_of, goes_before, are_ordered, AreInTurn, with_first, rules_among}
use Rattle.kp_rule_sets.proofs.Chosen.{times, times_cons, times_on, times_here, times_more, some_none, first_same, stands, all_back, any_back}
use Rattle.kp_run.specs.Turns.{BodyFires, FiresAt}
use Rattle.kp_run.proofs.Chosen.{others_rest, at_most_once}
use Rattle.kp_run.proofs.Turning.{at_most_or_beyond}
use Rattle.kp_successors.specs.Turns.{RightIsWide, Follows, IsWideAt, IsLeast, AreNexts}

-- ---- the least priority number, and wide right terms

pub least_back : (g : KoreSignature) (u : Value) (rules : List Rule) (places : List ℕ) (o : Option ℕ) → AreInTurn rules (may_have (top_of u)) places → IsLeast g u (rules_among rules places) o → IsLeast g u rules o
least_back g u rules places None at is = all_back (λ r. ¬ BodyFires g u r.body.value) rules (may_have (top_of u)) places at (others_rest g u) is
least_back g u rules places (Some n) at is = (all_back (λ r. BodyFires g u r.body.value → n ≤ r.priority) rules (may_have (top_of u)) places at (λ r isnt b. absurd (others_rest g u r isnt b)) is.0, any_back (FiresAt g u n) rules places is.1)

right_fires : (g : KoreSignature) (u : Value) (b : RuleBody) → RightIsWide g u b → BodyFires g u b
right_fires g u (Rewrite r) w = (w.0, w.1)
right_fires g u (Foreign k) w = w

pub right_back : (g : KoreSignature) (u : Value) (n : ℕ) (rules : List Rule) (places : List ℕ) → AreInTurn rules (may_have (top_of u)) places → AllByRecursion (λ r. ¬ IsWideAt g u n r) (rules_among rules places) → AllByRecursion (λ r. ¬ IsWideAt g u n r) rules
right_back g u n rules places at all = all_back (λ r. ¬ IsWideAt g u n r) rules (may_have (top_of u)) places at (λ r isnt w. others_rest g u r isnt (right_fires g u r.body.value w.1)) all

-- ---- numbers

not_less : (i : ℕ) → i < 0 → ⊥
not_less i h = omega arith

one_less : (i k : ℕ) → suc i ≡ suc k → i ≡ k
one_less i k e = omega arith

less_up : (i k : ℕ) → suc i < suc k → i < k
less_up i k h = omega arith

positive : (n : ℕ) → 0 < suc n
positive n = omega arith

above_zero : (i k : ℕ) → i < k → 0 < k
above_zero i k h = omega arith

same_of_both : (x j : ℕ) → x ≤ j → j ≤ x → x ≡ j
same_of_both x j h k = omega arith

yes_and_no : {b : Bool} → b ≡ true → b ≡ false → ⊥
yes_and_no y n = absurd (cc)

same_up : (y i : ℕ) (b : Bool) → (y == i) ≡ b → (suc y == suc i) ≡ b
same_up y i true e = (Decides-eqb (suc y) (suc i)).1 (ap suc ((Decides-eqb y i).0 e))
same_up y i false e = by (suc y == suc i) refl
  where
    by : (b : Bool) → (suc y == suc i) ≡ b → b ≡ false
    by false f = refl
    by true f = absurd (yes_and_no ((Decides-eqb y i).1 (one_less y i ((Decides-eqb (suc y) (suc i)).0 f))) e)

differs : (x y : ℕ) → (y == x) ≡ false → (x == y) ≡ false
differs x y e = by (x == y) refl
  where
    by : (b : Bool) → (x == y) ≡ b → b ≡ false
    by false f = refl
    by true f = absurd (yes_and_no ((Decides-eqb y x).1 (sym ((Decides-eqb x y).0 f))) e)

zero_up : (i : ℕ) → (zero == suc i) ≡ false
zero_up i = by (zero == suc i) refl
  where
    wrong : (i : ℕ) → zero ≡ suc i → ⊥
    wrong i e = omega arith

    by : (b : Bool) → (zero == suc i) ≡ b → b ≡ false
    by false f = refl
    by true f = absurd (wrong i ((Decides-eqb zero (suc i)).0 f))

-- ---- places that ascend

abbrev pub Ascend : List ℕ → Type 0
Ascend [] = ⊤
Ascend (y ∷ ys) = AllByRecursion (λ j. y < j) ys × Ascend ys

abbrev ArePositive : List ℕ → Type 0
ArePositive = AllByRecursion (λ j. 0 < j)

all_positive : (y : ℕ) (ys : List ℕ) → AllByRecursion (λ j. y < j) ys → ArePositive ys
all_positive y [] a = tt
all_positive y (z ∷ ys) a = (above_zero y z a.0, all_positive y ys a.1)

-- one less each
abbrev one_down : ℕ → ℕ
one_down zero = zero
one_down (suc n) = n

abbrev down : List ℕ → List ℕ
down = map one_down

less_down : (y : ℕ) (ys : List ℕ) → ArePositive ys → AllByRecursion (λ j. suc y < j) ys → AllByRecursion (λ j. y < j) (down ys)
less_down y [] p a = tt
less_down y (zero ∷ ys) p a = absurd (not_less 0 p.0)
less_down y (suc z ∷ ys) p a = (less_up y z a.0, less_down y ys p.1 a.1)

ascend_down : (ys : List ℕ) → ArePositive ys → Ascend ys → Ascend (down ys)
ascend_down [] p a = tt
ascend_down (zero ∷ ys) p a = absurd (not_less 0 p.0)
ascend_down (suc y ∷ ys) p a = (less_down y ys p.1 a.0, ascend_down ys p.1 a.1)

times_down : (i : ℕ) (ys : List ℕ) → ArePositive ys → times i (down ys) ≡ times (suc i) ys
times_down i [] p = refl
times_down i (zero ∷ ys) p = absurd (not_less 0 p.0)
times_down i (suc y ∷ ys) p = by (times_down i ys p.1) (y == i) refl
  where
    by : times i (down ys) ≡ times (suc i) ys → (b : Bool) → (y == i) ≡ b → times i (y ∷ down ys) ≡ times (suc i) (suc y ∷ ys)
    by rest true e = times_cons i y (down ys) true e ∙ ap (λ m. 1 + m) rest ∙ sym (times_cons (suc i) (suc y) ys true (same_up y i true e))
    by rest false e = times_cons i y (down ys) false e ∙ ap (λ m. 0 + m) rest ∙ sym (times_cons (suc i) (suc y) ys false (same_up y i false e))

none_at_zero : (ys : List ℕ) → ArePositive ys → times 0 ys ≡ 0
none_at_zero [] p = refl
none_at_zero (zero ∷ ys) p = absurd (not_less 0 p.0)
none_at_zero (suc y ∷ ys) p = times_cons 0 (suc y) ys false (differs (suc y) 0 (zero_up y)) ∙ (let rest : times 0 ys ≡ 0 = none_at_zero ys p.1 in let none : 0 + times 0 ys ≡ 0 = omega arith in none)

-- ---- the places of the patterns

pub record IsNextAt (g : KoreSignature) (u : Value) (n : ℕ) (rules : List Rule) (place : ℕ) (p : KorePattern) : Type 0 where
  pub rule : Rule
  pub is : slice_get rules place ≡ Some rule
  pub fires : FiresAt g u n rule
  pub follows : Follows g u rule.body.value p

abbrev pub StandAt : KoreSignature → Value → ℕ → List Rule → List ℕ → List KorePattern → Type 0
StandAt g u n rules [] ps = ps ≡ []
StandAt g u n rules (y ∷ ys) [] = ⊥
StandAt g u n rules (y ∷ ys) (p ∷ ps) = IsNextAt g u n rules y p × StandAt g u n rules ys ps

stand_down : (g : KoreSignature) (u : Value) (n : ℕ) (r : Rule) (rules : List Rule) (ys : List ℕ) (ps : List KorePattern) → ArePositive ys → StandAt g u n (r ∷ rules) ys ps → StandAt g u n rules (down ys) ps
stand_down g u n r rules [] ps p s = s
stand_down g u n r rules (zero ∷ ys) ps p s = absurd (not_less 0 p.0)
stand_down g u n r rules (suc y ∷ ys) [] p s = absurd s
stand_down g u n r rules (suc y ∷ ys) (q ∷ ps) p s = (record { rule = s.0.rule; is = s.0.is; fires = s.0.fires; follows = s.0.follows }, stand_down g u n r rules ys ps p.1 s.1)

numbers : (g : KoreSignature) (u : Value) (n : ℕ) (rules : List Rule) (ys : List ℕ) (ps : List KorePattern) → StandAt g u n rules ys ps → AllByRecursion (λ j. number_of (slice_get rules j) ≡ n) ys
numbers g u n rules [] ps s = tt
numbers g u n rules (y ∷ ys) [] s = absurd s
numbers g u n rules (y ∷ ys) (p ∷ ps) s = (ap number_of s.0.is ∙ s.0.fires.1, numbers g u n rules ys ps s.1)

-- where they ascend, and no other rule fires with this number, they are those of all rules in order
in_order : (g : KoreSignature) (u : Value) (n : ℕ) (rules : List Rule) (ys : List ℕ) (ps : List KorePattern) → Ascend ys → StandAt g u n rules ys ps →
    ((i : ℕ) (r : Rule) → slice_get rules i ≡ Some r → times i ys ≡ 0 → ¬ FiresAt g u n r) → AreNexts g u n rules ps
in_order g u n [] [] ps a s rest = s
in_order g u n [] (y ∷ ys) [] a s rest = absurd s
in_order g u n [] (y ∷ ys) (p ∷ ps) a s rest = absurd (some_none (sym s.0.is))
in_order g u n (r ∷ rules) [] ps a s rest = inl (rest 0 r refl refl, in_order g u n rules [] ps tt s (λ i q is none. rest (suc i) q is refl))
in_order g u n (r ∷ rules) (zero ∷ ys) [] a s rest = absurd s
in_order g u n (r ∷ rules) (zero ∷ ys) (p ∷ ps) a s rest = inr (
  subst (FiresAt g u n) (sym (first_same s.0.is)) s.0.fires,
  (
    subst (λ (q : Rule). Follows g u q.body.value p) (sym (first_same s.0.is)) s.0.follows,
    in_order g u n rules (down ys) ps (ascend_down ys above a.1) (stand_down g u n r rules ys ps above s.1) (λ i q is none. rest (suc i) q is (far i none)),
  ),
)
  where
    above : ArePositive ys
    above = all_positive 0 ys a.0

    far : (i : ℕ) → times i (down ys) ≡ 0 → times (suc i) (zero ∷ ys) ≡ 0
    far i none = times_cons (suc i) zero ys false (zero_up i) ∙ (let same : times (suc i) ys ≡ 0 = sym (times_down i ys above) ∙ none in let z : 0 + times (suc i) ys ≡ 0 = omega arith in z)
in_order g u n (r ∷ rules) (suc y ∷ ys) ps a s rest = inl (
  rest 0 r refl (none_at_zero (suc y ∷ ys) above),
  in_order g u n rules (down (suc y ∷ ys)) ps (ascend_down (suc y ∷ ys) above a) (stand_down g u n r rules (suc y ∷ ys) ps above s) (λ i q is none. rest (suc i) q is (sym (times_down i (suc y ∷ ys) above) ∙ none)),
)
  where
    above : ArePositive (suc y ∷ ys)
    above = (positive y, all_positive (suc y) ys a.0)

-- ---- those that were found along the turns

pub record AreFound (g : KoreSignature) (u : Value) (n : ℕ) (rules : List Rule) (xs : List ℕ) (ps : List KorePattern) : Type 0 where
  pub places : List ℕ
  pub stand : StandAt g u n rules places ps
  pub ascend : Ascend places
  pub within : (q : ℕ → Bool) → list_all q xs ≡ true → AllByRecursion (λ j. q j ≡ true) places
  pub others : (i : ℕ) (r : Rule) → slice_get rules i ≡ Some r → times i xs ≢ 0 → times i places ≡ 0 → ¬ FiresAt g u n r

first : (a b : Bool) → (a && b) ≡ true → a ≡ true
first true b h = refl
first false b h = absurd (cc)

second : (a b : Bool) → (a && b) ≡ true → b ≡ true
second true b h = h
second false b h = absurd (cc)

absent : (x : ℕ) (xs : List ℕ) → times x xs ≡ 0 → list_all (λ j. not (x == j)) xs ≡ true
absent x [] h = refl
absent x (y ∷ ys) h = by (absent x ys) (y == x) refl
  where
    one_and_none : (m k : ℕ) → m ≡ 1 + k → m ≡ 0 → ⊥
    one_and_none m k e z = omega arith

    none_further : (m k : ℕ) → m ≡ 0 + k → m ≡ 0 → k ≡ 0
    none_further m k e z = omega arith

    by : (times x ys ≡ 0 → list_all (λ j. not (x == j)) ys ≡ true) → (b : Bool) → (y == x) ≡ b → (not (x == y) && list_all (λ j. not (x == j)) ys) ≡ true
    by rest true e = absurd (one_and_none (times x (y ∷ ys)) (times x ys) (times_cons x y ys true e) h)
    by rest false e = ap (λ b. not b && list_all (λ j. not (x == j)) ys) (differs x y e) ∙ rest (none_further (times x (y ∷ ys)) (times x ys) (times_cons x y ys false e) h)

-- of one number, what has no turn before another place stands behind it
behind : (x j a b : ℕ) → b ≡ a → not (nat_lt b a || (b == a && nat_lt j x)) ≡ true → not (x == j) ≡ true → x < j
behind x j a b same unless far = by (at_most_or_beyond j x) (at_most_or_beyond x j)
  where
    apart : x ≡ j → ⊥
    apart e = contra (sym (ap not ((Decides-eqb x j).1 e)) ∙ far)
      where
        contra : not true ≡ true → ⊥
        contra w = absurd (cc)

    goes : nat_lt j x ≡ true → not (nat_lt b a || (true && true)) ≡ true
    goes lt = sym (ap (λ d. not (nat_lt b a || (d && nat_lt j x))) ((Decides-eqb b a).1 same) ∙ ap (λ d. not (nat_lt b a || (true && d))) lt) ∙ unless

    wrong : (c : Bool) → not (c || (true && true)) ≡ true → ⊥
    wrong true w = absurd (cc)
    wrong false w = absurd (cc)

    by : (j ≤ x) ⊎ (x < j) → (x ≤ j) ⊎ (j < x) → x < j
    by (inr lt) back = lt
    by (inl le) (inl back) = absurd (apart (same_of_both x j back le))
    by (inl le) (inr lt) = absurd (wrong (nat_lt b a) (goes ((Decides-ltb j x).1 lt)))

all_behind : (rules : List Rule) (n x : ℕ) (ys : List ℕ) → number_of (slice_get rules x) ≡ n → AllByRecursion (λ j. number_of (slice_get rules j) ≡ n) ys →
    AllByRecursion (λ j. not (goes_before rules j x) ≡ true) ys → AllByRecursion (λ j. not (x == j) ≡ true) ys → AllByRecursion (λ j. x < j) ys
all_behind rules n x [] e a b c = tt
all_behind rules n x (y ∷ ys) e a b c = (behind x y (number_of (slice_get rules x)) (number_of (slice_get rules y)) (a.0 ∙ sym e) b.0 c.0, all_behind rules n x ys e a.1 b.1 c.1)

found_among : (g : KoreSignature) (u : Value) (n : ℕ) (rules : List Rule) (xs : List ℕ) (ps : List KorePattern) → are_ordered rules xs ≡ true → ((i : ℕ) → times i xs ≤ 1) → AreNexts g u n (rules_among rules xs) ps → AreFound g u n rules xs ps
found_among g u n rules [] ps ordered once h = record { places = []; stand = h; ascend = tt; within = λ q e. tt; others = λ i r is there none. absurd (there refl) }
found_among g u n rules (x ∷ xs) ps ordered once h = by (λ qs k a. found_among g u n rules xs qs k fewer a) (slice_get rules x) refl (list_all (λ j. not (goes_before rules j x)) xs) refl ordered ps h
  where
    fewer : (i : ℕ) → times i xs ≤ 1
    fewer i = let more : times i xs ≤ times i (x ∷ xs) = times_more i x xs in let most : times i (x ∷ xs) ≤ 1 = once i in omega arith

    no_more : times x xs ≡ 0
    no_more = let here : times x (x ∷ xs) ≡ 1 + times x xs = times_here x xs in let most : times x (x ∷ xs) ≤ 1 = once x in omega arith

    skipped : (qs : List KorePattern) → AreFound g u n rules xs qs → ((r : Rule) → slice_get rules x ≡ Some r → ¬ FiresAt g u n r) → AreFound g u n rules (x ∷ xs) qs
    skipped qs f here = record {
      places = f.places;
      stand = f.stand;
      ascend = f.ascend;
      within = λ q all. f.within q (second (q x) (list_all q xs) all);
      others = λ i r is there none. at i r is there none (x == i) refl;
    }
      where
        at : (i : ℕ) (r : Rule) → slice_get rules i ≡ Some r → times i (x ∷ xs) ≢ 0 → times i f.places ≡ 0 → (b : Bool) → (x == i) ≡ b → ¬ FiresAt g u n r
        at i r is there none true e = here r (ap (slice_get rules) ((Decides-eqb x i).0 e) ∙ is)
        at i r is there none false e = f.others i r is (times_on i x xs e there) none

    taken : (qs : List KorePattern) (r : Rule) (p : KorePattern) → slice_get rules x ≡ Some r → FiresAt g u n r → Follows g u r.body.value p → list_all (λ j. not (goes_before rules j x)) xs ≡ true → AreFound g u n rules xs qs → AreFound g u n rules (x ∷ xs) (p ∷ qs)
    taken qs r p e fires follows turn f = record {
      places = x ∷ f.places;
      stand = (record { rule = r; is = e; fires = fires; follows = follows }, f.stand);
      ascend = (all_behind rules n x f.places (ap number_of e ∙ fires.1) (numbers g u n rules f.places qs f.stand) (f.within (λ j. not (goes_before rules j x)) turn) (f.within (λ j. not (x == j)) (absent x xs no_more)), f.ascend);
      within = λ q all. (first (q x) (list_all q xs) all, f.within q (second (q x) (list_all q xs) all));
      others = λ i q is there none. at i q is there none (x == i) refl;
    }
      where
        one_and_none : (m k : ℕ) → m ≡ 1 + k → m ≡ 0 → ⊥
        one_and_none m k e z = omega arith

        none_further : (m k : ℕ) → m ≡ 0 + k → m ≡ 0 → k ≡ 0
        none_further m k e z = omega arith

        at : (i : ℕ) (q : Rule) → slice_get rules i ≡ Some q → times i (x ∷ xs) ≢ 0 → times i (x ∷ f.places) ≡ 0 → (b : Bool) → (x == i) ≡ b → ¬ FiresAt g u n q
        at i q is there none true k = absurd (one_and_none (times i (x ∷ f.places)) (times i f.places) (times_cons i x f.places true k) none)
        at i q is there none false k = f.others i q is (times_on i x xs k there) (none_further (times i (x ∷ f.places)) (times i f.places) (times_cons i x f.places false k) none)

    by : ((qs : List KorePattern) → are_ordered rules xs ≡ true → AreNexts g u n (rules_among rules xs) qs → AreFound g u n rules xs qs) → (o : Option Rule) → slice_get rules x ≡ o →
        (b : Bool) → list_all (λ j. not (goes_before rules j x)) xs ≡ b → (b && are_ordered rules xs) ≡ true → (qs : List KorePattern) → AreNexts g u n (with_first o (rules_among rules xs)) qs → AreFound g u n rules (x ∷ xs) qs
    by on o e false f k qs a = absurd (cc)
    by on None e true f k qs a = skipped qs (on qs k a) (λ r is. absurd (some_none (sym is ∙ e)))
    by on (Some r) e true f k qs (inl a) = skipped qs (on qs k a.1) (λ q is. subst (λ w. ¬ FiresAt g u n w) (first_same (sym e ∙ is)) a.0)
    by on (Some r) e true f k [] (inr a) = absurd a.1
    by on (Some r) e true f k (p ∷ qs) (inr a) = taken qs r p e a.0 a.1.0 f (on qs k a.1.1)

pub nexts_back : (g : KoreSignature) (u : Value) (n : ℕ) (rules : List Rule) (places : List ℕ) (ps : List KorePattern) → AreInTurn rules (may_have (top_of u)) places → AreNexts g u n (rules_among rules places) ps → AreNexts g u n rules ps
nexts_back g u n rules places ps at h = in_order g u n rules f.places ps f.ascend f.stand (λ i r is none. by i r is none (may_have (top_of u) r) refl)
  where
    f : AreFound g u n rules places ps
    f = found_among g u n rules places ps at.ordered (at_most_once rules (may_have (top_of u)) places at) h

    by : (i : ℕ) (r : Rule) → slice_get rules i ≡ Some r → times i f.places ≡ 0 → (b : Bool) → may_have (top_of u) r ≡ b → ¬ FiresAt g u n r
    by i r is none true e = f.others i r is (stands rules (may_have (top_of u)) places i r at is e) none
    by i r is none false e = λ fires. others_rest g u r e fires.0

-- ---- one more place

pub nexts_at_next : (g : KoreSignature) (u : Value) (n : ℕ) (before : List Rule) (ps : List KorePattern) → AreNexts g u n before ps → AreNexts g u n (before ++ []) (ps ++ [])
nexts_at_next g u n before ps h = subst (λ rs. AreNexts g u n rs (ps ++ [])) (sym (append-nil before)) (subst (AreNexts g u n before) (sym (append-nil ps)) h)
