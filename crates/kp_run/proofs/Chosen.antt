-- The turn, and the foreign rule that is told, of the rules that may have a value's head are those of all rules.
use Rattle.std.proofs.Common.{◌≡◌, ◌≢◌, refl, sym, ap, subst, ◌∙◌, arith, ℕ, zero, suc, ◌+◌, ◌<◌, ◌≤◌, Bool, true, false, not, ◌&&◌, ◌||◌, ◌==◌, cond, nat_lt, List, [], ◌∷◌, Option, Some, None, Bor, slice_get, inl, inr, ◌⊎◌}
use Rattle.std.specs.List.{AllByRecursion, list_all}
use Rattle.std.proofs.lemmas.Bool.Decides.{Decides-eqb, Decides-ltb}
use Rattle.kp_kore.specs.Signature.{KoreSignature}
use Rattle.kp_kore.specs.Value.{Value}
use Rattle.kp_rules.specs.declared.rule.Rule.{Rule}
use Rattle.kp_rules.specs.declared.rule.RuleBody.{RuleBody}
use Rattle.kp_rules.specs.declared.rule.RuleBody.TheVariants.{Rewrite, Foreign}
use Rattle.kp_rule_sets.specs.Tops.{may_have, top_of}
use Rattle.kp_rule_sets.specs.Turns.{is_mine, number_of, goes_before, are_ordered, AreInTurn, with_first, rules_among}
use Rattle.kp_rule_sets.proofs.Chosen.{times, times_on, times_more, times_here, some_none, first_same, each_place, all_places, stands, all_back, any_at, found}
use Rattle.kp_rule_sets.proofs.Topped.{not_met, not_admitted}
use Rattle.kp_run.specs.Causes.{TwoAmong}
use Rattle.kp_run.specs.Runs.{OneBetween}
use Rattle.kp_run.specs.Turns.{BodyFires, BodyIsWide, MightRewrite, IsFirstForeign, TellsForeign, GoesAfter, FiresAt, IsFiring, OneAmong, IsTurn}
use Rattle.kp_run.specs.declared.step.Turn.{Turn}
use Rattle.kp_run.specs.declared.step.Turn.TheVariants.{Nobody, One, Several}

-- ---- rules of other heads

pub others_rest : (g : KoreSignature) (u : Value) (r : Rule) → may_have (top_of u) r ≡ false → ¬ BodyFires g u r.body.value
others_rest g u r isnt = by r.body.value refl
  where
    by : (b : RuleBody) → r.body.value ≡ b → ¬ BodyFires g u b
    by (Rewrite w) e h = not_met g r w h.0 u e isnt h.1.0
    by (Foreign k) e h = h

pub others_narrow : (g : KoreSignature) (u : Value) (r : Rule) → may_have (top_of u) r ≡ false → ¬ BodyIsWide g u r.body.value
others_narrow g u r isnt = by r.body.value refl
  where
    by : (b : RuleBody) → r.body.value ≡ b → ¬ BodyIsWide g u b
    by (Rewrite w) e h = not_met g r w h.valuation u e isnt h.meets
    by (Foreign k) e h = h

pub others_known : (g : KoreSignature) (u : Value) (r : Rule) → may_have (top_of u) r ≡ false → ¬ MightRewrite g u r.body.value
others_known g u r isnt = by r.body.value refl
  where
    by : (b : RuleBody) → r.body.value ≡ b → ¬ MightRewrite g u b
    by (Rewrite w) e h = h
    by (Foreign k) e h = not_admitted g r k u e isnt h

-- ---- the one and the others

pub record IsOneFound (P Q : Rule → Type 0) (rules : List Rule) (places : List ℕ) : Type 0 where
  pub place : ℕ
  pub rule : Rule
  pub is : slice_get rules place ≡ Some rule
  pub holds : P rule
  pub others : (i : ℕ) (q : Rule) → slice_get rules i ≡ Some q → times i places ≢ 0 → i ≢ place → Q q

apart : (x i : ℕ) → i ≢ x → (x == i) ≡ false
apart x i far = by (x == i) refl
  where
    by : (b : Bool) → (x == i) ≡ b → b ≡ false
    by false e = refl
    by true e = absurd (far (sym ((Decides-eqb x i).0 e)))

one_found : (P Q : Rule → Type 0) (rules : List Rule) (places : List ℕ) → OneAmong P Q (rules_among rules places) → IsOneFound P Q rules places
one_found P Q rules [] one = absurd one
one_found P Q rules (x ∷ xs) one = by (one_found P Q rules xs) (slice_get rules x) refl one
  where
    at : (f : IsOneFound P Q rules xs) → ((q : Rule) → slice_get rules x ≡ Some q → Q q) → (i : ℕ) (q : Rule) → slice_get rules i ≡ Some q → times i (x ∷ xs) ≢ 0 → i ≢ f.place → (b : Bool) → (x == i) ≡ b → Q q
    at f here i q is there far true e = here q (ap (slice_get rules) ((Decides-eqb x i).0 e) ∙ is)
    at f here i q is there far false e = f.others i q is (times_on i x xs e there) far

    later : (f : IsOneFound P Q rules xs) → ((q : Rule) → slice_get rules x ≡ Some q → Q q) → IsOneFound P Q rules (x ∷ xs)
    later f here = record { place = f.place; rule = f.rule; is = f.is; holds = f.holds; others = λ i q is there far. at f here i q is there far (x == i) refl }

    by : (OneAmong P Q (rules_among rules xs) → IsOneFound P Q rules xs) → (o : Option Rule) → slice_get rules x ≡ o → OneAmong P Q (with_first o (rules_among rules xs)) → IsOneFound P Q rules (x ∷ xs)
    by on (Some r) e (inl h) = record { place = x; rule = r; is = e; holds = h.0; others = λ i q is there far. each_place Q rules xs i q h.1 is (times_on i x xs (apart x i far) there) }
    by on (Some r) e (inr h) = later (on h.1) (λ q k. subst Q (first_same (sym e ∙ k)) h.0)
    by on None e one = later (on one) (λ q k. absurd (some_none (sym k ∙ e)))

zero_suc : (k : ℕ) → 0 ≡ suc k → ⊥
zero_suc k e = omega arith

one_less : (i k : ℕ) → suc i ≡ suc k → i ≡ k
one_less i k e = omega arith

one_at : (P Q : Rule → Type 0) (rules : List Rule) (k : ℕ) (r : Rule) → slice_get rules k ≡ Some r → P r → ((i : ℕ) (q : Rule) → slice_get rules i ≡ Some q → i ≢ k → Q q) → OneAmong P Q rules
one_at P Q [] k r is p others = absurd (some_none (sym is))
one_at P Q (q ∷ rules) zero r is p others = inl (subst P (sym (first_same is)) p, all_places Q rules (λ i w e. others (suc i) w e (λ s. zero_suc i (sym s))))
one_at P Q (q ∷ rules) (suc k) r is p others = inr (others 0 q refl (zero_suc k), one_at P Q rules k r is p (λ i w e far. others (suc i) w e (λ s. far (one_less i k s))))

pub one_back : (P Q : Rule → Type 0) (rules : List Rule) (mine : Rule → Bool) (places : List ℕ) → AreInTurn rules mine places → ((r : Rule) → mine r ≡ false → Q r) → OneAmong P Q (rules_among rules places) → OneAmong P Q rules
one_back P Q rules mine places turn rest one = one_at P Q rules f.place f.rule f.is f.holds (λ i q is far. by i q is far (mine q) refl)
  where
    f : IsOneFound P Q rules places
    f = one_found P Q rules places one

    by : (i : ℕ) (q : Rule) → slice_get rules i ≡ Some q → i ≢ f.place → (b : Bool) → mine q ≡ b → Q q
    by i q is far true e = f.others i q is (stands rules mine places i q turn is e) far
    by i q is far false e = rest q e

-- ---- two

pub record AreTwoFound (P : Rule → Type 0) (rules : List Rule) : Type 0 where
  pub first : ℕ
  pub second : ℕ
  pub one : Rule
  pub other : Rule
  pub is_one : slice_get rules first ≡ Some one
  pub is_other : slice_get rules second ≡ Some other
  pub one_holds : P one
  pub other_holds : P other
  pub apart : first ≢ second

two_found : (P : Rule → Type 0) (rules : List Rule) (places : List ℕ) → ((i : ℕ) → times i places ≤ 1) → TwoAmong P (rules_among rules places) → AreTwoFound P rules
two_found P rules [] once two = absurd two
two_found P rules (x ∷ xs) once two = by (two_found P rules xs (λ i. let more : times i xs ≤ times i (x ∷ xs) = times_more i x xs in let most : times i (x ∷ xs) ≤ 1 = once i in omega arith)) (slice_get rules x) refl two
  where
    twice : (y : ℕ) → times y xs ≢ 0 → x ≡ y → ⊥
    twice y there same =
        let here : times x (x ∷ xs) ≡ 1 + times x xs = times_here x xs in
        let most : times x (x ∷ xs) ≤ 1 = once x in
        there (sym (ap (λ i. times i xs) same) ∙ (let none : times x xs ≡ 0 = omega arith in none))

    by : (TwoAmong P (rules_among rules xs) → AreTwoFound P rules) → (o : Option Rule) → slice_get rules x ≡ o → TwoAmong P (with_first o (rules_among rules xs)) → AreTwoFound P rules
    by on (Some r) e (inl h) =
        let f = found P rules xs h.1 in
        record { first = x; second = f.place; one = r; other = f.rule; is_one = e; is_other = f.is; one_holds = h.0; other_holds = f.holds; apart = twice f.place f.there }
    by on (Some r) e (inr h) = on h
    by on None e h = on h

two_at : (P : Rule → Type 0) (rules : List Rule) (k l : ℕ) (r q : Rule) → slice_get rules k ≡ Some r → slice_get rules l ≡ Some q → P r → P q → k ≢ l → TwoAmong P rules
two_at P [] k l r q is it p h far = absurd (some_none (sym is))
two_at P (w ∷ rules) zero zero r q is it p h far = absurd (far refl)
two_at P (w ∷ rules) zero (suc l) r q is it p h far = inl (subst P (sym (first_same is)) p, any_at P rules l q it h)
two_at P (w ∷ rules) (suc k) zero r q is it p h far = inl (subst P (sym (first_same it)) h, any_at P rules k r is p)
two_at P (w ∷ rules) (suc k) (suc l) r q is it p h far = inr (two_at P rules k l r q is it p h (λ e. far (ap suc e)))

pub at_most_once : (rules : List Rule) (mine : Rule → Bool) (places : List ℕ) → AreInTurn rules mine places → (i : ℕ) → times i places ≤ 1
at_most_once rules mine places turn i = by (is_mine mine (slice_get rules i)) (turn.exact i)
  where
    by : (b : Bool) → times i places ≡ cond b 1 0 → times i places ≤ 1
    by true e = omega arith
    by false e = omega arith

pub two_back : (P : Rule → Type 0) (rules : List Rule) (mine : Rule → Bool) (places : List ℕ) → AreInTurn rules mine places → TwoAmong P (rules_among rules places) → TwoAmong P rules
two_back P rules mine places turn two =
    let f = two_found P rules places (at_most_once rules mine places turn) two in
    two_at P rules f.first f.second f.one f.other f.is_one f.is_other f.one_holds f.other_holds f.apart

-- ---- the first

member_passes : (p : ℕ → Bool) (xs : List ℕ) (i : ℕ) → list_all p xs ≡ true → times i xs ≢ 0 → p i ≡ true
member_passes p [] i all there = absurd (there refl)
member_passes p (x ∷ xs) i all there = by (λ h. member_passes p xs i h) (x == i) refl (p x) refl all
  where
    by : (list_all p xs ≡ true → times i xs ≢ 0 → p i ≡ true) → (b : Bool) → (x == i) ≡ b → (c : Bool) → p x ≡ c → (c && list_all p xs) ≡ true → p i ≡ true
    by on true e true f h = sym (ap p ((Decides-eqb x i).0 e)) ∙ f
    by on false e true f h = on h (times_on i x xs e there)
    by on true e false f h = absurd (cc)
    by on false e false f h = absurd (cc)

pub record IsFirstFound (P Q S : Rule → Type 0) (rules : List Rule) (places : List ℕ) : Type 0 where
  pub place : ℕ
  pub rule : Rule
  pub is : slice_get rules place ≡ Some rule
  pub holds : P rule
  pub others : (i : ℕ) (q : Rule) → slice_get rules i ≡ Some q → times i places ≢ 0 → i ≢ place → Q q ⊎ (S q × (not (goes_before rules i place) ≡ true))

first_found : (P Q S : Rule → Type 0) (rules : List Rule) (places : List ℕ) → are_ordered rules places ≡ true → OneBetween P Q S (rules_among rules places) → IsFirstFound P Q S rules places
first_found P Q S rules [] ordered one = absurd one
first_found P Q S rules (x ∷ xs) ordered one = by (first_found P Q S rules xs) (slice_get rules x) refl (list_all (λ j. not (goes_before rules j x)) xs) refl ordered one
  where
    at : (f : IsFirstFound P Q S rules xs) → ((q : Rule) → slice_get rules x ≡ Some q → Q q) → (i : ℕ) (q : Rule) → slice_get rules i ≡ Some q → times i (x ∷ xs) ≢ 0 → i ≢ f.place → (b : Bool) → (x == i) ≡ b → Q q ⊎ (S q × (not (goes_before rules i f.place) ≡ true))
    at f here i q is there far true e = inl (here q (ap (slice_get rules) ((Decides-eqb x i).0 e) ∙ is))
    at f here i q is there far false e = f.others i q is (times_on i x xs e there) far

    later : (f : IsFirstFound P Q S rules xs) → ((q : Rule) → slice_get rules x ≡ Some q → Q q) → IsFirstFound P Q S rules (x ∷ xs)
    later f here = record { place = f.place; rule = f.rule; is = f.is; holds = f.holds; others = λ i q is there far. at f here i q is there far (x == i) refl }

    by : (are_ordered rules xs ≡ true → OneBetween P Q S (rules_among rules xs) → IsFirstFound P Q S rules xs) → (o : Option Rule) → slice_get rules x ≡ o →
        (b : Bool) → list_all (λ j. not (goes_before rules j x)) xs ≡ b → (b && are_ordered rules xs) ≡ true → OneBetween P Q S (with_first o (rules_among rules xs)) → IsFirstFound P Q S rules (x ∷ xs)
    by on o e false f h one = absurd (cc)
    by on (Some r) e true f h (inl k) = record {
      place = x;
      rule = r;
      is = e;
      holds = k.0;
      others = λ i q is there far.
          let further = times_on i x xs (apart x i far) there in
          inr (each_place S rules xs i q k.1 is further, member_passes (λ j. not (goes_before rules j x)) xs i f further);
    }
    by on (Some r) e true f h (inr k) = later (on h k.1) (λ q s. subst Q (first_same (sym e ∙ s)) k.0)
    by on None e true f h one = later (on h one) (λ q s. absurd (some_none (sym s ∙ e)))

between_at : (P Q S : Rule → Type 0) (rules : List Rule) (k : ℕ) (r : Rule) → slice_get rules k ≡ Some r → P r → ((i : ℕ) (q : Rule) → slice_get rules i ≡ Some q → i < k → Q q) → ((i : ℕ) (q : Rule) → slice_get rules i ≡ Some q → k < i → S q) → OneBetween P Q S rules
between_at P Q S [] k r is p before after = absurd (some_none (sym is))
between_at P Q S (q ∷ rules) zero r is p before after = inl (subst P (sym (first_same is)) p, all_places S rules (λ i w e. after (suc i) w e (positive i)))
  where
    positive : (n : ℕ) → 0 < suc n
    positive n = omega arith
between_at P Q S (q ∷ rules) (suc k) r is p before after = inr (before 0 q refl (positive k), between_at P Q S rules k r is p (λ i w e lt. before (suc i) w e (up i k lt)) (λ i w e lt. after (suc i) w e (up k i lt)))
  where
    positive : (n : ℕ) → 0 < suc n
    positive n = omega arith

    up : (i n : ℕ) → i < n → suc i < suc n
    up i n h = omega arith

-- an earlier rule that has no turn before another one has a greater number
greater : (rules : List Rule) (i k : ℕ) (q r : Rule) → slice_get rules i ≡ Some q → slice_get rules k ≡ Some r → not (goes_before rules i k) ≡ true → i < k → r.priority ≤ q.priority → r.priority < q.priority
greater rules i k q r is it unless lt le = by (q.priority == r.priority) refl (nat_lt i k) refl (nat_lt q.priority r.priority) refl
  where
    seen : not (nat_lt q.priority r.priority || (q.priority == r.priority && nat_lt i k)) ≡ true
    seen = ap (λ o. not (nat_lt (number_of o) r.priority || (number_of o == r.priority && nat_lt i k))) (sym is) ∙ ap (λ o. not (nat_lt (number_of (slice_get rules i)) (number_of o) || (number_of (slice_get rules i) == number_of o && nat_lt i k))) (sym it) ∙ unless

    apart_now : (q.priority == r.priority) ≡ false → r.priority < q.priority
    apart_now e = less (λ s. yes_and_no ((Decides-eqb q.priority r.priority).1 s) e)
      where
        yes_and_no : {b : Bool} → b ≡ true → b ≡ false → ⊥
        yes_and_no y n = absurd (cc)

        less : (q.priority ≡ r.priority → ⊥) → r.priority < q.priority
        less far = omega (arith, le, far)

    by : (b : Bool) → (q.priority == r.priority) ≡ b → (c : Bool) → nat_lt i k ≡ c → (d : Bool) → nat_lt q.priority r.priority ≡ d → r.priority < q.priority
    by false e c f d h = apart_now e
    by true e true f d h = absurd (never d e f (ap (λ x. not (x || (q.priority == r.priority && nat_lt i k))) (sym h) ∙ seen))
      where
        never : (d : Bool) → (q.priority == r.priority) ≡ true → nat_lt i k ≡ true → not (d || (q.priority == r.priority && nat_lt i k)) ≡ true → ⊥
        never true e f s = absurd (cc)
        never false e f s = contra (sym (ap (λ b. not (b && nat_lt i k)) e) ∙ s)
          where
            contra : not (true && nat_lt i k) ≡ true → ⊥
            contra t = wrong (sym (ap not f) ∙ t)
              where
                wrong : not true ≡ true → ⊥
                wrong w = absurd (cc)
    by true e false f d h = absurd (wrong (sym f ∙ (Decides-ltb i k).1 lt))
      where
        wrong : false ≡ true → ⊥
        wrong w = absurd (cc)

pub first_back : (g : KoreSignature) (u : Value) (first : Rule) (rules : List Rule) (mine : Rule → Bool) (places : List ℕ) → AreInTurn rules mine places → ((r : Rule) → mine r ≡ false → ¬ MightRewrite g u r.body.value) →
    IsFirstForeign g u first (rules_among rules places) → IsFirstForeign g u first rules
first_back g u first rules mine places turn rest one = between_at P Q S rules f.place f.rule f.is f.holds (λ i q is lt. before i q is lt (mine q) refl) (λ i q is lt. after i q is lt (mine q) refl)
  where
    P : Rule → Type 0
    P = λ r. (r ≡ first) × MightRewrite g u r.body.value

    Q : Rule → Type 0
    Q = λ r. MightRewrite g u r.body.value → first.priority < r.priority

    S : Rule → Type 0
    S = λ r. MightRewrite g u r.body.value → first.priority ≤ r.priority

    f : IsFirstFound P Q S rules places
    f = first_found P Q S rules places turn.ordered one

    different : (i k : ℕ) → i < k → i ≡ k → ⊥
    different i k lt e = omega arith

    other_way : (i k : ℕ) → k < i → i ≡ k → ⊥
    other_way i k lt e = omega arith

    before : (i : ℕ) (q : Rule) → slice_get rules i ≡ Some q → i < f.place → (b : Bool) → mine q ≡ b → Q q
    before i q is lt false e m = absurd (rest q e m)
    before i q is lt true e m = elim (f.others i q is (stands rules mine places i q turn is e) (different i f.place lt)) [
      | inl less ↦ less m
      | inr kept ↦ subst (λ (r : Rule). r.priority < q.priority) f.holds.0 (greater rules i f.place q f.rule is f.is kept.1 lt (subst (λ (r : Rule). r.priority ≤ q.priority) (sym f.holds.0) (kept.0 m)))
    ]

    after : (i : ℕ) (q : Rule) → slice_get rules i ≡ Some q → f.place < i → (b : Bool) → mine q ≡ b → S q
    after i q is lt false e m = absurd (rest q e m)
    after i q is lt true e m = elim (f.others i q is (stands rules mine places i q turn is e) (other_way i f.place lt)) [
      | inl less ↦ (let below : first.priority < q.priority = less m in omega arith)
      | inr kept ↦ kept.0 m
    ]

-- ---- the turn, and the foreign rule that is told

pub turn_back : (g : KoreSignature) (u : Value) (rules : List Rule) (places : List ℕ) (turn : Turn) → AreInTurn rules (may_have (top_of u)) places → IsTurn g u (rules_among rules places) turn → IsTurn g u rules turn
turn_back g u rules places Nobody at is = all_back (λ r. ¬ BodyFires g u r.body.value) rules (may_have (top_of u)) places at (others_rest g u) is
turn_back g u rules places (One f) at is = one_back (IsFiring g u f) (GoesAfter g u f.priority) rules (may_have (top_of u)) places at (λ r isnt b. absurd (others_rest g u r isnt b)) is
turn_back g u rules places (Several n) at is = (all_back (λ r. BodyFires g u r.body.value → n ≤ r.priority) rules (may_have (top_of u)) places at (λ r isnt b. absurd (others_rest g u r isnt b)) is.0, two_back (FiresAt g u n) rules (may_have (top_of u)) places at is.1)

pub tells_back : (g : KoreSignature) (u : Value) (rules : List Rule) (places : List ℕ) (first : Option (Bor Rule)) → AreInTurn rules (may_have (top_of u)) places → TellsForeign g u (rules_among rules places) first → TellsForeign g u rules first
tells_back g u rules places None at is = all_back (λ r. ¬ MightRewrite g u r.body.value) rules (may_have (top_of u)) places at (others_known g u) is
tells_back g u rules places (Some f) at is = first_back g u f.now rules (may_have (top_of u)) places at (others_known g u) is

pub narrow_back : (g : KoreSignature) (u : Value) (rules : List Rule) (places : List ℕ) → AreInTurn rules (may_have (top_of u)) places → AllByRecursion (λ r. ¬ BodyIsWide g u r.body.value) (rules_among rules places) → AllByRecursion (λ r. ¬ BodyIsWide g u r.body.value) rules
narrow_back g u rules places at all = all_back (λ r. ¬ BodyIsWide g u r.body.value) rules (may_have (top_of u)) places at (others_narrow g u) all
