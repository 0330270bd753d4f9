-- What holds of the rules at chosen places, and of all others, holds of all.
use Rattle.std.proofs.Common.{◌≡◌, ◌≢◌, refl, sym, ap, subst, ◌∙◌, arith, ℕ, zero, suc, ◌+◌, ◌≤◌, Bool, true, false, cond, ◌==◌, List, [], ◌∷◌, ◌++◌, Option, Some, None, slice_get, count_by, inl, inr}
use Rattle.std.specs.List.{AllByRecursion}
use Rattle.std.proofs.lemmas.Bool.Decides.{Decides-eqb}
use Rattle.std.proofs.lemmas.List.Sums.{sum_by-cons}
use Rattle.kp_kore.specs.Steps.{AnyByRecursion}
use Rattle.kp_rules.specs.declared.rule.Rule.{Rule}
use Rattle.kp_rule_sets.specs.Turns.{is_mine, AreInTurn, with_first, rules_among}

-- how often a place stands there
abbrev pub times : ℕ → List ℕ → ℕ
times i = count_by (λ j. j == i)

pub times_cons : (i x : ℕ) (xs : List ℕ) (b : Bool) → (x == i) ≡ b → times i (x ∷ xs) ≡ cond b 1 0 + times i xs
times_cons i x xs b e = sum_by-cons (λ j. cond (j == i) 1 0) x xs ∙ ap (λ c. cond c 1 0 + times i xs) e

-- it stands further on where it isn't the first
pub times_on : (i x : ℕ) (xs : List ℕ) → (x == i) ≡ false → times i (x ∷ xs) ≢ 0 → times i xs ≢ 0
times_on i x xs e h z = h (times_cons i x xs false e ∙ (let none : 0 + times i xs ≡ 0 = omega arith in none))

pub times_more : (i x : ℕ) (xs : List ℕ) → times i xs ≤ times i (x ∷ xs)
times_more i x xs = by (x == i) refl
  where
    by : (b : Bool) → (x == i) ≡ b → times i xs ≤ times i (x ∷ xs)
    by true e = let more : times i (x ∷ xs) ≡ 1 + times i xs = times_cons i x xs true e in omega arith
    by false e = let same : times i (x ∷ xs) ≡ 0 + times i xs = times_cons i x xs false e in omega arith

pub times_here : (i : ℕ) (xs : List ℕ) → times i (i ∷ xs) ≡ 1 + times i xs
times_here i xs = times_cons i i xs true ((Decides-eqb i i).1 refl)

pub some_none : {r : Rule} → Some r ≡ None → ⊥
some_none e = absurd (cc)

pub first_same : {r q : Rule} → Some r ≡ Some q → r ≡ q
first_same {r} {q} e = ap (λ o. of o) e
  where
    of : Option Rule → Rule
    of (Some x) = x
    of None = r

-- ---- all

pub each_place : (P : Rule → Type 0) (rules : List Rule) (places : List ℕ) (i : ℕ) (r : Rule) → AllByRecursion P (rules_among rules places) → slice_get rules i ≡ Some r → times i places ≢ 0 → P r
each_place P rules [] i r all is there = absurd (there refl)
each_place P rules (x ∷ xs) i r all is there = by (λ rest h. each_place P rules xs i r rest is h) (x == i) refl (slice_get rules x) refl all
  where
    by : (AllByRecursion P (rules_among rules xs) → times i xs ≢ 0 → P r) → (b : Bool) → (x == i) ≡ b → (o : Option Rule) → slice_get rules x ≡ o → AllByRecursion P (with_first o (rules_among rules xs)) → P r
    by on true e (Some q) f all = subst P (first_same (sym f ∙ ap (slice_get rules) ((Decides-eqb x i).0 e) ∙ is)) all.0
    by on true e None f all = absurd (some_none (sym is ∙ sym (ap (slice_get rules) ((Decides-eqb x i).0 e)) ∙ f))
    by on false e (Some q) f all = on all.1 (times_on i x xs e there)
    by on false e None f all = on all (times_on i x xs e there)

-- by places, each rule of the list
pub all_places : (P : Rule → Type 0) (rules : List Rule) → ((i : ℕ) (r : Rule) → slice_get rules i ≡ Some r → P r) → AllByRecursion P rules
all_places P [] f = tt
all_places P (r ∷ rules) f = (f 0 r refl, all_places P rules (λ i q e. f (suc i) q e))

-- a rule of these stands at its place once
pub stands : (rules : List Rule) (mine : Rule → Bool) (places : List ℕ) (i : ℕ) (r : Rule) → AreInTurn rules mine places → slice_get rules i ≡ Some r → mine r ≡ true → times i places ≢ 0
stands rules mine places i r turn is it z =
    let one : times i places ≡ 1 = turn.exact i ∙ ap (λ o. cond (is_mine mine o) 1 0) is ∙ ap (λ b. cond b 1 0) it in
    absurd (omega arith)

pub all_back : (P : Rule → Type 0) (rules : List Rule) (mine : Rule → Bool) (places : List ℕ) → AreInTurn rules mine places → ((r : Rule) → mine r ≡ false → P r) → AllByRecursion P (rules_among rules places) → AllByRecursion P rules
all_back P rules mine places turn others all = all_places P rules (λ i r is. by i r is (mine r) refl)
  where
    by : (i : ℕ) (r : Rule) → slice_get rules i ≡ Some r → (b : Bool) → mine r ≡ b → P r
    by i r is true e = each_place P rules places i r all is (stands rules mine places i r turn is e)
    by i r is false e = others r e

-- ---- some

pub any_at : (P : Rule → Type 0) (rules : List Rule) (i : ℕ) (r : Rule) → slice_get rules i ≡ Some r → P r → AnyByRecursion P rules
any_at P [] i r is h = absurd (some_none (sym is))
any_at P (q ∷ rules) zero r is h = inl (subst P (sym (first_same is)) h)
any_at P (q ∷ rules) (suc i) r is h = inr (any_at P rules i r is h)

-- the place of one that is found
pub record IsFound (P : Rule → Type 0) (rules : List Rule) (places : List ℕ) : Type 0 where
  pub place : ℕ
  pub rule : Rule
  pub is : slice_get rules place ≡ Some rule
  pub holds : P rule
  pub there : times place places ≢ 0

none_and_more : (n m : ℕ) → n ≤ m → n ≢ 0 → m ≢ 0
none_and_more n m le h z = h (let none : n ≡ 0 = omega arith in none)

pub found : (P : Rule → Type 0) (rules : List Rule) (places : List ℕ) → AnyByRecursion P (rules_among rules places) → IsFound P rules places
found P rules [] any = absurd any
found P rules (x ∷ xs) any = by (found P rules xs) (slice_get rules x) refl any
  where
    later : IsFound P rules xs → IsFound P rules (x ∷ xs)
    later f = record { place = f.place; rule = f.rule; is = f.is; holds = f.holds; there = none_and_more (times f.place xs) (times f.place (x ∷ xs)) (times_more f.place x xs) f.there }

    by : (AnyByRecursion P (rules_among rules xs) → IsFound P rules xs) → (o : Option Rule) → slice_get rules x ≡ o → AnyByRecursion P (with_first o (rules_among rules xs)) → IsFound P rules (x ∷ xs)
    by on (Some r) e (inl h) = record { place = x; rule = r; is = e; holds = h; there = λ z. let one : times x (x ∷ xs) ≡ 1 + times x xs = times_here x xs in absurd (omega arith) }
    by on (Some r) e (inr more) = later (on more)
    by on None e more = later (on more)

pub any_back : (P : Rule → Type 0) (rules : List Rule) (places : List ℕ) → AnyByRecursion P (rules_among rules places) → AnyByRecursion P rules
any_back P rules places any = let f = found P rules places any in any_at P rules f.place f.rule f.is f.holds

-- ---- one place further in a loop

pub among_more : (rules : List Rule) (xs : List ℕ) (x : ℕ) → rules_among rules (xs ++ x ∷ []) ≡ rules_among rules xs ++ with_first (slice_get rules x) []
among_more rules [] x = refl
among_more rules (y ∷ xs) x = by (slice_get rules y) (among_more rules xs x)
  where
    by : (o : Option Rule) → rules_among rules (xs ++ x ∷ []) ≡ rules_among rules xs ++ with_first (slice_get rules x) [] → with_first o (rules_among rules (xs ++ x ∷ [])) ≡ with_first o (rules_among rules xs) ++ with_first (slice_get rules x) []
    by (Some r) e = ap (λ l. r ∷ l) e
    by None e = e
