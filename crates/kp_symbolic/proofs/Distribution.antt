-- Distribution keeps truth, and so does dropping repeats.
use Rattle.std.proofs.Common.{◌≡◌, refl, subst, sym, Bool, true, false, not, cond, ◌||◌, ◌&&◌, ℕ, ◌+◌, List, [], ◌∷◌, ◌++◌, map, length, ◌↔◌}
use Rattle.std.specs.Prelude.{nat_le, if◌then◌else◌}
use Rattle.std.specs.List.{AllByRecursion, filter, list_any}
use Rattle.kp_kore.proofs.InstanceLemmas.{first_true, second_true}
use Rattle.kp_symbolic.specs.Formulas.{Formula, fact, all_of, one_of, Formulas, no_formulas, next_formula, Holds, AllHold, NoneHold, NotAllFalse, clauses_same, joined, most_compared, kept_once_after, kept_once, crossed, formula_clauses, joined_clauses, crossed_clauses}

-- what a test that is true tells
abbrev pub Sound : {L : Type 0} → (L → L → Bool) → Type 0
Sound {L} test = (l m : L) → test l m ≡ true → l ≡ m

pub all_both : {X : Type 0} (Q : X → Type 0) (xs ys : List X) → AllByRecursion Q xs → AllByRecursion Q ys → AllByRecursion Q (xs ++ ys)
all_both Q [] ys a b = b
all_both Q (x ∷ xs) ys a b = (a.0, all_both Q xs ys a.1 b)

pub all_first : {X : Type 0} (Q : X → Type 0) (xs ys : List X) → AllByRecursion Q (xs ++ ys) → AllByRecursion Q xs
all_first Q [] ys a = tt
all_first Q (x ∷ xs) ys a = (a.0, all_first Q xs ys a.1)

pub all_second : {X : Type 0} (Q : X → Type 0) (xs ys : List X) → AllByRecursion Q (xs ++ ys) → AllByRecursion Q ys
all_second Q [] ys a = a
all_second Q (x ∷ xs) ys a = all_second Q xs ys a.1

-- ---- repeats

-- what holds of all members holds of one that is among them
found_first : {X : Type 0} (Q : X → Type 0) (x y : X) (b c : Bool) → (b ≡ true → x ≡ y) → Q y → (c ≡ true → Q x) → b || c ≡ true → Q x
found_first Q x y true c e a f h = subst Q (sym (e refl)) a
found_first Q x y false c e a f h = f h

pub found_among : {X : Type 0} (test : X → X → Bool) (Q : X → Type 0) → Sound test → (x : X) (xs : List X) → list_any (test x) xs ≡ true → AllByRecursion Q xs → Q x
found_among test Q s x [] h a = absurd (cc)
found_among test Q s x (y ∷ ys) h a = found_first Q x y (test x y) (list_any (test x) ys) (s x y) a.0 (λ k. found_among test Q s x ys k a.1) h

same_clauses : {L : Type 0} (test : L → L → Bool) → Sound test → (c d : List L) → clauses_same test c d ≡ true → c ≡ d
same_clauses test s [] [] h = refl
same_clauses test s (l ∷ c) (m ∷ d) h = let e : l ≡ m = s l m (first_true (test l m) (clauses_same test c d) h) in let f : c ≡ d = same_clauses test s c d (second_true (test l m) (clauses_same test c d) h) in cc
same_clauses test s [] (m ∷ d) h = absurd (cc)
same_clauses test s (l ∷ c) [] h = absurd (cc)

-- the literals behind: those that aren't among the first
rest_step : {X : Type 0} (Q : X → Type 0) (x : X) (xs kept : List X) (b : Bool) → (b ≡ true → Q x) → (AllByRecursion Q kept → AllByRecursion Q xs) → AllByRecursion Q (cond (not b) (x ∷ kept) kept) → AllByRecursion Q (x ∷ xs)
rest_step Q x xs kept true q r a = (q refl, r a)
rest_step Q x xs kept false q r a = (a.0, r a.1)

rest_false : {L : Type 0} (test : L → L → Bool) (Q : L → Type 0) → Sound test → (c d : List L) → AllByRecursion Q c → AllByRecursion Q (filter (λ l. not (list_any (test l) c)) d) → AllByRecursion Q d
rest_false test Q s c [] a b = tt
rest_false test Q s c (l ∷ d) a b = rest_step Q l d (filter (λ m. not (list_any (test m) c)) d) (list_any (test l) c) (λ e. found_among test Q s l c e a) (rest_false test Q s c d a) b

filter_step : {X : Type 0} (Q : X → Type 0) (x : X) (xs kept : List X) (b : Bool) → Q x → AllByRecursion Q kept → AllByRecursion Q (cond b (x ∷ kept) kept)
filter_step Q x xs kept true q a = (q, a)
filter_step Q x xs kept false q a = a

filtered_false : {X : Type 0} (test : X → Bool) (Q : X → Type 0) (xs : List X) → AllByRecursion Q xs → AllByRecursion Q (filter test xs)
filtered_false test Q [] a = tt
filtered_false test Q (x ∷ xs) a = filter_step Q x xs (filter test xs) (test x) a.0 (filtered_false test Q xs a.1)

pub joined_first : {L : Type 0} (test : L → L → Bool) (Q : L → Type 0) (c d : List L) → AllByRecursion Q (joined test c d) → AllByRecursion Q c
joined_first test Q c d a = all_first Q c (filter (λ l. not (list_any (test l) c)) d) a

pub joined_second : {L : Type 0} (test : L → L → Bool) (Q : L → Type 0) → Sound test → (c d : List L) → AllByRecursion Q (joined test c d) → AllByRecursion Q d
joined_second test Q s c d a = rest_false test Q s c d (joined_first test Q c d a) (all_second Q c (filter (λ l. not (list_any (test l) c)) d) a)

pub joined_both : {L : Type 0} (test : L → L → Bool) (Q : L → Type 0) (c d : List L) → AllByRecursion Q c → AllByRecursion Q d → AllByRecursion Q (joined test c d)
joined_both test Q c d a b = all_both Q c (filter (λ l. not (list_any (test l) c)) d) a (filtered_false (λ l. not (list_any (test l) c)) Q d b)

-- clauses that were kept once, and all of them
kept_step : {X : Type 0} (Q : X → Type 0) (x : X) (less more : List X) (b : Bool) → Q x → AllByRecursion Q less → AllByRecursion Q more → AllByRecursion Q (if b then less else x ∷ more)
kept_step Q x less more true q a m = a
kept_step Q x less more false q a m = (q, m)

pub kept_are : {L : Type 0} (test : L → L → Bool) (Q : List L → Type 0) (before : List (List L)) (n : ℕ) (cs : List (List L)) → AllByRecursion Q cs → AllByRecursion Q (kept_once_after test before n cs)
kept_are test Q before n [] a = tt
kept_are test Q before n (c ∷ cs) a = kept_step Q c (kept_once_after test before n cs) (kept_once_after test (c ∷ before) (n + length c) cs) (nat_le n most_compared && list_any (clauses_same test c) before) a.0 (kept_are test Q before n cs a.1) (kept_are test Q (c ∷ before) (n + length c) cs a.1)

all_step : {X : Type 0} (Q : X → Type 0) (x : X) (xs less more : List X) (b : Bool) → (b ≡ true → Q x) → (AllByRecursion Q less → AllByRecursion Q xs) → (Q x → AllByRecursion Q more → AllByRecursion Q xs) → AllByRecursion Q (if b then less else x ∷ more) → AllByRecursion Q (x ∷ xs)
all_step Q x xs less more true q l m a = (q refl, l a)
all_step Q x xs less more false q l m a = (a.0, m a.0 a.1)

pub all_are : {L : Type 0} (test : L → L → Bool) (Q : List L → Type 0) → Sound test → (before : List (List L)) (n : ℕ) (cs : List (List L)) → AllByRecursion Q before → AllByRecursion Q (kept_once_after test before n cs) → AllByRecursion Q cs
all_are test Q s before n [] k a = tt
all_are test Q s before n (c ∷ cs) k a = all_step Q c cs (kept_once_after test before n cs) (kept_once_after test (c ∷ before) (n + length c) cs) (nat_le n most_compared && list_any (clauses_same test c) before)
    (λ e. found_among (clauses_same test) Q (same_clauses test s) c before (second_true (nat_le n most_compared) (list_any (clauses_same test c) before) e) k)
    (all_are test Q s before n cs k)
    (λ q. all_are test Q s (c ∷ before) (n + length c) cs (q, k)) a

pub kept_once_says : {L : Type 0} (test : L → L → Bool) (Q : List L → Type 0) → Sound test → (cs : List (List L)) → AllByRecursion Q (kept_once test cs) ↔ AllByRecursion Q cs
kept_once_says test Q s cs = (all_are test Q s [] 0 cs tt, kept_are test Q [] 0 cs)

-- ---- crossed clauses

row_first : {L : Type 0} (test : L → L → Bool) (P : L → Type 0) (c : List L) (ds : List (List L)) → AllByRecursion (NotAllFalse P) (map (joined test c) ds) → AllByRecursion (λ l. ¬ P l) c → AllByRecursion (NotAllFalse P) ds
row_first test P c [] h f = tt
row_first test P c (d ∷ ds) h f = ((λ k. h.0 (joined_both test (λ l. ¬ P l) c d f k)), row_first test P c ds h.1 f)

left_of_crossed : {L : Type 0} (test : L → L → Bool) (P : L → Type 0) (cs ds : List (List L)) → AllByRecursion (NotAllFalse P) (crossed test cs ds) → ¬ AllByRecursion (NotAllFalse P) ds → AllByRecursion (NotAllFalse P) cs
left_of_crossed test P [] ds h n = tt
left_of_crossed test P (c ∷ cs) ds h n = (
  (λ f. n (row_first test P c ds (all_first (NotAllFalse P) (map (joined test c) ds) (crossed test cs ds) h) f)),
  left_of_crossed test P cs ds (all_second (NotAllFalse P) (map (joined test c) ds) (crossed test cs ds) h) n,
)

to_row : {L : Type 0} (test : L → L → Bool) (P : L → Type 0) → Sound test → (A D : Type 0) (c : List L) (ds : List (List L)) → (A → NotAllFalse P c) → (D → AllByRecursion (NotAllFalse P) ds) → ¬ (¬ A × ¬ D) → AllByRecursion (NotAllFalse P) (map (joined test c) ds)
to_row test P s A D c [] a d n = tt
to_row test P s A D c (e ∷ ds) a d n = (
  (λ k. n ((λ x. a x (joined_first test (λ l. ¬ P l) c e k)), (λ y. (d y).0 (joined_second test (λ l. ¬ P l) s c e k)))),
  to_row test P s A D c ds a (λ y. (d y).1) n,
)

to_crossed : {L : Type 0} (test : L → L → Bool) (P : L → Type 0) → Sound test → (A D : Type 0) (cs ds : List (List L)) → (A → AllByRecursion (NotAllFalse P) cs) → (D → AllByRecursion (NotAllFalse P) ds) → ¬ (¬ A × ¬ D) → AllByRecursion (NotAllFalse P) (crossed test cs ds)
to_crossed test P s A D [] ds a d n = tt
to_crossed test P s A D (c ∷ cs) ds a d n = all_both (NotAllFalse P) (map (joined test c) ds) (crossed test cs ds) (to_row test P s A D c ds (λ x. (a x).0) d n) (to_crossed test P s A D cs ds (λ x. (a x).1) d n)

-- crossed clauses are true where not both lists are refuted
pub crossed_says : {L : Type 0} (test : L → L → Bool) (P : L → Type 0) → Sound test → (cs ds : List (List L)) → AllByRecursion (NotAllFalse P) (crossed test cs ds) ↔ (¬ (¬ AllByRecursion (NotAllFalse P) cs × ¬ AllByRecursion (NotAllFalse P) ds))
crossed_says test P s cs ds = (
  (λ h n. n.0 (left_of_crossed test P cs ds h n.1)),
  to_crossed test P s (AllByRecursion (NotAllFalse P) cs) (AllByRecursion (NotAllFalse P) ds) cs ds (λ x. x) (λ x. x),
)

-- ---- formulas

mutual
  pub clauses_say : {L : Type 0} (test : L → L → Bool) (P : L → Type 0) → Sound test → ((l : L) → ¬ ¬ P l → P l) → (f : Formula L) → AllByRecursion (NotAllFalse P) (formula_clauses test f) ↔ Holds P f
  clauses_say test P t s (fact l) = ((λ h. s l (λ n. h.0 (n, tt))), (λ p. ((λ n. n.0 p), tt)))
  clauses_say test P t s (all_of fs) = joined_say test P t s fs
  clauses_say test P t s (one_of fs) = crossed_say test P t s fs

  pub joined_say : {L : Type 0} (test : L → L → Bool) (P : L → Type 0) → Sound test → ((l : L) → ¬ ¬ P l → P l) → (fs : Formulas L) → AllByRecursion (NotAllFalse P) (joined_clauses test fs) ↔ AllHold P fs
  joined_say test P t s no_formulas = ((λ h. h), (λ h. h))
  joined_say test P t s (next_formula f fs) =
      let i = clauses_say test P t s f in
      let j = joined_say test P t s fs in (
        (λ h. (i.0 (all_first (NotAllFalse P) (formula_clauses test f) (joined_clauses test fs) h), j.0 (all_second (NotAllFalse P) (formula_clauses test f) (joined_clauses test fs) h))),
        (λ h. all_both (NotAllFalse P) (formula_clauses test f) (joined_clauses test fs) (i.1 h.0) (j.1 h.1)),
      )

  pub crossed_say : {L : Type 0} (test : L → L → Bool) (P : L → Type 0) → Sound test → ((l : L) → ¬ ¬ P l → P l) → (fs : Formulas L) → AllByRecursion (NotAllFalse P) (crossed_clauses test fs) ↔ (¬ NoneHold P fs)
  crossed_say test P t s no_formulas = ((λ h. h.0), (λ h. (h, tt)))
  crossed_say test P t s (next_formula f fs) =
      let i = clauses_say test P t s f in
      let j = crossed_say test P t s fs in
      let k = crossed_says test P t (formula_clauses test f) (crossed_clauses test fs) in
      let o = kept_once_says test (NotAllFalse P) t (crossed test (formula_clauses test f) (crossed_clauses test fs)) in (
        (λ h n. k.0 (o.0 h) ((λ a. n.0 (i.0 a)), (λ b. j.0 b n.1))),
        (λ n. o.1 (k.1 (λ m. n ((λ a. m.0 (i.1 a)), absurd (m.1 (j.1 (λ z. n ((λ a. m.0 (i.1 a)), z)))))))),
      )
