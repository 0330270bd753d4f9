-- Texts for classes of tokens of a sort: that of the written token in the class, or else one that is longer than all that
-- are written.
use Rattle.std.proofs.Common.{arith, ◌≡◌, refl, sym, ap, subst, ◌∙◌, ◌⊎◌, inl, inr, ℕ, suc, ◌+◌, ◌<◌, ◌≤◌, Bool, true, false, ◌&&◌, List, [], ◌∷◌, length, Option, Some, None}
use Rattle.std.specs.Prelude.{if◌then◌else◌, nat_eq, max, replicate}
use Rattle.std.proofs.lemmas.List.{length-replicate}
use Rattle.kp_kore.specs.Syntax.{Text, KoreSort}
use Rattle.kp_kore.specs.Attributes.{sorts_equal}
use Rattle.kp_kore.specs.Value.{Value, whole, truth, token, constructed, values_same}
use Rattle.kp_kore.proofs.SameLemmas.{values_same-Decides, sorts_equal-Decides}
use Rattle.kp_symbolic.specs.Plain as model
use Rattle.kp_demands.specs.Classes.{AreFixed}
use Rattle.kp_clause_demands.specs.Numbers.{place_by, parts_same}

nat_same : (n : ℕ) → nat_eq n n ≡ true
nat_same n = grind arith

nat_is : (m n : ℕ) → nat_eq m n ≡ true → m ≡ n
nat_is m n h = grind (arith, h)

nat_differs : (m n : ℕ) → m < n → nat_eq m n ≡ false
nat_differs m n h = grind (arith, h)

-- the first of the written tokens, numbered from k on, that is of the class
abbrev pub in_class : (ℕ → ℕ) → ℕ → ℕ → List model.TokenPart → Option Value
in_class classes c k [] = None
in_class classes c k (model.one_token u ∷ ps) = if nat_eq (classes k) c then Some u else in_class classes c (suc k) ps
in_class classes c k (model.some_token x ∷ ps) = in_class classes c (suc k) ps

abbrev pub text_length : model.TokenPart → ℕ
text_length (model.one_token (token s t)) = length t
text_length p = 0

abbrev pub longest : List model.TokenPart → ℕ
longest [] = 0
longest (p ∷ ps) = max (text_length p) (longest ps)

-- longer than all that are written, of a length of its own
abbrev pub fresh_text : List model.TokenPart → ℕ → Text
fresh_text front c = replicate (longest front + suc c) 0

abbrev pub text_if : List model.TokenPart → List model.TokenPart → (ℕ → ℕ) → KoreSort → ℕ → Option Value → Text
text_if parts front classes s c (Some (token r t)) = if sorts_equal r s && nat_eq (classes (place_by parts_same parts (model.one_token (token r t)))) c then t else fresh_text front c
text_if parts front classes s c o = fresh_text front c

abbrev pub text_for : List model.TokenPart → List model.TokenPart → (ℕ → ℕ) → KoreSort → ℕ → Text
text_for parts front classes s c = text_if parts front classes s c (in_class classes c 0 front)

-- ---- a written token has its own text

at_own : (classes : ℕ → ℕ) (k : ℕ) (xs : List model.TokenPart) (u : Value) → ((x y : ℕ) → k ≤ x → x < k + length xs → k ≤ y → y < k + length xs → classes x ≡ classes y → x ≡ y) →
    place_by parts_same xs (model.one_token u) < length xs → in_class classes (classes (k + place_by parts_same xs (model.one_token u))) k xs ≡ Some u
at_own classes k [] u apart h = absurd (omega (arith, h))
at_own classes k (model.some_token x ∷ xs) u apart h = subst (λ n. in_class classes (classes n) (suc k) xs ≡ Some u) (shifted k (place_by parts_same xs (model.one_token u)))
    (at_own classes (suc k) xs u (λ x y a b c d. apart x y (omega (arith, a)) (omega (arith, b)) (omega (arith, c)) (omega (arith, d))) (omega (arith, h)))
  where
    shifted : (k n : ℕ) → suc k + n ≡ k + suc n
    shifted k n = omega arith
at_own classes k (model.one_token w ∷ xs) u apart h = by (values_same u w) refl h (at_own classes (suc k) xs u (λ x y a b c d. apart x y (omega (arith, a)) (omega (arith, b)) (omega (arith, c)) (omega (arith, d))))
  where
    first : (k n : ℕ) → k + 0 ≡ k
    first k n = omega arith

    shifted : (k n : ℕ) → suc k + n ≡ k + suc n
    shifted k n = omega arith

    by : (b : Bool) → values_same u w ≡ b → (if b then 0 else suc (place_by parts_same xs (model.one_token u))) < suc (length xs) →
        (place_by parts_same xs (model.one_token u) < length xs → in_class classes (classes (suc k + place_by parts_same xs (model.one_token u))) (suc k) xs ≡ Some u) →
        (if nat_eq (classes k) (classes (k + (if b then 0 else suc (place_by parts_same xs (model.one_token u))))) then Some w else in_class classes (classes (k + (if b then 0 else suc (place_by parts_same xs (model.one_token u))))) (suc k) xs) ≡ Some u
    by true e l on =
        let same : nat_eq (classes k) (classes (k + 0)) ≡ true = subst (λ n. nat_eq (classes k) (classes n) ≡ true) (sym (first k 0)) (nat_same (classes k)) in
        ap (λ b. if b then Some w else in_class classes (classes (k + 0)) (suc k) xs) same ∙ ap Some (sym ((values_same-Decides u w).0 e))
    by false e l on =
        let n = place_by parts_same xs (model.one_token u) in
        let less : n < length xs = omega (arith, l) in
        ap (λ b. if b then Some w else in_class classes (classes (k + suc n)) (suc k) xs) (differs n less) ∙ subst (λ m. in_class classes (classes m) (suc k) xs ≡ Some u) (shifted k n) (on less)
      where
        differs : (n : ℕ) → n < length xs → nat_eq (classes k) (classes (k + suc n)) ≡ false
        differs n less = by_test (nat_eq (classes k) (classes (k + suc n))) refl
          where
            by_test : (b : Bool) → nat_eq (classes k) (classes (k + suc n)) ≡ b → b ≡ false
            by_test false q = refl
            by_test true q = let same = apart k (k + suc n) (omega arith) (omega arith) (omega arith) (omega (arith, less)) (nat_is (classes k) (classes (k + suc n)) q) in absurd (omega (arith, same))

zero_first : (n : ℕ) → 0 + n ≡ n
zero_first n = omega arith

pub own_text : (parts front : List model.TokenPart) (classes : ℕ → ℕ) (s : KoreSort) (t : Text) → AreFixed (length front) classes → place_by parts_same front (model.one_token (token s t)) < length front →
    place_by parts_same parts (model.one_token (token s t)) ≡ place_by parts_same front (model.one_token (token s t)) →
    text_for parts front classes s (classes (place_by parts_same parts (model.one_token (token s t)))) ≡ t
own_text parts front classes s t fixed h same =
    let k = place_by parts_same parts (model.one_token (token s t)) in
    let found : in_class classes (classes k) 0 front ≡ Some (token s t) = subst (λ n. in_class classes (classes n) 0 front ≡ Some (token s t)) (zero_first (place_by parts_same front (model.one_token (token s t))) ∙ sym same) (at_own classes 0 front (token s t) (λ x y a b c d. fixed x y (omega (arith, b)) (omega (arith, d))) h) in
    ap (text_if parts front classes s (classes k)) found ∙ ap (λ b. if b && nat_eq (classes k) (classes k) then t else fresh_text front (classes k)) ((sorts_equal-Decides s s).1 refl) ∙ ap (λ b. if b then t else fresh_text front (classes k)) (nat_same (classes k))

-- ---- two classes have two texts

found_short : (classes : ℕ → ℕ) (c k : ℕ) (xs : List model.TokenPart) (s : KoreSort) (t : Text) → in_class classes c k xs ≡ Some (token s t) → length t ≤ longest xs
found_short classes c k [] s t e = absurd (cc)
found_short classes c k (model.some_token x ∷ xs) s t e = let h = found_short classes c (suc k) xs s t e in omega (arith, h)
found_short classes c k (model.one_token w ∷ xs) s t e = by (nat_eq (classes k) c) e (found_short classes c (suc k) xs s t)
  where
    most : (a b n : ℕ) → n ≡ a → n ≤ max a b
    most a b n h = omega (arith, h)

    later : (a b n : ℕ) → n ≤ b → n ≤ max a b
    later a b n h = omega (arith, h)

    by : (b : Bool) → (if b then Some w else in_class classes c (suc k) xs) ≡ Some (token s t) → (in_class classes c (suc k) xs ≡ Some (token s t) → length t ≤ longest xs) → length t ≤ max (text_length (model.one_token w)) (longest xs)
    by true q on = most (text_length (model.one_token w)) (longest xs) (length t) (sym (ap (λ u. text_length (model.one_token u)) (inside q)))
      where
        inside : {a d : Value} → Some a ≡ Some d → a ≡ d
        inside p = cc
    by false q on = later (text_length (model.one_token w)) (longest xs) (length t) (on q)

-- the text is a written one of the class, or a fresh one
record IsWritten (parts front : List model.TokenPart) (classes : ℕ → ℕ) (s : KoreSort) (c : ℕ) (t : Text) : Type 0 where
  class_is : classes (place_by parts_same parts (model.one_token (token s t))) ≡ c
  short : length t ≤ longest front

which_text : (parts front : List model.TokenPart) (classes : ℕ → ℕ) (s : KoreSort) (c : ℕ) → IsWritten parts front classes s c (text_for parts front classes s c) ⊎ (text_for parts front classes s c ≡ fresh_text front c)
which_text parts front classes s c = by (in_class classes c 0 front) refl
  where
    by : (o : Option Value) → in_class classes c 0 front ≡ o → IsWritten parts front classes s c (text_if parts front classes s c o) ⊎ (text_if parts front classes s c o ≡ fresh_text front c)
    by None e = inr refl
    by (Some (whole n)) e = inr refl
    by (Some (truth b)) e = inr refl
    by (Some (constructed f us)) e = inr refl
    by (Some (token r t)) e = by_tests (sorts_equal r s) (nat_eq (classes (place_by parts_same parts (model.one_token (token r t)))) c) refl refl
      where
        by_tests : (a b : Bool) → sorts_equal r s ≡ a → nat_eq (classes (place_by parts_same parts (model.one_token (token r t)))) c ≡ b →
            IsWritten parts front classes s c (if a && b then t else fresh_text front c) ⊎ ((if a && b then t else fresh_text front c) ≡ fresh_text front c)
        by_tests true true p q = inl (record {
          class_is = subst (λ z. classes (place_by parts_same parts (model.one_token (token z t))) ≡ c) ((sorts_equal-Decides r s).0 p) (nat_is (classes (place_by parts_same parts (model.one_token (token r t)))) c q);
          short = found_short classes c 0 front r t e;
        })
        by_tests true false p q = inr refl
        by_tests false b p q = inr refl

fresh_length : (front : List model.TokenPart) (c : ℕ) → length (fresh_text front c) ≡ longest front + suc c
fresh_length front c = length-replicate {A = ℕ} (longest front + suc c) 0

pub two_texts : (parts front : List model.TokenPart) (classes : ℕ → ℕ) (s : KoreSort) (c d : ℕ) → text_for parts front classes s c ≡ text_for parts front classes s d → c ≡ d
two_texts parts front classes s c d e = by (which_text parts front classes s c) (which_text parts front classes s d)
  where
    longer : (m n k l : ℕ) → m ≤ l → n ≡ l + suc k → m ≡ n → ⊥
    longer m n k l h i j = omega (arith, h, i, j)

    as_long : (m n k j l : ℕ) → m ≡ l + suc k → n ≡ l + suc j → m ≡ n → k ≡ j
    as_long m n k j l h i e = omega (arith, h, i, e)

    by : IsWritten parts front classes s c (text_for parts front classes s c) ⊎ (text_for parts front classes s c ≡ fresh_text front c) →
        IsWritten parts front classes s d (text_for parts front classes s d) ⊎ (text_for parts front classes s d ≡ fresh_text front d) → c ≡ d
    by (inl w) (inl x) = sym w.class_is ∙ ap (λ t. classes (place_by parts_same parts (model.one_token (token s t)))) e ∙ x.class_is
    by (inl w) (inr f) = absurd (longer (length (text_for parts front classes s c)) (length (text_for parts front classes s d)) d (longest front) w.short (ap length f ∙ fresh_length front d) (ap length e))
    by (inr f) (inl w) = absurd (longer (length (text_for parts front classes s d)) (length (text_for parts front classes s c)) c (longest front) w.short (ap length f ∙ fresh_length front c) (sym (ap length e)))
    by (inr f) (inr h) = as_long (length (text_for parts front classes s c)) (length (text_for parts front classes s d)) c d (longest front) (ap length f ∙ fresh_length front c) (ap length h ∙ fresh_length front d) (ap length e)
