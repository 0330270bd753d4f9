-- Names among variables, bound and free.
use Rattle.std.proofs.Common.{◌≡◌, refl, sym, ◌∙◌, subst, Bool, true, false, not, ◌||◌, List, [], ◌∷◌, ◌++◌, ◌⊎◌, inl, inr}
use Rattle.std.specs.Prelude.{if◌then◌else◌}
use Rattle.std.specs.List.{AllByRecursion, filter}
use Rattle.std.specs.Str.{bytes_eq}
use Rattle.std.proofs.lemmas.Slice.Eq.{bytes_eq-Decides}
use Rattle.kp_kore.specs.Syntax.{Text, KorePattern, KorePatterns, conjunction, exists, no_patterns, next_pattern}
use Rattle.kp_kore.specs.Parts.{SortedName, free_variables, all_free_variables, without_name}
use Rattle.kp_kore.specs.Instance.{is_named, conjuncts, all_conjuncts}
use Rattle.kp_kore.specs.Rules.{top_binders, under_binders}
use Rattle.kp_kore.proofs.ListLemmas.{all_append, all_left, all_right, all_map}

pub first_false : (a b : Bool) → a || b ≡ false → a ≡ false
first_false true b h = h
first_false false b h = refl

pub second_false : (a b : Bool) → a || b ≡ false → b ≡ false
second_false true b h = absurd (cc)
second_false false b h = h

pub same_bytes : (x : Text) → bytes_eq x x ≡ true
same_bytes x = (bytes_eq-Decides x x).1 refl

pub true_is_false : true ≡ false → ⊥
true_is_false h = cc

-- each member of a list is named in it
weaken : (y : SortedName) (xs ys : List SortedName) → AllByRecursion (λ x. is_named x.name xs ≡ true) ys → AllByRecursion (λ x. is_named x.name (y ∷ xs) ≡ true) ys
weaken y xs ys a = all_map (λ x. is_named x.name xs ≡ true) (λ x. is_named x.name (y ∷ xs) ≡ true) ys (λ x h. either (bytes_eq y.name x.name) (is_named x.name xs) h) a
  where
    either : (a b : Bool) → b ≡ true → a || b ≡ true
    either true b h = refl
    either false b h = h

pub members_named : (xs : List SortedName) → AllByRecursion (λ x. is_named x.name xs ≡ true) xs
members_named [] = tt
members_named (x ∷ xs) = (rw (same_bytes x.name) refl, weaken x xs xs (members_named xs))

-- what holds of all members holds of one that is named, by its name
pub by_name : (P : Text → Type 0) (x : Text) (xs : List SortedName) → is_named x xs ≡ true → AllByRecursion (λ y. P y.name) xs → P x
by_name P x [] n a = absurd (cc)
by_name P x (y ∷ ys) n a = by_test (bytes_eq y.name x) refl n (λ m. by_name P x ys m a.1)
  where
    by_test : (b : Bool) → bytes_eq y.name x ≡ b → b || is_named x ys ≡ true → (is_named x ys ≡ true → P x) → P x
    by_test true e n rest = subst P ((bytes_eq-Decides y.name x).0 e) a.0
    by_test false e n rest = rest n

-- a name that stays where those of one name are taken away
stays_named : (x y : Text) (xs : List SortedName) → bytes_eq y x ≡ false → is_named x xs ≡ true → is_named x (without_name y xs) ≡ true
stays_named x y [] e n = absurd (cc)
stays_named x y (z ∷ zs) e n = by_test (bytes_eq z.name y) refl (λ m. stays_named x y zs e m)
  where
    other : bytes_eq z.name y ≡ true → bytes_eq z.name x ≡ true → ⊥
    other f h = let zy : z.name ≡ y = (bytes_eq-Decides z.name y).0 f in let zx : z.name ≡ x = (bytes_eq-Decides z.name x).0 h in true_is_false (sym ((bytes_eq-Decides y x).1 (sym zy ∙ zx)) ∙ e)

    in_rest : bytes_eq z.name y ≡ true → (b : Bool) → bytes_eq z.name x ≡ b → b || is_named x zs ≡ true → is_named x zs ≡ true
    in_rest f true h n = absurd (other f h)
    in_rest f false h n = n

    kept : (b : Bool) → b || is_named x zs ≡ true → (is_named x zs ≡ true → is_named x (without_name y zs) ≡ true) → b || is_named x (without_name y zs) ≡ true
    kept true n rest = refl
    kept false n rest = rest n

    by_test : (b : Bool) → bytes_eq z.name y ≡ b → (is_named x zs ≡ true → is_named x (without_name y zs) ≡ true) → is_named x (without_name y (z ∷ zs)) ≡ true
    by_test true f rest = rw f (rest (in_rest f (bytes_eq z.name x) refl n))
    by_test false f rest = rw f (kept (bytes_eq z.name x) n rest)

-- a name that is taken away with those of a list is one of the list
pub taken_named : (x : Text) (ls xs : List SortedName) → is_named x xs ≡ true → is_named x (filter (λ z. not (is_named z.name ls)) xs) ≡ false → is_named x ls ≡ true
taken_named x ls [] n out = absurd (cc)
taken_named x ls (z ∷ zs) n out = by_test (is_named z.name ls) refl (λ m o. taken_named x ls zs m o)
  where
    others : List SortedName
    others = filter (λ z. not (is_named z.name ls)) zs

    gone : (b : Bool) → bytes_eq z.name x ≡ b → b || is_named x zs ≡ true → is_named z.name ls ≡ true → is_named x others ≡ false → (is_named x zs ≡ true → is_named x others ≡ false → is_named x ls ≡ true) → is_named x ls ≡ true
    gone true h n l o rest = subst (λ y. is_named y ls ≡ true) ((bytes_eq-Decides z.name x).0 h) l
    gone false h n l o rest = rest n o

    stood : (b : Bool) → b || is_named x zs ≡ true → b || is_named x others ≡ false → (is_named x zs ≡ true → is_named x others ≡ false → is_named x ls ≡ true) → is_named x ls ≡ true
    stood true n o rest = absurd (true_is_false o)
    stood false n o rest = rest n o

    by_test : (b : Bool) → is_named z.name ls ≡ b → (is_named x zs ≡ true → is_named x others ≡ false → is_named x ls ≡ true) → is_named x ls ≡ true
    by_test true l rest = gone (bytes_eq z.name x) refl n l (subst (λ b. is_named x (if not b then z ∷ others else others) ≡ false) l out) rest
    by_test false l rest = stood (bytes_eq z.name x) n (subst (λ b. is_named x (if not b then z ∷ others else others) ≡ false) l out) rest

pub named_append : (x : Text) (xs ys : List SortedName) → is_named x (xs ++ ys) ≡ false → (is_named x xs ≡ false) × (is_named x ys ≡ false)
named_append x [] ys n = (refl, n)
named_append x (z ∷ zs) ys n =
    let rest : (is_named x zs ≡ false) × (is_named x ys ≡ false) = named_append x zs ys (second_false (bytes_eq z.name x) (is_named x (zs ++ ys)) n) in
    (rw (first_false (bytes_eq z.name x) (is_named x (zs ++ ys)) n) rest.0, rest.1)

-- a free variable under the binders is bound by them or free above them
pub under : (p : KorePattern) → AllByRecursion (λ x. (is_named x.name (top_binders p) ≡ true) ⊎ (is_named x.name (free_variables p) ≡ true)) (free_variables (under_binders p))
under (exists s y t p) = all_map (λ x. (is_named x.name (top_binders p) ≡ true) ⊎ (is_named x.name (free_variables p) ≡ true)) (λ x. (is_named x.name (top_binders (exists s y t p)) ≡ true) ⊎ (is_named x.name (free_variables (exists s y t p)) ≡ true)) (free_variables (under_binders p))
    (λ x h. outward x.name h) (under p)
  where
    free : (x : Text) → is_named x (free_variables p) ≡ true → (b : Bool) → bytes_eq y x ≡ b → (b || is_named x (top_binders p) ≡ true) ⊎ (is_named x (without_name y (free_variables p)) ≡ true)
    free x n true e = inl refl
    free x n false e = inr (stays_named x y (free_variables p) e n)

    bound : (b : Bool) (c : Bool) → c ≡ true → b || c ≡ true
    bound true c h = refl
    bound false c h = h

    outward : (x : Text) → (is_named x (top_binders p) ≡ true) ⊎ (is_named x (free_variables p) ≡ true) → (is_named x (top_binders (exists s y t p)) ≡ true) ⊎ (is_named x (free_variables (exists s y t p)) ≡ true)
    outward x h = elim h [ inl n ↦ inl (bound (bytes_eq y x) (is_named x (top_binders p)) n) | inr n ↦ free x n (bytes_eq y x) refl ]
under p = all_map (λ x. is_named x.name (free_variables p) ≡ true) (λ x. (is_named x.name (top_binders p) ≡ true) ⊎ (is_named x.name (free_variables p) ≡ true)) (free_variables p) (λ x h. inr h) (members_named (free_variables p))

-- what holds of all free variables holds of those of each conjunct
mutual
  pub of_conjuncts : (P : SortedName → Type 0) (p : KorePattern) → AllByRecursion P (free_variables p) → AllByRecursion (λ q. AllByRecursion P (free_variables q)) (conjuncts p)
  of_conjuncts P (conjunction s ps) a = of_all_conjuncts P ps a
  of_conjuncts P p a = (a, tt)

  of_all_conjuncts : (P : SortedName → Type 0) (ps : KorePatterns) → AllByRecursion P (all_free_variables ps) → AllByRecursion (λ q. AllByRecursion P (free_variables q)) (all_conjuncts ps)
  of_all_conjuncts P no_patterns a = tt
  of_all_conjuncts P (next_pattern p ps) a = all_append (λ q. AllByRecursion P (free_variables q)) (conjuncts p) (all_conjuncts ps)
      (of_conjuncts P p (all_left P (free_variables p) (all_free_variables ps) a))
      (of_all_conjuncts P ps (all_right P (free_variables p) (all_free_variables ps) a))

-- what stands free isn't bound above
pub not_bound : (p : KorePattern) → AllByRecursion (λ x. is_named x.name (top_binders p) ≡ false) (free_variables p)
not_bound (exists s y t p) = without y (free_variables p) (not_bound p)
  where
    without : (y : Text) (xs : List SortedName) → AllByRecursion (λ x. is_named x.name (top_binders p) ≡ false) xs → AllByRecursion (λ x. bytes_eq y x.name || is_named x.name (top_binders p) ≡ false) (without_name y xs)
    without y [] a = tt
    without y (x ∷ xs) a = by_test (bytes_eq x.name y) refl (without y xs a.1)
      where
        flipped : bytes_eq x.name y ≡ false → bytes_eq y x.name ≡ false
        flipped e = by_case (bytes_eq y x.name) refl
          where
            by_case : (b : Bool) → bytes_eq y x.name ≡ b → bytes_eq y x.name ≡ false
            by_case true f = absurd (true_is_false (sym ((bytes_eq-Decides x.name y).1 (sym ((bytes_eq-Decides y x.name).0 f))) ∙ e))
            by_case false f = f

        by_test : (b : Bool) → bytes_eq x.name y ≡ b → AllByRecursion (λ x. bytes_eq y x.name || is_named x.name (top_binders p) ≡ false) (without_name y xs) → AllByRecursion (λ x. bytes_eq y x.name || is_named x.name (top_binders p) ≡ false) (without_name y (x ∷ xs))
        by_test true e rest = rw e rest
        by_test false e rest = rw e ((rw (flipped e) a.0), rest)
not_bound p = all_map (λ x. is_named x.name (free_variables p) ≡ true) (λ x. is_named x.name [] ≡ false) (free_variables p) (λ x h. refl) (members_named (free_variables p))
