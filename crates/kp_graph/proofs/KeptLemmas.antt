-- What is kept beside the nodes, and what it tells.
use Rattle.std.proofs.Common.{◌≡◌, refl, ◌∙◌, ap, ℕ, zero, suc, ◌+◌, ◌<◌, ◌≤◌, Bool, true, false, Some, ◌||◌, List, [], ◌∷◌, ◌++◌, length, slice_get, set, arith}
use Rattle.std.specs.List.{AllByRecursion}
use Rattle.std.proofs.Math.Bool.{or-false}
use Rattle.std.proofs.lemmas.List.Folds.{list_any-append}
use Rattle.kp_graph.specs.Tree.{ProofNode, is_open, open_from, is_failed}
use Rattle.kp_graph.specs.Kept.{before_open, some_failed}

-- ---- the nodes before the first open one

pub before_within : (tree : List ProofNode) → before_open tree ≤ length tree
before_within [] = omega arith
before_within (x ∷ xs) = by_test (is_open x) refl (before_within xs)
  where
    by_test : (b : Bool) → is_open x ≡ b → before_open xs ≤ length xs → before_open (x ∷ xs) ≤ length (x ∷ xs)
    by_test true e more = rw e (omega arith)
    by_test false e more = rw e (omega arith)

-- an open node isn't before the first open one
pub stops : (tree : List ProofNode) (i : ℕ) (x : ProofNode) → slice_get tree i ≡ Some x → is_open x ≡ true → before_open tree ≤ i
stops [] i x at e = absurd (cc)
stops (y ∷ ys) zero x at e = let same : y ≡ x = cc in rw (same, e) (omega arith)
stops (y ∷ ys) (suc i) x at e = by_test (is_open y) refl (stops ys i x at e)
  where
    by_test : (b : Bool) → is_open y ≡ b → before_open ys ≤ i → before_open (y ∷ ys) ≤ suc i
    by_test true o more = rw o (omega arith)
    by_test false o more = rw o (omega arith)

-- behind nodes that aren't open, one more that isn't
pub goes : (tree : List ProofNode) (i : ℕ) (x : ProofNode) → i ≤ before_open tree → slice_get tree i ≡ Some x → is_open x ≡ false → i + 1 ≤ before_open tree
goes [] i x below at e = absurd (cc)
goes (y ∷ ys) zero x below at e = let same : y ≡ x = cc in rw (same, e) (omega arith)
goes (y ∷ ys) (suc i) x below at e = by_test (is_open y) refl below (λ l. goes ys i x l at e)
  where
    by_test : (b : Bool) → is_open y ≡ b → suc i ≤ before_open (y ∷ ys) → (i ≤ before_open ys → i + 1 ≤ before_open ys) → suc i + 1 ≤ before_open (y ∷ ys)
    by_test true o l more = let none : suc i ≤ 0 = rw o at l in absurd (omega arith)
    by_test false o l more =
        let less : suc i ≤ suc (before_open ys) = rw o at l in
        let next : i + 1 ≤ before_open ys = more (omega arith) in
        rw o (omega arith)

-- the first open node
pub first_is : (n : ℕ) (tree : List ProofNode) → before_open tree < length tree → slice_get (open_from n tree) 0 ≡ Some (before_open tree + n)
first_is n [] l = absurd (omega arith)
first_is n (x ∷ xs) l = by_test (is_open x) refl l (first_is (n + 1) xs)
  where
    by_test : (b : Bool) → is_open x ≡ b → before_open (x ∷ xs) < length (x ∷ xs) → (before_open xs < length xs → slice_get (open_from (n + 1) xs) 0 ≡ Some (before_open xs + (n + 1))) → slice_get (open_from n (x ∷ xs)) 0 ≡ Some (before_open (x ∷ xs) + n)
    by_test true o l more = rw o (ap Some (omega arith))
    by_test false o l more =
        let less : suc (before_open xs) < suc (length xs) = rw o at l in
        rw o (more (omega arith) ∙ ap Some (omega arith))

pub none_is_open : (n : ℕ) (tree : List ProofNode) → length tree ≤ before_open tree → open_from n tree ≡ []
none_is_open n [] l = refl
none_is_open n (x ∷ xs) l = by_test (is_open x) refl l (none_is_open (n + 1) xs)
  where
    by_test : (b : Bool) → is_open x ≡ b → length (x ∷ xs) ≤ before_open (x ∷ xs) → (length xs ≤ before_open xs → open_from (n + 1) xs ≡ []) → open_from n (x ∷ xs) ≡ []
    by_test true o l more = let none : suc (length xs) ≤ 0 = rw o at l in absurd (omega arith)
    by_test false o l more =
        let less : suc (length xs) ≤ suc (before_open xs) = rw o at l in
        rw o (more (omega arith))

-- where a node is closed, the first open one is no earlier
pub before_set : (tree : List ProofNode) (i : ℕ) (y : ProofNode) → is_open y ≡ false → before_open tree ≤ before_open (set tree i y)
before_set [] i y e = omega arith
before_set (x ∷ xs) zero y e = by_test (is_open x) refl
  where
    by_test : (b : Bool) → is_open x ≡ b → before_open (x ∷ xs) ≤ before_open (y ∷ xs)
    by_test true o = rw o (omega arith)
    by_test false o = rw (o, e) (omega arith)
before_set (x ∷ xs) (suc i) y e = by_test (is_open x) refl (before_set xs i y e)
  where
    by_test : (b : Bool) → is_open x ≡ b → before_open xs ≤ before_open (set xs i y) → before_open (x ∷ xs) ≤ before_open (x ∷ set xs i y)
    by_test true o more = rw o (omega arith)
    by_test false o more = rw o (omega arith)

pub before_append : (xs ys : List ProofNode) → before_open xs ≤ before_open (xs ++ ys)
before_append [] ys = omega arith
before_append (x ∷ xs) ys = by_test (is_open x) refl (before_append xs ys)
  where
    by_test : (b : Bool) → is_open x ≡ b → before_open xs ≤ before_open (xs ++ ys) → before_open (x ∷ xs) ≤ before_open (x ∷ (xs ++ ys))
    by_test true o more = rw o (omega arith)
    by_test false o more = rw o (omega arith)

-- ---- a tree that is changed at a node

pub failed_set : (tree : List ProofNode) (i : ℕ) (x y : ProofNode) → slice_get tree i ≡ Some x → is_failed y.arc ≡ is_failed x.arc → some_failed (set tree i y) ≡ some_failed tree
failed_set [] i x y at e = refl
failed_set (z ∷ zs) zero x y at e = let same : z ≡ x = cc in rw (same, e) refl
failed_set (z ∷ zs) (suc i) x y at e = ap (λ b. is_failed z.arc || b) (failed_set zs i x y at e)

pub failed_put : (tree : List ProofNode) (i : ℕ) (x y : ProofNode) → slice_get tree i ≡ Some x → is_failed y.arc ≡ true → some_failed (set tree i y) ≡ true
failed_put [] i x y at e = absurd (cc)
failed_put (z ∷ zs) zero x y at e = rw e refl
failed_put (z ∷ zs) (suc i) x y at e = by_test (is_failed z.arc) (failed_put zs i x y at e)
  where
    by_test : (b : Bool) → some_failed (set zs i y) ≡ true → (b || some_failed (set zs i y)) ≡ true
    by_test true more = refl
    by_test false more = more

pub failed_append : (tree zs : List ProofNode) → AllByRecursion (λ z. is_failed z.arc ≡ false) zs → some_failed (tree ++ zs) ≡ some_failed tree
failed_append tree zs none = list_any-append (λ x. is_failed x.arc) tree zs ∙ ap (λ b. some_failed tree || b) (none_failed zs none) ∙ or-false (some_failed tree)
  where
    none_failed : (zs : List ProofNode) → AllByRecursion (λ z. is_failed z.arc ≡ false) zs → some_failed zs ≡ false
    none_failed [] a = refl
    none_failed (z ∷ zs) a = rw (a.0, none_failed zs a.1) refl
