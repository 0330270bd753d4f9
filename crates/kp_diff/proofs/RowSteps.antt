-- One cell more of a row.
use Rattle.std.proofs.Common.{◌≡◌, ◌≢◌, refl, sym, ◌∙◌, ap, subst, arith, List, [], get_or, length, ◌<◌, ◌≤◌, ℕ, zero, suc, ℤ, ◌+ℤ◌, Option, Some, None, set, ◌⊎◌, inl, inr, Bool, true, false}
use Rattle.std.specs.Prelude.{int_le, if◌then◌else◌}
use Rattle.std.proofs.lemmas.Int.{ints}
use Rattle.std.proofs.lemmas.List.{get_or-set_same, get_or-set_other, length-set}
use Rattle.kp_diff.specs.Bounds.{narrower, summed}
use Rattle.kp_diff.specs.Rows.{Rows, bound_in, eliminated, IsSound, IsSquare, IsRowUpTo}

same_cell : (rows : Rows) (x y : ℕ) (b : Option ℤ) → x < length rows → y < length (get_or rows x []) → bound_in (set rows x (set (get_or rows x []) y b)) x y ≡ b
same_cell rows x y b hx hy = ap (λ r. get_or r y None) (get_or-set_same rows x (set (get_or rows x []) y b) [] hx) ∙ get_or-set_same (get_or rows x []) y b None hy

other_column : (rows : Rows) (x y j : ℕ) (b : Option ℤ) → x < length rows → j ≢ y → bound_in (set rows x (set (get_or rows x []) y b)) x j ≡ bound_in rows x j
other_column rows x y j b hx ne = ap (λ r. get_or r j None) (get_or-set_same rows x (set (get_or rows x []) y b) [] hx) ∙ get_or-set_other (get_or rows x []) y j b None ne

other_row : (rows : Rows) (x i j : ℕ) (r : List (Option ℤ)) → i ≢ x → bound_in (set rows x r) i j ≡ bound_in rows i j
other_row rows x i j r ne = ap (λ l. get_or l j None) (get_or-set_other rows x i r [] ne)

-- a sum over a sound bound is no narrower
chosen_first : (t : Bool) (c d : ℤ) → int_le c d ≡ t → c ≡ d ⊎ (int_le c d ≡ true) → (if t then Some c else Some d) ≡ Some c
chosen_first true c d e h = refl
chosen_first false c d e (inl s) = ap Some (sym s)
chosen_first false c d e (inr f) = cc

pub sound_before : (o d : Option ℤ) → IsSound d → narrower o (summed d o) ≡ o
sound_before None None s = refl
sound_before None (Some c) s = refl
sound_before (Some a) None s = refl
sound_before (Some a) (Some c) s = chosen_first (int_le a (c +ℤ a)) a (c +ℤ a) refl (inr (grind (arith, ints)))

pub sound_after : (o d : Option ℤ) → IsSound d → narrower o (summed o d) ≡ o
sound_after None d s = refl
sound_after (Some a) None s = refl
sound_after (Some a) (Some c) s = chosen_first (int_le a (a +ℤ c)) a (a +ℤ c) refl (inr (grind (arith, ints)))

pub same_or_not : (a b : ℕ) → (a ≡ b) ⊎ (a ≢ b)
same_or_not zero zero = inl refl
same_or_not zero (suc b) = inr (λ e. cc)
same_or_not (suc a) zero = inr (λ e. cc)
same_or_not (suc a) (suc b) = elim (same_or_not a b) [ inl e ↦ inl (ap suc e) | inr n ↦ inr (λ e. n (omega (arith, e))) ]

pub before_or_not : (a b : ℕ) → (a < b) ⊎ (b ≤ a)
before_or_not a zero = inr (omega arith)
before_or_not zero (suc b) = inl (omega arith)
before_or_not (suc a) (suc b) = elim (before_or_not a b) [ inl e ↦ inl (omega arith) | inr n ↦ inr (omega arith) ]

-- column k of the row and row k are as before
pub column_kept : (n : ℕ) (before now : Rows) (k x y : ℕ) → IsSound (bound_in before k k) → IsRowUpTo n before now k x y → bound_in now x k ≡ bound_in before x k
column_kept n before now k x y s r = elim (before_or_not k y) [ inl h ↦ r.done k h ∙ sound_after (bound_in before x k) (bound_in before k k) s | inr h ↦ r.left k h ]

pub row_kept : (n : ℕ) (before now : Rows) (k x y : ℕ) → IsRowUpTo n before now k x y → bound_in now k y ≡ bound_in before k y
row_kept n before now k x y r = elim (same_or_not k x) [ inl e ↦ subst (λ z. bound_in now z y ≡ bound_in before z y) (sym e) (r.left y (same_most y)) | inr ne ↦ r.others k y ne ]
  where
    same_most : (a : ℕ) → a ≤ a
    same_most a = omega arith

pub square_set : (n : ℕ) (rows : Rows) (x : ℕ) (r : List (Option ℤ)) → x < n → length r ≡ n → IsSquare n rows → IsSquare n (set rows x r)
square_set n rows x r hx e q = record {
  rows_long = length-set rows x r ∙ q.rows_long;
  each_long = λ i h. long i h (same_or_not i x);
}
  where
    hx' : x < length rows
    hx' = subst (λ k. x < k) (sym q.rows_long) hx

    long : (i : ℕ) → i < n → (i ≡ x) ⊎ (i ≢ x) → length (get_or (set rows x r) i []) ≡ n
    long i h (inl s) = subst (λ z. length (get_or (set rows x r) z []) ≡ n) (sym s) (ap length (get_or-set_same rows x r [] hx') ∙ e)
    long i h (inr ne) = ap length (get_or-set_other rows x i r [] ne) ∙ q.each_long i h

pub square_stays : (n : ℕ) (rows : Rows) (x y : ℕ) (b : Option ℤ) → x < n → IsSquare n rows → IsSquare n (set rows x (set (get_or rows x []) y b))
square_stays n rows x y b hx q = square_set n rows x (set (get_or rows x []) y b) hx (length-set (get_or rows x []) y b ∙ q.each_long x hx) q

-- one cell is changed
pub changed_here : (n : ℕ) (rows : Rows) (x y : ℕ) (b : Option ℤ) → x < n → y < n → IsSquare n rows → bound_in (set rows x (set (get_or rows x []) y b)) x y ≡ b
changed_here n rows x y b hx hy q = same_cell rows x y b (subst (λ k. x < k) (sym q.rows_long) hx) (subst (λ k. y < k) (sym (q.each_long x hx)) hy)

pub kept_elsewhere : (n : ℕ) (rows : Rows) (x y : ℕ) (b : Option ℤ) → x < n → IsSquare n rows → (i j : ℕ) → (i ≢ x) ⊎ (j ≢ y) → bound_in (set rows x (set (get_or rows x []) y b)) i j ≡ bound_in rows i j
kept_elsewhere n rows x y b hx q i j other = by (same_or_not i x) other
  where
    by : (i ≡ x) ⊎ (i ≢ x) → (i ≢ x) ⊎ (j ≢ y) → bound_in (set rows x (set (get_or rows x []) y b)) i j ≡ bound_in rows i j
    by (inr ne) o = other_row rows x i j (set (get_or rows x []) y b) ne
    by (inl e) (inl ne) = absurd (ne e)
    by (inl e) (inr ne) = subst (λ z. bound_in (set rows x (set (get_or rows x []) y b)) z j ≡ bound_in rows z j) (sym e) (other_column rows x y j b (subst (λ k. x < k) (sym q.rows_long) hx) ne)

pub row_begins : (n : ℕ) (rows : Rows) (k x : ℕ) → IsSquare n rows → IsRowUpTo n rows rows k x 0
row_begins n rows k x q = record {
  square = q;
  done = λ j h. absurd (none j h);
  left = λ j h. refl;
  others = λ i j ne. refl;
}
  where
    none : (j : ℕ) → j < 0 → ⊥
    none j h = omega arith

pub row_step : (n : ℕ) (before now after : Rows) (k x y : ℕ) → IsSound (bound_in before k k) → x < n → y < n → IsRowUpTo n before now k x y →
    after ≡ set now x (set (get_or now x []) y (eliminated (bound_in now) k x y)) → IsRowUpTo n before after k x (suc y)
row_step n before now after k x y s hx hy r e = subst (λ z. IsRowUpTo n before z k x (suc y)) (sym e) (record {
  square = square_stays n now x y b hx r.square;
  done = λ j h. at_done j h (same_or_not j y);
  left = λ j h. other_column now x y j b hx' (beyond j h) ∙ r.left j (less_than j h);
  others = λ i j ne. other_row now x i j (set (get_or now x []) y b) ne ∙ r.others i j ne;
})
  where
    b : Option ℤ
    b = eliminated (bound_in now) k x y

    hx' : x < length now
    hx' = subst (λ z. x < z) (sym r.square.rows_long) hx

    hy' : y < length (get_or now x [])
    hy' = subst (λ z. y < z) (sym (r.square.each_long x hx)) hy

    same_most : (a : ℕ) → a ≤ a
    same_most a = omega arith

    is : b ≡ eliminated (bound_in before) k x y
    is = ap (λ o. narrower o (summed (bound_in now x k) (bound_in now k y))) (r.left y (same_most y)) ∙ ap (λ o. narrower (bound_in before x y) (summed o (bound_in now k y))) (column_kept n before now k x y s r) ∙ ap (λ o. narrower (bound_in before x y) (summed (bound_in before x k) o)) (row_kept n before now k x y r)

    earlier : (j : ℕ) → j < suc y → j ≢ y → j < y
    earlier j h ne = by (before_or_not j y)
      where
        by : (j < y) ⊎ (y ≤ j) → j < y
        by (inl k') = k'
        by (inr k') = absurd (ne (omega arith))

    at_done : (j : ℕ) → j < suc y → (j ≡ y) ⊎ (j ≢ y) → bound_in (set now x (set (get_or now x []) y b)) x j ≡ eliminated (bound_in before) k x j
    at_done j h (inl e') = subst (λ z. bound_in (set now x (set (get_or now x []) y b)) x z ≡ eliminated (bound_in before) k x z) (sym e') (same_cell now x y b hx' hy' ∙ is)
    at_done j h (inr ne) = other_column now x y j b hx' ne ∙ r.done j (earlier j h ne)

    beyond : (j : ℕ) → suc y ≤ j → j ≢ y
    beyond j h e' = absurd (not_so y (subst (λ z. suc y ≤ z) e' h))
      where
        not_so : (a : ℕ) → suc a ≤ a → ⊥
        not_so a g = omega arith

    less_than : (j : ℕ) → suc y ≤ j → y ≤ j
    less_than j h = omega arith

-- a row without a bound to the place stays as it is
pub row_stays : (n : ℕ) (rows : Rows) (k x y : ℕ) → IsSquare n rows → None ≡ bound_in rows x k → IsRowUpTo n rows rows k x y
row_stays n rows k x y q e = record {
  square = q;
  done = λ j h. unchanged (bound_in rows x j) (bound_in rows k j) ∙ ap (λ o. narrower (bound_in rows x j) (summed o (bound_in rows k j))) e;
  left = λ j h. refl;
  others = λ i j ne. refl;
}
  where
    unchanged : (o p : Option ℤ) → o ≡ narrower o (summed None p)
    unchanged None p = refl
    unchanged (Some a) p = refl
