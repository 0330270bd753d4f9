-- Rows of places, changed one by one.
use Rattle.std.proofs.Common.{◌≡◌, refl, sym, ap, ◌∙◌, ℕ, zero, suc, ◌+◌, ◌<◌, ◌≤◌, List, [], ◌∷◌, ◌++◌, length, map, set, get_or, take, drop, Vec, Global, arith}
use Rattle.kp_rule_sets.specs.Rows.{rows_view}
use Rattle.kp_rule_sets.specs.declared.places.Ranked.{Ranked}

-- a place behind the others of one row
pub set_row : (rows : List (Vec Ranked Global)) (n : ℕ) (i : Ranked) (v w : Vec Ranked Global) → n < length rows → v ≡ get_or rows n v → w.items ≡ v.items ++ i ∷ [] →
    rows_view (set rows n w) ≡ set (rows_view rows) n (get_or (rows_view rows) n [] ++ i ∷ [])
set_row [] n i v w h is e = absurd (none n h)
  where
    none : (k : ℕ) → k < 0 → ⊥
    none k h = omega arith
set_row (u ∷ us) zero i v w h is e = ap (λ l. l ∷ rows_view us) (e ∙ ap (λ (x : Vec Ranked Global). x.items ++ i ∷ []) is)
set_row (u ∷ us) (suc n) i v w h is e = ap (λ l. u.items ∷ l) (set_row us n i v w (omega arith) is e)

pub rows_length : (rows : List (Vec Ranked Global)) → length (rows_view rows) ≡ length rows
rows_length [] = refl
rows_length (row ∷ rows) = ap suc (rows_length rows)

pub row_added : (rows : List (Vec Ranked Global)) (row : Vec Ranked Global) (first : List Ranked) → row.items ≡ first → rows_view (rows ++ row ∷ []) ≡ rows_view rows ++ first ∷ []
row_added [] row first e = ap (λ l. l ∷ []) e
row_added (r ∷ rows) row first e = ap (λ l. r.items ∷ l) (row_added rows row first e)
