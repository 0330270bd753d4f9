-- Lists at their places.
use Rattle.std.proofs.Common.{◌≡◌, sym, ◌∙◌, ℕ, zero, suc, ◌<◌, ◌+◌, ◌≤◌, Option, Some, None, List, [], ◌∷◌, length, get_or, inl, inr, ◌⊎◌, arith}
use Rattle.std.proofs.lemmas.List.{get_or_default, get_or_past}
use Rattle.std.proofs.lemmas.Bool.{cases_lt}
use Rattle.kp_overlap.specs.Graphs.{IsAt}

pub some_same : (m n : ℕ) → Some m ≡ Some n → m ≡ n
some_same m n e = cc

pub none_some : (n : ℕ) → None ≡ Some n → ⊥
none_some n e = absurd (cc)

pub read_at : {X : Type 0} (xs : List X) (n : ℕ) (x d : X) → IsAt xs n x → get_or xs n d ≡ x
read_at xs n x d h = get_or_default xs n d x h.0 ∙ h.1

pub is_at : {X : Type 0} (xs : List X) (n : ℕ) (d : X) → n < length xs → IsAt xs n (get_or xs n d)
is_at xs n d h = (h, get_or_default xs n (get_or xs n d) d h)

pub same_at : {X : Type 0} (xs : List X) (n : ℕ) (x y : X) → IsAt xs n x → IsAt xs n y → x ≡ y
same_at xs n x y a b = sym a.1 ∙ read_at xs n y x b

-- what differs from what stands behind the end is within
pub differs_at : {X : Type 0} (xs : List X) (n : ℕ) (x d : X) → get_or xs n d ≡ x → ¬ (d ≡ x) → IsAt xs n x
differs_at xs n x d e f = by (cases_lt n (length xs))
  where
    by : (n < length xs) ⊎ (length xs ≤ n) → IsAt xs n x
    by (inl h) = (h, get_or_default xs n x d h ∙ e)
    by (inr h) = absurd (f (sym (get_or_past xs n d h) ∙ e))

pub some_at : (rs : List (Option ℕ)) (n p : ℕ) → get_or rs n None ≡ Some p → IsAt rs n (Some p)
some_at rs n p e = differs_at rs n (Some p) None e (λ f. absurd (cc))

-- a number above all of a list
pub rank_bound : (rs : List (Option ℕ)) → (k : ℕ) × ((l p : ℕ) → IsAt rs l (Some p) → p < k)
rank_bound [] = (0, λ l p a. absurd (omega arith))
rank_bound (r ∷ rs) = by r (rank_bound rs)
  where
    by : (q : Option ℕ) → (k : ℕ) × ((l p : ℕ) → IsAt rs l (Some p) → p < k) → (k : ℕ) × ((l p : ℕ) → IsAt (q ∷ rs) l (Some p) → p < k)
    by None b = (b.0, at)
      where
        at : (l p : ℕ) → IsAt (None ∷ rs) l (Some p) → p < b.0
        at zero p a = absurd (cc)
        at (suc l) p a = b.1 l p (omega arith, a.1)
    by (Some q) b = (b.0 + suc q, at)
      where
        at : (l p : ℕ) → IsAt (Some q ∷ rs) l (Some p) → p < b.0 + suc q
        at zero p a = let e : q ≡ p = some_same q p a.1 in omega arith
        at (suc l) p a = let h : p < b.0 = b.1 l p (omega arith, a.1) in omega arith
