-- Loops over the elements of a list.
use Rattle.std.proofs.Common.{sym, subst, ℕ, ◌+◌, ◌<◌, ◌≤◌, inl, inr, List, [], length, take, get_or, Contains}
use Rattle.std.proofs.lemmas.List.{take_more, take_all}
use Rattle.std.proofs.lemmas.List.Elements.{Contains-push_cases, Contains-get_or}
use Rattle.kp_heads.proofs.Values.{nothing_in}

module _ {A : Type 0} (P : A → Type 0) (xs : List A) where
  pub none_yet : (x : A) → Contains [] x → P x
  none_yet x h = absurd (nothing_in x h)

  pub all_more : (i : ℕ) (d : A) → i < length xs → ((x : A) → Contains (take i xs) x → P x) → P (get_or xs i d) → (x : A) → Contains (take (i + 1) xs) x → P x
  all_more i d short all here x h = elim (Contains-push_cases (take i xs) (get_or xs i d) x (subst (λ l. Contains l x) (take_more xs i d short) h)) [
    | inl old ↦ all x old
    | inr same ↦ subst P same here
  ]

  pub all_done : (i : ℕ) → length xs ≤ i → ((x : A) → Contains (take i xs) x → P x) → (x : A) → Contains xs x → P x
  all_done i past all x h = all x (subst (λ l. Contains l x) (sym (take_all i xs past)) h)

  pub not_all : (i : ℕ) (d : A) → i < length xs → ¬ P (get_or xs i d) → ¬ ((x : A) → Contains xs x → P x)
  not_all i d short not all = not (all (get_or xs i d) (Contains-get_or xs i d short))
