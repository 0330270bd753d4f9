-- What each step tells the pass that makes it: of the step, the seat before, the number found and the seat after.
use Rattle.std.specs.Prelude.{◌≡◌, ◌≤◌, ◌<◌, ◌%◌, ◌^◌, ℕ, List, [], ◌∷◌, length, Option, Some}
use Rattle.std.specs.List.{AllByRecursion}
use mathlib.Core.List.{IsPrefix}
use Rattle.atomic_table.specs.Table.{Me, Step, rest}
use Rattle.kp_history.specs.declared.view.Terms.{Terms}
use Rattle.kp_history.specs.declared.view.View.{View}
use Rattle.kp_history.specs.Views.{after_count, most_entries, most_seats, rested, settled, times, with_ticket, with_turn}

module _ {E K : Type 0} where
  -- its places are no more than the seats, and these not too many
  abbrev pub HasFewPlaces : View E K → Type 0
  HasFewPlaces v = (k : Terms K) → v.terms ≡ Some k → (v.places ≤ k.seats) × (k.seats ≤ most_seats)

  -- where it has all places, it has all positions of the entries that it has seen
  abbrev pub HasAllPositions : View E K → View E K → Type 0
  HasAllPositions before after = (k : Terms K) → before.terms ≡ Some k → before.places ≡ k.seats → (x : ℕ) → 0 < x → x ≤ length after.seen → times x after.positions ≡ 1

module _ {B E K : Type 0} where
  -- it has a ticket, whose number in a word was found
  abbrev pub Drew : Step (Option B) → Me (Option B) (View E K) → ℕ → Me (Option B) (View E K) → Type 0
  Drew s me found after = (t : ℕ) × (found ≡ t % 2 ^ 64) × (after.0 ≡ with_ticket me.0 t) × (after.1 ≡ me.1)

  -- it has seen all, with what it added
  abbrev pub Counted : List E → Step (Option B) → Me (Option B) (View E K) → ℕ → Me (Option B) (View E K) → Type 0
  Counted added s me found after = (after.0 ≡ after_count me.0 added) × (after.1 ≡ me.1) × HasAllPositions me.0 after.0

  -- the value is back, and the pass at rest
  abbrev pub Passed : Step (Option B) → Me (Option B) (View E K) → ℕ → Me (Option B) (View E K) → Type 0
  Passed s me found after = (after.0 ≡ rested me.0) × (after.1 ≡ rest me.1)

  -- both what it had seen and what it was told of begin what it has seen
  abbrev pub Settled : Step (Option B) → Me (Option B) (View E K) → ℕ → Me (Option B) (View E K) → Type 0
  Settled s me found after = (after.0 ≡ settled me.0) × (after.1 ≡ me.1) × IsPrefix me.0.seen after.0.seen × IsPrefix me.0.told after.0.seen × HasFewPlaces me.0 × HasAllPositions me.0 after.0

module _ {B E K : Type 0} (entries : B → List E) (sound : B → Type 0) (legal : K → List E → Type 0) where
  -- it took the value, whose entries begin with what it had seen
  pub record Took (before after : Me (Option B) (View E K)) : Type 0 where
    pub value : B
    pub hand : List E
    pub view : after.0 ≡ with_turn before.0 hand
    pub carried : after.1 ≡ (0, Some value) ∷ before.1
    pub entered : entries value ≡ hand
    pub is_sound : sound value
    pub ahead : IsPrefix before.0.seen hand
    pub is_legal : (k : Terms K) → before.0.terms ≡ Some k → legal k.about hand
    pub below : AllByRecursion (λ p. p ≤ length hand) before.0.positions
    pub room : length hand ≤ most_entries

  -- it has the turn, and took the value, where the number found is its ticket's; else nothing changed
  abbrev pub Watched : Step (Option B) → Me (Option B) (View E K) → ℕ → Me (Option B) (View E K) → Type 0
  Watched s me found after =
      (t : ℕ) → me.0.tickets ≡ t ∷ [] → (found ≡ t % 2 ^ 64 → Took me after) × (¬ (found ≡ t % 2 ^ 64) → (after.0 ≡ me.0) × (after.1 ≡ me.1))
