-- The rule of a history, which each step keeps. Word 0 is the next ticket, word 1 the ticket that has the turn, word 2 the number of entries; slot 0 holds the value, or nothing while a pass has the turn.
-- Source: the ticket lock (J. M. Mellor-Crummey, M. L. Scott, Algorithms for Scalable Synchronization on Shared-Memory Multiprocessors, 1991).
use Rattle.std.specs.Prelude.{◌≡◌, ◌⊎◌, ◌≤◌, ◌<◌, ◌+◌, ◌%◌, ◌^◌, ℕ, true, false, List, [], ◌∷◌, length, Option, Some}
use Rattle.std.specs.List.{AllByRecursion}
use mathlib.Core.Option.{Option as Home, none, some}
use mathlib.Core.List.{IsPrefix}
use lib.ListN.{get_elem?}
use Rattle.atomic_table.specs.Table.{State}
use Rattle.kp_history.specs.declared.view.Terms.{Terms}
use Rattle.kp_history.specs.declared.view.View.{View}
use Rattle.kp_history.specs.Views.{most_entries, most_seats, times, total}

module _ {E K : Type 0} where
  -- how many views have the ticket
  abbrev pub times_drawn : ℕ → List (View E K) → ℕ
  times_drawn x views = total (λ v. times x v.tickets) views

  -- in how many views the position stands
  abbrev pub times_placed : ℕ → List (View E K) → ℕ
  times_placed x views = total (λ v. times x v.positions) views

  -- what holds of a view while this ticket has the turn and these are the entries
  pub record Fits (terms_of_all : Terms K) (serving : ℕ) (log : List E) (v : View E K) : Type 0 where
    -- unless it is spent, its terms are the history's
    pub terms : 0 < v.places → v.terms ≡ Some terms_of_all
    -- the entries go on from those that it has seen, and from those that it was told of
    pub ahead : IsPrefix v.seen log
    pub told : IsPrefix v.told log
    -- where it is spent, it has no ticket and no position
    pub spent : v.places ≡ 0 → (v.tickets ≡ []) × (v.positions ≡ [])
    -- it has one ticket or none
    pub one : length v.tickets ≤ 1
    -- with the turn it has the ticket that is served, and in hand a value with these entries
    pub has_turn : v.turn ≡ true → (v.tickets ≡ serving ∷ []) × (v.hand ≡ log)
    -- its positions are among those of the entries that it has seen or was told of
    pub below : AllByRecursion (λ p. (p ≤ length v.seen) ⊎ (p ≤ length v.told)) v.positions

module _ {B E K : Type 0} (entries : B → List E) (sound : B → Type 0) where
  -- where the value is: in the slot, with these entries, and nobody has the turn; or out, and a view has the turn
  pub data IsAt (log : List E) (homes : List (Home (Option B))) (views : List (View E K)) : Type 0 where
    at_home : (b : B) → homes ≡ some (Some b) ∷ [] → entries b ≡ log → sound b → ((i : ℕ) (v : View E K) → get_elem? views i ≡ some v → v.turn ≡ false) → IsAt log homes views
    in_hand : (i : ℕ) (v : View E K) → homes ≡ none ∷ [] → get_elem? views i ≡ some v → v.turn ≡ true → IsAt log homes views

  -- the rule: tickets, places and entries in words, slot and views
  pub record IsKept (legal : K → List E → Type 0) (terms : Terms K) (s : State (Option B) (View E K)) : Type 0 where
    -- the next ticket, the ticket that has the turn, and the entries; words hold the tickets modulo 2^64
    pub ticket : ℕ
    pub serving : ℕ
    pub log : List E
    pub words : s.words ≡ (ticket % 2 ^ 64) ∷ (serving % 2 ^ 64) ∷ length log ∷ []
    -- there is room for the entries
    pub room : length log ≤ most_entries
    -- the views that aren't spent and their spare places are together the seats, of which there aren't too many
    pub few_seats : terms.seats ≤ most_seats
    pub places : total (λ v. v.places) s.views ≡ terms.seats
    -- the ticket that has the turn and the number of views with a ticket are together the next ticket
    pub waiting : serving + total (λ v. length v.tickets) s.views ≡ ticket
    -- each ticket from the one that has the turn to below the next is had once, and no other is had
    pub drawn : (x : ℕ) → serving ≤ x → x < ticket → times_drawn x s.views ≡ 1
    pub undrawn : (x : ℕ) → (x < serving) ⊎ (ticket ≤ x) → times_drawn x s.views ≡ 0
    -- each position from 1 to the number of entries stands in one view, once, and no other stands in any
    pub placed : (x : ℕ) → 0 < x → x ≤ length log → times_placed x s.views ≡ 1
    pub unplaced : (x : ℕ) → (x ≡ 0) ⊎ (length log < x) → times_placed x s.views ≡ 0
    -- the entries are legal
    pub is_legal : legal terms.about log
    -- each view fits, and the value is where it is to be
    pub fits : (i : ℕ) (v : View E K) → get_elem? s.views i ≡ some v → Fits terms serving log v
    pub place : IsAt log s.homes s.views
