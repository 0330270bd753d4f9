-- A pass between two calls, and while it has the turn.
use Rattle.std.specs.Prelude.{◌≡◌, ◌≤◌, ◌<◌, ◌+◌, ◌%◌, ◌^◌, ℕ, true, false, List, [], ◌∷◌, ◌++◌, length, Some, None}
use Rattle.kp_history.specs.declared.history.History.{History}
use Rattle.kp_history.specs.declared.pass.HistoryPass.{HistoryPass}
use Rattle.kp_history.specs.Views.{IsAtRest, most_entries, times}

module _ {E : Type 0} where
  -- nothing is added, or one entry for which there is room, and which keeps the list legal
  pub data MayAdd (legal : List E → Type 0) (before : List E) : List E → Type 0 where
    nothing : MayAdd legal before []
    one : (e : E) → length before < most_entries → legal (before ++ e ∷ []) → MayAdd legal before (e ∷ [])

module _ {B E K : Type 0} where
  -- the entries that it has seen
  abbrev pub seen : HistoryPass B E K → List E
  seen p = p.seat.me.0.seen

  -- where its own entries stand, from 1
  abbrev pub positions : HistoryPass B E K → List ℕ
  positions p = p.seat.me.0.positions

  -- the entries of the value that it has in hand, while it has the turn
  abbrev pub hand : HistoryPass B E K → List E
  hand p = p.seat.me.0.hand

  -- its positions and its spare places are what they were
  abbrev pub Keeps : HistoryPass B E K → HistoryPass B E K → Type 0
  Keeps before after = (positions after ≡ positions before) × (after.spare ≡ before.spare)

  -- with all places it has all positions: each entry that it has seen is its own
  abbrev pub HasAll : History B E K → HistoryPass B E K → Type 0
  HasAll h p = p.spare + 1 ≡ h.terms.seats → (x : ℕ) → 0 < x → x ≤ length (seen p) → times x (positions p) ≡ 1

  -- the pass is one of this history, between two calls
  pub record IsPass (h : History B E K) (p : HistoryPass B E K) : Type 0 where
    pub seated : p.seat.table_id ≡ h.table.shared.table_id
    pub at_rest : IsAtRest p.seat.me.0
    pub empty : p.seat.me.1 ≡ []
    pub terms : p.seat.me.0.terms ≡ Some h.terms
    pub spare : p.spare + 1 ≡ p.seat.me.0.places
    pub few : p.spare < h.terms.seats
    pub all : HasAll h p

  -- the pass is one of this history, and waits with a ticket, whose number in a word is this
  pub record IsWaiting (h : History B E K) (ticket : ℕ) (p : HistoryPass B E K) : Type 0 where
    pub seated : p.seat.table_id ≡ h.table.shared.table_id
    pub waits : (n : ℕ) × (ticket ≡ n % 2 ^ 64) × (p.seat.me.0.tickets ≡ n ∷ [])
    pub no_turn : p.seat.me.0.turn ≡ false
    pub none_told : p.seat.me.0.told ≡ []
    pub empty : p.seat.me.1 ≡ []
    pub terms : p.seat.me.0.terms ≡ Some h.terms
    pub spare : p.spare + 1 ≡ p.seat.me.0.places
    pub few : p.spare < h.terms.seats

  -- the pass is one of this history, has the turn, and has taken the value out of the slot
  pub record HasTurn (h : History B E K) (p : HistoryPass B E K) : Type 0 where
    pub seated : p.seat.table_id ≡ h.table.shared.table_id
    pub turn : p.seat.me.0.turn ≡ true
    pub none_told : p.seat.me.0.told ≡ []
    pub empty : p.seat.me.1 ≡ (0, None) ∷ []
    pub terms : p.seat.me.0.terms ≡ Some h.terms
    pub spare : p.spare + 1 ≡ p.seat.me.0.places
    pub few : p.spare < h.terms.seats
