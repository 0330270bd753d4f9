-- What a pass knows, and what each step makes of it.
-- Source: the ticket lock (J. M. Mellor-Crummey, M. L. Scott, Algorithms for Scalable Synchronization on Shared-Memory Multiprocessors, 1991).
use Rattle.std.specs.Prelude.{◌≡◌, ◌<◌, ◌+◌, ◌-◌, ◌==◌, ℕ, suc, true, false, List, [], ◌∷◌, ◌++◌, length, Option, if◌then◌else◌}
use Rattle.kp_history.specs.declared.view.Terms.{Terms}
use Rattle.kp_history.specs.declared.view.View.{View}

-- ---- numbers

-- the most entries of a history
abbrev pub most_entries : ℕ
most_entries = 4096

-- the most passes that a history may have at once
abbrev pub most_seats : ℕ
most_seats = 64

-- what the function gives of each, added up
abbrev pub total : {A : Type 0} → (A → ℕ) → List A → ℕ
total f [] = 0
total f (x ∷ xs) = f x + total f xs

-- how often the number stands in the list
abbrev pub times : ℕ → List ℕ → ℕ
times x [] = 0
times x (y ∷ ys) = (if x == y then 1 else 0) + times x ys

module _ {E : Type 0} where
  -- the positions of these entries where so many stand before them
  abbrev pub positions_from : ℕ → List E → List ℕ
  positions_from n [] = []
  positions_from n (e ∷ es) = suc n ∷ positions_from (suc n) es

  -- the second where the first isn't longer, else the first
  abbrev pub longer : List E → List E → List E
  longer xs ys = if (length xs - length ys) == 0 then ys else xs

-- ---- views

module _ {E K : Type 0} where
  -- it is at rest: neither spent nor waiting, and what it was told of is compared
  pub record IsAtRest (v : View E K) : Type 0 where
    pub some_place : 0 < v.places
    pub no_ticket : v.tickets ≡ []
    pub no_turn : v.turn ≡ false
    pub none_told : v.told ≡ []

  -- it has these places and has seen these entries, none of them its own
  abbrev pub newcomer : Option (Terms K) → ℕ → List E → View E K
  newcomer terms n seen = record { terms = terms; places = n; seen = seen; told = []; positions = []; tickets = []; turn = false; hand = [] }

  -- it draws this ticket
  abbrev pub with_ticket : View E K → ℕ → View E K
  with_ticket v t = record { terms = v.terms; places = v.places; seen = v.seen; told = v.told; positions = v.positions; tickets = t ∷ []; turn = false; hand = v.hand }

  -- it gets the turn, and a value with these entries
  abbrev pub with_turn : View E K → List E → View E K
  with_turn v hand = record { terms = v.terms; places = v.places; seen = v.seen; told = v.told; positions = v.positions; tickets = v.tickets; turn = true; hand = hand }

  -- it adds these entries to those in hand, and has seen them all
  abbrev pub after_count : View E K → List E → View E K
  after_count v added =
      record { terms = v.terms; places = v.places; seen = v.hand ++ added; told = v.told; positions = v.positions ++ positions_from (length v.hand) added; tickets = v.tickets; turn = v.turn; hand = v.hand ++ added }

  -- it passes the turn on
  abbrev pub rested : View E K → View E K
  rested v = record { terms = v.terms; places = v.places; seen = v.seen; told = v.told; positions = v.positions; tickets = []; turn = false; hand = [] }

  -- a new pass has one of its places
  abbrev pub one_less : View E K → View E K
  one_less v = record { terms = v.terms; places = v.places - 1; seen = v.seen; told = v.told; positions = v.positions; tickets = v.tickets; turn = v.turn; hand = v.hand }

  -- it has the places and the positions of both, and is told of what the second has seen
  abbrev pub joined : View E K → View E K → View E K
  joined v w = record { terms = v.terms; places = v.places + w.places; seen = v.seen; told = w.seen; positions = v.positions ++ w.positions; tickets = v.tickets; turn = v.turn; hand = v.hand }

  -- it has seen the longer of what it had seen and what it was told of
  abbrev pub settled : View E K → View E K
  settled v = record { terms = v.terms; places = v.places; seen = longer v.seen v.told; told = []; positions = v.positions; tickets = v.tickets; turn = v.turn; hand = v.hand }
