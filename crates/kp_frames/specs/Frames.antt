-- The frames of a stream of bytes.
-- Source: JSON-RPC 2.0 over a stream; where a frame ends is this project's rule.
use Rattle.std.specs.Prelude.{◌≡◌, ◌<◌, ◌≤◌, ℕ, suc, pred, ◌==◌, Bool, true, false, not, ◌&&◌, ◌||◌, List, [], ◌∷◌, ◌++◌, length, take, if◌then◌else◌}
use Rattle.std.specs.List.{list_any}
use Rattle.kp_frames.specs.declared.nest.Place.{Place}
use Rattle.kp_frames.specs.declared.nest.Place.TheVariants as place
use Rattle.kp_frames.specs.declared.nest.Nest.{Nest}

-- the most bytes of a frame
abbrev pub most_frame : ℕ
most_frame = 4194304

-- space, tab, carriage return, line feed
abbrev pub is_white : ℕ → Bool
is_white b = ((b == 32) || (b == 9)) || ((b == 13) || (b == 10))

-- { or [
abbrev pub opens : ℕ → Bool
opens b = (b == 123) || (b == 91)

-- } or ]
abbrev pub closes : ℕ → Bool
closes b = (b == 125) || (b == 93)

-- a byte behind a text: in a string a backslash takes the next byte with it, and " ends it; outside, both kinds of bracket count together
abbrev pub after_byte : Nest → ℕ → Nest
after_byte n b = by_place n.place
  where
    by_place : Place → Nest
    by_place place.InString = if b == 92 then record { place = place.BehindBackslash; level = n.level } else if b == 34 then record { place = place.Outside; level = n.level } else n
    by_place place.BehindBackslash = record { place = place.InString; level = n.level }
    by_place place.Outside =
        if b == 34 then record { place = place.InString; level = n.level }
        else if opens b then record { place = place.Outside; level = suc n.level }
        else if closes b then record { place = place.Outside; level = pred n.level }
        else n

-- no bracket is open
abbrev pub start : Nest
start = record { place = place.Outside; level = 0 }

abbrev pub nest_from : Nest → List ℕ → Nest
nest_from n [] = n
nest_from n (b ∷ bs) = nest_from (after_byte n b) bs

-- the place and the open brackets at a text's end
abbrev pub nest_of : List ℕ → Nest
nest_of = nest_from start

-- the count of brackets is back at zero
abbrev pub is_back : Nest → Bool
is_back n = n.level == 0

-- begins with a bracket that opens
abbrev pub begins_bracketed : List ℕ → Bool
begins_bracketed [] = false
begins_bracketed (b ∷ bs) = opens b

-- begins with neither such a bracket nor white space
abbrev pub begins_malformed : List ℕ → Bool
begins_malformed [] = false
begins_malformed (b ∷ bs) = not (opens b) && not (is_white b)

-- no front of one byte or more has its brackets closed
abbrev pub IsOpen : List ℕ → Type 0
IsOpen p = (k : ℕ) → 0 < k → k ≤ length p → is_back (nest_of (take k p)) ≡ false

-- a bracketed frame: the shortest front at which its brackets are closed
pub record IsBracketed (p : List ℕ) : Type 0 where
  pub begins : begins_bracketed p ≡ true
  pub closed : is_back (nest_of p) ≡ true
  pub shortest : (k : ℕ) → 0 < k → k < length p → is_back (nest_of (take k p)) ≡ false

-- a malformed frame: a line, without its line feed
pub record IsMalformed (p : List ℕ) : Type 0 where
  pub begins : begins_malformed p ≡ true
  pub one_line : list_any (λ b. b == 10) p ≡ false

-- what isn't ended: nothing yet, a bracketed text whose brackets are open, or a line without its end
pub data IsUnended (r : List ℕ) : Type 0 where
  nothing_yet : r ≡ [] → IsUnended r
  brackets_open : begins_bracketed r ≡ true → IsOpen r → IsUnended r
  line_open : IsMalformed r → IsUnended r

-- the frames that the bytes hold, the rest that isn't ended, and whether it is full: a frame has at most `limit` bytes, and from
-- the first unended text of so many bytes on nothing more is cut
pub data Cuts (limit : ℕ) : List ℕ → List (List ℕ) → List ℕ → Bool → Type 0 where
  white : (b : ℕ) (bs : List ℕ) (fs : List (List ℕ)) (r : List ℕ) (is_full : Bool) → is_white b ≡ true → Cuts limit bs fs r is_full → Cuts limit (b ∷ bs) fs r is_full
  bracketed : (p bs : List ℕ) (fs : List (List ℕ)) (r : List ℕ) (is_full : Bool) → IsBracketed p → length p ≤ limit → Cuts limit bs fs r is_full → Cuts limit (p ++ bs) (p ∷ fs) r is_full
  malformed : (p bs : List ℕ) (fs : List (List ℕ)) (r : List ℕ) (is_full : Bool) → IsMalformed p → length p < limit → Cuts limit bs fs r is_full → Cuts limit (p ++ 10 ∷ bs) (p ∷ fs) r is_full
  unended : (r : List ℕ) → IsUnended r → length r < limit → Cuts limit r [] r false
  full : (r more : List ℕ) → IsUnended r → length r ≡ limit → Cuts limit (r ++ more) [] r true
