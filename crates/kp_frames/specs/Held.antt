-- What a cutter holds between two pieces of a stream.
use Rattle.std.specs.Prelude.{◌≡◌, ◌<◌, ◌≤◌, ℕ, ◌==◌, Bool, true, false, List, ◌++◌, length, take, map, if◌then◌else◌, Vec}
use Rattle.std.specs.declared.alloc.Global.{Global}
use Rattle.kp_frames.specs.declared.nest.Nest.{Nest}
use Rattle.kp_frames.specs.Frames.{Cuts, IsUnended, nest_from, nest_of, start, is_back, begins_bracketed}

-- the frames of the code's vectors
abbrev pub frames_of : List (Vec ℕ Global) → List (List ℕ)
frames_of frames = map (λ v. v.items) frames

-- a cutter: its limit, the rest of the bytes fed, whether that is full, and whether memory ran out
pub record Cutting : Type 0 where
  pub limit : ℕ
  pub rest : List ℕ
  pub is_full : Bool
  pub is_out_of_memory : Bool

-- of these bytes the cutter has given these frames and holds the rest
abbrev pub HasCut : Cutting → List ℕ → List (List ℕ) → Type 0
HasCut c bytes frames = Cuts c.limit bytes frames c.rest c.is_full

-- these frames are cut of the bytes, and this rest is left, which is full where it has as many bytes as the limit
abbrev pub CutsLeaving : ℕ → List ℕ → List (List ℕ) → List ℕ → Type 0
CutsLeaving limit bytes frames rest = Cuts limit bytes frames rest (length rest == limit)

-- a rest within the limit, and the nest at its end where it is bracketed
pub record IsHeld (limit : ℕ) (rest : List ℕ) (n : Nest) : Type 0 where
  pub unended : IsUnended rest
  pub within : length rest ≤ limit
  pub nest : n ≡ (if begins_bracketed rest then nest_of rest else start)

-- no front of one byte or more and fewer than k closes the brackets
abbrev pub StaysOpen : Nest → ℕ → List ℕ → Type 0
StaysOpen n k bytes = (j : ℕ) → 0 < j → j < k → is_back (nest_from n (take j bytes)) ≡ false

-- the k-th byte closes them
pub record ClosesAt (n : Nest) (bytes : List ℕ) (k : ℕ) : Type 0 where
  pub positive : 0 < k
  pub within : k ≤ length bytes
  pub closed : is_back (nest_from n (take k bytes)) ≡ true
  pub earlier : StaysOpen n k bytes

-- the first bytes of a piece, behind a rest: what they end, and the rest after them
pub record Takes (limit : ℕ) (before piece : List ℕ) (count : ℕ) (frames later : List (List ℕ)) (after : List ℕ) : Type 0 where
  pub positive : 0 < count
  pub within : count ≤ length piece
  pub ended : List (List ℕ)
  pub behind : later ≡ frames ++ ended
  pub cuts : Cuts limit (before ++ take count piece) ended after (length after == limit)
