-- What one frame is, and which JSON it holds.
-- Source: JSON-RPC 2.0; JSON (RFC 8259) as serde_json reads it, nested at most 127 deep.
use Rattle.std.specs.Prelude.{◌≡◌, ◌≤◌, ℕ, List, length, Some, IsUtf8}
use Rattle.serde_json.specs.Data.{Data, array, object}
use Rattle.serde_json.specs.Read.{read}
use Rattle.kp_frames.specs.Frames.{most_frame}

-- one JSON object or array
abbrev pub IsFrameData : Data → Type 0
IsFrameData (object o) = Unit {0}
IsFrameData (array ds) = Unit {0}
IsFrameData _ = ⊥

-- the bytes are the text of one object or array, with or without white space around it
pub record IsFrame (bytes : List ℕ) (d : Data) : Type 0 where
  pub fits : length bytes ≤ most_frame
  pub utf8 : IsUtf8 bytes
  pub reads : read bytes ≡ Some d
  pub brackets : IsFrameData d
