-- What the bytes of a frame ask.
-- Source: JSON-RPC 2.0 (parse error, invalid request, batches); JSON (RFC 8259) as serde_json reads it, nested at most 127 deep.
use Rattle.std.specs.Prelude.{◌≡◌, ◌≤◌, ℕ, List, length, Some, IsUtf8}
use Rattle.serde_json.specs.Data.{Data}
use Rattle.serde_json.specs.Read.{read}
use Rattle.kp_frames.specs.Frames.{most_frame}
use Rattle.kp_rpc.specs.Reply.{parse_error}
use Rattle.kp_requests.specs.Requests.{Frame, refused_whole}
use Rattle.kp_requests.specs.Calls.{read_frame}

-- the bytes are the text of this JSON value, with or without white space around it
pub record IsJson (bytes : List ℕ) (d : Data) : Type 0 where
  pub fits : length bytes ≤ most_frame
  pub utf8 : IsUtf8 bytes
  pub reads : read bytes ≡ Some d

-- what a frame of these bytes asks: what its JSON value asks, or a parse error where it is no JSON
pub data Asks (bytes : List ℕ) : Frame → Type 0 where
  no_json : ((d : Data) → ¬ IsJson bytes d) → Asks bytes (refused_whole parse_error)
  json : (d : Data) → IsJson bytes d → Asks bytes (read_frame d)
