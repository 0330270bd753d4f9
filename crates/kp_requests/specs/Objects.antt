-- Request objects, in the words of JSON-RPC.
-- Source: JSON-RPC 2.0 (request objects, notifications).
use Rattle.std.specs.Prelude.{Option, Some, None, codes}
use Rattle.serde_json.specs.Data.{Members}
use Rattle.kp_kore.specs.Syntax.{Text}
use Rattle.kp_json.specs.Members.{HasText, Lacks}
use Rattle.kp_rpc.specs.Request.{RequestId, HasId}

-- the object's id is a text, a whole number or null; or it has none, and is a notification
abbrev pub IdAt : Members → Option RequestId → Type 0
IdAt o None = Lacks o (codes "id")
IdAt o (Some id) = HasId o id

pub record IsRequestObject (o : Members) (id : Option RequestId) (method : Text) : Type 0 where
  pub version : HasText o (codes "jsonrpc") (codes "2.0")
  pub has_method : HasText o (codes "method") method
  pub has_id : IdAt o id
