-- What a client asks: a request of one of the four methods, a call, a frame.
-- Source: JSON-RPC 2.0 (request objects, notifications, batches); the K Haskell backend's JSON-RPC documentation (execute,
-- implies, simplify, add-module).
use Rattle.std.specs.Prelude.{Bool, List, Option}
use Rattle.kp_kore.specs.Syntax.{Text, KorePattern}
use Rattle.kp_json.specs.Faults.{Reading}
use Rattle.kp_rpc.specs.Request.{RequestId, ExecuteOptions}
use Rattle.kp_rpc.specs.Reply.{RequestError}

-- a request of a method; its state or its sides are what is read of their trees: a pattern, or the tree's first fault
pub data Request : Type 0 where
  execute : Reading KorePattern → ExecuteOptions → Request
  -- antecedent, consequent, and the module's name
  implies : Reading KorePattern → Reading KorePattern → Option Text → Request
  simplify : Reading KorePattern → Option Text → Request
  -- the module's text, and whether it is bound to its own name besides its id
  add_module : Text → Bool → Request

pub data Asked : Type 0 where
  asks : Request → Asked
  refused : RequestError → Asked

-- what one call asks, and the id that its reply carries; a call without an id is a notification, which gets no reply
pub record Call : Type 0 where
  pub id : Option RequestId
  pub asked : Asked

-- a frame is one call, a batch of calls, or refused as a whole
pub data Frame : Type 0 where
  single : Call → Frame
  batch : List Call → Frame
  refused_whole : RequestError → Frame
