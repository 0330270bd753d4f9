-- When the results that a server's replies tell are right.
-- Source: the K Haskell backend's JSON-RPC documentation (execute, implies); JSON-RPC 2.0 (response objects).
use Rattle.std.specs.Prelude.{◌≡◌, Option, Some, None, ⊤}
use Rattle.serde_json.specs.Data.{Data}
use Rattle.kp_kore.specs.Syntax.{Text}
use Rattle.kp_kore.specs.Theory.{Theory}
use Rattle.kp_kore.specs.Executions.{Options, Executed, IsRightExecuted}
use Rattle.kp_kore.specs.Implied.{Implied, IsRightImplied}
use Rattle.kp_rpc.specs.Request.{ExecuteOptions, ExecuteRequest, ImpliesRequest, bound_of}
use Rattle.kp_rpc.specs.Reply.{result_reply}
use Rattle.kp_results.specs.Results.{ExecutedParts, IsResultOf}
use Rattle.kp_replies.specs.Written.{executed_tree, implied_tree}

-- the bound and the rules to stop at that a request asks for
abbrev pub asked_options : ExecuteOptions → Options
asked_options o = record { bound = bound_of o; cut_points = o.cut_points; terminals = o.terminals }

-- the tree is a reply with a result that is right for the theory and the request
pub record IsRightReply (t : Theory) (request : ExecuteRequest) (reply : Data) : Type 0 where
  pub result : ExecutedParts
  pub tree : Data
  pub written : executed_tree result ≡ Some tree
  pub reply_is : reply ≡ result_reply request.id tree
  pub meant : Executed
  pub means : IsResultOf result meant
  pub right : IsRightExecuted t (asked_options request.options) request.state meant

-- the same of a request of implies
pub record IsRightImpliesReply (t : Theory) (request : ImpliesRequest) (reply : Data) : Type 0 where
  pub result : Implied
  pub tree : Data
  pub written : implied_tree result ≡ Some tree
  pub reply_is : reply ≡ result_reply request.id tree
  pub right : IsRightImplied t.signature request.antecedent request.consequent result

-- no module is named but main
abbrev pub IsMainAsked : Text → Option Text → Type 0
IsMainAsked main None = ⊤
IsMainAsked main (Some n) = n ≡ main
