-- Links to a server: exchanges, what calls do to what a link tells, and when replies are right.
-- Source: JSON-RPC 2.0 (requests, responses); the K Haskell backend's JSON-RPC documentation (execute, implies).
use Rattle.std.specs.Prelude.{◌≡◌, ◌≤◌, ℕ, List, ◌++◌, map, Option, Some, option_map}
use Rattle.std.specs.List.{AllByRecursion}
use Rattle.serde_json.specs.Data.{Data, object, Members}
use Rattle.serde_json.specs.Written.{compact_text}
use Rattle.kp_kore.specs.Syntax.{Text}
use Rattle.kp_kore.specs.Theory.{Theory}
use Rattle.kp_kore.specs.Executions.{Executed, IsRightExecuted}
use Rattle.kp_kore.specs.Implied.{Implied, IsRightImplied}
use Rattle.kp_rpc.specs.Frame.{IsFrame}
use Rattle.kp_rpc.specs.Request.{ExecuteRequest, IsExecute, ImpliesRequest, IsImplies}
use Rattle.kp_rpc.specs.Questions.{Question, question_tree}
use Rattle.kp_results.specs.Results.{ExecutedParts, IsResultOf}
use Rattle.kp_replies.specs.Read.{execute, executed, implies, implied}
use Rattle.kp_replies.specs.Replies.{IsReplyOf}
use Rattle.kp_replies.specs.RightReplies.{asked_options, IsMainAsked}

-- a frame, and the line that replied to it
pub record Exchange : Type 0 where
  pub frame : List ℕ
  pub reply : List ℕ

-- the theory whose right replies a link gives, and the name of its main module
pub record ToldTheory : Type 0 where
  pub theory : Theory
  pub main : Text

-- what a link tells: what each exchange over it meets, the exchanges so far and the replies to come, where these are
-- known, and how often it has failed
pub record LinkState : Type 1 where
  pub meets : Exchange → Type 0
  pub exchanges : Option (List Exchange)
  pub replies : Option (List (List ℕ))
  pub faults : ℕ

-- the bytes are the text of the question
abbrev pub IsTextOf : Question → List ℕ → Type 0
IsTextOf q bytes = (d : Data) × (question_tree q ≡ Some d) × (bytes ≡ compact_text d)

-- the result of execute is right for the theory and the request, at whatever sorts the conjunctions of its states are
-- written
abbrev pub IsRightRun : Theory → ExecuteRequest → ExecutedParts → Type 0
IsRightRun t q x = (meant : Executed) → IsResultOf x meant → IsRightExecuted t (asked_options q.options) q.state meant

-- the frame is a request of execute, and where it asks of the main module, the result is right for it
pub record AsksForRun (t : ToldTheory) (frame : List ℕ) (x : ExecutedParts) : Type 0 where
  pub members : Members
  pub request : ExecuteRequest
  pub is_frame : IsFrame frame (object members)
  pub is_request : IsExecute members request
  pub right : IsMainAsked t.main request.options.module_name → IsRightRun t.theory request x

-- the same of a request of implies
pub record AsksForImplication (t : ToldTheory) (frame : List ℕ) (x : Implied) : Type 0 where
  pub members : Members
  pub request : ImpliesRequest
  pub is_frame : IsFrame frame (object members)
  pub is_request : IsImplies members request
  pub right : IsMainAsked t.main request.module_name → IsRightImplied t.theory.signature request.antecedent request.consequent x

-- a reply tells a result only of a request, and the result is right for that request
pub record IsRightExchange (t : ToldTheory) (e : Exchange) : Type 0 where
  pub executes : (x : ExecutedParts) → IsReplyOf execute e.reply (executed x) → AsksForRun t e.frame x
  pub implies_so : (x : Implied) → IsReplyOf implies e.reply (implied x) → AsksForImplication t e.frame x

-- the link serves the theory: what its exchanges meet makes them right
abbrev pub Serves : LinkState → ToldTheory → Type 0
Serves a t = (e : Exchange) → a.meets e → IsRightExchange t e

-- exactly these exchanges are made, by the first of the replies to come, and meet what the link tells, which later ones
-- meet too
pub record Makes (before after : LinkState) (es : List Exchange) : Type 0 where
  pub keeps : (e : Exchange) → after.meets e → before.meets e
  pub exchanges : after.exchanges ≡ option_map (λ earlier. earlier ++ es) before.exchanges
  pub replies : before.replies ≡ option_map (λ later. map (λ e. e.reply) es ++ later) after.replies
  pub faults : before.faults ≤ after.faults
  pub met : AllByRecursion before.meets es
