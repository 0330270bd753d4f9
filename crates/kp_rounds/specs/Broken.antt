-- What a proof has asked that breaks off: all of some rounds that don't end it, and the first questions of what comes next.
-- Source: pyk's APRProver.
use Rattle.std.specs.Prelude.{◌≡◌, ◌<◌, ◌≤◌, ℕ, true, List, [], ◌∷◌, ◌++◌, Option, Some}
use Rattle.kp_kore.specs.Syntax.{Text, KorePattern}
use Rattle.kp_kore.specs.Implied.{not_valid}
use Rattle.kp_graph.specs.Tree.{ProofNode, node_at, first_nodes}
use Rattle.kp_rpc.specs.Request.{RequestId}
use Rattle.kp_rpc.specs.Questions.{Question}
use Rattle.kp_replies.specs.Read.{implies, implied}
use Rattle.kp_links.specs.Links.{Exchange}
use Rattle.kp_rounds.specs.Jobs.{ProofJob, AddedModules, Asks, Tells, AddsWhere, SetsUp, has_some, add_question, claims_anywhere, claims_behind}
use Rattle.kp_rounds.specs.Rounds.{AsksIn, Rounds, cover_question, step_question, least_open, most_rounds}

-- a question may have been asked
pub data MayAsk (question : RequestId → Question) : List Exchange → Type 0 where
  unasked : MayAsk question []
  asked : (e : Exchange) → Asks question e → MayAsk question (e ∷ [])

-- the first questions before the rounds, none or more of them
pub data SetUpBegins (job : ProofJob) : List Exchange → Type 0 where
  unbegun : SetUpBegins job []
  with_dependencies : (es : List Exchange) → has_some job.dependencies ≡ true → MayAsk (add_question job.main (claims_anywhere job)) es → SetUpBegins job es
  with_circularity : (first more : List Exchange) (id : Option Text) → AddsWhere job.main (claims_anywhere job) (has_some job.dependencies) first id →
      job.circular ≡ true → MayAsk (add_question job.main (claims_behind job)) more → SetUpBegins job (first ++ more)

-- the first questions of a round, none or more of them: is the node covered? and where it isn't, what are its next steps?
pub data RoundBegins (job : ProofJob) (modules : AddedModules) (tree : List ProofNode) (n : ℕ) (s : KorePattern) : List Exchange → Type 0 where
  with_cover : (es : List Exchange) → MayAsk (cover_question job s) es → RoundBegins job modules tree n s es
  with_steps : (e : Exchange) (es : List Exchange) (name : Option Text) → Tells (cover_question job s) implies e (implied not_valid) →
      AsksIn job modules tree n s name → MayAsk (step_question job modules name s) es → RoundBegins job modules tree n s (e ∷ es)

-- the exchanges of a proof from nothing that breaks off
pub data BreaksOff (job : ProofJob) : List Exchange → Type 0 where
  before_rounds : (es : List Exchange) → SetUpBegins job es → BreaksOff job es
  between : (modules : AddedModules) (first es : List Exchange) (k : ℕ) (tree : List ProofNode) → SetsUp job first modules → k ≤ most_rounds →
      Rounds job modules (first_nodes job.claim.claim.left) k tree es → BreaksOff job (first ++ es)
  in_next : (modules : AddedModules) (first es more : List Exchange) (k : ℕ) (tree : List ProofNode) (n : ℕ) (x : ProofNode) → SetsUp job first modules → k < most_rounds →
      Rounds job modules (first_nodes job.claim.claim.left) k tree es → least_open tree ≡ Some n → node_at tree n ≡ Some x →
      RoundBegins job modules tree n x.state more → BreaksOff job (first ++ (es ++ more))
