-- What is to be proved, and the modules of claims that are added before a proof begins.
-- Source: pyk's APRProof (dependencies, circularities); the K Haskell backend's JSON-RPC documentation (add-module).
use Rattle.std.specs.Prelude.{◌≡◌, ◌<◌, ◌^◌, ◌+◌, ℕ, ℤ, pos, negsuc, Bool, true, false, List, [], ◌∷◌, ◌++◌, Option, Some, None, codes}
use Rattle.std.specs.Fmt.{decimal}
use Rattle.serde_json.specs.Data.{unsigned}
use Rattle.kp_kore.specs.Syntax.{Text}
use Rattle.kp_kore.specs.ClaimModules.{SortedClaim, claims_module}
use Rattle.kp_print.specs.Printed.{module_text}
use Rattle.kp_rpc.specs.Request.{RequestId, id_number}
use Rattle.kp_rpc.specs.Questions.{Question, to_add, question_tree}
use Rattle.kp_replies.specs.Read.{Method, add_module, ServerReply, added, failed}
use Rattle.kp_replies.specs.Replies.{IsReplyOf}
use Rattle.kp_links.specs.Links.{Exchange}
use Rattle.kp_links.specs.RightExchanges.{IsTextOf}

-- a claim over the main module of this name, circular where it may be used behind progress, with the claims that it
-- depends on, in its order; how many steps an edge may have, and the rules behind which a run stops
pub record ProofJob : Type 0 where
  pub main : Text
  pub claim : SortedClaim
  pub circular : Bool
  pub dependencies : List SortedClaim
  pub depth : ℕ
  pub terminals : List Text

-- ---- a question and its reply

-- a number of 64 bits: such are the ids of the prover's questions
abbrev pub IsGivenId : RequestId → Type 0
IsGivenId (id_number (unsigned n)) = n < 2 ^ 64
IsGivenId _ = ⊥

-- the question is asked under such an id
pub record Asks (question : RequestId → Question) (e : Exchange) : Type 0 where
  pub number : RequestId
  pub lawful : IsGivenId number
  pub asked : IsTextOf (question number) e.frame

-- it is asked, and the reply tells this
pub record Tells (question : RequestId → Question) (method : Method) (e : Exchange) (r : ServerReply) : Type 0 where
  pub number : RequestId
  pub lawful : IsGivenId number
  pub asked : IsTextOf (question number) e.frame
  pub told : IsReplyOf method e.reply r

-- it is asked, and the reply is none to the method
pub record TellsNothing (question : RequestId → Question) (method : Method) (e : Exchange) : Type 0 where
  pub number : RequestId
  pub lawful : IsGivenId number
  pub asked : IsTextOf (question number) e.frame
  pub none : (r : ServerReply) → ¬ IsReplyOf method e.reply r

-- The question is refused with this code: the reply is that error; or it is no reply to the method, -32700; or a pattern
-- in the question has no Kore JSON, so that nothing is asked, 1.
pub data Refuses (question : RequestId → Question) (method : Method) : List Exchange → ℤ → Type 0 where
  by_error : (e : Exchange) (code : ℤ) → Tells question method e (failed code) → Refuses question method (e ∷ []) code
  by_no_reply : (e : Exchange) → TellsNothing question method e → Refuses question method (e ∷ []) (negsuc 32699)
  by_no_text : (i : RequestId) → question_tree (question i) ≡ None → Refuses question method [] (pos 1)

-- ---- modules of claims

-- the claims that are used as rules at any node
abbrev pub claims_anywhere : ProofJob → List SortedClaim
claims_anywhere job = job.dependencies

-- those that are used where the claim is circular and a node has progress: the claim itself, too
abbrev pub claims_behind : ProofJob → List SortedClaim
claims_behind job = job.dependencies ++ job.claim ∷ []

abbrev pub has_some : List SortedClaim → Bool
has_some [] = false
has_some (c ∷ cs) = true

-- add the module of these claims
abbrev pub add_question : Text → List SortedClaim → RequestId → Question
add_question main claims i = to_add i (module_text (claims_module main claims))

-- the ids of the modules that were added, where they were
pub record AddedModules : Type 0 where
  pub dependencies : Option Text
  pub circularity : Option Text

-- the module of these claims is added where it is wanted
pub data AddsWhere (main : Text) (claims : List SortedClaim) : Bool → List Exchange → Option Text → Type 0 where
  unwanted : AddsWhere main claims false [] None
  added_as : (e : Exchange) (id : Text) → Tells (add_question main claims) add_module e (added id) → AddsWhere main claims true (e ∷ []) (Some id)

-- before all rounds: the module of the dependencies, where there are some, then the circularity's, where the claim is
-- circular
pub record SetsUp (job : ProofJob) (es : List Exchange) (modules : AddedModules) : Type 0 where
  pub first : List Exchange
  pub second : List Exchange
  pub both : es ≡ first ++ second
  pub dependencies : AddsWhere job.main (claims_anywhere job) (has_some job.dependencies) first modules.dependencies
  pub circularity : AddsWhere job.main (claims_behind job) job.circular second modules.circularity

-- one of them is refused
pub data FailsSetUp (job : ProofJob) : List Exchange → ℤ → Type 0 where
  of_dependencies : (es : List Exchange) (code : ℤ) → has_some job.dependencies ≡ true →
      Refuses (add_question job.main (claims_anywhere job)) add_module es code → FailsSetUp job es code
  of_circularity : (first more : List Exchange) (id : Option Text) (code : ℤ) → AddsWhere job.main (claims_anywhere job) (has_some job.dependencies) first id →
      job.circular ≡ true → Refuses (add_question job.main (claims_behind job)) add_module more code → FailsSetUp job (first ++ more) code

-- ---- the claims' rules

-- the ids of so many rules of an added module, numbered from n
abbrev pub rule_ids_from : Text → ℕ → List SortedClaim → List Text
rule_ids_from id n [] = []
rule_ids_from id n (c ∷ cs) = (id ++ codes "#" ++ decimal n) ∷ rule_ids_from id (n + 1) cs

abbrev pub rule_ids_of : Option Text → List SortedClaim → List Text
rule_ids_of None cs = []
rule_ids_of (Some id) cs = rule_ids_from id 1 cs

-- the ids of all claims' rules, those of the dependencies in both modules
abbrev pub claim_rule_ids : ProofJob → AddedModules → List Text
claim_rule_ids job modules = rule_ids_of modules.dependencies (claims_anywhere job) ++ rule_ids_of modules.circularity (claims_behind job)
