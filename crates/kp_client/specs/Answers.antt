-- What the parts of a round come to, as the code keeps them.
use Rattle.std.specs.Prelude.{◌≡◌, ◌≢◌, ◌≤◌, ℕ, true, List, [], ◌∷◌, Option, Some, None, codes}
use Rattle.kp_kore.specs.Syntax as kore
use Rattle.kp_kore.specs.Syntax.{KoreSort, sort_of, no_sorts, KorePattern}
use Rattle.kp_kore.specs.View.{view}
use Rattle.kp_kore.specs.Claims.{ReachabilityClaim}
use Rattle.kp_kore.specs.Implied.{not_valid, valid}
use Rattle.kp_graph.specs.Tree.{ProofNode, HeldBy, node_at}
use Rattle.kp_rpc.specs.Questions.{Question, question_tree}
use Rattle.kp_results.specs.Results.{stuck, ExecutedParts, IsPatternOf}
use Rattle.kp_replies.specs.Read.{Method, execute, implies, ServerReply, executed, implied, failed}
use Rattle.kp_replies.specs.Replies.{IsReplyOf}
use Rattle.kp_replies.specs.View.{reply_view}
use Rattle.kp_client.specs.Links.{Exchange, LinkState, Makes, IsTextOf}
use Rattle.kp_client.specs.Rounds.{cover_question, step_question, Tells, Refuses, undecided_code, is_followed, Stepping, Round, RoundEnd, Rounds, Proves, MayAsk, RoundBegins, ProofOutcome, passed, pending_at, IsNoneHeld, IsFirstHeld}
use Rattle.kp_client.specs.declared.hear.Heard.{Heard}
use Rattle.kp_client.specs.declared.hear.Heard.TheVariants as heard
use Rattle.kp_client.specs.declared.cover.CoverAnswer.{CoverAnswer}
use Rattle.kp_client.specs.declared.cover.CoverAnswer.TheVariants as cover
use Rattle.kp_client.specs.declared.steps.StepAnswer.{StepAnswer}
use Rattle.kp_client.specs.declared.steps.StepAnswer.TheVariants as steps

-- by these exchanges the question was asked and its reply told this; told nothing; or it has no text
abbrev pub IsHeard : Method → Question → List Exchange → Heard → Type 0
IsHeard method q es (heard.Told r line) =
    (frame : List ℕ) × IsTextOf q frame × IsReplyOf method line.items (reply_view r) × (es ≡ record { frame = frame; reply = line.items } ∷ [])
IsHeard method q es heard.Nothing =
    (e : Exchange) × IsTextOf q e.frame × ((r : ServerReply) → ¬ IsReplyOf method e.reply r) × (es ≡ e ∷ [])
IsHeard method q es heard.Unasked = (question_tree q ≡ None) × (es ≡ [])

abbrev pub IsCoverAnswer : ReachabilityClaim → KorePattern → List Exchange → CoverAnswer → Type 0
IsCoverAnswer claim s es cover.Covered =
    (e : Exchange) × (p : KorePattern) × (q : KorePattern) × (es ≡ e ∷ []) × Tells (cover_question claim s) implies e (implied (valid p q))
IsCoverAnswer claim s es cover.Uncovered = (e : Exchange) × (es ≡ e ∷ []) × Tells (cover_question claim s) implies e (implied not_valid)
IsCoverAnswer claim s es (cover.Undecided line) =
    (e : Exchange) × (es ≡ e ∷ []) × (e.reply ≡ line.items) × Tells (cover_question claim s) implies e (failed undecided_code)
IsCoverAnswer claim s es (cover.Refused code) = Refuses (cover_question claim s) implies es code × (code ≢ undecided_code)

-- the reply to the question of the next steps tells a run that the prover goes by, of which this holds
pub record TellsRunThat (depth : ℕ) (s : KorePattern) (es : List Exchange) (P : Exchange → ExecutedParts → Type 0) : Type 0 where
  pub exchange : Exchange
  pub run : ExecutedParts
  pub only : es ≡ exchange ∷ []
  pub tells : Tells (step_question depth s) execute exchange (executed run)
  pub followed : is_followed run.ending ≡ true
  pub fact : P exchange run

abbrev pub IsStepAnswer : ℕ → KorePattern → List Exchange → StepAnswer → Type 0
IsStepAnswer depth s es (steps.Stepped length next) = TellsRunThat depth s es (λ e x. (x.depth ≡ length) × (1 ≤ length) × IsPatternOf x.state (view next))
IsStepAnswer depth s es steps.Stuck = TellsRunThat depth s es (λ e x. (x.depth ≡ 0) × (x.ending ≡ stuck))
IsStepAnswer depth s es (steps.Held line) = TellsRunThat depth s es (λ e x. (x.depth ≡ 0) × (x.ending ≢ stuck) × (e.reply ≡ line.items))
IsStepAnswer depth s es (steps.Refused code) = Refuses (step_question depth s) execute es code

-- the second half of a round of node n
pub record PlaysSteps (before after : LinkState) (depth : ℕ) (tree : List ProofNode) (n : ℕ) (end : RoundEnd) : Type 0 where
  pub node : ProofNode
  pub at : node_at tree n ≡ Some node
  pub exchanges : List Exchange
  pub makes : Makes before after exchanges
  pub stepping : Stepping depth tree n node.state exchanges end

-- a round of node n
pub record PlaysRound (before after : LinkState) (claim : ReachabilityClaim) (depth : ℕ) (tree : List ProofNode) (n : ℕ) (end : RoundEnd) : Type 0 where
  pub node : ProofNode
  pub at : node_at tree n ≡ Some node
  pub exchanges : List Exchange
  pub makes : Makes before after exchanges
  pub round : Round claim depth tree n node.state exchanges end

-- so many rounds of the claim's proof have been played
pub record Played (before after : LinkState) (claim : ReachabilityClaim) (depth k : ℕ) (tree : List ProofNode) : Type 0 where
  pub exchanges : List Exchange
  pub makes : Makes before after exchanges
  pub rounds : Rounds claim depth k tree exchanges

-- the claim's proof has been played to its end
pub record IsProved (before after : LinkState) (claim : ReachabilityClaim) (depth : ℕ) (tree : List ProofNode) (outcome : ProofOutcome) : Type 0 where
  pub exchanges : List Exchange
  pub makes : Makes before after exchanges
  pub proves : Proves claim depth exchanges tree outcome

-- the outcome of a proof without an open node: by the first held node, where there is one
pub data IsEnding (tree : List ProofNode) : ProofOutcome → Type 0 where
  none_held : IsNoneHeld tree → IsEnding tree passed
  first_held : (n : ℕ) (why : HeldBy) → IsFirstHeld tree n why → IsEnding tree (pending_at n why)

-- ---- where a call fails

-- exchanges are made of which this holds
pub record Made (before after : LinkState) (P : List Exchange → Type 0) : Type 0 where
  pub exchanges : List Exchange
  pub makes : Makes before after exchanges
  pub fact : P exchanges

-- the question's text may have been sent
pub data MaySend (q : Question) : List Exchange → Type 0 where
  unsent : MaySend q []
  sent : (e : Exchange) → IsTextOf q e.frame → MaySend q (e ∷ [])

-- the second half of a round of node n has begun
pub record BeginsSteps (before after : LinkState) (depth : ℕ) (tree : List ProofNode) (n : ℕ) : Type 0 where
  pub node : ProofNode
  pub at : node_at tree n ≡ Some node
  pub made : Made before after (MayAsk (step_question depth node.state))

-- a round of node n has begun
pub record BeginsRound (before after : LinkState) (claim : ReachabilityClaim) (depth : ℕ) (tree : List ProofNode) (n : ℕ) : Type 0 where
  pub node : ProofNode
  pub at : node_at tree n ≡ Some node
  pub made : Made before after (RoundBegins claim depth node.state)

-- ---- the sort of a conjunction

-- the sort that a pattern states of itself; an application states none, nor do a text, \mu and \nu
abbrev pub stated_sort : KorePattern → Option KoreSort
stated_sort (kore.variable x s) = Some s
stated_sort (kore.set_variable x s) = Some s
stated_sort (kore.application f ss ps) = None
stated_sort (kore.string_literal t) = None
stated_sort (kore.literal s t) = Some s
stated_sort (kore.top s) = Some s
stated_sort (kore.bottom s) = Some s
stated_sort (kore.negation s p) = Some s
stated_sort (kore.next s p) = Some s
stated_sort (kore.conjunction s ps) = Some s
stated_sort (kore.disjunction s ps) = Some s
stated_sort (kore.implication s p q) = Some s
stated_sort (kore.equivalence s p q) = Some s
stated_sort (kore.rewriting s p q) = Some s
stated_sort (kore.exists s x t p) = Some s
stated_sort (kore.forall s x t p) = Some s
stated_sort (kore.ceil a s p) = Some s
stated_sort (kore.floor a s p) = Some s
stated_sort (kore.equals a s p q) = Some s
stated_sort (kore.membership a s p q) = Some s
stated_sort (kore.mu x s p) = None
stated_sort (kore.nu x s p) = None

-- the sort at which a term is joined with this predicate: the predicate's own, else that of whole configurations
abbrev pub sort_beside : KorePattern → KoreSort
sort_beside p = of_stated (stated_sort p)
  where
    of_stated : Option KoreSort → KoreSort
    of_stated (Some s) = s
    of_stated None = sort_of (codes "SortGeneratedTopCell") no_sorts
