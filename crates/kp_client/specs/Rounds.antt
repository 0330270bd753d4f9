-- The rounds of a proof: what is asked of each node, and what the replies make of it.
-- Source: pyk's APRProver (the cover is asked first, then the next steps; pending, stuck, covered nodes); the K Haskell
-- backend's JSON-RPC documentation (execute, implies).
use Rattle.std.specs.Prelude.{◌≡◌, ◌≢◌, ◌<◌, ◌≤◌, ◌^◌, ℕ, suc, ℤ, pos, negsuc, List, [], ◌∷◌, ◌++◌, length, Option, Some, None, slice_get, Bool, true, false}
use Rattle.kp_kore.specs.Syntax.{KorePattern}
use Rattle.kp_kore.specs.Claims.{ReachabilityClaim}
use Rattle.kp_kore.specs.Implied.{not_valid, valid}
use Rattle.kp_graph.specs.Tree as graph
use Rattle.kp_graph.specs.Tree.{ProofNode, HeldBy, most_nodes, node_at, open_nodes, first_nodes, with_arc, with_hold, with_edge}
use Rattle.serde_json.specs.Data.{unsigned}
use Rattle.kp_rpc.specs.Request.{RequestId, id_number}
use Rattle.kp_rpc.specs.Questions.{Question, to_execute, to_imply, question_tree}
use Rattle.kp_results.specs.Results as parts
use Rattle.kp_results.specs.Results.{Ending, ExecutedParts, IsPatternOf}
use Rattle.kp_replies.specs.Read.{Method, execute, implies, ServerReply, executed, UnfinishedParts, unfinished, implied, failed}
use Rattle.kp_replies.specs.Replies.{IsReplyOf}
use Rattle.kp_client.specs.Links.{Exchange, IsTextOf}

-- ---- questions and their replies

-- is the state one of the claim's right side? No module is named: the main one.
abbrev pub cover_question : ReachabilityClaim → KorePattern → RequestId → Question
cover_question claim s i = to_imply (record { id = i; antecedent = s; consequent = claim.right; module_name = None })

-- where do so many steps from the state lead? No rule is listed.
abbrev pub step_question : ℕ → KorePattern → RequestId → Question
step_question depth s i = to_execute (record { id = i; state = s; options = record { max_depth = Some depth; module_name = None; cut_points = []; terminals = [] } })

-- a number of 64 bits: such are the ids of the prover's questions
abbrev pub IsGivenId : RequestId → Type 0
IsGivenId (id_number (unsigned n)) = n < 2 ^ 64
IsGivenId _ = ⊥

-- the question is asked under such an id, and the reply tells this
pub record Tells (question : RequestId → Question) (method : Method) (e : Exchange) (r : ServerReply) : Type 0 where
  pub number : RequestId
  pub lawful : IsGivenId number
  pub asked : IsTextOf (question number) e.frame
  pub told : IsReplyOf method e.reply r

-- it is asked
pub record Asks (question : RequestId → Question) (e : Exchange) : Type 0 where
  pub number : RequestId
  pub lawful : IsGivenId number
  pub asked : IsTextOf (question number) e.frame

-- it is asked, and the reply is none to the method
pub record TellsNothing (question : RequestId → Question) (method : Method) (e : Exchange) : Type 0 where
  pub number : RequestId
  pub lawful : IsGivenId number
  pub asked : IsTextOf (question number) e.frame
  pub none : (r : ServerReply) → ¬ IsReplyOf method e.reply r

-- the reasons whose runs the prover goes by; it can't use the others yet
abbrev pub is_followed : Ending → Bool
is_followed parts.vacuous = false
is_followed parts.depth_bound = true
is_followed parts.stuck = true
is_followed parts.branching = false
is_followed (parts.cut_point id) = false
is_followed (parts.terminal id) = false
is_followed (parts.aborted cause) = true

-- The question is refused with this code: the reply is that error; or it is no reply to the method, -32700; or it tells a
-- run that the prover can't go by yet, 2; or a pattern in the question has no Kore JSON, so that nothing is asked, 1.
pub data Refuses (question : RequestId → Question) (method : Method) : List Exchange → ℤ → Type 0 where
  by_error : (e : Exchange) (code : ℤ) → Tells question method e (failed code) → Refuses question method (e ∷ []) code
  by_no_reply : (e : Exchange) → TellsNothing question method e → Refuses question method (e ∷ []) (negsuc 32699)
  by_reason : (e : Exchange) (x : ExecutedParts) → Tells question method e (executed x) → is_followed x.ending ≡ false → Refuses question method (e ∷ []) (pos 2)
  by_unfinished : (e : Exchange) (u : UnfinishedParts) → Tells question method e (unfinished u) → Refuses question method (e ∷ []) (pos 2)
  by_no_text : (i : RequestId) → question_tree (question i) ≡ None → Refuses question method [] (pos 1)

-- ---- one round

pub data ProofOutcome : Type 0 where
  passed : ProofOutcome
  failed_at : ℕ → ProofOutcome
  pending_at : ℕ → HeldBy → ProofOutcome
  refused_with : ℤ → ProofOutcome

-- the proof goes on with this tree, or ends with it
pub data RoundEnd : Type 0 where
  goes_on : List ProofNode → RoundEnd
  ends : List ProofNode → ProofOutcome → RoundEnd

-- What the next steps from the node's state make of the tree: an edge to a new node, unless there are as many nodes as
-- there may be; or the node is stuck, and the proof fails; or it is held by a reply that goes no step and isn't stuck.
pub data Stepping (depth : ℕ) (tree : List ProofNode) (n : ℕ) (s : KorePattern) : List Exchange → RoundEnd → Type 0 where
  edge : (e : Exchange) (x : ExecutedParts) (next : KorePattern) → Tells (step_question depth s) execute e (executed x) → is_followed x.ending ≡ true → 1 ≤ x.depth →
      IsPatternOf x.state next → length tree < most_nodes → Stepping depth tree n s (e ∷ []) (goes_on (with_edge n x.depth next false tree))
  too_many : (e : Exchange) (x : ExecutedParts) → Tells (step_question depth s) execute e (executed x) → is_followed x.ending ≡ true → 1 ≤ x.depth →
      most_nodes ≤ length tree → Stepping depth tree n s (e ∷ []) (ends (with_hold n graph.nodes tree) (pending_at n graph.nodes))
  stuck : (e : Exchange) (x : ExecutedParts) → Tells (step_question depth s) execute e (executed x) → x.depth ≡ 0 →
      x.ending ≡ parts.stuck → Stepping depth tree n s (e ∷ []) (ends (with_arc n graph.stuck tree) (failed_at n))
  held : (e : Exchange) (x : ExecutedParts) → Tells (step_question depth s) execute e (executed x) → is_followed x.ending ≡ true → x.depth ≡ 0 →
      x.ending ≢ parts.stuck → Stepping depth tree n s (e ∷ []) (goes_on (with_hold n (graph.reply e.reply) tree))
  refused : (es : List Exchange) (code : ℤ) → Refuses (step_question depth s) execute es code → Stepping depth tree n s es (ends tree (refused_with code))

-- a server's code where it can't decide an implication
abbrev pub undecided_code : ℤ
undecided_code = pos 5

-- What the round makes of the tree: the node is covered where its state implies the right side, held where that can't
-- be decided, and else its next steps are asked.
pub data Round (claim : ReachabilityClaim) (depth : ℕ) (tree : List ProofNode) (n : ℕ) (s : KorePattern) : List Exchange → RoundEnd → Type 0 where
  covered : (e : Exchange) (predicate substitution : KorePattern) → Tells (cover_question claim s) implies e (implied (valid predicate substitution)) →
      Round claim depth tree n s (e ∷ []) (goes_on (with_arc n graph.cover tree))
  undecided : (e : Exchange) → Tells (cover_question claim s) implies e (failed undecided_code) →
      Round claim depth tree n s (e ∷ []) (goes_on (with_hold n (graph.reply e.reply) tree))
  refused : (es : List Exchange) (code : ℤ) → Refuses (cover_question claim s) implies es code → code ≢ undecided_code →
      Round claim depth tree n s es (ends tree (refused_with code))
  steps : (e : Exchange) (es : List Exchange) (end : RoundEnd) → Tells (cover_question claim s) implies e (implied not_valid) →
      Stepping depth tree n s es end → Round claim depth tree n s (e ∷ es) end

-- ---- all rounds

-- the open node of the least number
abbrev pub least_open : List ProofNode → Option ℕ
least_open tree = slice_get (open_nodes tree) 0

-- so many rounds, each of the open node of the least number, lead from the claim's left side to the tree
pub data Rounds (claim : ReachabilityClaim) (depth : ℕ) : ℕ → List ProofNode → List Exchange → Type 0 where
  none_yet : Rounds claim depth 0 (first_nodes claim.left) []
  one_more : (k : ℕ) (tree later : List ProofNode) (es more : List Exchange) (n : ℕ) (x : ProofNode) → Rounds claim depth k tree es →
      least_open tree ≡ Some n → node_at tree n ≡ Some x → Round claim depth tree n x.state more (goes_on later) →
      Rounds claim depth (suc k) later (es ++ more)

-- no node is held; the held node of the least number, and why it is
abbrev pub IsNoneHeld : List ProofNode → Type 0
IsNoneHeld tree = (m : ℕ) (x : ProofNode) → node_at tree m ≡ Some x → x.held ≡ None

pub record IsFirstHeld (tree : List ProofNode) (n : ℕ) (why : HeldBy) : Type 0 where
  pub node : ProofNode
  pub at : node_at tree n ≡ Some node
  pub held : node.held ≡ Some why
  pub none_before : (m : ℕ) (x : ProofNode) → m < n → node_at tree m ≡ Some x → x.held ≡ None

abbrev pub most_rounds : ℕ
most_rounds = 1000

-- The exchanges, the last tree and the outcome of a proof: it ends in a round; or an open node is left after the last
-- round that may be, and is held; or no node is open: then it has passed where none is held, and else is pending.
pub data Proves (claim : ReachabilityClaim) (depth : ℕ) : List Exchange → List ProofNode → ProofOutcome → Type 0 where
  in_round : (k : ℕ) (tree last : List ProofNode) (es more : List Exchange) (n : ℕ) (x : ProofNode) (outcome : ProofOutcome) → Rounds claim depth k tree es →
      k < most_rounds → least_open tree ≡ Some n → node_at tree n ≡ Some x → Round claim depth tree n x.state more (ends last outcome) →
      Proves claim depth (es ++ more) last outcome
  after_rounds : (tree : List ProofNode) (es : List Exchange) (n : ℕ) → Rounds claim depth most_rounds tree es → least_open tree ≡ Some n →
      Proves claim depth es (with_hold n graph.rounds tree) (pending_at n graph.rounds)
  all_covered : (k : ℕ) (tree : List ProofNode) (es : List Exchange) → Rounds claim depth k tree es → k ≤ most_rounds → least_open tree ≡ None →
      IsNoneHeld tree → Proves claim depth es tree passed
  some_held : (k : ℕ) (tree : List ProofNode) (es : List Exchange) (n : ℕ) (why : HeldBy) → Rounds claim depth k tree es → k ≤ most_rounds → least_open tree ≡ None →
      IsFirstHeld tree n why → Proves claim depth es tree (pending_at n why)

-- ---- a proof that breaks off

-- a question may have been asked
pub data MayAsk (question : RequestId → Question) : List Exchange → Type 0 where
  unasked : MayAsk question []
  asked : (e : Exchange) → Asks question e → MayAsk question (e ∷ [])

-- the first questions of a round, none or more of them: is the node covered? and where it isn't, what are its next steps?
pub data RoundBegins (claim : ReachabilityClaim) (depth : ℕ) (s : KorePattern) : List Exchange → Type 0 where
  with_cover : (es : List Exchange) → MayAsk (cover_question claim s) es → RoundBegins claim depth s es
  with_steps : (e : Exchange) (es : List Exchange) → Tells (cover_question claim s) implies e (implied not_valid) →
      MayAsk (step_question depth s) es → RoundBegins claim depth s (e ∷ es)

-- the exchanges of a proof that breaks off: those of some rounds that don't end it, and the first ones of the next round
pub data BreaksOff (claim : ReachabilityClaim) (depth : ℕ) : List Exchange → Type 0 where
  between : (k : ℕ) (tree : List ProofNode) (es : List Exchange) → k ≤ most_rounds → Rounds claim depth k tree es → BreaksOff claim depth es
  in_next : (k : ℕ) (tree : List ProofNode) (es more : List Exchange) (n : ℕ) (x : ProofNode) → Rounds claim depth k tree es → k < most_rounds →
      least_open tree ≡ Some n → node_at tree n ≡ Some x → RoundBegins claim depth x.state more → BreaksOff claim depth (es ++ more)
