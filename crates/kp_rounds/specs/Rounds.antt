-- The rounds of a proof: what is asked of each node, and what the replies make of it.
-- Source: pyk's APRProver (the cover is asked first, then the next steps; pending, stuck, vacuous, terminal, covered
-- nodes) and KCFG (edges, splits, branches); the K Haskell backend's JSON-RPC documentation (execute, implies).
use Rattle.std.specs.Prelude.{◌≡◌, ◌≢◌, ◌<◌, ◌≤◌, ◌+◌, ℕ, suc, ℤ, pos, List, [], ◌∷◌, ◌++◌, length, map, Option, Some, None, slice_get, Bool, true, false, ◌&&◌}
use Rattle.std.specs.Option.{option_map_or}
use Rattle.std.specs.List.{AllZip}
use Rattle.kp_kore.specs.Syntax.{Text, KorePattern, bottom}
use Rattle.kp_kore.specs.Instance.{conjoined_terms}
use Rattle.kp_kore.specs.Implied.{not_valid, valid}
use Rattle.kp_kore.specs.Children.{split_child, target_of}
use Rattle.kp_kore.specs.Arcs.{BranchChild}
use Rattle.kp_graph.specs.Tree as graph
use Rattle.kp_graph.specs.Tree.{ProofNode, NodeArc, HeldBy, most_nodes, node_at, open_nodes, first_nodes, parent_of, progress_at, progresses, with_arc, with_hold, with_edge, with_split, with_branch, status_of}
use Rattle.kp_graph.specs.declared.status.Status.TheVariants.{Passed}
use Rattle.kp_rpc.specs.Request.{RequestId, ExecuteRequest, ImpliesRequest}
use Rattle.kp_rpc.specs.Questions.{Question, to_execute, to_imply}
use Rattle.kp_results.specs.Results as parts
use Rattle.kp_results.specs.Results.{Ending, ExecutedParts, NextParts, IsPatternOf}
use Rattle.kp_replies.specs.Read.{execute, implies, executed, UnfinishedParts, unfinished, implied, failed}
use Rattle.kp_links.specs.Links.{Exchange}
use Rattle.kp_rounds.specs.Jobs.{ProofJob, AddedModules, Tells, Refuses, SetsUp, FailsSetUp, claim_rule_ids}
use Rattle.kp_rounds.specs.StatedSorts.{sort_beside}

-- ---- questions

-- is the state one of the claim's right side? No module is named: the main one.
abbrev pub cover_request : ProofJob → KorePattern → RequestId → ImpliesRequest
cover_request job s i = record { id = i; antecedent = s; consequent = target_of job.claim; module_name = None }

abbrev pub cover_question : ProofJob → KorePattern → RequestId → Question
cover_question job s i = to_imply (cover_request job s i)

-- where do so many steps from the state lead in this module? A run stops before each claim's rule, and behind the rules
-- that the job names.
abbrev pub step_request : ProofJob → AddedModules → Option Text → KorePattern → RequestId → ExecuteRequest
step_request job modules name s i =
    record { id = i; state = s; options = record { max_depth = Some job.depth; module_name = name; cut_points = claim_rule_ids job modules; terminals = job.terminals } }

abbrev pub step_question : ProofJob → AddedModules → Option Text → KorePattern → RequestId → Question
step_question job modules name s i = to_execute (step_request job modules name s i)

-- ---- the module that is asked

-- a node above this one has this state, and no step between them is progress
pub data Repeats (tree : List ProofNode) (s : KorePattern) : ℕ → Type 0 where
  parents : (n p : ℕ) (x : ProofNode) → parent_of tree n ≡ Some p → progresses tree p n ≡ false → node_at tree p ≡ Some x → x.state ≡ s → Repeats tree s n
  further : (n p : ℕ) → parent_of tree n ≡ Some p → progresses tree p n ≡ false → Repeats tree s p → Repeats tree s n

-- main where the node's state repeats one above it; the circularity's where the claim is circular and the node has
-- progress; else the dependencies' where there are some; else main
pub data AsksIn (job : ProofJob) (modules : AddedModules) (tree : List ProofNode) (n : ℕ) (s : KorePattern) : Option Text → Type 0 where
  in_main : Repeats tree s n → AsksIn job modules tree n s None
  in_circularity : ¬ Repeats tree s n → job.circular ≡ true → progress_at tree n ≡ true → AsksIn job modules tree n s modules.circularity
  in_dependencies : ¬ Repeats tree s n → (job.circular && progress_at tree n) ≡ false → AsksIn job modules tree n s modules.dependencies

-- ---- what replies make of the tree

pub data ProofOutcome : Type 0 where
  passed : ProofOutcome
  failed_at : ℕ → ProofOutcome
  pending_at : ℕ → HeldBy → ProofOutcome
  refused_with : ℤ → ProofOutcome

-- the proof goes on with this tree, or ends with it
pub data RoundEnd : Type 0 where
  goes_on : List ProofNode → RoundEnd
  ends : List ProofNode → ProofOutcome → RoundEnd

-- the tree gets so many new nodes and is this one then, unless there would be more nodes than there may be: then node n
-- is held for that, and the proof ends
pub data AddsNodes (tree : List ProofNode) (n count : ℕ) (grown : List ProofNode) : RoundEnd → Type 0 where
  has_room : length tree + count ≤ most_nodes → AddsNodes tree n count grown (goes_on grown)
  too_many : most_nodes < length tree + count → AddsNodes tree n count grown (ends (with_hold n graph.nodes tree) (pending_at n graph.nodes))

-- a node is a part where its parent is split
abbrev pub is_split : Option NodeArc → Bool
is_split (Some (graph.split tos)) = true
is_split _ = false

abbrev pub is_part : List ProofNode → ℕ → Bool
is_part tree n = option_map_or (λ p. option_map_or (λ x. is_split x.arc) (node_at tree p) false) (parent_of tree n) false

-- a run that ends by a terminal rule flags its edge
abbrev pub is_terminal : Ending → Bool
is_terminal (parts.terminal id) = true
is_terminal _ = false

-- the child of a branch that a next state makes, at whatever sort its conjunction is written
pub record IsChildOf (x : NextParts) (k : BranchChild) : Type 0 where
  pub rule : k.rule ≡ x.rule
  pub state : IsPatternOf x.state k.state

-- the parts of a state, each with the predicate of a next state as one more conjunct, at the sort of the first of these
abbrev pub parts_of : KorePattern → List NextParts → List KorePattern
parts_of s [] = []
parts_of s (x ∷ xs) = map (λ y. split_child (sort_beside x.predicate) s y.predicate) (x ∷ xs)

abbrev pub has_one_term : List KorePattern → Bool
has_one_term (t ∷ []) = true
has_one_term _ = false

-- a run of no step holds its node where it is aborted, and where it can't be right: at its bound, behind a terminal rule,
-- with no next state
abbrev pub is_held_by : Ending → List NextParts → Bool
is_held_by (parts.aborted cause) nexts = true
is_held_by parts.depth_bound nexts = true
is_held_by (parts.terminal id) nexts = true
is_held_by parts.branching [] = true
is_held_by _ nexts = false

-- What a run from node n, of state s, makes of the tree: an edge where it went on; else a stuck or vacuous leaf, a hold, a
-- branch of its next states, or, where the state can be divided and isn't a part itself, a split into its parts.
pub data Leading (tree : List ProofNode) (n : ℕ) (s : KorePattern) (e : Exchange) (x : ExecutedParts) : RoundEnd → Type 0 where
  edge : (next : KorePattern) (end : RoundEnd) → 1 ≤ x.depth → IsPatternOf x.state next →
      AddsNodes tree n 1 (with_edge n x.depth next (is_terminal x.ending) tree) end → Leading tree n s e x end
  stuck : x.depth ≡ 0 → x.ending ≡ parts.stuck → Leading tree n s e x (ends (with_arc n graph.stuck tree) (failed_at n))
  vacuous : x.depth ≡ 0 → x.ending ≡ parts.vacuous → Leading tree n s e x (goes_on (with_arc n graph.vacuous tree))
  held : x.depth ≡ 0 → is_held_by x.ending x.nexts ≡ true → Leading tree n s e x (goes_on (with_hold n (graph.reply e.reply) tree))
  cut : (id : Text) (children : List BranchChild) (end : RoundEnd) → x.depth ≡ 0 → x.ending ≡ parts.cut_point id → AllZip IsChildOf x.nexts children →
      AddsNodes tree n (length children) (with_branch n children tree) end → Leading tree n s e x end
  split : (end : RoundEnd) → x.depth ≡ 0 → x.ending ≡ parts.branching → x.nexts ≢ [] → is_part tree n ≡ false → has_one_term (conjoined_terms s) ≡ true →
      AddsNodes tree n (length x.nexts) (with_split n (parts_of s x.nexts) tree) end → Leading tree n s e x end
  -- what isn't one term and predicates can't be divided; no right reply branches there
  undivided : x.depth ≡ 0 → x.ending ≡ parts.branching → is_part tree n ≡ false → has_one_term (conjoined_terms s) ≡ false →
      Leading tree n s e x (goes_on (with_hold n (graph.reply e.reply) tree))
  branch : (children : List BranchChild) (end : RoundEnd) → x.depth ≡ 0 → x.ending ≡ parts.branching → x.nexts ≢ [] → is_part tree n ≡ true → AllZip IsChildOf x.nexts children →
      AddsNodes tree n (length children) (with_branch n children tree) end → Leading tree n s e x end

-- the same of a run that is aborted by what isn't decided
pub data LeadingTo (tree : List ProofNode) (n : ℕ) (e : Exchange) (u : UnfinishedParts) : RoundEnd → Type 0 where
  edge : (next : KorePattern) (end : RoundEnd) → 1 ≤ u.depth → IsPatternOf u.state next → AddsNodes tree n 1 (with_edge n u.depth next false tree) end → LeadingTo tree n e u end
  held : u.depth ≡ 0 → LeadingTo tree n e u (goes_on (with_hold n (graph.reply e.reply) tree))

-- What the next steps from node n make of the tree, asked in the module that its place has it asked in.
pub data Stepping (job : ProofJob) (modules : AddedModules) (tree : List ProofNode) (n : ℕ) (s : KorePattern) : List Exchange → RoundEnd → Type 0 where
  by_run : (name : Option Text) (e : Exchange) (x : ExecutedParts) (end : RoundEnd) → AsksIn job modules tree n s name →
      Tells (step_question job modules name s) execute e (executed x) → Leading tree n s e x end → Stepping job modules tree n s (e ∷ []) end
  by_front : (name : Option Text) (e : Exchange) (u : UnfinishedParts) (end : RoundEnd) → AsksIn job modules tree n s name →
      Tells (step_question job modules name s) execute e (unfinished u) → LeadingTo tree n e u end → Stepping job modules tree n s (e ∷ []) end
  refused : (name : Option Text) (es : List Exchange) (code : ℤ) → AsksIn job modules tree n s name →
      Refuses (step_question job modules name s) execute es code → Stepping job modules tree n s es (ends tree (refused_with code))

-- a server's code where it can't decide an implication
abbrev pub undecided_code : ℤ
undecided_code = pos 5

abbrev pub is_bottom : KorePattern → Bool
is_bottom (bottom sort) = true
is_bottom _ = false

-- What the round makes of the tree: the node is covered, or vacuous; held where that can't be decided; terminal where it
-- is flagged; and else its next steps are asked.
pub data Round (job : ProofJob) (modules : AddedModules) (tree : List ProofNode) (n : ℕ) (x : ProofNode) : List Exchange → RoundEnd → Type 0 where
  covered : (e : Exchange) (predicate substitution : KorePattern) → Tells (cover_question job x.state) implies e (implied (valid predicate substitution)) →
      is_bottom predicate ≡ false → Round job modules tree n x (e ∷ []) (goes_on (with_arc n graph.cover tree))
  vacuous : (e : Exchange) (predicate substitution : KorePattern) → Tells (cover_question job x.state) implies e (implied (valid predicate substitution)) →
      is_bottom predicate ≡ true → Round job modules tree n x (e ∷ []) (goes_on (with_arc n graph.vacuous tree))
  undecided : (e : Exchange) → Tells (cover_question job x.state) implies e (failed undecided_code) →
      Round job modules tree n x (e ∷ []) (goes_on (with_hold n (graph.reply e.reply) tree))
  refused : (es : List Exchange) (code : ℤ) → Refuses (cover_question job x.state) implies es code → code ≢ undecided_code →
      Round job modules tree n x es (ends tree (refused_with code))
  terminal : (e : Exchange) → Tells (cover_question job x.state) implies e (implied not_valid) → x.flagged ≡ true →
      Round job modules tree n x (e ∷ []) (ends (with_arc n graph.terminal tree) (failed_at n))
  steps : (e : Exchange) (es : List Exchange) (end : RoundEnd) → Tells (cover_question job x.state) implies e (implied not_valid) → x.flagged ≡ false →
      Stepping job modules tree n x.state es end → Round job modules tree n x (e ∷ es) end

-- ---- all rounds

-- the open node of the least number
abbrev pub least_open : List ProofNode → Option ℕ
least_open tree = slice_get (open_nodes tree) 0

abbrev pub most_rounds : ℕ
most_rounds = 1000

-- so many rounds, each of the open node of the least number, lead from this tree to that one
pub data Rounds (job : ProofJob) (modules : AddedModules) (first : List ProofNode) : ℕ → List ProofNode → List Exchange → Type 0 where
  none_yet : Rounds job modules first 0 first []
  one_more : (k : ℕ) (tree later : List ProofNode) (es more : List Exchange) (n : ℕ) (x : ProofNode) → Rounds job modules first k tree es →
      least_open tree ≡ Some n → node_at tree n ≡ Some x → Round job modules tree n x more (goes_on later) → Rounds job modules first (suc k) later (es ++ more)

-- the held node of the least number, and why it is
pub record IsFirstHeld (tree : List ProofNode) (n : ℕ) (why : HeldBy) : Type 0 where
  pub node : ProofNode
  pub at : node_at tree n ≡ Some node
  pub held : node.held ≡ Some why
  pub none_before : (m : ℕ) (x : ProofNode) → m < n → node_at tree m ≡ Some x → x.held ≡ None

-- The exchanges, the last tree and the outcome of the rounds from a tree: they end in a round; or an open node is left
-- after the last round that may be, and is held; or no node is open: then the proof has passed where the tree has, and is
-- pending where a node is held, at the first of these.
pub data PlaysOut (job : ProofJob) (modules : AddedModules) (first : List ProofNode) : List Exchange → List ProofNode → ProofOutcome → Type 0 where
  in_round : (k : ℕ) (tree last : List ProofNode) (es more : List Exchange) (n : ℕ) (x : ProofNode) (outcome : ProofOutcome) → Rounds job modules first k tree es →
      k < most_rounds → least_open tree ≡ Some n → node_at tree n ≡ Some x → Round job modules tree n x more (ends last outcome) → PlaysOut job modules first (es ++ more) last outcome
  after_rounds : (tree : List ProofNode) (es : List Exchange) (n : ℕ) → Rounds job modules first most_rounds tree es → least_open tree ≡ Some n →
      PlaysOut job modules first es (with_hold n graph.rounds tree) (pending_at n graph.rounds)
  all_shown : (k : ℕ) (tree : List ProofNode) (es : List Exchange) → Rounds job modules first k tree es → k ≤ most_rounds → least_open tree ≡ None →
      status_of tree ≡ Passed → PlaysOut job modules first es tree passed
  some_held : (k : ℕ) (tree : List ProofNode) (es : List Exchange) (n : ℕ) (why : HeldBy) → Rounds job modules first k tree es → k ≤ most_rounds → least_open tree ≡ None →
      IsFirstHeld tree n why → PlaysOut job modules first es tree (pending_at n why)

-- a whole proof from nothing: the modules are added, and the rounds are played from the claim's left side
pub data Proves (job : ProofJob) : List Exchange → List ProofNode → ProofOutcome → Type 0 where
  not_set_up : (es : List Exchange) (code : ℤ) → FailsSetUp job es code → Proves job es (first_nodes job.claim.claim.left) (refused_with code)
  played : (modules : AddedModules) (first more : List Exchange) (tree : List ProofNode) (outcome : ProofOutcome) → SetsUp job first modules →
      PlaysOut job modules (first_nodes job.claim.claim.left) more tree outcome → Proves job (first ++ more) tree outcome
