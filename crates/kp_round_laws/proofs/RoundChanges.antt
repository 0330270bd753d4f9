-- What a round changes: what each of its changes keeps, the round keeps, and so do all rounds.
use Rattle.std.proofs.Common.{◌≡◌, refl, ℕ, Bool, false, List, length, Some, None}
use Rattle.kp_kore.specs.Syntax.{KorePattern}
use Rattle.kp_kore.specs.Arcs.{BranchChild}
use Rattle.kp_graph.specs.Tree as graph
use Rattle.kp_graph.specs.Tree.{ProofNode, NodeArc, HeldBy, arc_fault, leads_to, gives_progress, first_nodes, with_arc, with_hold, with_edge, with_split, with_branch}
use Rattle.kp_results.specs.Results.{ExecutedParts}
use Rattle.kp_links.specs.Links.{Exchange}
use Rattle.kp_rounds.specs.Jobs.{ProofJob, AddedModules}
use Rattle.kp_rounds.specs.Rounds as rounds
use Rattle.kp_rounds.specs.Rounds.{RoundEnd, goes_on, ends, Round, Stepping, Leading, Rounds, none_yet, one_more, PlaysOut, in_round, after_rounds, all_shown, some_held, Proves, not_set_up, played, ProofOutcome, most_rounds, is_split, is_part, is_terminal, parts_of}
use Rattle.kp_round_laws.specs.RightRounds.{end_tree}
use Rattle.kp_round_laws.proofs.OpenNodes.{least_is_open}

-- the arc of a leaf
pub record IsLeafArc (a : NodeArc) : Type 0 where
  pub nowhere : (m : ℕ) → leads_to m (Some a) ≡ false
  pub none : (m : ℕ) → gives_progress m (Some a) ≡ false
  pub whole : is_split (Some a) ≡ false

-- each change of the tree at node n keeps this; a split is made of no part
pub record ChangesKeep (P : List ProofNode → Type 0) (tree : List ProofNode) (n : ℕ) : Type 0 where
  pub leaf : (a : NodeArc) → IsLeafArc a → P (with_arc n a tree)
  pub hold : (why : HeldBy) → P (with_hold n why tree)
  pub edge : (d : ℕ) (s : KorePattern) (flagged : Bool) → P (with_edge n d s flagged tree)
  pub split : (states : List KorePattern) → is_part tree n ≡ false → P (with_split n states tree)
  pub branch : (children : List BranchChild) → P (with_branch n children tree)

adds_keep : (P : List ProofNode → Type 0) (tree : List ProofNode) (n count : ℕ) (grown : List ProofNode) (end : RoundEnd) → ChangesKeep P tree n → P grown → rounds.AddsNodes tree n count grown end → P (end_tree end)
adds_keep P tree n count grown end k new (rounds.has_room l) = new
adds_keep P tree n count grown end k new (rounds.too_many l) = k.hold graph.nodes

leading_keeps : (P : List ProofNode → Type 0) (tree : List ProofNode) (n : ℕ) (s : KorePattern) (e : Exchange) (r : ExecutedParts) (end : RoundEnd) → ChangesKeep P tree n → Leading tree n s e r end → P (end_tree end)
leading_keeps P tree n s e r end k (rounds.Leading.edge beyond last some is adds) = adds_keep P tree n 1 (with_edge n r.depth beyond (is_terminal r.ending) tree) last k (k.edge r.depth beyond (is_terminal r.ending)) adds
leading_keeps P tree n s e r end k (rounds.stuck none is) = k.leaf graph.stuck (record { nowhere = λ m. refl; none = λ m. refl; whole = refl })
leading_keeps P tree n s e r end k (rounds.Leading.vacuous none is) = k.leaf graph.vacuous (record { nowhere = λ m. refl; none = λ m. refl; whole = refl })
leading_keeps P tree n s e r end k (rounds.Leading.held none is) = k.hold (graph.reply e.reply)
leading_keeps P tree n s e r end k (rounds.cut id children last none is z adds) = adds_keep P tree n (length children) (with_branch n children tree) last k (k.branch children) adds
leading_keeps P tree n s e r end k (rounds.split last none is some whole one adds) = adds_keep P tree n (length r.nexts) (with_split n (parts_of s r.nexts) tree) last k (k.split (parts_of s r.nexts) whole) adds
leading_keeps P tree n s e r end k (rounds.undivided none is whole one) = k.hold (graph.reply e.reply)
leading_keeps P tree n s e r end k (rounds.branch children last none is some part z adds) = adds_keep P tree n (length children) (with_branch n children tree) last k (k.branch children) adds

stepping_keeps : (P : List ProofNode → Type 0) (job : ProofJob) (modules : AddedModules) (tree : List ProofNode) (n : ℕ) (s : KorePattern) (es : List Exchange) (end : RoundEnd) → P tree → ChangesKeep P tree n → Stepping job modules tree n s es end → P (end_tree end)
stepping_keeps P job modules tree n s es end h k (rounds.by_run name e r last asks tells leads) = leading_keeps P tree n s e r last k leads
stepping_keeps P job modules tree n s es end h k (rounds.by_front name e u last asks tells (rounds.LeadingTo.edge beyond after some is adds)) = adds_keep P tree n 1 (with_edge n u.depth beyond false tree) after k (k.edge u.depth beyond false) adds
stepping_keeps P job modules tree n s es end h k (rounds.by_front name e u last asks tells (rounds.LeadingTo.held none)) = k.hold (graph.reply e.reply)
stepping_keeps P job modules tree n s es end h k (rounds.Stepping.refused name fs code asks refuses) = h

pub round_keeps : (P : List ProofNode → Type 0) (job : ProofJob) (modules : AddedModules) (tree : List ProofNode) (n : ℕ) (x : ProofNode) (es : List Exchange) (end : RoundEnd) → P tree → ChangesKeep P tree n → Round job modules tree n x es end → P (end_tree end)
round_keeps P job modules tree n x es end h k (rounds.covered e p q tells is) = k.leaf graph.cover (record { nowhere = λ m. refl; none = λ m. refl; whole = refl })
round_keeps P job modules tree n x es end h k (rounds.Round.vacuous e p q tells is) = k.leaf graph.vacuous (record { nowhere = λ m. refl; none = λ m. refl; whole = refl })
round_keeps P job modules tree n x es end h k (rounds.undecided e tells) = k.hold (graph.reply e.reply)
round_keeps P job modules tree n x es end h k (rounds.Round.refused fs code refuses other) = h
round_keeps P job modules tree n x es end h k (rounds.terminal e tells flagged) = k.leaf graph.terminal (record { nowhere = λ m. refl; none = λ m. refl; whole = refl })
round_keeps P job modules tree n x es end h k (rounds.steps e fs last tells plain stepping) = stepping_keeps P job modules tree n x.state fs last h k stepping

-- each change of any tree of which it holds, at an open node, keeps it
abbrev pub EachKeeps : (List ProofNode → Type 0) → Type 0
EachKeeps P = (tree : List ProofNode) (n : ℕ) → P tree → arc_fault tree n ≡ None → ChangesKeep P tree n

pub rounds_keep : (P : List ProofNode → Type 0) → EachKeeps P → (job : ProofJob) (modules : AddedModules) (first : List ProofNode) (k : ℕ) (tree : List ProofNode) (es : List Exchange) → P first → Rounds job modules first k tree es → P tree
rounds_keep P each job modules first k tree es h none_yet = h
rounds_keep P each job modules first k tree es h (one_more j before later fs more n x earlier least at round) =
    let there : P before = rounds_keep P each job modules first j before fs h earlier in
    round_keeps P job modules before n x more (goes_on later) there (each before n there (least_is_open before n least)) round

pub play_keeps : (P : List ProofNode → Type 0) → EachKeeps P → (job : ProofJob) (modules : AddedModules) (first tree : List ProofNode) (es : List Exchange) (outcome : ProofOutcome) → P first → PlaysOut job modules first es tree outcome → P tree
play_keeps P each job modules first tree es outcome h (in_round k before last fs more n x end rs less least at round) =
    let there : P before = rounds_keep P each job modules first k before fs h rs in
    round_keeps P job modules before n x more (ends last end) there (each before n there (least_is_open before n least)) round
play_keeps P each job modules first tree es outcome h (after_rounds before fs n rs least) =
    let there : P before = rounds_keep P each job modules first most_rounds before fs h rs in
    (each before n there (least_is_open before n least)).hold graph.rounds
play_keeps P each job modules first tree es outcome h (all_shown k before fs rs less none is) = rounds_keep P each job modules first k before fs h rs
play_keeps P each job modules first tree es outcome h (some_held k before fs n why rs less none held) = rounds_keep P each job modules first k before fs h rs

-- what the first tree has and each change keeps, the last tree of a proof has
pub proof_keeps : (P : List ProofNode → Type 0) → EachKeeps P → (job : ProofJob) (es : List Exchange) (tree : List ProofNode) (outcome : ProofOutcome) → P (first_nodes job.claim.claim.left) → Proves job es tree outcome → P tree
proof_keeps P each job es tree outcome h (not_set_up fs code fails) = h
proof_keeps P each job es tree outcome h (played modules first more _ _ set plays) = play_keeps P each job modules (first_nodes job.claim.claim.left) tree more outcome h plays
