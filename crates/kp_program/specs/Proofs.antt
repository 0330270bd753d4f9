-- What the proofs of a claims' file come to: a line for each claim, and the status. A claim that is told as passed holds
-- over the theory that the definition means for its main module.
-- Source: All-Path Reachability Logic (a claim holds); pyk's APRProof (how a proof goes); the lines are this project's.
use Rattle.std.specs.Prelude.{◌≡◌, ◌≤◌, ℕ, Bool, true, false, List, [], length, Option, Some, IfSome, if◌then◌else◌}
use Rattle.std.specs.List.{AllByRecursion, AllZip, list_all, list_any}
use Rattle.kp_kore.specs.Syntax.{Text, KoreModule}
use Rattle.kp_kore.specs.Theory.{Theory, IsTheoryOfAxioms, NumberedAxiom}
use Rattle.kp_io.specs.Outside.{Names, load_limit}
use Rattle.kp_conn.specs.Conversations.{line_of}
use Rattle.kp_book.specs.Books.{Opening, Seen, rules_in}
use Rattle.kp_modules.specs.Openings.{opening_of}
use Rattle.kp_registry.specs.Legal.{IsLegal}
use Rattle.kp_additions.specs.Served.{nothing_seen}
use Rattle.kp_service.specs.Answers.{IsAnswer}
use Rattle.kp_kore.specs.Claims.{ReachabilityClaim, Holds}
use Rattle.kp_graph.specs.Tree.{ProofNode}
use Rattle.kp_graph.specs.Says.{TreeSays}
use Rattle.kp_claims.specs.Claims.{counted}
use Rattle.kp_claims.specs.Files.{SpellsFile}
use Rattle.kp_claim_sentences.specs.Claims.{StatedClaim, IsStatedBy}
use Rattle.kp_claim_sentences.specs.Faults.{IsFaultlessFile}
use Rattle.kp_client.specs.Links.{Exchange, ToldTheory}
use Rattle.kp_report.specs.Report.{ReportLine, IsReport}
use Rattle.kp_client.specs.Rounds.{Proves, ProofOutcome, passed, failed_at, pending_at, refused_with}
use Rattle.kp_client.specs.Sound.{IsStuckAt}
use Rattle.kp_program.specs.Loaded.{IsLoaded}
use Rattle.kp_command.specs.Words.{ProveWords, SpellsProve}

-- ---- the server

-- the theory of the main module over what is bound from the start
pub record IsMainTheory (o : Opening) (t : Theory) : Type 0 where
  pub axioms : List NumberedAxiom
  pub bound : rules_in o.modules o.main ≡ Some axioms
  pub means : IsTheoryOfAxioms o.signature axioms t

-- a theory, and the name of the main module
abbrev pub told_theory : Opening → Theory → ToldTheory
told_theory o t = record { theory = t; main = o.main }

-- a frame, and the line with which the service over this opening replies to it at some book that was seen; nothing, where it
-- doesn't reply
pub record IsRepliedBy (o : Opening) (e : Exchange) : Type 0 where
  pub before : Seen
  pub legal : IsLegal o before.book
  pub reply : Option (List ℕ)
  pub after : Seen
  pub answer : IsAnswer o before e.frame reply after
  pub line : e.reply ≡ line_of reply

-- the same before any module is added, and none is: of a question that names no module
pub record IsRepliedAtOpening (o : Opening) (e : Exchange) : Type 0 where
  pub reply : Option (List ℕ)
  pub answer : IsAnswer o nothing_seen e.frame reply nothing_seen
  pub line : e.reply ≡ line_of reply

-- ---- proofs

-- How the proof of a claim, by edges of at most so many steps, ended: each of its exchanges has the service's right reply at one
-- book, the opening's own; the tree and the outcome are what the rounds make of them; the tree's arcs say what they say of the
-- theory; where it passed, the claim holds; where it failed at a node, each instance of the node's state is final, and some
-- instance is none of the right side.
pub record IsOutcome (o : Opening) (t : Theory) (depth : ℕ) (claim : ReachabilityClaim) (outcome : ProofOutcome) : Type 0 where
  pub exchanges : List Exchange
  pub replied : AllByRecursion (IsRepliedAtOpening o) exchanges
  pub tree : List ProofNode
  pub proves : Proves claim depth exchanges tree outcome
  pub says : TreeSays t [] [] claim tree
  pub holds : outcome ≡ passed → Holds t claim
  pub stuck : (n : ℕ) → outcome ≡ failed_at n → IsStuckAt t claim tree n

-- the line tells the label of the claim, and how its proof ended
pub record IsLineFor (o : Opening) (t : Theory) (depth : ℕ) (claim : StatedClaim) (line : ReportLine) : Type 0 where
  pub label : line.label ≡ claim.label
  pub outcome : IsOutcome o t depth claim.claim.claim line.outcome

-- ---- the status

abbrev pub has_passed : ProofOutcome → Bool
has_passed passed = true
has_passed (failed_at n) = false
has_passed (pending_at n why) = false
has_passed (refused_with code) = false

abbrev pub has_failed : ProofOutcome → Bool
has_failed passed = false
has_failed (failed_at n) = true
has_failed (pending_at n why) = false
has_failed (refused_with code) = false

-- 0 where each claim passed, 1 where some failed, else 2
abbrev pub proof_status : List ReportLine → ℕ
proof_status lines =
    if list_all (λ l. has_passed l.outcome) lines then 0
    else if list_any (λ l. has_failed l.outcome) lines then 1
    else 2

-- ---- the report

-- the claims, in order, were proved, by edges of at most so many steps, with this status and a report of which this holds
pub record AreReported (o : Opening) (t : Theory) (depth : ℕ) (claims : List StatedClaim) (Gains : List ℕ → Type 0) (status : ℕ) : Type 0 where
  pub lines : List ReportLine
  pub one_each : AllZip (IsLineFor o t depth) claims lines
  pub report : List ℕ
  pub report_is : IsReport lines report
  pub gains : Gains report
  pub status_is : status ≡ proof_status lines

-- for a command, over a shelf and an output: the definition is loaded, the claims' file has no fault, and its claims were
-- proved so
pub record Proved (names : Option Names) (Gains : List ℕ → Type 0) (c : ProveWords) (status : ℕ) : Type 0 where
  pub loaded : IsLoaded names c.definition c.main
  pub file : List ℕ
  pub there : IfSome names (λ held. held c.claims ≡ Some file)
  pub fits : length file ≤ load_limit
  pub modules : List KoreModule
  pub spells : SpellsFile file modules
  pub faultless : IsFaultlessFile loaded.setting.theory.signature (counted modules)
  pub claims : List StatedClaim
  pub are_claims : AllZip IsStatedBy (counted modules) claims
  pub reported : AreReported (opening_of loaded.definition c.main) loaded.setting.theory c.depth claims Gains status

-- the same for the command that the words spell
abbrev pub ProvedWords : Option Names → (List ℕ → Type 0) → List Text → ℕ → Type 0
ProvedWords names Gains words status = (c : ProveWords) × SpellsProve words c × Proved names Gains c status
