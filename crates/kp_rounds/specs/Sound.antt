-- What a proof says of its claim, where the exchanges are right for an opening.
-- Source: All-Path Reachability Logic; matching logic.
use Rattle.std.specs.Prelude.{◌≡◌, ◌≢◌, ◌⊎◌, ◌^◌, ◌<◌, ◌+◌, ℕ, true, List, [], ◌∷◌, ◌++◌, map, length, Some, if◌then◌else◌}
use Rattle.std.specs.List.{AllByRecursion, AllZip}
use Rattle.kp_kore.specs.Syntax.{Text}
use Rattle.kp_kore.specs.Parts.{free_variables}
use Rattle.kp_kore.specs.Theory.{Theory, NumberedAxiom, IsTheoryOfAxioms}
use Rattle.kp_kore.specs.Rules.{RewriteRule}
use Rattle.kp_kore.specs.Claims.{ReachabilityClaim}
use Rattle.kp_kore.specs.Cases.{HaveOneSort}
use Rattle.kp_kore.specs.Children.{target_of}
use Rattle.kp_kore.specs.ClaimRules.{IsClaimRule, with_rules}
use Rattle.kp_kore.specs.ClaimModules.{SortedClaim, CanBeRule, claims_module}
use Rattle.kp_kore.specs.Arcs.{StuckSays, HasNoFreshName}
use Rattle.kp_kore.specs.Executions.{Options, EndsBy}
use Rattle.kp_kore.specs.Implied.{HasCounterexample}
use Rattle.kp_text.specs.Spelling.{SpellsModule}
use Rattle.kp_print.specs.Printed.{module_text}
use Rattle.kp_book.specs.Books.{Opening, Registration, Grows, rules_in, each_axiom_once}
use Rattle.kp_graph.specs.Tree.{ProofNode, node_at, edge, stuck, terminal}
use Rattle.kp_graph.specs.Says.{TreeSays}
use Rattle.kp_links.specs.RightExchanges.{IsAskedAt}
use Rattle.kp_rounds.specs.Jobs.{ProofJob, AddedModules, claims_anywhere, claims_behind, rule_ids_from}

-- ---- what is given

-- the theory of the main module over what is bound from the start, whose axioms stand there once each
pub record IsMainTheory (o : Opening) (t : Theory) : Type 0 where
  pub axioms : List NumberedAxiom
  pub bound : rules_in o.modules o.main ≡ Some axioms
  pub apart : each_axiom_once [] axioms ≡ axioms
  pub means : IsTheoryOfAxioms o.signature axioms t

-- no variable of the claim has the name of a new one, and each name has one sort
pub record IsSoundClaim (c : SortedClaim) : Type 0 where
  pub no_fresh : HasNoFreshName c.claim
  pub one_sort : HaveOneSort (free_variables c.claim.left ++ free_variables c.claim.right)

-- the text of the module of these claims spells it
abbrev pub IsSpelledIn : Text → List SortedClaim → Type 0
IsSpelledIn main claims = SpellsModule (module_text (claims_module main claims)) (claims_module main claims)

-- What the claims of a file without a fault are to a proof: sound; those that are used as rules can be, and the texts of
-- their modules spell these.
pub record IsSoundJob (o : Opening) (job : ProofJob) : Type 0 where
  pub main : job.main ≡ o.main
  pub claim : IsSoundClaim job.claim
  pub dependencies : AllByRecursion (CanBeRule o.signature) job.dependencies
  pub circularity : job.circular ≡ true → CanBeRule o.signature job.claim
  pub few : 2 + length job.dependencies < 2 ^ 64
  pub dependencies_spelled : job.dependencies ≢ [] → IsSpelledIn job.main (claims_anywhere job)
  pub circularity_spelled : job.circular ≡ true → IsSpelledIn job.main (claims_behind job)
  pub depth : job.depth < 2 ^ 64

-- the claims of the job, without their sorts: those it depends on, and its own where it is circular
abbrev pub dependencies_of : ProofJob → List ReachabilityClaim
dependencies_of job = map (λ c. c.claim) job.dependencies

abbrev pub circularities_of : ProofJob → List ReachabilityClaim
circularities_of job = if job.circular then job.claim.claim ∷ [] else []

-- each arc of the tree says what it says, in the theory with the claims' rules that it was asked in
abbrev pub ProofSays : Theory → ProofJob → List ProofNode → Type 0
ProofSays t job tree = TreeSays t (dependencies_of job) (circularities_of job) job.claim.claim tree

-- ---- what added modules mean

-- the theory is main's with these claims as rules, whose ids are those of the module that was added
pub record HasClaims (t m : Theory) (id : Text) (claims : List SortedClaim) : Type 0 where
  pub rules : List RewriteRule
  pub is : m ≡ with_rules t rules
  pub are : AllZip IsClaimRule (map (λ c. c.claim) claims) rules
  pub ids : map (λ r. r.id) rules ≡ rule_ids_from id 1 claims

-- the module of this id means such a theory, at this book and at each later one
abbrev pub MeansClaims : Opening → List Registration → Theory → Text → List SortedClaim → Type 0
MeansClaims o book t id claims = (later : List Registration) → Grows book later → (m : Theory) → IsAskedAt o later (Some id) m → HasClaims t m id claims

-- what the modules of a job mean
pub record MeanModules (o : Opening) (book : List Registration) (t : Theory) (job : ProofJob) (modules : AddedModules) : Type 0 where
  pub dependencies : (id : Text) → modules.dependencies ≡ Some id → MeansClaims o book t id (claims_anywhere job)
  pub circularity : (id : Text) → modules.circularity ≡ Some id → MeansClaims o book t id (claims_behind job)

-- ---- failed proofs

-- node n is stuck: each instance of its state is final, and some instance is none of the claim's right side
pub record IsStuckAt (t : Theory) (claim : SortedClaim) (tree : List ProofNode) (n : ℕ) : Type 0 where
  pub node : ProofNode
  pub at : node_at tree n ≡ Some node
  pub arc : node.arc ≡ Some stuck
  pub final : StuckSays t node.state
  pub uncovered : HasCounterexample t.signature node.state (target_of claim)

-- node n is terminal: a run from its parent came to it by a rule of the job's terminals, in some theory of main's and
-- claims' rules, and some instance is none of the claim's right side
pub record IsTerminalAt (t : Theory) (job : ProofJob) (tree : List ProofNode) (n : ℕ) : Type 0 where
  pub node : ProofNode
  pub at : node_at tree n ≡ Some node
  pub arc : node.arc ≡ Some terminal
  pub uncovered : HasCounterexample t.signature node.state (target_of job.claim)
  pub place : ℕ
  pub before : ProofNode
  pub before_at : node_at tree place ≡ Some before
  pub depth : ℕ
  pub from : before.arc ≡ Some (edge depth n true)
  pub rules : List RewriteRule
  pub options : Options
  pub same : options.terminals ≡ job.terminals
  pub id : Text
  pub ended : EndsBy (with_rules t rules) options before.state node.state depth id

abbrev pub IsFailedAt : Theory → ProofJob → List ProofNode → ℕ → Type 0
IsFailedAt t job tree n = IsStuckAt t job.claim tree n ⊎ IsTerminalAt t job tree n
