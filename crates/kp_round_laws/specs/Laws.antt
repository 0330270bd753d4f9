-- What the laws of this crate say.
-- Source: All-Path Reachability Logic; pyk's APRProof (dependencies, circularities).
use Rattle.std.specs.Prelude.{◌≡◌, ◌+◌, ◌<◌, ◌^◌, ⊤, ℕ, true, false, List, [], ◌∷◌, ◌++◌, length, Some, None, option_map, slice_get}
use Rattle.std.specs.List.{AllByRecursion}
use Rattle.kp_kore.specs.Syntax.{Text, KoreDefinition}
use Rattle.kp_kore.specs.Parts.{SortedName}
use Rattle.kp_kore.specs.Instance.{is_named}
use Rattle.kp_kore.specs.Theory.{Theory, modules_reached, rewrite_axioms}
use Rattle.kp_kore.specs.Claims.{ReachabilityClaim, Holds}
use Rattle.kp_kore.specs.Replies.{variables_beyond}
use Rattle.kp_kore.specs.Children.{right_alone}
use Rattle.kp_kore.specs.ClaimModules.{SortedClaim, claims_module, IsAddedId, CanBeRule}
use Rattle.kp_print.specs.Printed.{module_text}
use Rattle.kp_book.specs.Books.{Opening, Registration, Seen, each_axiom_once}
use Rattle.kp_registry.specs.Legal.{IsLegal}
use Rattle.kp_claim_sentences.specs.Claims.{StatedClaim}
use Rattle.kp_layers.specs.Layers.{AreLayers}
use Rattle.kp_graph.specs.Tree.{ProofNode, IsTree, node_at, arc_fault}
use Rattle.kp_links.specs.Links.{Exchange, Chain}
use Rattle.kp_links.specs.RightExchanges.{IsServed}
use Rattle.kp_rounds.specs.Jobs.{ProofJob, AddedModules}
use Rattle.kp_rounds.specs.Rounds.{is_split, is_part, RoundEnd, Round, Proves, ProofOutcome, passed, failed_at}
use Rattle.kp_rounds.specs.Sound.{IsSpelledIn, IsSoundClaim, MeansClaims, dependencies_of, ProofSays, IsFailedAt}
use Rattle.kp_rounds.specs.Layered.{ProofOptions, ClaimEnd, HasPassedAt, AreEndsIn, IsLayerOrder}
use Rattle.kp_round_laws.specs.RightRounds.{IsRightFrom, Stands, end_tree, IsServedProof}

-- ---- modules

-- the rewrite axioms of the modules that main reaches stand there once each
abbrev pub AxiomsStandOnce : KoreDefinition → Text → Type 0
AxiomsStandOnce d main = each_axiom_once [] (rewrite_axioms (modules_reached d main)) ≡ rewrite_axioms (modules_reached d main)

-- the module of claims that can be rules, entered last into a legal book, means them as rules beside main's, at this book
-- and at each later one
abbrev pub AddedMeansClaims : Opening → Theory → Type 0
AddedMeansClaims o t = (book : List Registration) (r : Registration) (claims : List SortedClaim) → IsLegal o (book ++ r ∷ []) → r.text ≡ module_text (claims_module o.main claims) → IsSpelledIn o.main claims →
    AllByRecursion (CanBeRule o.signature) claims → 1 + length claims < 2 ^ 64 → IsAddedId r.id → MeansClaims o (book ++ r ∷ []) t r.id claims

-- the entries that served exchanges make are the pass's own, and are told: one for each exchange that entered a module
abbrev pub OwnEntriesAreTold : Opening → Type 0
OwnEntriesAreTold o = (before after : Seen) (es entered : List Exchange) → Chain (IsServed o) before es entered after → (more : List ℕ) × (after.own ≡ before.own ++ more) × (length more ≡ length entered)

-- ---- one proof

-- whatever arc a round gives a node by right exchanges, it says what it says
abbrev pub RoundSays : Opening → Theory → ProofJob → Type 0
RoundSays o t job = (modules : AddedModules) (book : List Registration) (tree : List ProofNode) (n : ℕ) (x : ProofNode) (es : List Exchange) (end : RoundEnd) → Stands o t job modules book → ProofSays t job tree →
    arc_fault tree n ≡ None → node_at tree n ≡ Some x → AllByRecursion (IsRightFrom o book) es → Round job modules tree n x es end → ProofSays t job (end_tree end)

-- the last tree of a proof is one, and begins with the claim's left side
abbrev pub TreeBegins : ProofJob → Type 0
TreeBegins job = (es : List Exchange) (tree : List ProofNode) (outcome : ProofOutcome) → Proves job es tree outcome →
    IsTree tree × (option_map (λ x. x.state) (node_at tree 1) ≡ Some job.claim.claim.left)

-- no part of a split is split again
abbrev pub AreDividedOnce : List ProofNode → Type 0
AreDividedOnce tree = (n : ℕ) (x : ProofNode) → node_at tree n ≡ Some x → is_part tree n ≡ true → is_split x.arc ≡ false

abbrev pub PartsStayWhole : ProofJob → Type 0
PartsStayWhole job = (es : List Exchange) (tree : List ProofNode) (outcome : ProofOutcome) → Proves job es tree outcome → AreDividedOnce tree

-- each arc of a proof says what it says
abbrev pub ArcsSay : Opening → Theory → ProofJob → Type 0
ArcsSay o t job = (tree : List ProofNode) (outcome : ProofOutcome) → IsServedProof o t job tree outcome → ProofSays t job tree

-- a proof that passed makes its claim hold, if its dependencies hold
abbrev pub PassedHolds : Opening → Theory → ProofJob → Type 0
PassedHolds o t job = (tree : List ProofNode) (outcome : ProofOutcome) → IsServedProof o t job tree outcome → outcome ≡ passed → AllByRecursion (Holds t) (dependencies_of job) → Holds t job.claim.claim

-- one that failed did so at a node as it is told
abbrev pub FailedIsFailed : Opening → Theory → ProofJob → Type 0
FailedIsFailed o t job = (tree : List ProofNode) (outcome : ProofOutcome) (n : ℕ) → IsServedProof o t job tree outcome → outcome ≡ failed_at n → IsFailedAt t job tree n

-- ---- the target

-- no name stands twice
abbrev pub StandOnce : List SortedName → Type 0
StandOnce [] = ⊤
StandOnce (x ∷ xs) = (is_named x.name xs ≡ false) × StandOnce xs

-- the target binds the variables that the right side has alone, each once
abbrev pub BindsOnce : ReachabilityClaim → Type 0
BindsOnce claim = StandOnce (right_alone claim) × ((y : Text) → is_named y (right_alone claim) ≡ is_named y (variables_beyond claim.left claim.right))

-- ---- all claims of a file

-- the claims that passed hold
abbrev pub PassedClaimsHold : Opening → Theory → Type 0
PassedClaimsHold o t = (options : ProofOptions) (claims : List StatedClaim) (needs : List (List ℕ)) (layers order : List ℕ) (ends : List ClaimEnd) (before after : Seen) → length needs ≡ length claims → length ends ≡ length claims →
    AreLayers needs layers → IsLayerOrder layers order → AllByRecursion (λ c. IsSoundClaim c.claim) claims → AreEndsIn (IsServed o) t options claims needs ends order before after →
    (k : ℕ) (c : StatedClaim) → HasPassedAt ends k → slice_get claims k ≡ Some c → Holds t c.claim.claim
