-- The proofs of a file's claims with their dependencies, layer by layer, over one history of modules.
-- Source: All-Path Reachability Logic; pyk's APRProof (dependencies); this project (layers, lines).
use Rattle.std.specs.Prelude.{◌≡◌, ◌<◌, ◌⊎◌, ⊤, ℕ, List, [], ◌∷◌, ◌++◌, length, Some, option_map, slice_get, get_or}
use Rattle.std.specs.List.{AllByRecursion, Contains, filter_map}
use Rattle.kp_kore.specs.Syntax.{Text}
use Rattle.kp_kore.specs.Theory.{Theory}
use Rattle.kp_kore.specs.ClaimModules.{SortedClaim}
use Rattle.kp_book.specs.Books.{Seen}
use Rattle.kp_graph.specs.Tree.{ProofNode}
use Rattle.kp_claim_sentences.specs.Claims.{StatedClaim}
use Rattle.kp_links.specs.Links.{Exchange, Meeting, Chain}
use Rattle.kp_rounds.specs.Jobs.{ProofJob}
use Rattle.kp_rounds.specs.Rounds.{Proves, ProofOutcome, passed, failed_at}
use Rattle.kp_rounds.specs.Sound.{ProofSays, IsFailedAt}

-- ---- jobs

-- how the proofs of a command go: main's name, the steps of an edge, the terminal rules
pub record ProofOptions : Type 0 where
  pub main : Text
  pub depth : ℕ
  pub terminals : List Text

-- the claims at these places, in order
abbrev pub claims_at : List StatedClaim → List ℕ → List SortedClaim
claims_at claims places = filter_map (λ k. option_map (λ c. c.claim) (slice_get claims k)) places

-- the job of a claim that depends on those at these places
abbrev pub job_of : ProofOptions → List StatedClaim → StatedClaim → List ℕ → ProofJob
job_of options claims c places =
    record { main = options.main; claim = c.claim; circular = c.circular; dependencies = claims_at claims places; depth = options.depth; terminals = options.terminals }

-- ---- ends

-- what became of a claim: its proof ended so, or it wasn't started, since the claim of this label hasn't passed
pub data ClaimEnd : Type 0 where
  ended : ProofOutcome → ClaimEnd
  waits_for : Text → ClaimEnd

-- the claim at this place passed
abbrev pub HasPassedAt : List ClaimEnd → ℕ → Type 0
HasPassedAt ends k = slice_get ends k ≡ Some (ended passed)

-- the first of these claims that hasn't passed has this label
pub record IsFirstWaited (claims : List StatedClaim) (ends : List ClaimEnd) (places : List ℕ) (label : Text) : Type 0 where
  pub before : List ℕ
  pub place : ℕ
  pub behind : List ℕ
  pub are : places ≡ before ++ place ∷ behind
  pub passed_before : AllByRecursion (HasPassedAt ends) before
  pub not_passed : ¬ HasPassedAt ends place
  pub claim : StatedClaim
  pub at : slice_get claims place ≡ Some claim
  pub labelled : claim.label ≡ label

-- a proof over the history, from what was seen before it to what is seen after: its exchanges are met there
pub record IsProvedOver (meets : Meeting) (job : ProofJob) (before after : Seen) (outcome : ProofOutcome) (tree : List ProofNode) : Type 0 where
  pub exchanges : List Exchange
  pub entered : List Exchange
  pub chain : Chain meets before exchanges entered after
  pub proves : Proves job exchanges tree outcome

-- What became of the claim that depends on those at these places, where this became of all claims: it waits; or, since
-- these have passed, it was proved, the arcs of its tree say so, and where it failed, it did so at a node as told.
pub data IsEndOf (meets : Meeting) (t : Theory) (options : ProofOptions) (claims : List StatedClaim) (ends : List ClaimEnd) (c : StatedClaim) (places : List ℕ) : Seen → Seen → ClaimEnd → Type 0 where
  waits : (seen : Seen) (label : Text) → IsFirstWaited claims ends places label → IsEndOf meets t options claims ends c places seen seen (waits_for label)
  proved : (before after : Seen) (outcome : ProofOutcome) (tree : List ProofNode) → AllByRecursion (HasPassedAt ends) places →
      IsProvedOver meets (job_of options claims c places) before after outcome tree →
      ProofSays t (job_of options claims c places) tree →
      ((n : ℕ) → outcome ≡ failed_at n → IsFailedAt t (job_of options claims c places) tree n) →
      IsEndOf meets t options claims ends c places before after (ended outcome)

-- the claims of this order, by their places, were proved one after another, from what was seen before to what is seen after
pub data AreEndsIn (meets : Meeting) (t : Theory) (options : ProofOptions) (claims : List StatedClaim) (needs : List (List ℕ)) (ends : List ClaimEnd) : List ℕ → Seen → Seen → Type 0 where
  none_left : (seen : Seen) → AreEndsIn meets t options claims needs ends [] seen seen
  one_more : (place : ℕ) (order : List ℕ) (before between after : Seen) (c : StatedClaim) (end : ClaimEnd) → slice_get claims place ≡ Some c → slice_get ends place ≡ Some end →
      IsEndOf meets t options claims ends c (get_or needs place []) before between end → AreEndsIn meets t options claims needs ends order between after →
      AreEndsIn meets t options claims needs ends (place ∷ order) before after

-- ---- the order

-- the claim at place i goes before the one at place j: its layer is lower, or the same, and it stands before it in the file
abbrev pub GoesBefore : List ℕ → ℕ → ℕ → Type 0
GoesBefore layers i j = (get_or layers i 0 < get_or layers j 0) ⊎ ((get_or layers i 0 ≡ get_or layers j 0) × (i < j))

abbrev pub AreInOrder : List ℕ → List ℕ → Type 0
AreInOrder layers [] = ⊤
AreInOrder layers (i ∷ more) = AllByRecursion (GoesBefore layers i) more × AreInOrder layers more

-- all places, layer by layer and, within one, in the order of the file
pub record IsLayerOrder (layers order : List ℕ) : Type 0 where
  pub all : (i : ℕ) → i < length layers → Contains order i
  pub none_else : AllByRecursion (λ i. i < length layers) order
  pub rising : AreInOrder layers order
