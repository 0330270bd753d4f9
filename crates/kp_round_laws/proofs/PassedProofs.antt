-- A proof whose exchanges are right and that passes makes its claim hold, if its dependencies hold.
use Rattle.std.proofs.Common.{◌≡◌, refl, ap, subst, Bool, true, false, List, [], ◌∷◌, length, Option, Some, None, option_map}
use Rattle.std.specs.Prelude.{ℕ, if◌then◌else◌}
use Rattle.std.specs.List.{AllByRecursion}
use Rattle.kp_kore.specs.Syntax.{KorePattern}
use Rattle.kp_kore.specs.Theory.{Theory}
use Rattle.kp_kore.specs.Claims.{Holds}
use Rattle.kp_graph.specs.Tree.{ProofNode, IsTree, node_at, first_nodes, status_of}
use Rattle.kp_graph.specs.Says.{TreeSays}
use Rattle.kp_graph.specs.declared.status.Status.TheVariants.{Passed}
use Rattle.kp_graph.proofs.SaysLemmas.{passed_holds_by_itself, passed_holds_alone}
use Rattle.kp_book.specs.Books.{Opening}
use Rattle.kp_results.specs.Results.{ExecutedParts}
use Rattle.kp_links.specs.Links.{Exchange}
use Rattle.kp_rounds.specs.Jobs.{ProofJob, AddedModules}
use Rattle.kp_rounds.specs.Rounds as rounds
use Rattle.kp_rounds.specs.Rounds.{RoundEnd, ends, Round, Leading, PlaysOut, in_round, after_rounds, all_shown, some_held, ProofOutcome, passed, Proves, not_set_up, played}
use Rattle.kp_rounds.specs.Sound.{IsSoundClaim, dependencies_of, ProofSays}
use Rattle.kp_round_laws.specs.Laws.{PassedHolds}
use Rattle.kp_round_laws.proofs.TreesFrom.{IsFrom, from_proves}
use Rattle.kp_round_laws.proofs.ProofsSay.{arcs_say}

-- ---- the outcome

never_added : (tree : List ProofNode) (n count : ℕ) (grown : List ProofNode) (end : RoundEnd) → rounds.AddsNodes tree n count grown end → (last : List ProofNode) → end ≡ ends last passed → ⊥
never_added tree n count grown end (rounds.has_room l) last same = absurd (cc same)
never_added tree n count grown end (rounds.too_many l) last same = absurd (cc same)

never_leading : (tree : List ProofNode) (n : ℕ) (s : KorePattern) (e : Exchange) (r : ExecutedParts) (end : RoundEnd) → Leading tree n s e r end → (last : List ProofNode) → end ≡ ends last passed → ⊥
never_leading tree n s e r end (rounds.Leading.edge beyond more some is adds) last same = never_added tree n 1 _ more adds last same
never_leading tree n s e r end (rounds.stuck none is) last same = absurd (cc same)
never_leading tree n s e r end (rounds.Leading.vacuous none is) last same = absurd (cc same)
never_leading tree n s e r end (rounds.Leading.held none is) last same = absurd (cc same)
never_leading tree n s e r end (rounds.cut id children more none is z adds) last same = never_added tree n (length children) _ more adds last same
never_leading tree n s e r end (rounds.split more none is some whole one adds) last same = never_added tree n _ _ more adds last same
never_leading tree n s e r end (rounds.undivided none is whole one) last same = absurd (cc same)
never_leading tree n s e r end (rounds.branch children more none is some part z adds) last same = never_added tree n (length children) _ more adds last same

-- a round never ends a proof as passed
never_passed : (job : ProofJob) (modules : AddedModules) (tree : List ProofNode) (n : ℕ) (x : ProofNode) (es : List Exchange) (end : RoundEnd) → Round job modules tree n x es end → (last : List ProofNode) → end ≡ ends last passed → ⊥
never_passed job modules tree n x es end (rounds.covered e p q tells is) last same = absurd (cc same)
never_passed job modules tree n x es end (rounds.Round.vacuous e p q tells is) last same = absurd (cc same)
never_passed job modules tree n x es end (rounds.undecided e tells) last same = absurd (cc same)
never_passed job modules tree n x es end (rounds.Round.refused fs code refuses other) last same = absurd (cc same)
never_passed job modules tree n x es end (rounds.terminal e tells flagged) last same = absurd (cc same)
never_passed job modules tree n x es end (rounds.steps e fs _ tells plain (rounds.by_run name f r after asks t leads)) last same = never_leading tree n x.state f r after leads last same
never_passed job modules tree n x es end (rounds.steps e fs _ tells plain (rounds.by_front name f u after asks t (rounds.LeadingTo.edge beyond more some is adds))) last same = never_added tree n 1 _ more adds last same
never_passed job modules tree n x es end (rounds.steps e fs _ tells plain (rounds.by_front name f u after asks t (rounds.LeadingTo.held none))) last same = absurd (cc same)
never_passed job modules tree n x es end (rounds.steps e fs _ tells plain (rounds.Stepping.refused name gs code asks refuses)) last same = absurd (cc same)

pub played_passed : (job : ProofJob) (modules : AddedModules) (first tree : List ProofNode) (es : List Exchange) (outcome : ProofOutcome) → PlaysOut job modules first es tree outcome → outcome ≡ passed → status_of tree ≡ Passed
played_passed job modules first tree es outcome (in_round k before last fs more n x end rs less least at round) same = absurd (never_passed job modules before n x more (ends last end) round last (ap (ends last) same))
played_passed job modules first tree es outcome (after_rounds before fs n rs least) same = absurd (cc same)
played_passed job modules first tree es outcome (all_shown k before fs rs less none is) same = is
played_passed job modules first tree es outcome (some_held k before fs n why rs less none held) same = absurd (cc same)

-- ---- the claim

-- a tree of the job that passes and says so makes the claim hold, if its dependencies do
passed_claim_holds : (t : Theory) (job : ProofJob) (tree : List ProofNode) (first : ProofNode) → IsSoundClaim job.claim → IsTree tree → node_at tree 1 ≡ Some first → first.state ≡ job.claim.claim.left →
    ProofSays t job tree → status_of tree ≡ Passed → AllByRecursion (Holds t) (dependencies_of job) → Holds t job.claim.claim
passed_claim_holds t job tree first sound shape at is says status hold = by_circular job.circular refl
  where
    by_circular : (b : Bool) → job.circular ≡ b → Holds t job.claim.claim
    by_circular true e = passed_holds_by_itself t (dependencies_of job) job.claim.claim tree first sound.no_fresh hold shape at is
        (subst (λ (c : Bool). TreeSays t (dependencies_of job) (if c then job.claim.claim ∷ [] else []) job.claim.claim tree) e says) status
    by_circular false e = passed_holds_alone t (dependencies_of job) job.claim.claim tree first sound.no_fresh hold shape at is
        (subst (λ (c : Bool). TreeSays t (dependencies_of job) (if c then job.claim.claim ∷ [] else []) job.claim.claim tree) e says) status

proves_passed : (job : ProofJob) (es : List Exchange) (tree : List ProofNode) (outcome : ProofOutcome) → Proves job es tree outcome → outcome ≡ passed → status_of tree ≡ Passed
proves_passed job es tree outcome (not_set_up fs code fails) same = absurd (cc same)
proves_passed job es tree outcome (played modules first more _ _ set plays) same = played_passed job modules (first_nodes job.claim.claim.left) tree more outcome plays same

first_of : (o : Option ProofNode) (s : KorePattern) → option_map (λ x. x.state) o ≡ Some s → (x : ProofNode) × (o ≡ Some x) × (x.state ≡ s)
first_of None s e = absurd (cc e)
first_of (Some x) s e = (x, refl, cc e)

-- a proof that passed makes its claim hold, where each arc says what it says and the dependencies hold
pub proved_claim_holds : (t : Theory) (job : ProofJob) (es : List Exchange) (tree : List ProofNode) (outcome : ProofOutcome) → IsSoundClaim job.claim → Proves job es tree outcome → outcome ≡ passed → ProofSays t job tree → AllByRecursion (Holds t) (dependencies_of job) → Holds t job.claim.claim
proved_claim_holds t job es tree outcome sound proves is says hold =
    let from : IsFrom job.claim.claim.left tree = from_proves job es tree outcome proves in
    let first = first_of (node_at tree 1) job.claim.claim.left from.first in
    passed_claim_holds t job tree first.0 sound from.shape first.1 first.2 says (proves_passed job es tree outcome proves is) hold

-- where its exchanges are right, each arc does
pub passed_proof_holds : (o : Opening) (t : Theory) (job : ProofJob) → PassedHolds o t job
passed_proof_holds o t job tree outcome p is hold = proved_claim_holds t job p.exchanges tree outcome p.sound.claim p.proves is (arcs_say o t job tree outcome p) hold
