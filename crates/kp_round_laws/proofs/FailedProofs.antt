-- A failed proof whose exchanges are right: its node is stuck or terminal, and not covered.
use Rattle.std.proofs.Common.{◌≡◌, ℕ, List, inl, inr}
use Rattle.std.specs.List.{AllByRecursion}
use Rattle.kp_kore.specs.Theory.{Theory}
use Rattle.kp_kore.proofs.ListLemmas.{all_left, all_right}
use Rattle.kp_graph.specs.Tree.{ProofNode, first_nodes}
use Rattle.kp_book.specs.Books.{Opening, Registration, Seen}
use Rattle.kp_registry.specs.Legal.{IsLegal}
use Rattle.kp_links.specs.Links.{Exchange, Chain}
use Rattle.kp_links.specs.RightExchanges.{IsServed}
use Rattle.kp_rounds.specs.Jobs.{ProofJob, AddedModules}
use Rattle.kp_rounds.specs.Rounds.{goes_on, ends, Rounds, none_yet, one_more, PlaysOut, in_round, after_rounds, all_shown, some_held, ProofOutcome, failed_at, Proves, not_set_up, played}
use Rattle.kp_rounds.specs.Sound.{IsMainTheory, IsSoundJob, IsFailedAt}
use Rattle.kp_round_laws.specs.RightRounds.{IsRightFrom, Stands}
use Rattle.kp_round_laws.specs.Laws.{FailedIsFailed}
use Rattle.kp_round_laws.proofs.OpenNodes.{least_is_open}
use Rattle.kp_round_laws.proofs.ProofsSay.{IsBegun, begun}
use Rattle.kp_round_laws.proofs.Failing.{round_fails}
use Rattle.kp_round_laws.proofs.Flagged.{FlagsCome}
use Rattle.kp_round_laws.proofs.TerminalNodes.{FlagSays, round_flags, first_flags, left_terminal}

rounds_flags : (o : Opening) (t : Theory) (job : ProofJob) (modules : AddedModules) (book : List Registration) (first : List ProofNode) (k : ℕ) (tree : List ProofNode) (es : List Exchange) → Stands o t job modules book → FlagsCome (FlagSays t job) first →
    AllByRecursion (IsRightFrom o book) es → Rounds job modules first k tree es → FlagsCome (FlagSays t job) tree
rounds_flags o t job modules book first k tree es st come right none_yet = come
rounds_flags o t job modules book first k tree es st come right (one_more j before later fs more n x earlier least at round) =
    round_flags o t job modules book before n x more (goes_on later) st (least_is_open before n least) at (all_right (IsRightFrom o book) fs more right)
    (rounds_flags o t job modules book first j before fs st come (all_left (IsRightFrom o book) fs more right) earlier) round

play_fails : (o : Opening) (t : Theory) (job : ProofJob) (modules : AddedModules) (book : List Registration) (first tree : List ProofNode) (es : List Exchange) (outcome : ProofOutcome) (m : ℕ) → Stands o t job modules book → FlagsCome (FlagSays t job) first →
    AllByRecursion (IsRightFrom o book) es → PlaysOut job modules first es tree outcome → outcome ≡ failed_at m → IsFailedAt t job tree m
play_fails o t job modules book first tree es outcome m st come right (in_round k before last fs more n x end rs less least at round) same =
    let flags : FlagsCome (FlagSays t job) before = rounds_flags o t job modules book first k before fs st come (all_left (IsRightFrom o book) fs more right) rs in
    let after : FlagsCome (FlagSays t job) last = round_flags o t job modules book before n x more (ends last end) st (least_is_open before n least) at (all_right (IsRightFrom o book) fs more right) flags round in
    elim (round_fails o t job modules book before n x more (ends last end) m st (least_is_open before n least) at (all_right (IsRightFrom o book) fs more right) round same) [
      | inl stuck ↦ inl stuck
      | inr left ↦ inr (left_terminal t job last m after left)
    ]
play_fails o t job modules book first tree es outcome m st come right (after_rounds before fs n rs least) same = absurd (cc same)
play_fails o t job modules book first tree es outcome m st come right (all_shown k before fs rs less none is) same = absurd (cc same)
play_fails o t job modules book first tree es outcome m st come right (some_held k before fs n why rs less none held) same = absurd (cc same)

proof_fails : (o : Opening) (t : Theory) (job : ProofJob) (before after : Seen) (es entered : List Exchange) (tree : List ProofNode) (outcome : ProofOutcome) (m : ℕ) → IsMainTheory o t → IsSoundJob o job → IsLegal o before.book → Chain (IsServed o) before es entered after →
    Proves job es tree outcome → outcome ≡ failed_at m → IsFailedAt t job tree m
proof_fails o t job before after es entered tree outcome m main sound legal chain (not_set_up fs code fails) same = absurd (cc same)
proof_fails o t job before after es entered tree outcome m main sound legal chain (played modules first more _ _ set plays) same =
    let b : IsBegun o t job modules more = begun o t job modules before after first more entered main sound legal chain set in
    play_fails o t job modules b.book (first_nodes job.claim.claim.left) tree more outcome m b.stands (first_flags (FlagSays t job) job.claim.claim.left) b.right plays same

-- a whole proof that failed did so at a node that is stuck or terminal
pub failed_proof_fails : (o : Opening) (t : Theory) (job : ProofJob) → FailedIsFailed o t job
failed_proof_fails o t job tree outcome m p same = proof_fails o t job p.before p.after p.exchanges p.entered tree outcome m p.main p.sound p.legal p.chain p.proves same
