-- Each round keeps what the arcs say, where the exchanges are right.
use Rattle.std.proofs.Common.{◌≡◌, refl, sym, ap, subst, ◌∙◌, ℕ, true, false, List, ◌++◌, Option, Some, None}
use Rattle.std.specs.List.{AllByRecursion}
use Rattle.serde_json.specs.Data.{unsigned, negative, float}
use Rattle.kp_kore.specs.Syntax.{KorePattern}
use Rattle.kp_kore.specs.Theory.{Theory}
use Rattle.kp_kore.specs.ClaimRules.{with_rules}
use Rattle.kp_kore.specs.Children.{target_of}
use Rattle.kp_kore.specs.Arcs.{VacuousSays}
use Rattle.kp_kore.specs.Implied.{IsCondition, witnessed, vacuous, IsRightImplied, valid, not_valid, HasCounterexample}
use Rattle.kp_kore.proofs.Covered.{covered, vacuous_beside}
use Rattle.kp_kore.proofs.Ended.{steps_edge}
use Rattle.kp_kore.proofs.ListLemmas.{all_left, all_right}
use Rattle.kp_graph.specs.Tree as graph
use Rattle.kp_graph.specs.Tree.{ProofNode, node_at, arc_fault, with_edge}
use Rattle.kp_graph.proofs.SaidLemmas.{cover_says, vacuous_says, terminal_says, hold_says, edge_says}
use Rattle.kp_book.specs.Books.{Opening, Registration}
use Rattle.kp_book.proofs.BookLemmas.{grows_on}
use Rattle.kp_rpc.specs.Request.{RequestId, id_text, id_number, id_null, IsReadId}
use Rattle.kp_results.specs.Results.{ExecutedParts}
use Rattle.kp_replies.specs.Read.{execute, executed, UnfinishedParts, unfinished, implies, implied}
use Rattle.kp_replies.specs.RightReplies.{asked_options}
use Rattle.kp_replies.proofs.Methods.{told_nexts}
use Rattle.kp_links.specs.Links.{Exchange}
use Rattle.kp_links.specs.RightExchanges.{IsRightRun, IsRightFront}
use Rattle.kp_rounds.specs.Jobs.{ProofJob, AddedModules, IsGivenId, Tells, claim_rule_ids}
use Rattle.kp_rounds.specs.Rounds as rounds
use Rattle.kp_rounds.specs.Rounds.{RoundEnd, goes_on, Round, Stepping, AsksIn, Rounds, none_yet, one_more, PlaysOut, in_round, after_rounds, all_shown, some_held, ProofOutcome, most_rounds, cover_request, cover_question, step_request, step_question, is_bottom}
use Rattle.kp_rounds.specs.Sound.{IsMainTheory, IsSoundClaim, dependencies_of, circularities_of, ProofSays}
use Rattle.kp_round_laws.proofs.OpenNodes.{least_is_open}
use Rattle.kp_round_laws.specs.RightRounds.{IsRightFrom, Stands, end_tree}
use Rattle.kp_round_laws.proofs.AskedRules.{AskedRules, IsAskedTheory, asked_rules}
use Rattle.kp_round_laws.proofs.RunsSay.{leading_says, grown_says, cuts_are_listed}

pub given_read : (i : RequestId) → IsGivenId i → IsReadId i
given_read (id_text t) h = absurd h
given_read (id_number (unsigned n)) h = h
given_read (id_number (negative z)) h = absurd h
given_read (id_number (float x)) h = absurd h
given_read id_null h = absurd h

-- ---- what a reply tells of the node

told_implied : (o : Opening) (t : Theory) (job : ProofJob) (book : List Registration) (s : KorePattern) (e : Exchange) (p q : KorePattern) → IsMainTheory o t → IsRightFrom o book e → Tells (cover_question job s) implies e (implied (valid p q)) →
    IsRightImplied t.signature s (target_of job.claim) (valid p q)
told_implied o t job book s e p q main right tells =
    subst (λ g. IsRightImplied g s (target_of job.claim) (valid p q)) (sym main.means.signature)
    (right.right.implication (cover_request job s tells.number) (valid p q) (given_read tells.number tells.lawful) tells.asked tells.told)

pub told_uncovered : (o : Opening) (t : Theory) (job : ProofJob) (book : List Registration) (s : KorePattern) (e : Exchange) → IsMainTheory o t → IsRightFrom o book e → Tells (cover_question job s) implies e (implied not_valid) →
    HasCounterexample t.signature s (target_of job.claim)
told_uncovered o t job book s e main right tells =
    subst (λ g. HasCounterexample g s (target_of job.claim)) (sym main.means.signature)
    (right.right.implication (cover_request job s tells.number) not_valid (given_read tells.number tells.lawful) tells.asked tells.told)

-- a run that is told is right in main's theory with claims' rules that may be used at the node
pub told_run : (o : Opening) (t : Theory) (job : ProofJob) (modules : AddedModules) (book : List Registration) (tree : List ProofNode) (n : ℕ) (x : ProofNode) (name : Option _) (e : Exchange) (r : ExecutedParts) → Stands o t job modules book → node_at tree n ≡ Some x →
    IsRightFrom o book e → AsksIn job modules tree n x.state name → (tells : Tells (step_question job modules name x.state) execute e (executed r)) →
    (a : AskedRules t job modules x.progress) × IsRightRun (with_rules t a.rules) (step_request job modules name x.state tells.number) r
told_run o t job modules book tree n x name e r st at right asks tells =
    let told = right.right.run (step_request job modules name x.state tells.number) r (given_read tells.number tells.lawful, st.fits) tells.asked tells.told in
    let rules : IsAskedTheory t told.3 job modules x.progress = asked_rules o t told.3 book told.0 job modules tree n x name st.main st.means st.set (grows_on book right.before.book told.0 right.grown told.1) at asks told.4 in
    (rules.0, subst (λ m. IsRightRun m (step_request job modules name x.state tells.number) r) rules.1 told.5)

-- so is the front of an unfinished one
told_front : (o : Opening) (t : Theory) (job : ProofJob) (modules : AddedModules) (book : List Registration) (tree : List ProofNode) (n : ℕ) (x : ProofNode) (name : Option _) (e : Exchange) (u : UnfinishedParts) → Stands o t job modules book → node_at tree n ≡ Some x →
    IsRightFrom o book e → AsksIn job modules tree n x.state name → (tells : Tells (step_question job modules name x.state) execute e (unfinished u)) →
    (a : AskedRules t job modules x.progress) × IsRightFront (with_rules t a.rules) (step_request job modules name x.state tells.number) u
told_front o t job modules book tree n x name e u st at right asks tells =
    let told = right.right.front (step_request job modules name x.state tells.number) u (given_read tells.number tells.lawful, st.fits) tells.asked tells.told in
    let rules : IsAskedTheory t told.3 job modules x.progress = asked_rules o t told.3 book told.0 job modules tree n x name st.main st.means st.set (grows_on book right.before.book told.0 right.grown told.1) at asks told.4 in
    (rules.0, subst (λ m. IsRightFront m (step_request job modules name x.state tells.number) u) rules.1 told.5)

-- ---- one round

none_there : (t : Theory) (job : ProofJob) (s p q : KorePattern) → IsSoundClaim job.claim → is_bottom p ≡ true → IsCondition t.signature s (target_of job.claim) p q → VacuousSays t job.claim.claim s
none_there t job s p q sound is (witnessed sort of_sort some same witness closed) = absurd (cc (sym is ∙ ap is_bottom same))
none_there t job s p q sound is (vacuous sort of_sort none same none_told) = vacuous_beside t job.claim s sound.one_sort none

front_says : (o : Opening) (t : Theory) (job : ProofJob) (modules : AddedModules) (book : List Registration) (tree : List ProofNode) (n : ℕ) (x : ProofNode) (name : Option _) (e : Exchange) (u : UnfinishedParts) (end : RoundEnd) → Stands o t job modules book → ProofSays t job tree → arc_fault tree n ≡ None → node_at tree n ≡ Some x →
    IsRightFrom o book e → AsksIn job modules tree n x.state name → Tells (step_question job modules name x.state) execute e (unfinished u) → rounds.LeadingTo tree n e u end → ProofSays t job (end_tree end)
front_says o t job modules book tree n x name e u end st said free at right asks tells (rounds.LeadingTo.held none) = hold_says t (dependencies_of job) (circularities_of job) job.claim.claim tree n (graph.reply e.reply) said free
front_says o t job modules book tree n x name e u end st said free at right asks tells (rounds.LeadingTo.edge beyond last some is grows) =
    let front = told_front o t job modules book tree n x name e u st at right asks tells in
    let both = front.1.1 beyond is in
    grown_says t (dependencies_of job) (circularities_of job) job.claim.claim tree n 1 (with_edge n u.depth beyond false tree) last said free
    (edge_says t (dependencies_of job) (circularities_of job) job.claim.claim tree n u.depth x beyond false said free at (record { rules = front.0.rules; may = front.0.may; listed = claim_rule_ids job modules; all = front.0.listed })
    (steps_edge (with_rules t front.0.rules) (claim_rule_ids job modules ++ job.terminals) (claim_rule_ids job modules) x.state beyond u.depth some both.0 both.1 (cuts_are_listed (asked_options (step_request job modules name x.state tells.number).options)))) grows

stepping_says : (o : Opening) (t : Theory) (job : ProofJob) (modules : AddedModules) (book : List Registration) (tree : List ProofNode) (n : ℕ) (x : ProofNode) (es : List Exchange) (end : RoundEnd) → Stands o t job modules book → ProofSays t job tree → arc_fault tree n ≡ None → node_at tree n ≡ Some x →
    AllByRecursion (IsRightFrom o book) es → Stepping job modules tree n x.state es end → ProofSays t job (end_tree end)
stepping_says o t job modules book tree n x es end st said free at right (rounds.by_run name e r last asks tells leads) =
    let run = told_run o t job modules book tree n x name e r st at right.0 asks tells in
    leading_says t (dependencies_of job) (circularities_of job) job.claim.claim run.0.rules (step_request job modules name x.state tells.number) tree n x e r last said free at refl run.0.may run.0.listed run.1 (told_nexts e.reply r tells.told) leads
stepping_says o t job modules book tree n x es end st said free at right (rounds.by_front name e u last asks tells leads) =
    front_says o t job modules book tree n x name e u last st said free at right.0 asks tells leads
stepping_says o t job modules book tree n x es end st said free at right (rounds.refused name fs code asks refuses) = said

-- the arc that a round makes says what it says
pub round_says : (o : Opening) (t : Theory) (job : ProofJob) (modules : AddedModules) (book : List Registration) (tree : List ProofNode) (n : ℕ) (x : ProofNode) (es : List Exchange) (end : RoundEnd) → Stands o t job modules book → ProofSays t job tree → arc_fault tree n ≡ None → node_at tree n ≡ Some x →
    AllByRecursion (IsRightFrom o book) es → Round job modules tree n x es end → ProofSays t job (end_tree end)
round_says o t job modules book tree n x es end st said free at right (rounds.covered e p q tells is) =
    cover_says t (dependencies_of job) (circularities_of job) job.claim.claim tree n x said free at (covered t job.claim x.state st.claim.one_sort (told_implied o t job book x.state e p q st.main right.0 tells).0)
round_says o t job modules book tree n x es end st said free at right (rounds.Round.vacuous e p q tells is) =
    vacuous_says t (dependencies_of job) (circularities_of job) job.claim.claim tree n x said free at (none_there t job x.state p q st.claim is (told_implied o t job book x.state e p q st.main right.0 tells).1)
round_says o t job modules book tree n x es end st said free at right (rounds.undecided e tells) = hold_says t (dependencies_of job) (circularities_of job) job.claim.claim tree n (graph.reply e.reply) said free
round_says o t job modules book tree n x es end st said free at right (rounds.Round.refused fs code refuses other) = said
round_says o t job modules book tree n x es end st said free at right (rounds.terminal e tells flagged) = terminal_says t (dependencies_of job) (circularities_of job) job.claim.claim tree n x said free at
round_says o t job modules book tree n x es end st said free at right (rounds.steps e fs last tells plain stepping) =
    stepping_says o t job modules book tree n x fs last st said free at right.1 stepping

-- ---- all rounds

rounds_say : (o : Opening) (t : Theory) (job : ProofJob) (modules : AddedModules) (book : List Registration) (first : List ProofNode) (k : ℕ) (tree : List ProofNode) (es : List Exchange) → Stands o t job modules book → ProofSays t job first → AllByRecursion (IsRightFrom o book) es →
    Rounds job modules first k tree es → ProofSays t job tree
rounds_say o t job modules book first k tree es st said right none_yet = said
rounds_say o t job modules book first k tree es st said right (one_more j before later fs more n x earlier least at round) =
    round_says o t job modules book before n x more (goes_on later) st (rounds_say o t job modules book first j before fs st said (all_left (IsRightFrom o book) fs more right) earlier) (least_is_open before n least) at (all_right (IsRightFrom o book) fs more right) round

pub play_says : (o : Opening) (t : Theory) (job : ProofJob) (modules : AddedModules) (book : List Registration) (first tree : List ProofNode) (es : List Exchange) (outcome : ProofOutcome) → Stands o t job modules book → ProofSays t job first → AllByRecursion (IsRightFrom o book) es →
    PlaysOut job modules first es tree outcome → ProofSays t job tree
play_says o t job modules book first tree es outcome st said right (in_round k before last fs more n x end rs less least at round) =
    round_says o t job modules book before n x more (rounds.ends last end) st (rounds_say o t job modules book first k before fs st said (all_left (IsRightFrom o book) fs more right) rs) (least_is_open before n least) at (all_right (IsRightFrom o book) fs more right) round
play_says o t job modules book first tree es outcome st said right (after_rounds before fs n rs least) =
    hold_says t (dependencies_of job) (circularities_of job) job.claim.claim before n graph.rounds (rounds_say o t job modules book first most_rounds before fs st said right rs) (least_is_open before n least)
play_says o t job modules book first tree es outcome st said right (all_shown k before fs rs less none is) = rounds_say o t job modules book first k before fs st said right rs
play_says o t job modules book first tree es outcome st said right (some_held k before fs n why rs less none held) = rounds_say o t job modules book first k before fs st said right rs
