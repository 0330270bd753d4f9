-- What the rounds say of the claim, where each exchange is right.
use Rattle.std.proofs.Common.{◌≡◌, refl, sym, ◌∙◌, ap, subst, ℕ, ◌^◌, ◌<◌, false, Some, None, List, []}
use Rattle.std.specs.List.{AllByRecursion}
use Rattle.kp_kore.specs.Parts.{free_variables}
use Rattle.kp_kore.specs.Claims.{ReachabilityClaim, Holds}
use Rattle.kp_kore.specs.Arcs.{StuckSays}
use Rattle.kp_kore.specs.Implied.{HasCounterexample}
use Rattle.kp_graph.specs.Tree as graph
use Rattle.kp_graph.specs.Tree.{ProofNode, node_at, arc_fault, with_arc}
use Rattle.kp_graph.specs.Says.{TreeSays}
use Rattle.kp_graph.proofs.Places.{at_place}
use Rattle.kp_graph.proofs.Opened.{Opened, opened, changes, get_placed}
use Rattle.kp_graph.proofs.SaidLemmas.{new_says, cover_says, stuck_says, hold_says, plain_edge_says}
use Rattle.kp_graph.proofs.SaysLemmas.{passed_holds_closed}
use Rattle.kp_client.specs.Links.{Exchange, ToldTheory, LinkState, IsRightExchange, Serves}
use Rattle.kp_client.specs.Rounds.{ProofOutcome, passed, failed_at, RoundEnd, goes_on, ends, Stepping, Round, Rounds, none_yet, one_more, Proves, in_round, after_rounds, all_covered, some_held, most_rounds}
use Rattle.kp_client.specs.Rounds as rounds
use Rattle.kp_client.specs.Sound.{IsGround, IsStuckAt}
use Rattle.kp_client.specs.Answers.{IsProved}
use Rattle.kp_client.proofs.Made.{all_front, all_back, all_into}
use Rattle.kp_client.proofs.Nodes.{open_at}
use Rattle.kp_client.proofs.Trees.{IsFrom, end_tree, from_proves, passed_proves}
use Rattle.kp_client.proofs.RightExchanges.{cover_is_right, uncovered_is_right, edge_is_right, stuck_is_right}

-- ---- a round keeps what the arcs say

says_stepping : (t : ToldTheory) (claim : ReachabilityClaim) (depth : ℕ) (tree : List ProofNode) (n : ℕ) (x : ProofNode) (es : List Exchange) (end : RoundEnd) → depth < 2 ^ 64 → TreeSays t.theory [] [] claim tree → arc_fault tree n ≡ None → node_at tree n ≡ Some x → AllByRecursion (IsRightExchange t) es → Stepping depth tree n x.state es end → TreeSays t.theory [] [] claim (end_tree end)
says_stepping t claim depth tree n x es end fits said free at right (rounds.edge e r beyond tells f d p l) = plain_edge_says t.theory [] [] claim tree n r.depth x [] beyond false said free at (edge_is_right t depth x.state beyond e r fits right.0 tells f d p)
says_stepping t claim depth tree n x es end fits said free at right (rounds.too_many e r tells f d l) = hold_says t.theory [] [] claim tree n graph.nodes said free
says_stepping t claim depth tree n x es end fits said free at right (rounds.stuck e r tells d w) = stuck_says t.theory [] [] claim tree n x said free at (stuck_is_right t depth x.state e r fits right.0 tells d w)
says_stepping t claim depth tree n x es end fits said free at right (rounds.held e r tells f d w) = hold_says t.theory [] [] claim tree n (graph.reply e.reply) said free
says_stepping t claim depth tree n x es end fits said free at right (rounds.refused fs code r) = said

says_round : (t : ToldTheory) (claim : ReachabilityClaim) (depth : ℕ) (tree : List ProofNode) (n : ℕ) (x : ProofNode) (es : List Exchange) (end : RoundEnd) → depth < 2 ^ 64 → free_variables claim.right ≡ [] → TreeSays t.theory [] [] claim tree → arc_fault tree n ≡ None → node_at tree n ≡ Some x → AllByRecursion (IsRightExchange t) es → Round claim depth tree n x.state es end → TreeSays t.theory [] [] claim (end_tree end)
says_round t claim depth tree n x es end fits closed said free at right (rounds.covered e p q tells) = cover_says t.theory [] [] claim tree n x said free at (cover_is_right t claim x.state e p q closed right.0 tells)
says_round t claim depth tree n x es end fits closed said free at right (rounds.undecided e tells) = hold_says t.theory [] [] claim tree n (graph.reply e.reply) said free
says_round t claim depth tree n x es end fits closed said free at right (rounds.refused fs code r other) = said
says_round t claim depth tree n x es end fits closed said free at right (rounds.steps e fs last tells more) = says_stepping t claim depth tree n x fs last fits said free at right.1 more

-- ---- all rounds

says_rounds : (t : ToldTheory) (claim : ReachabilityClaim) (depth k : ℕ) (tree : List ProofNode) (es : List Exchange) → depth < 2 ^ 64 → free_variables claim.right ≡ [] → AllByRecursion (IsRightExchange t) es → Rounds claim depth k tree es → TreeSays t.theory [] [] claim tree
says_rounds t claim depth k tree es fits closed right none_yet = new_says t.theory [] [] claim
says_rounds t claim depth k tree es fits closed right (one_more j before later fs more n x earlier least at round) =
    says_round t claim depth before n x more (goes_on later) fits closed (says_rounds t claim depth j before fs fits closed (all_front (IsRightExchange t) fs more right) earlier) (open_at before n least).free at (all_back (IsRightExchange t) fs more right) round

says_proves : (t : ToldTheory) (claim : ReachabilityClaim) (depth : ℕ) (es : List Exchange) (tree : List ProofNode) (outcome : ProofOutcome) → depth < 2 ^ 64 → free_variables claim.right ≡ [] → AllByRecursion (IsRightExchange t) es → Proves claim depth es tree outcome → TreeSays t.theory [] [] claim tree
says_proves t claim depth es tree outcome fits closed right (in_round k before last fs more n x o rs l least at round) =
    says_round t claim depth before n x more (ends last o) fits closed (says_rounds t claim depth k before fs fits closed (all_front (IsRightExchange t) fs more right) rs) (open_at before n least).free at (all_back (IsRightExchange t) fs more right) round
says_proves t claim depth es tree outcome fits closed right (after_rounds before fs n rs least) = hold_says t.theory [] [] claim before n graph.rounds (says_rounds t claim depth most_rounds before fs fits closed right rs) (open_at before n least).free
says_proves t claim depth es tree outcome fits closed right (all_covered k before fs rs l least none) = says_rounds t claim depth k before fs fits closed right rs
says_proves t claim depth es tree outcome fits closed right (some_held k before fs n why rs l least first) = says_rounds t claim depth k before fs fits closed right rs

-- ---- a proof that fails

stuck_at : (t : ToldTheory) (claim : ReachabilityClaim) (tree : List ProofNode) (n : ℕ) (x : ProofNode) → arc_fault tree n ≡ None → node_at tree n ≡ Some x → StuckSays t.theory x.state → HasCounterexample t.theory.signature x.state claim.right → IsStuckAt t.theory claim (with_arc n graph.stuck tree) n
stuck_at t claim tree n x free at final uncovered =
    let o : Opened tree n = opened tree n free in
    let both : Some x ≡ Some o.node = sym at ∙ at_place tree n o.place o.number ∙ o.at in
    let equal : x ≡ o.node = cc in
    let same : x.state ≡ o.node.state = ap (λ (y : ProofNode). y.state) equal in
    let there : node_at (with_arc n graph.stuck tree) n ≡ Some (record o.node { arc = Some graph.stuck }) =
    rw (changes (λ y. record y { arc = Some graph.stuck }) tree n o)
    (at_place _ n o.place o.number ∙ get_placed tree o.place o.node (record o.node { arc = Some graph.stuck }) o.at) in
    record {
      node = record o.node { arc = Some graph.stuck };
      at = there;
      arc = refl;
      final = subst (StuckSays t.theory) same final;
      uncovered = subst (λ s. HasCounterexample t.theory.signature s claim.right) same uncovered;
    }

-- what the end of a round says where the proof fails
abbrev FailsAt : ToldTheory → ReachabilityClaim → RoundEnd → ℕ → Type 0
FailsAt t claim (goes_on tree) m = Unit {0}
FailsAt t claim (ends tree outcome) m = outcome ≡ failed_at m → IsStuckAt t.theory claim tree m

fails_stepping : (t : ToldTheory) (claim : ReachabilityClaim) (depth : ℕ) (tree : List ProofNode) (n : ℕ) (x : ProofNode) (es : List Exchange) (end : RoundEnd) (m : ℕ) → depth < 2 ^ 64 → arc_fault tree n ≡ None → node_at tree n ≡ Some x → AllByRecursion (IsRightExchange t) es → HasCounterexample t.theory.signature x.state claim.right → Stepping depth tree n x.state es end → FailsAt t claim end m
fails_stepping t claim depth tree n x es end m fits free at right un (rounds.edge e r beyond tells f d p l) = tt
fails_stepping t claim depth tree n x es end m fits free at right un (rounds.too_many e r tells f d l) = λ o. absurd (cc)
fails_stepping t claim depth tree n x es end m fits free at right un (rounds.stuck e r tells d w) = λ o.
    let same : n ≡ m = cc in
    subst (IsStuckAt t.theory claim (with_arc n graph.stuck tree)) same (stuck_at t claim tree n x free at (stuck_is_right t depth x.state e r fits right.0 tells d w) un)
fails_stepping t claim depth tree n x es end m fits free at right un (rounds.held e r tells f d w) = tt
fails_stepping t claim depth tree n x es end m fits free at right un (rounds.refused fs code r) = λ o. absurd (cc)

fails_round : (t : ToldTheory) (claim : ReachabilityClaim) (depth : ℕ) (tree : List ProofNode) (n : ℕ) (x : ProofNode) (es : List Exchange) (end : RoundEnd) (m : ℕ) → depth < 2 ^ 64 → arc_fault tree n ≡ None → node_at tree n ≡ Some x → AllByRecursion (IsRightExchange t) es → Round claim depth tree n x.state es end → FailsAt t claim end m
fails_round t claim depth tree n x es end m fits free at right (rounds.covered e p q tells) = tt
fails_round t claim depth tree n x es end m fits free at right (rounds.undecided e tells) = tt
fails_round t claim depth tree n x es end m fits free at right (rounds.refused fs code r other) = λ o. absurd (cc)
fails_round t claim depth tree n x es end m fits free at right (rounds.steps e fs last tells more) = fails_stepping t claim depth tree n x fs last m fits free at right.1 (uncovered_is_right t claim x.state e right.0 tells) more

fails_proves : (t : ToldTheory) (claim : ReachabilityClaim) (depth : ℕ) (es : List Exchange) (tree : List ProofNode) (outcome : ProofOutcome) (m : ℕ) → depth < 2 ^ 64 → AllByRecursion (IsRightExchange t) es → Proves claim depth es tree outcome → outcome ≡ failed_at m → IsStuckAt t.theory claim tree m
fails_proves t claim depth es tree outcome m fits right (in_round k before last fs more n x o rs l least at round) e =
    fails_round t claim depth before n x more (ends last o) m fits (open_at before n least).free at (all_back (IsRightExchange t) fs more right) round e
fails_proves t claim depth es tree outcome m fits right (after_rounds before fs n rs least) e = absurd (cc)
fails_proves t claim depth es tree outcome m fits right (all_covered k before fs rs l least none) e = absurd (cc)
fails_proves t claim depth es tree outcome m fits right (some_held k before fs n why rs l least first) e = absurd (cc)

-- ---- over a link that serves a theory

pub proof_says : (before after : LinkState) (t : ToldTheory) (claim : ReachabilityClaim) (depth : ℕ) (tree : List ProofNode) (outcome : ProofOutcome) → depth < 2 ^ 64 → IsProved before after claim depth tree outcome → Serves before t → free_variables claim.right ≡ [] → TreeSays t.theory [] [] claim tree
proof_says before after t claim depth tree outcome fits h serves closed = says_proves t claim depth h.exchanges tree outcome fits closed (all_into before.meets (IsRightExchange t) serves h.exchanges h.makes.met) h.proves

pub proof_holds : (before after : LinkState) (t : ToldTheory) (claim : ReachabilityClaim) (depth : ℕ) (tree : List ProofNode) (outcome : ProofOutcome) → depth < 2 ^ 64 → IsProved before after claim depth tree outcome → Serves before t → IsGround claim → outcome ≡ passed → Holds t.theory claim
proof_holds before after t claim depth tree outcome fits h serves ground e =
    let from : IsFrom claim tree = from_proves claim depth h.exchanges tree outcome h.proves in
    passed_holds_closed t.theory claim tree ground.left from.shape from.first (proof_says before after t claim depth tree outcome fits h serves ground.right) (passed_proves claim depth h.exchanges tree outcome h.proves e)

pub proof_fails : (before after : LinkState) (t : ToldTheory) (claim : ReachabilityClaim) (depth : ℕ) (tree : List ProofNode) (outcome : ProofOutcome) (n : ℕ) → depth < 2 ^ 64 → IsProved before after claim depth tree outcome → Serves before t → outcome ≡ failed_at n → IsStuckAt t.theory claim tree n
proof_fails before after t claim depth tree outcome n fits h serves e = fails_proves t claim depth h.exchanges tree outcome n fits (all_into before.meets (IsRightExchange t) serves h.exchanges h.makes.met) h.proves e
