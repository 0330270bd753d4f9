-- From what was told to the rounds of a proof.
use Rattle.std.proofs.Common.{◌≡◌, refl, sym, ◌∙◌, ap, subst, ℕ, suc, ◌+◌, ◌<◌, ◌≤◌, inl, inr, Option, Some, None, false, List, [], ◌∷◌, ◌++◌, length, arith}
use Rattle.kp_kore.specs.Syntax.{KorePattern}
use Rattle.kp_kore.specs.View.{view}
use Rattle.kp_kore.specs.declared.pattern.Pattern.{Pattern}
use Rattle.kp_kore.specs.Claims.{ReachabilityClaim}
use Rattle.kp_graph.specs.Tree as graph
use Rattle.kp_graph.specs.Tree.{ProofNode, HeldBy, most_nodes, node_at, first_nodes, with_arc, with_hold, with_edge}
use Rattle.kp_graph.proofs.Opened.{split}
use Rattle.kp_graph.specs.TreeView.{tree_view}
use Rattle.kp_graph.specs.declared.tree.Tree.{Tree}
use Rattle.kp_graph.specs.declared.node.NodeId.{NodeId}
use Rattle.kp_client.specs.Links.{Exchange, LinkState, Makes}
use Rattle.kp_client.specs.Rounds as rounds
use Rattle.kp_client.specs.Rounds.{ProofOutcome, passed, failed_at, pending_at, refused_with, RoundEnd, goes_on, ends, Stepping, Round, Rounds, none_yet, one_more, Proves, in_round, after_rounds, all_covered, some_held, least_open, most_rounds, step_question, Tells}
use Rattle.kp_client.specs.Answers.{IsCoverAnswer, IsStepAnswer, PlaysSteps, PlaysRound, Played, IsProved, IsEnding, none_held, first_held}
use Rattle.kp_client.specs.declared.cover.CoverAnswer.TheVariants as cover
use Rattle.kp_client.specs.declared.steps.StepAnswer.TheVariants as steps
use Rattle.kp_client.specs.View.{outcome_view}
use Rattle.kp_client.specs.declared.outcome.ProofEnd.{ProofEnd}
use Rattle.kp_client.proofs.Made.{makes_none, makes_more}
use Rattle.std.proofs.Common.{Vec, Global, ℤ, option_map, Result, Ok, Err, IfOk}

-- ---- the next steps

pub steps_edge : (depth : ℕ) (tree : List ProofNode) (n : ℕ) (s : KorePattern) (es : List Exchange) (d : ℕ) (next : Pattern) (end : RoundEnd) → IsStepAnswer depth s es (steps.Stepped d next) →
    (length tree < most_nodes → end ≡ goes_on (with_edge n d (view next) false tree)) →
    (most_nodes ≤ length tree → end ≡ ends (with_hold n graph.nodes tree) (pending_at n graph.nodes)) → Stepping depth tree n s es end
steps_edge depth tree n s es d next end a few many = elim (split most_nodes (length tree)) [
  | inl l ↦ (let is : end ≡ ends (with_hold n graph.nodes tree) (pending_at n graph.nodes) = many l in
      subst (λ fs. Stepping depth tree n s fs end) (sym a.only) (subst (Stepping depth tree n s (a.exchange ∷ [])) (sym is)
      (rounds.too_many a.exchange a.run a.tells a.followed (subst (λ k. 1 ≤ k) (sym a.fact.0) a.fact.1) l)))
  | inr l ↦ (let is : end ≡ goes_on (with_edge n d (view next) false tree) = few l in
      subst (λ fs. Stepping depth tree n s fs end) (sym a.only) (subst (Stepping depth tree n s (a.exchange ∷ [])) (sym is)
      (subst (λ k. Stepping depth tree n s (a.exchange ∷ []) (goes_on (with_edge n k (view next) false tree))) a.fact.0
      (rounds.edge a.exchange a.run (view next) a.tells a.followed (subst (λ k. 1 ≤ k) (sym a.fact.0) a.fact.1) a.fact.2 l))))
]

pub steps_stuck : (depth : ℕ) (tree : List ProofNode) (n : ℕ) (s : KorePattern) (es : List Exchange) (end : RoundEnd) → IsStepAnswer depth s es steps.Stuck → end ≡ ends (with_arc n graph.stuck tree) (failed_at n) → Stepping depth tree n s es end
steps_stuck depth tree n s es end a is = subst (λ fs. Stepping depth tree n s fs end) (sym a.only) (subst (Stepping depth tree n s (a.exchange ∷ [])) (sym is) (rounds.stuck a.exchange a.run a.tells a.fact.0 a.fact.1))

pub steps_held : (depth : ℕ) (tree : List ProofNode) (n : ℕ) (s : KorePattern) (es : List Exchange) (line : Vec ℕ Global) (end : RoundEnd) → IsStepAnswer depth s es (steps.Held line) → end ≡ goes_on (with_hold n (graph.reply line.items) tree) → Stepping depth tree n s es end
steps_held depth tree n s es line end a is =
    let same : end ≡ goes_on (with_hold n (graph.reply a.exchange.reply) tree) = is ∙ ap (λ b. goes_on (with_hold n (graph.reply b) tree)) (sym a.fact.2) in
    subst (λ fs. Stepping depth tree n s fs end) (sym a.only) (subst (Stepping depth tree n s (a.exchange ∷ [])) (sym same) (rounds.held a.exchange a.run a.tells a.followed a.fact.0 a.fact.1))

pub steps_refused : (depth : ℕ) (tree : List ProofNode) (n : ℕ) (s : KorePattern) (es : List Exchange) (code : ℤ) → IsStepAnswer depth s es (steps.Refused code) → Stepping depth tree n s es (ends tree (refused_with code))
steps_refused depth tree n s es code a = rounds.refused es code a

-- ---- the cover

pub round_covered : (claim : ReachabilityClaim) (depth : ℕ) (tree : List ProofNode) (n : ℕ) (s : KorePattern) (es : List Exchange) (end : RoundEnd) → IsCoverAnswer claim s es cover.Covered → end ≡ goes_on (with_arc n graph.cover tree) → Round claim depth tree n s es end
round_covered claim depth tree n s es end a is = subst (λ fs. Round claim depth tree n s fs end) (sym a.3) (subst (Round claim depth tree n s (a.0 ∷ [])) (sym is) (rounds.covered a.0 a.1 a.2 a.4))

pub round_undecided : (claim : ReachabilityClaim) (depth : ℕ) (tree : List ProofNode) (n : ℕ) (s : KorePattern) (es : List Exchange) (line : Vec ℕ Global) (end : RoundEnd) → IsCoverAnswer claim s es (cover.Undecided line) → end ≡ goes_on (with_hold n (graph.reply line.items) tree) → Round claim depth tree n s es end
round_undecided claim depth tree n s es line end a is =
    let same : end ≡ goes_on (with_hold n (graph.reply a.0.reply) tree) = is ∙ ap (λ b. goes_on (with_hold n (graph.reply b) tree)) (sym a.2) in
    subst (λ fs. Round claim depth tree n s fs end) (sym a.1) (subst (Round claim depth tree n s (a.0 ∷ [])) (sym same) (rounds.undecided a.0 a.3))

pub round_refused : (claim : ReachabilityClaim) (depth : ℕ) (tree : List ProofNode) (n : ℕ) (s : KorePattern) (es : List Exchange) (code : ℤ) → IsCoverAnswer claim s es (cover.Refused code) → Round claim depth tree n s es (ends tree (refused_with code))
round_refused claim depth tree n s es code a = rounds.refused es code a.0 a.1

pub round_steps : (claim : ReachabilityClaim) (depth : ℕ) (tree : List ProofNode) (n : ℕ) (s : KorePattern) (es fs : List Exchange) (end : RoundEnd) → IsCoverAnswer claim s es cover.Uncovered → Stepping depth tree n s fs end → Round claim depth tree n s (es ++ fs) end
round_steps claim depth tree n s es fs end a more = subst (λ gs. Round claim depth tree n s (gs ++ fs) end) (sym a.1) (rounds.steps a.0 fs end a.2 more)

-- two halves of a round, of the same node
pub plays_on : (a b c : LinkState) (claim : ReachabilityClaim) (depth : ℕ) (tree : List ProofNode) (n : ℕ) (x : ProofNode) (es : List Exchange) (end : RoundEnd) → node_at tree n ≡ Some x → Makes a b es → IsCoverAnswer claim x.state es cover.Uncovered → PlaysSteps b c depth tree n end → PlaysRound a c claim depth tree n end
plays_on a b c claim depth tree n x es end at makes answer more =
    let both : Some more.node ≡ Some x = sym more.at ∙ at in
    let same : more.node ≡ x = cc in
    record {
      node = x;
      at = at;
      exchanges = es ++ more.exchanges;
      makes = makes_more a b c es more.exchanges makes more.makes;
      round = round_steps claim depth tree n x.state es more.exchanges end answer (subst (λ y. Stepping depth tree n y.state more.exchanges end) same more.stepping);
    }

-- ---- rounds one after another

pub played_none : (a : LinkState) (claim : ReachabilityClaim) (depth : ℕ) (tree : List ProofNode) → tree ≡ first_nodes claim.left → Played a a claim depth 0 tree
played_none a claim depth tree is = record { exchanges = []; makes = makes_none a; rounds = subst (λ t. Rounds claim depth 0 t []) (sym is) none_yet }

pub played_more : (a b c : LinkState) (claim : ReachabilityClaim) (depth k : ℕ) (tree later : List ProofNode) (n : ℕ) → Played a b claim depth k tree → least_open tree ≡ Some n → PlaysRound b c claim depth tree n (goes_on later) → Played a c claim depth (k + 1) later
played_more a b c claim depth k tree later n p least round =
    let next : suc k ≡ k + 1 = omega arith in
    record {
      exchanges = p.exchanges ++ round.exchanges;
      makes = makes_more a b c p.exchanges round.exchanges p.makes round.makes;
      rounds = subst (λ j. Rounds claim depth j later (p.exchanges ++ round.exchanges)) next (one_more k tree later p.exchanges round.exchanges n round.node p.rounds least round.at round.round);
    }

pub proved_in_round : (a b c : LinkState) (claim : ReachabilityClaim) (depth k : ℕ) (tree last : List ProofNode) (n : ℕ) (o : ProofOutcome) → Played a b claim depth k tree → k < most_rounds → least_open tree ≡ Some n → PlaysRound b c claim depth tree n (ends last o) → IsProved a c claim depth last o
proved_in_round a b c claim depth k tree last n o p l least round = record {
  exchanges = p.exchanges ++ round.exchanges;
  makes = makes_more a b c p.exchanges round.exchanges p.makes round.makes;
  proves = in_round k tree last p.exchanges round.exchanges n round.node o p.rounds l least round.at round.round;
}

proves_ending : (claim : ReachabilityClaim) (depth k : ℕ) (tree : List ProofNode) (es : List Exchange) (o : ProofOutcome) → Rounds claim depth k tree es → k ≤ most_rounds → least_open tree ≡ None → IsEnding tree o → Proves claim depth es tree o
proves_ending claim depth k tree es o rs l least (none_held none) = all_covered k tree es rs l least none
proves_ending claim depth k tree es o rs l least (first_held n why first) = some_held k tree es n why rs l least first

pub proved_settled : (a b : LinkState) (claim : ReachabilityClaim) (depth k : ℕ) (tree last : List ProofNode) (o : ProofOutcome) → Played a b claim depth k tree → k ≤ most_rounds → least_open tree ≡ None → last ≡ tree → IsEnding tree o → IsProved a b claim depth last o
proved_settled a b claim depth k tree last o p l least same ending = record {
  exchanges = p.exchanges;
  makes = p.makes;
  proves = subst (λ t. Proves claim depth p.exchanges t o) (sym same) (proves_ending claim depth k tree p.exchanges o p.rounds l least ending);
}

-- after the last round that may be
pub proved_after : (a b : LinkState) (claim : ReachabilityClaim) (depth : ℕ) (tree last : List ProofNode) (o : ProofOutcome) → Played a b claim depth most_rounds tree →
    ((n : ℕ) → least_open tree ≡ Some n → (last ≡ with_hold n graph.rounds tree) × (o ≡ pending_at n graph.rounds)) →
    (least_open tree ≡ None → (last ≡ tree) × IsEnding tree o) → IsProved a b claim depth last o
proved_after a b claim depth tree last o p left settled = by_node (least_open tree) refl
  where
    by_node : (m : Option ℕ) → least_open tree ≡ m → IsProved a b claim depth last o
    by_node None e = let h = settled e in proved_settled a b claim depth most_rounds tree last o p (omega arith) e h.0 h.1
    by_node (Some n) e =
        let h = left n e in
        record { exchanges = p.exchanges; makes = p.makes; proves = subst (λ t. Proves claim depth p.exchanges t o) (sym h.0) (subst (Proves claim depth p.exchanges (with_hold n graph.rounds tree)) (sym h.1) (after_rounds tree p.exchanges n p.rounds e)) }

-- ---- at a node that the tree gives

pub record IsStateAt (tree : List ProofNode) (n : ℕ) (s : KorePattern) : Type 0 where
  pub node : ProofNode
  pub at : node_at tree n ≡ Some node
  pub same : node.state ≡ s

pub state_at : (tree : List ProofNode) (n : ℕ) (s : KorePattern) → option_map (λ x. x.state) (node_at tree n) ≡ Some s → IsStateAt tree n s
state_at tree n s e = by_node (node_at tree n) refl e
  where
    by_node : (o : Option ProofNode) → node_at tree n ≡ o → option_map (λ x. x.state) o ≡ Some s → IsStateAt tree n s
    by_node None at h = absurd (cc)
    by_node (Some x) at h = let same : x.state ≡ s = cc in record { node = x; at = at; same = same }

pub plays_steps : (a b : LinkState) (depth : ℕ) (tree : List ProofNode) (n : ℕ) (s : KorePattern) (es : List Exchange) (end : RoundEnd) → option_map (λ x. x.state) (node_at tree n) ≡ Some s → Makes a b es → Stepping depth tree n s es end → PlaysSteps a b depth tree n end
plays_steps a b depth tree n s es end e makes stepping =
    let x : IsStateAt tree n s = state_at tree n s e in
    record { node = x.node; at = x.at; exchanges = es; makes = makes; stepping = subst (λ p. Stepping depth tree n p es end) (sym x.same) stepping }

pub plays_round : (a b : LinkState) (claim : ReachabilityClaim) (depth : ℕ) (tree : List ProofNode) (n : ℕ) (s : KorePattern) (es : List Exchange) (end : RoundEnd) → option_map (λ x. x.state) (node_at tree n) ≡ Some s → Makes a b es → Round claim depth tree n s es end → PlaysRound a b claim depth tree n end
plays_round a b claim depth tree n s es end e makes round =
    let x : IsStateAt tree n s = state_at tree n s e in
    record { node = x.node; at = x.at; exchanges = es; makes = makes; round = subst (λ p. Round claim depth tree n p es end) (sym x.same) round }

pub plays_both : (a b c : LinkState) (claim : ReachabilityClaim) (depth : ℕ) (tree : List ProofNode) (n : ℕ) (s : KorePattern) (es : List Exchange) (end : RoundEnd) → option_map (λ x. x.state) (node_at tree n) ≡ Some s → Makes a b es → IsCoverAnswer claim s es cover.Uncovered → PlaysSteps b c depth tree n end → PlaysRound a c claim depth tree n end
plays_both a b c claim depth tree n s es end e makes answer more =
    let x : IsStateAt tree n s = state_at tree n s e in
    plays_on a b c claim depth tree n x.node es end x.at makes (subst (λ p. IsCoverAnswer claim p es cover.Uncovered) (sym x.same) answer) more

-- ---- results

pub if_ok_both : {X E A B : Type 0} (r : Result X E) (P Q R : X → Type 0) → (A → IfOk r P) → (B → IfOk r Q) → ((x : X) → (A → P x) → (B → Q x) → R x) → IfOk r R
if_ok_both (Ok x) P Q R f g h = h x f g
if_ok_both (Err e) P Q R f g h = tt

-- the end of a proof without an open node
pub settled_end : {E : Type 0} (a b : LinkState) (claim : ReachabilityClaim) (depth k : ℕ) (tree : List ProofNode) (r : Result (ProofEnd × Tree) E) → Played a b claim depth k tree → k ≤ most_rounds → least_open tree ≡ None → IfOk r (λ x. IsEnding tree (outcome_view x.0)) → IfOk r (λ x. tree_view x.1 ≡ tree) → IfOk r (λ x. IsProved a b claim depth (tree_view x.1) (outcome_view x.0))
settled_end a b claim depth k tree (Ok x) p l least ending kept = proved_settled a b claim depth k tree (tree_view x.1) (outcome_view x.0) p l least kept ending
settled_end a b claim depth k tree (Err e) p l least ending kept = tt

-- the end of a proof after the last round that may be
pub after_end : {E : Type 0} (a b : LinkState) (claim : ReachabilityClaim) (depth k : ℕ) (tree : List ProofNode) (r : Result (ProofEnd × Tree) E) → Played a b claim depth k tree → k ≡ most_rounds →
    ((n : ℕ) → least_open tree ≡ Some n → IfOk r (λ x. (tree_view x.1 ≡ with_hold n graph.rounds tree) × (outcome_view x.0 ≡ pending_at n graph.rounds))) →
    (least_open tree ≡ None → IfOk r (λ x. (tree_view x.1 ≡ tree) × IsEnding tree (outcome_view x.0))) → IfOk r (λ x. IsProved a b claim depth (tree_view x.1) (outcome_view x.0))
after_end a b claim depth k tree (Ok x) p last left settled = proved_after a b claim depth tree (tree_view x.1) (outcome_view x.0) (subst (λ j. Played a b claim depth j tree) last p) left settled
after_end a b claim depth k tree (Err e) p last left settled = tt

-- ---- the open node that the tree tells

pub none_told : (tree : List ProofNode) (o : Option NodeId) → option_map (λ n. n.number) o ≡ least_open tree → o ≡ None → least_open tree ≡ None
none_told tree None told is = sym told
none_told tree (Some n) told is = absurd (cc)

pub open_told : (tree : List ProofNode) (o : Option NodeId) (n : NodeId) → option_map (λ n. n.number) o ≡ least_open tree → o ≡ Some n → least_open tree ≡ Some n.number
open_told tree None n told is = absurd (cc)
open_told tree (Some m) n told is =
    let same : m ≡ n = cc in
    sym told ∙ ap (λ (k : NodeId). Some k.number) same
