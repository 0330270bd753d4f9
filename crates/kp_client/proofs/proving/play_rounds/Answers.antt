use Rattle.std.proofs.Common.{◌≡◌, ◌≤◌, refl, subst, arith}
use Rattle.kp_kore.specs.ClaimView.{claim_view}
use Rattle.kp_graph.specs.TreeView.{tree_view}
use Rattle.kp_client.specs.Answers.{PlaysRound}
use Rattle.kp_client.specs.Rounds.{most_rounds}
use Rattle.kp_client.specs.View.{outcome_view, round_end}
use Rattle.kp_client.proofs.Playing.{played_none, played_more, proved_in_round, settled_end, after_end, none_told, open_told}
use Rattle.kp_client.proofs.proving.play_rounds.Goals as goal
use Rattle.kp_graph.specs.Tree.{first_nodes}
use Rattle.kp_client.proofs.Breaking.{always, broken_between, broken_in_round}

pub loop-round-init : goal.loop-round-init
loop-round-init g c = played_none (g.L.Link.told c.args.link.now) (claim_view c.args.claim.now) c.args.max_depth (tree_view c.in_ok-tree.tree) c.in_ok-tree.ensures

pub returns-in_default-clause-proved : goal.returns-in_default-clause-proved
returns-in_default-clause-proved g c =
    let tree = tree_view c.loop-round.tree in
    let within : c.loop-round.round ≤ most_rounds = omega (arith, c.loop-round-test.true) in
    settled_end (g.L.Link.told c.args.link.now) (g.L.Link.told c.loop-round.link) (claim_view c.args.claim.now) c.args.max_depth c.loop-round.round tree c.end_settled.result
    c.loop-round.invariant within (none_told tree c.first_open.result c.first_open.ensures.least c.in_default.is) c.end_settled.ensures.ending c.end_settled.ensures.kept

pub returns-in-Some-2-clause-proved : goal.returns-in-Some-2-clause-proved
returns-in-Some-2-clause-proved g c =
    let tree = tree_view c.loop-round.tree in
    let last = tree_view c.play_round.new.tree in
    let before = g.L.Link.told c.loop-round.link in
    let after = g.L.Link.told c.play_round.new.link in
    let n = c.in-Some.node.number in
    proved_in_round (g.L.Link.told c.args.link.now) before after (claim_view c.args.claim.now) c.args.max_depth c.loop-round.round tree last n (outcome_view c.in-Some-2.outcome)
    c.loop-round.invariant c.loop-round-test.true (open_told tree c.first_open.result c.in-Some.node c.first_open.ensures.least c.in-Some.is)
    (subst (λ o. PlaysRound before after (claim_view c.args.claim.now) c.args.max_depth tree n (round_end last o)) c.in-Some-2.is c.in_ok-outcome.ensures.plays)

pub loop-round-preserved : goal.loop-round-preserved
loop-round-preserved g c =
    let tree = tree_view c.loop-round.tree in
    let later = tree_view c.play_round.new.tree in
    let before = g.L.Link.told c.loop-round.link in
    let after = g.L.Link.told c.play_round.new.link in
    let n = c.in-Some.node.number in
    played_more (g.L.Link.told c.args.link.now) before after (claim_view c.args.claim.now) c.args.max_depth c.loop-round.round tree later n
    c.loop-round.invariant (open_told tree c.first_open.result c.in-Some.node c.first_open.ensures.least c.in-Some.is)
    (subst (λ o. PlaysRound before after (claim_view c.args.claim.now) c.args.max_depth tree n (round_end later o)) c.in-None.is c.in_ok-outcome.ensures.plays)

pub returns-clause-proved : goal.returns-clause-proved
returns-clause-proved g c =
    let last : c.loop-round.round ≡ most_rounds = omega (arith, c.loop-round-test.false, c.loop-round.auto.round-end) in
    after_end (g.L.Link.told c.args.link.now) (g.L.Link.told c.loop-round.link) (claim_view c.args.claim.now) c.args.max_depth c.loop-round.round (tree_view c.loop-round.tree) c.end_of_rounds.result
    c.loop-round.invariant last c.end_of_rounds.ensures.open c.end_of_rounds.ensures.settled

pub returns-in_err-tree-clause-broken : goal.returns-in_err-tree-clause-broken
returns-in_err-tree-clause-broken g c =
    let claim = claim_view c.args.claim.now in
    always _ (broken_between (g.L.Link.told c.args.link.now) (g.L.Link.told c.args.link.now) claim c.args.max_depth 0 (first_nodes claim.left) (omega arith) (played_none (g.L.Link.told c.args.link.now) claim c.args.max_depth (first_nodes claim.left) refl))

pub returns-in_default-clause-broken : goal.returns-in_default-clause-broken
returns-in_default-clause-broken g c =
    let within : c.loop-round.round ≤ most_rounds = omega (arith, c.loop-round-test.true) in
    always c.end_settled.result (broken_between (g.L.Link.told c.args.link.now) (g.L.Link.told c.loop-round.link) (claim_view c.args.claim.now) c.args.max_depth c.loop-round.round (tree_view c.loop-round.tree) within c.loop-round.invariant)

pub returns-in_err-outcome-clause-broken : goal.returns-in_err-outcome-clause-broken
returns-in_err-outcome-clause-broken g c =
    let tree = tree_view c.loop-round.tree in
    always _ (broken_in_round (g.L.Link.told c.args.link.now) (g.L.Link.told c.loop-round.link) (g.L.Link.told c.play_round.new.link) (claim_view c.args.claim.now) c.args.max_depth c.loop-round.round tree c.in-Some.node.number
    c.loop-round-test.true (open_told tree c.first_open.result c.in-Some.node c.first_open.ensures.least c.in-Some.is) c.loop-round.invariant c.in_err-outcome.ensures.broken)

pub returns-clause-broken : goal.returns-clause-broken
returns-clause-broken g c =
    let within : c.loop-round.round ≤ most_rounds = omega (arith, c.loop-round-test.false, c.loop-round.auto.round-end) in
    always c.end_of_rounds.result (broken_between (g.L.Link.told c.args.link.now) (g.L.Link.told c.loop-round.link) (claim_view c.args.claim.now) c.args.max_depth c.loop-round.round (tree_view c.loop-round.tree) within c.loop-round.invariant)
