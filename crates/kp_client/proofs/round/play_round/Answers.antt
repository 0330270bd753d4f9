use Rattle.std.proofs.Common.{subst, sym, ◌≡◌, rules}
use Rattle.std.proofs.lemmas.Int.{to_z-of_z}
use mir.Syntax.{w64}
use mir.Val.{SFits}
use Rattle.std.proofs.lemmas.Result.{IfOk-weaker}
use Rattle.kp_kore.specs.View.{view}
use Rattle.kp_kore.specs.ClaimView.{claim_view}
use Rattle.kp_graph.specs.TreeView.{tree_view}
use Rattle.kp_graph.specs.Tree.{reply, cover as covered, with_arc, with_hold}
use Rattle.kp_client.specs.Answers.{PlaysRound, PlaysSteps, IsCoverAnswer}
use Rattle.kp_client.specs.Rounds.{Round, goes_on, ends, refused_with}
use Rattle.kp_client.specs.View.{round_end}
use Rattle.kp_client.specs.declared.cover.CoverAnswer.TheVariants as cover
use Rattle.kp_client.proofs.Nodes.{open_at}
use Rattle.kp_client.proofs.Playing.{plays_round, plays_both, round_covered, round_undecided, round_refused}
use Rattle.kp_client.proofs.round.play_round.Goals as goal
use Rattle.kp_client.proofs.Breaking.{always, both_begun, onwards, round_begun, round_told}

pub state-requires : goal.state-requires
state-requires g c = (open_at (tree_view c.args.tree.now) c.args.node.number c.requires.least).there

pub returns-in-Covered-clause-plays : goal.returns-in-Covered-clause-plays
returns-in-Covered-clause-plays g c =
    let claim = claim_view c.args.claim.now in
    let tree = tree_view c.args.tree.now in
    let n = c.args.node.number in
    let s = view c.state.result.now in
    let heard = c.in_ok-ask_cover.ensures.answer in
    let answer : IsCoverAnswer claim s heard.0 cover.Covered = subst (IsCoverAnswer claim s heard.0) c.in-Covered.is heard.2 in
    IfOk-weaker c.cover_at.result
    (λ o. round_end (tree_view c.cover_at.new.tree) o ≡ goes_on (with_arc n covered tree))
    (λ o. PlaysRound (g.L.Link.told c.args.link.now) (g.L.Link.told c.ask_cover.new.link) claim c.args.max_depth tree n (round_end (tree_view c.cover_at.new.tree) o))
    (λ o is. plays_round (g.L.Link.told c.args.link.now) (g.L.Link.told c.ask_cover.new.link) claim c.args.max_depth tree n s heard.0 (round_end (tree_view c.cover_at.new.tree) o) c.state.ensures heard.1
    (round_covered claim c.args.max_depth tree n s heard.0 (round_end (tree_view c.cover_at.new.tree) o) answer is))
    c.cover_at.ensures.covers

pub returns-in-Uncovered-clause-plays : goal.returns-in-Uncovered-clause-plays
returns-in-Uncovered-clause-plays g c =
    let claim = claim_view c.args.claim.now in
    let tree = tree_view c.args.tree.now in
    let n = c.args.node.number in
    let s = view c.state.result.now in
    let heard = c.in_ok-ask_cover.ensures.answer in
    let answer : IsCoverAnswer claim s heard.0 cover.Uncovered = subst (IsCoverAnswer claim s heard.0) c.in-Uncovered.is heard.2 in
    IfOk-weaker c.play_steps.result
    (λ o. PlaysSteps (g.L.Link.told c.ask_cover.new.link) (g.L.Link.told c.play_steps.new.link) c.args.max_depth tree n (round_end (tree_view c.play_steps.new.tree) o))
    (λ o. PlaysRound (g.L.Link.told c.args.link.now) (g.L.Link.told c.play_steps.new.link) claim c.args.max_depth tree n (round_end (tree_view c.play_steps.new.tree) o))
    (λ o more. plays_both (g.L.Link.told c.args.link.now) (g.L.Link.told c.ask_cover.new.link) (g.L.Link.told c.play_steps.new.link) claim c.args.max_depth tree n s heard.0 (round_end (tree_view c.play_steps.new.tree) o) c.state.ensures heard.1 answer more)
    c.play_steps.ensures.plays

pub returns-in-Undecided-clause-plays : goal.returns-in-Undecided-clause-plays
returns-in-Undecided-clause-plays g c =
    let claim = claim_view c.args.claim.now in
    let tree = tree_view c.args.tree.now in
    let n = c.args.node.number in
    let s = view c.state.result.now in
    let heard = c.in_ok-ask_cover.ensures.answer in
    let answer : IsCoverAnswer claim s heard.0 (cover.Undecided c.in-Undecided.line) = subst (IsCoverAnswer claim s heard.0) c.in-Undecided.is heard.2 in
    IfOk-weaker c.hold_by.result
    (λ o. round_end (tree_view c.hold_by.new.tree) o ≡ goes_on (with_hold n (reply c.in-Undecided.line.items) tree))
    (λ o. PlaysRound (g.L.Link.told c.args.link.now) (g.L.Link.told c.ask_cover.new.link) claim c.args.max_depth tree n (round_end (tree_view c.hold_by.new.tree) o))
    (λ o is. plays_round (g.L.Link.told c.args.link.now) (g.L.Link.told c.ask_cover.new.link) claim c.args.max_depth tree n s heard.0 (round_end (tree_view c.hold_by.new.tree) o) c.state.ensures heard.1
    (round_undecided claim c.args.max_depth tree n s heard.0 c.in-Undecided.line (round_end (tree_view c.hold_by.new.tree) o) answer is))
    c.hold_by.ensures.held

pub returns-in-Refused-clause-plays : goal.returns-in-Refused-clause-plays
returns-in-Refused-clause-plays g c =
    let claim = claim_view c.args.claim.now in
    let tree = tree_view c.args.tree.now in
    let n = c.args.node.number in
    let s = view c.state.result.now in
    let heard = c.in_ok-ask_cover.ensures.answer in
    let answer : IsCoverAnswer claim s heard.0 (cover.Refused c.in-Refused.code) = subst (IsCoverAnswer claim s heard.0) c.in-Refused.is heard.2 in
    let fits : SFits w64 c.in-Refused.code = search rules in
    plays_round (g.L.Link.told c.args.link.now) (g.L.Link.told c.ask_cover.new.link) claim c.args.max_depth tree n s heard.0 _ c.state.ensures heard.1
    (subst (λ z. Round claim c.args.max_depth tree n s heard.0 (ends tree (refused_with z))) (sym (to_z-of_z w64 c.in-Refused.code fits)) (round_refused claim c.args.max_depth tree n s heard.0 c.in-Refused.code answer))

pub returns-in_err-ask_cover-clause-broken : goal.returns-in_err-ask_cover-clause-broken
returns-in_err-ask_cover-clause-broken g c = always _ (round_begun (g.L.Link.told c.args.link.now) (g.L.Link.told c.ask_cover.new.link) (claim_view c.args.claim.now) c.args.max_depth (tree_view c.args.tree.now) c.args.node.number (view c.state.result.now) c.state.ensures c.in_err-ask_cover.ensures.broken)

pub returns-in-Covered-clause-broken : goal.returns-in-Covered-clause-broken
returns-in-Covered-clause-broken g c =
    let heard = c.in_ok-ask_cover.ensures.answer in
    always c.cover_at.result (round_told (g.L.Link.told c.args.link.now) (g.L.Link.told c.ask_cover.new.link) (claim_view c.args.claim.now) c.args.max_depth (tree_view c.args.tree.now) c.args.node.number (view c.state.result.now) heard.0 _ c.state.ensures heard.1 heard.2)

pub returns-in-Undecided-clause-broken : goal.returns-in-Undecided-clause-broken
returns-in-Undecided-clause-broken g c =
    let heard = c.in_ok-ask_cover.ensures.answer in
    always c.hold_by.result (round_told (g.L.Link.told c.args.link.now) (g.L.Link.told c.ask_cover.new.link) (claim_view c.args.claim.now) c.args.max_depth (tree_view c.args.tree.now) c.args.node.number (view c.state.result.now) heard.0 _ c.state.ensures heard.1 heard.2)

pub returns-in-Uncovered-clause-broken : goal.returns-in-Uncovered-clause-broken
returns-in-Uncovered-clause-broken g c =
    let claim = claim_view c.args.claim.now in
    let tree = tree_view c.args.tree.now in
    let s = view c.state.result.now in
    let heard = c.in_ok-ask_cover.ensures.answer in
    let answer : IsCoverAnswer claim s heard.0 cover.Uncovered = subst (IsCoverAnswer claim s heard.0) c.in-Uncovered.is heard.2 in
    onwards c.play_steps.result
    (both_begun (g.L.Link.told c.args.link.now) (g.L.Link.told c.ask_cover.new.link) (g.L.Link.told c.play_steps.new.link) claim c.args.max_depth tree c.args.node.number s heard.0 c.state.ensures heard.1 answer)
    c.play_steps.ensures.broken
