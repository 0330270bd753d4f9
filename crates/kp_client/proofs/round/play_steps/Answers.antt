use Rattle.std.proofs.Common.{subst, sym, ◌≡◌, rules}
use Rattle.std.proofs.lemmas.Int.{to_z-of_z}
use mir.Syntax.{w64}
use mir.Val.{SFits}
use Rattle.std.proofs.lemmas.Result.{IfOk-weaker}
use Rattle.kp_kore.specs.View.{view}
use Rattle.kp_graph.specs.TreeView.{tree_view}
use Rattle.kp_graph.specs.Tree.{reply, stuck, nodes, with_arc, with_edge, with_hold}
use Rattle.kp_client.specs.Answers.{PlaysSteps, IsStepAnswer}
use Rattle.kp_client.specs.Rounds.{Stepping, goes_on, ends, failed_at, pending_at, refused_with}
use Rattle.kp_client.specs.View.{round_end}
use Rattle.std.specs.Prelude.{false}
use Rattle.kp_client.specs.declared.steps.StepAnswer.TheVariants as steps
use Rattle.kp_client.proofs.Nodes.{open_at}
use Rattle.kp_client.proofs.Playing.{if_ok_both, plays_steps, steps_edge, steps_stuck, steps_held, steps_refused}
use Rattle.kp_client.proofs.round.play_steps.Goals as goal
use Rattle.kp_client.proofs.Breaking.{always, steps_begun, steps_told}

pub state-requires : goal.state-requires
state-requires g c = (open_at (tree_view c.args.tree.now) c.args.node.number c.requires.least).there

pub returns-in-Stepped-clause-plays : goal.returns-in-Stepped-clause-plays
returns-in-Stepped-clause-plays g c =
    let tree = tree_view c.args.tree.now in
    let n = c.args.node.number in
    let s = view c.state.result.now in
    let heard = c.in_ok-depth.ensures.answer in
    let answer : IsStepAnswer c.args.max_depth s heard.0 (steps.Stepped c.in-Stepped.depth c.in-Stepped.state) = subst (IsStepAnswer c.args.max_depth s heard.0) c.in-Stepped.is heard.2 in
    if_ok_both c.grow.result
    (λ o. round_end (tree_view c.grow.new.tree) o ≡ goes_on (with_edge n c.in-Stepped.depth (view c.in-Stepped.state) false tree))
    (λ o. round_end (tree_view c.grow.new.tree) o ≡ ends (with_hold n nodes tree) (pending_at n nodes))
    (λ o. PlaysSteps (g.L.Link.told c.args.link.now) (g.L.Link.told c.ask_steps.new.link) c.args.max_depth tree n (round_end (tree_view c.grow.new.tree) o))
    c.grow.ensures.grown c.grow.ensures.too_many
    (λ o few many. plays_steps (g.L.Link.told c.args.link.now) (g.L.Link.told c.ask_steps.new.link) c.args.max_depth tree n s heard.0 (round_end (tree_view c.grow.new.tree) o) c.state.ensures heard.1
    (steps_edge c.args.max_depth tree n s heard.0 c.in-Stepped.depth c.in-Stepped.state (round_end (tree_view c.grow.new.tree) o) answer few many))

pub returns-in-Stuck-clause-plays : goal.returns-in-Stuck-clause-plays
returns-in-Stuck-clause-plays g c =
    let tree = tree_view c.args.tree.now in
    let n = c.args.node.number in
    let s = view c.state.result.now in
    let heard = c.in_ok-depth.ensures.answer in
    let answer : IsStepAnswer c.args.max_depth s heard.0 steps.Stuck = subst (IsStepAnswer c.args.max_depth s heard.0) c.in-Stuck.is heard.2 in
    IfOk-weaker c.fail_at.result
    (λ o. round_end (tree_view c.fail_at.new.tree) o ≡ ends (with_arc n stuck tree) (failed_at n))
    (λ o. PlaysSteps (g.L.Link.told c.args.link.now) (g.L.Link.told c.ask_steps.new.link) c.args.max_depth tree n (round_end (tree_view c.fail_at.new.tree) o))
    (λ o is. plays_steps (g.L.Link.told c.args.link.now) (g.L.Link.told c.ask_steps.new.link) c.args.max_depth tree n s heard.0 (round_end (tree_view c.fail_at.new.tree) o) c.state.ensures heard.1
    (steps_stuck c.args.max_depth tree n s heard.0 (round_end (tree_view c.fail_at.new.tree) o) answer is))
    c.fail_at.ensures.fails

pub returns-in-Held-clause-plays : goal.returns-in-Held-clause-plays
returns-in-Held-clause-plays g c =
    let tree = tree_view c.args.tree.now in
    let n = c.args.node.number in
    let s = view c.state.result.now in
    let heard = c.in_ok-depth.ensures.answer in
    let answer : IsStepAnswer c.args.max_depth s heard.0 (steps.Held c.in-Held.line) = subst (IsStepAnswer c.args.max_depth s heard.0) c.in-Held.is heard.2 in
    IfOk-weaker c.hold_by.result
    (λ o. round_end (tree_view c.hold_by.new.tree) o ≡ goes_on (with_hold n (reply c.in-Held.line.items) tree))
    (λ o. PlaysSteps (g.L.Link.told c.args.link.now) (g.L.Link.told c.ask_steps.new.link) c.args.max_depth tree n (round_end (tree_view c.hold_by.new.tree) o))
    (λ o is. plays_steps (g.L.Link.told c.args.link.now) (g.L.Link.told c.ask_steps.new.link) c.args.max_depth tree n s heard.0 (round_end (tree_view c.hold_by.new.tree) o) c.state.ensures heard.1
    (steps_held c.args.max_depth tree n s heard.0 c.in-Held.line (round_end (tree_view c.hold_by.new.tree) o) answer is))
    c.hold_by.ensures.held

pub returns-in-Refused-clause-plays : goal.returns-in-Refused-clause-plays
returns-in-Refused-clause-plays g c =
    let tree = tree_view c.args.tree.now in
    let n = c.args.node.number in
    let s = view c.state.result.now in
    let heard = c.in_ok-depth.ensures.answer in
    let answer : IsStepAnswer c.args.max_depth s heard.0 (steps.Refused c.in-Refused.code) = subst (IsStepAnswer c.args.max_depth s heard.0) c.in-Refused.is heard.2 in
    let fits : SFits w64 c.in-Refused.code = search rules in
    plays_steps (g.L.Link.told c.args.link.now) (g.L.Link.told c.ask_steps.new.link) c.args.max_depth tree n s heard.0 _ c.state.ensures heard.1
    (subst (λ z. Stepping c.args.max_depth tree n s heard.0 (ends tree (refused_with z))) (sym (to_z-of_z w64 c.in-Refused.code fits)) (steps_refused c.args.max_depth tree n s heard.0 c.in-Refused.code answer))

pub returns-in-Stepped-clause-broken : goal.returns-in-Stepped-clause-broken
returns-in-Stepped-clause-broken g c =
    let heard = c.in_ok-depth.ensures.answer in
    always c.grow.result (steps_told (g.L.Link.told c.args.link.now) (g.L.Link.told c.ask_steps.new.link) c.args.max_depth (tree_view c.args.tree.now) c.args.node.number (view c.state.result.now) heard.0 _ c.state.ensures heard.1 heard.2)

pub returns-in-Stuck-clause-broken : goal.returns-in-Stuck-clause-broken
returns-in-Stuck-clause-broken g c =
    let heard = c.in_ok-depth.ensures.answer in
    always c.fail_at.result (steps_told (g.L.Link.told c.args.link.now) (g.L.Link.told c.ask_steps.new.link) c.args.max_depth (tree_view c.args.tree.now) c.args.node.number (view c.state.result.now) heard.0 _ c.state.ensures heard.1 heard.2)

pub returns-in-Held-clause-broken : goal.returns-in-Held-clause-broken
returns-in-Held-clause-broken g c =
    let heard = c.in_ok-depth.ensures.answer in
    always c.hold_by.result (steps_told (g.L.Link.told c.args.link.now) (g.L.Link.told c.ask_steps.new.link) c.args.max_depth (tree_view c.args.tree.now) c.args.node.number (view c.state.result.now) heard.0 _ c.state.ensures heard.1 heard.2)

pub returns-in_err-depth-clause-broken : goal.returns-in_err-depth-clause-broken
returns-in_err-depth-clause-broken g c = always _ (steps_begun (g.L.Link.told c.args.link.now) (g.L.Link.told c.ask_steps.new.link) c.args.max_depth (tree_view c.args.tree.now) c.args.node.number (view c.state.result.now) c.state.ensures c.in_err-depth.ensures.broken)
