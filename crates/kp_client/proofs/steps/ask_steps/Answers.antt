use Rattle.std.proofs.Common.{◌<◌, ◌^◌, subst, arith}
use Rattle.serde_json.specs.Data.{unsigned}
use Rattle.kp_kore.specs.View.{view}
use Rattle.kp_replies.specs.Read.{execute}
use Rattle.kp_rpc.specs.Request.{id_number}
use Rattle.kp_client.specs.Answers.{IsHeard}
use Rattle.kp_client.proofs.steps.ask_steps.Goals as goal
use Rattle.kp_client.proofs.Breaking.{always, heard_is_asked, none_asked, sent_is_asked}
use Rattle.kp_client.specs.Answers.{Made, MaySend}
use Rattle.kp_client.specs.Rounds.{step_question}

pub returns-clause-answer : goal.returns-clause-answer
returns-clause-answer g c =
    let h = c.in_ok-heard.ensures.heard in
    let fits : c.args.id < 2 ^ 64 = omega arith in (
      h.0,
      h.1,
      c.in_ok-step_answer_of.ensures c.args.depth (view c.args.state.now) (id_number (unsigned c.args.id)) h.0 fits
          (subst (λ q. IsHeard execute q h.0 c.in_ok-heard.heard) c.in_ok-question.ensures h.2),
    )

pub returns-in_err-question-clause-broken : goal.returns-in_err-question-clause-broken
returns-in_err-question-clause-broken g c = always _ (none_asked (g.L.Link.told c.args.link.now) (step_question c.args.depth (view c.args.state.now)))

pub returns-in_err-heard-clause-broken : goal.returns-in_err-heard-clause-broken
returns-in_err-heard-clause-broken g c =
    let fits : c.args.id < 2 ^ 64 = omega arith in
    always _ (sent_is_asked (g.L.Link.told c.args.link.now) (g.L.Link.told c.hear.new.link) (step_question c.args.depth (view c.args.state.now)) (id_number (unsigned c.args.id)) fits
    (subst (λ q. Made (g.L.Link.told c.args.link.now) (g.L.Link.told c.hear.new.link) (MaySend q)) c.in_ok-question.ensures c.in_err-heard.ensures.broken))

pub returns-in_err-step_answer_of-clause-broken : goal.returns-in_err-step_answer_of-clause-broken
returns-in_err-step_answer_of-clause-broken g c =
    let fits : c.args.id < 2 ^ 64 = omega arith in
    let h = c.in_ok-heard.ensures.heard in
    let q = step_question c.args.depth (view c.args.state.now) in
    always _ (heard_is_asked (g.L.Link.told c.args.link.now) (g.L.Link.told c.hear.new.link) q execute (id_number (unsigned c.args.id)) h.0 c.in_ok-heard.heard fits h.1
    (subst (λ q. IsHeard execute q h.0 c.in_ok-heard.heard) c.in_ok-question.ensures h.2))
