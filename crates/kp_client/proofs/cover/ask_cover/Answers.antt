use Rattle.std.proofs.Common.{◌<◌, ◌^◌, subst, arith}
use Rattle.serde_json.specs.Data.{unsigned}
use Rattle.kp_kore.specs.View.{view}
use Rattle.kp_kore.specs.ClaimView.{claim_view}
use Rattle.kp_replies.specs.Read.{implies}
use Rattle.kp_rpc.specs.Request.{id_number}
use Rattle.kp_client.specs.Answers.{IsHeard}
use Rattle.kp_client.proofs.cover.ask_cover.Goals as goal
use Rattle.kp_client.proofs.Breaking.{always, none_asked, sent_is_asked}
use Rattle.kp_client.specs.Answers.{Made, MaySend}
use Rattle.kp_client.specs.Rounds.{cover_question}

pub returns-clause-answer : goal.returns-clause-answer
returns-clause-answer g c =
    let h = c.in_ok-hear.ensures.heard in
    let fits : c.args.id < 2 ^ 64 = omega arith in (
      h.0,
      h.1,
      c.cover_answer_of.ensures (claim_view c.args.claim.now) (view c.args.state.now) (id_number (unsigned c.args.id)) h.0 fits
          (subst (λ q. IsHeard implies q h.0 c.in_ok-hear.field-0) c.in_ok-question.ensures h.2),
    )

pub returns-in_err-question-clause-broken : goal.returns-in_err-question-clause-broken
returns-in_err-question-clause-broken g c = always _ (none_asked (g.L.Link.told c.args.link.now) (cover_question (claim_view c.args.claim.now) (view c.args.state.now)))

pub returns-in_err-hear-clause-broken : goal.returns-in_err-hear-clause-broken
returns-in_err-hear-clause-broken g c =
    let fits : c.args.id < 2 ^ 64 = omega arith in
    always _ (sent_is_asked (g.L.Link.told c.args.link.now) (g.L.Link.told c.hear.new.link) (cover_question (claim_view c.args.claim.now) (view c.args.state.now)) (id_number (unsigned c.args.id)) fits
    (subst (λ q. Made (g.L.Link.told c.args.link.now) (g.L.Link.told c.hear.new.link) (MaySend q)) c.in_ok-question.ensures c.in_err-hear.ensures.broken))
