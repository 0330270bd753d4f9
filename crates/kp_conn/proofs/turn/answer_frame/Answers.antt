use Rattle.std.proofs.Common.{subst, Some, None}
use Rattle.std.specs.Prelude.{option_map}
use Rattle.kp_conn.specs.Conversations.{Sees}
use Rattle.kp_conn.proofs.Conversing.{begun_alone, line_broken, when_ok, when_err, at_err, line_answered, nothing_answered, sees_more}
use Rattle.kp_conn.proofs.turn.answer_frame.Goals as goal

pub returns-in_err-reply-clause-broken : goal.returns-in_err-reply-clause-broken
returns-in_err-reply-clause-broken g c = at_err c.from_residual.result _ (λ o before seen. sees_more _ before _ _ (λ after now. begun_alone (g.A.Answerer.answers c.args.answerer.now o) (g.A.Answerer.begins c.args.answerer.now o) before after c.args.frame.now _ now) (c.in_err-reply.ensures.begun o before seen))

pub returns-in-Some-clause-whole : goal.returns-in-Some-clause-whole
returns-in-Some-clause-whole g c = when_ok c.put_line.result _ _ c.put_line.ensures.whole (λ put o before seen.
    let now : Sees (g.A.Answerer.has_seen c.args.answerer.now c.answer.new.pass o) before (g.A.Answerer.answers c.args.answerer.now o before c.args.frame.now (Some c.in-Some.reply.items)) =
    subst (λ x. Sees (g.A.Answerer.has_seen c.args.answerer.now c.answer.new.pass o) before (g.A.Answerer.answers c.args.answerer.now o before c.args.frame.now (option_map (λ r. r.items) x))) c.in-Some.is (c.in_ok-reply.ensures.answered o before seen) in
    sees_more _ before _ _ (λ after a. line_answered (g.A.Answerer.answers c.args.answerer.now o) (g.A.Answerer.begins c.args.answerer.now o) before after c.args.frame.now (Some c.in-Some.reply.items) _ _ a put) now)

pub returns-in-Some-clause-broken : goal.returns-in-Some-clause-broken
returns-in-Some-clause-broken g c = when_err c.put_line.result _ _ c.put_line.ensures.front (λ h o before seen.
    let now : Sees (g.A.Answerer.has_seen c.args.answerer.now c.answer.new.pass o) before (g.A.Answerer.answers c.args.answerer.now o before c.args.frame.now (Some c.in-Some.reply.items)) =
    subst (λ x. Sees (g.A.Answerer.has_seen c.args.answerer.now c.answer.new.pass o) before (g.A.Answerer.answers c.args.answerer.now o before c.args.frame.now (option_map (λ r. r.items) x))) c.in-Some.is (c.in_ok-reply.ensures.answered o before seen) in
    sees_more _ before _ _ (λ after a. line_broken (g.A.Answerer.answers c.args.answerer.now o) (g.A.Answerer.begins c.args.answerer.now o) before after c.args.frame.now (Some c.in-Some.reply.items) h.0 _ _ a h.1) now)

pub returns-in-None-clause-whole : goal.returns-in-None-clause-whole
returns-in-None-clause-whole g c = λ o before seen.
    let now : Sees (g.A.Answerer.has_seen c.args.answerer.now c.answer.new.pass o) before (g.A.Answerer.answers c.args.answerer.now o before c.args.frame.now None) =
    subst (λ x. Sees (g.A.Answerer.has_seen c.args.answerer.now c.answer.new.pass o) before (g.A.Answerer.answers c.args.answerer.now o before c.args.frame.now (option_map (λ r. r.items) x))) c.in-None.is (c.in_ok-reply.ensures.answered o before seen) in
    sees_more _ before _ _ (λ after a. nothing_answered (g.A.Answerer.answers c.args.answerer.now o) (g.A.Answerer.begins c.args.answerer.now o) before after c.args.frame.now _ a) now
