use Rattle.std.proofs.Common.{refl, ◌+◌, ◌∷◌, ◌++◌, [], take, drop, subst, sym, ◌∙◌}
use Rattle.kp_frames.specs.Held.{frames_of}
use Rattle.kp_conn.specs.Conversations.{Sees}
use Rattle.kp_conn.specs.Turns.{AreAnswered, BreakOff}
use Rattle.kp_conn.proofs.Conversing.{none_answered, all_answered, breaks_behind, breaks_before, at_err, frames_more, frames_split, sees_same, sees_behind}
use Rattle.kp_conn.proofs.turn.answer_all.Goals as goal

pub loop-at-init : goal.loop-at-init
loop-at-init g c = record {
  pass = c.requires.pass;
  answered = λ o before seen. sees_same (g.A.Answerer.has_seen c.args.answerer.now c.args.pass.now o) _ before seen (none_answered (g.A.Answerer.answers c.args.answerer.now o) (g.A.Answerer.begins c.args.answerer.now o) before _);
  faults = refl;
}

pub loop-at-preserved : goal.loop-at-preserved
loop-at-preserved g c = record {
  pass = c.answer_frame.ensures.pass;
  answered = λ o before seen.
      subst (λ x. Sees (g.A.Answerer.has_seen c.args.answerer.now c.answer_frame.new.pass o) before (AreAnswered (g.A.Answerer.answers c.args.answerer.now o) before x (g.K.Sink.held c.args.sink.now) (g.K.Sink.held c.answer_frame.new.sink)))
      (sym (frames_more c.args.frames.now c.loop-at.at c.index-frames-at.result c.deref.result.now c.loop-at-test.true c.index-frames-at.is c.deref.ensures.value))
      (let so_far : Sees (g.A.Answerer.has_seen c.args.answerer.now c.loop-at.pass o) before (AreAnswered (g.A.Answerer.answers c.args.answerer.now o) before (frames_of (take c.loop-at.at c.args.frames.now)) (g.K.Sink.held c.args.sink.now) (g.K.Sink.held c.loop-at.sink)) =
      c.loop-at.invariant.answered o before seen in
      sees_behind _ before so_far.after _ _ so_far.grows
      (λ after now. all_answered (g.A.Answerer.answers c.args.answerer.now o) (g.A.Answerer.begins c.args.answerer.now o) before so_far.after after (frames_of (take c.loop-at.at c.args.frames.now)) (c.deref.result.now ∷ []) _ _ _ so_far.holds now)
      (c.in_ok-answer_frame.ensures.whole o so_far.after so_far.seen));
  faults = c.in_ok-answer_frame.ensures.stays ∙ c.loop-at.invariant.faults;
}

pub returns-in_err-answer_frame-clause-broken : goal.returns-in_err-answer_frame-clause-broken
returns-in_err-answer_frame-clause-broken g c = at_err c.from_residual.result _ (λ o before seen. subst (λ x. Sees (g.A.Answerer.has_seen c.args.answerer.now c.answer_frame.new.pass o) before (BreakOff (g.A.Answerer.answers c.args.answerer.now o) (g.A.Answerer.begins c.args.answerer.now o) before x (g.K.Sink.held c.args.sink.now) (g.K.Sink.held c.answer_frame.new.sink)))
    (sym (frames_split c.args.frames.now c.loop-at.at c.deref.result.now (frames_more c.args.frames.now c.loop-at.at c.index-frames-at.result c.deref.result.now c.loop-at-test.true c.index-frames-at.is c.deref.ensures.value)))
    (let so_far : Sees (g.A.Answerer.has_seen c.args.answerer.now c.loop-at.pass o) before (AreAnswered (g.A.Answerer.answers c.args.answerer.now o) before (frames_of (take c.loop-at.at c.args.frames.now)) (g.K.Sink.held c.args.sink.now) (g.K.Sink.held c.loop-at.sink)) =
    c.loop-at.invariant.answered o before seen in
    sees_behind _ before so_far.after _ _ so_far.grows
    (λ after now. breaks_before (g.A.Answerer.answers c.args.answerer.now o) (g.A.Answerer.begins c.args.answerer.now o) before after (frames_of (take c.loop-at.at c.args.frames.now) ++ c.deref.result.now ∷ []) (frames_of (drop (c.loop-at.at + 1) c.args.frames.now)) _ _
    (breaks_behind (g.A.Answerer.answers c.args.answerer.now o) (g.A.Answerer.begins c.args.answerer.now o) before so_far.after after (frames_of (take c.loop-at.at c.args.frames.now)) (c.deref.result.now ∷ []) _ _ _ so_far.holds now))
    (c.in_err-answer_frame.ensures.broken o so_far.after so_far.seen)))
