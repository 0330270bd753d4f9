use Rattle.std.proofs.Common.{refl, sym, ◌∙◌, arith, subst, take, [], ◌+◌}
use Rattle.std.proofs.KnownBytes.{Appends-nil}
use Rattle.std.specs.Io.KnownBytes.{Consumes}
use Rattle.kp_conn.specs.Conversations.{Sees}
use Rattle.kp_conn.specs.Turns.{Talks}
use Rattle.kp_conn.specs.declared.served.Served.TheVariants as served
use Rattle.kp_conn.proofs.Resting.{room_left, none_counted, more_counted, counted_within, begins_talking, talks_seen, read_broken, turn_broken, broken_served, long_told, spent_told, end_told, not_read_last, not_read_rest, no_fault, full_length}
use Rattle.kp_conn.proofs.Conversing.{sees_same, sees_more, sees_behind}
use Rattle.kp_conn.proofs.serving.serve.Goals as goal

pub loop-taken-init : goal.loop-taken-init
loop-taken-init g c = record {
  pass = c.requires.pass;
  limit = c.new-cutter.ensures.limit;
  memory = c.new-cutter.ensures.memory;
  room = room_left c.new-cutter.result.limit [] [] c.new-cutter.result.rest c.new-cutter.result.is_full c.new-cutter.ensures.cut (omega (arith, c.new-cutter.ensures.limit));
  within = omega arith;
  piece = refl;
  counted = none_counted c.new-cutter.result c.new-cutter.ensures.cut;
  talks = λ o before seen. sees_same (g.A.Answerer.has_seen c.args.answerer.now c.args.pass.now o) _ before seen
      (begins_talking (g.A.Answerer.answers c.args.answerer.now o) (g.A.Answerer.begins c.args.answerer.now o) before (g.S.Source.left c.args.source.now) (g.K.Sink.held c.args.sink.now) c.new-cutter.result c.new-cutter.ensures.limit c.new-cutter.ensures.cut (Appends-nil (g.K.Sink.held c.args.sink.now)));
  reads = refl;
  writes = refl;
}

pub returns-in-Err-clause-served : goal.returns-in-Err-clause-served
returns-in-Err-clause-served g c = λ o before seen. sees_more _ before _ _
    (λ after t. read_broken (g.A.Answerer.answers c.args.answerer.now o) (g.A.Answerer.begins c.args.answerer.now o) before after _ _ _ _ _ c.loop-taken.cutter c.loop-taken.taken c.loop-taken.frames t c.in-Err.ensures.kept) (c.loop-taken.invariant.talks o before seen)

pub end-requires : goal.end-requires
end-requires g c = omega (arith, counted_within c.loop-taken.cutter c.loop-taken.taken c.loop-taken.frames c.loop-taken.invariant.counted, c.loop-taken.invariant.within)

pub returns-then-count-eq0-clause-served : goal.returns-then-count-eq0-clause-served
returns-then-count-eq0-clause-served g c = λ o before seen.
    let nothing : Consumes (g.S.Source.left c.loop-taken.source) (g.S.Source.left c.take_piece.new.source) [] =
    subst (λ k. Consumes (g.S.Source.left c.loop-taken.source) (g.S.Source.left c.take_piece.new.source) (take k c.take_piece.new.piece)) c.if-count-eq0.true c.in-Ok.ensures.taken in
    sees_more _ before _ _ (λ after t. end_told (g.A.Answerer.answers c.args.answerer.now o) (g.A.Answerer.begins c.args.answerer.now o) before after _ (g.S.Source.left c.loop-taken.source) _ _ (g.K.Sink.held c.loop-taken.sink) _ c.loop-taken.cutter c.loop-taken.taken c.loop-taken.frames c.deref.result.now c.end.result
    t c.loop-taken.invariant.room (c.deref.ensures.value ∙ c.finish.ensures) nothing (c.in-Ok.ensures.at_end c.if-count-eq0.true) c.end.ensures.told) (c.loop-taken.invariant.talks o before seen)

pub returns-then-count-eq0-clause-read : goal.returns-then-count-eq0-clause-read
returns-then-count-eq0-clause-read g c = no_fault _ _ _ (c.in-Ok.ensures.faults.stays (λ e. cc e) ∙ c.loop-taken.invariant.reads) (not_read_rest c.deref.result.now c.loop-taken.frames _ _ c.end.result c.end.ensures.told)

pub overflow_add-frames : goal.overflow_add-frames
overflow_add-frames g c = omega (
  arith,
  c.room_for.ensures.within,
  c.in-Ok.ensures.within,
  counted_within c.take_turn.new.cutter (c.loop-taken.taken + c.in-Ok.count) (c.loop-taken.frames + c.in-Ok-take_turn.ended) (more_counted c.loop-taken.cutter c.take_turn.new.cutter c.loop-taken.taken c.loop-taken.frames c.in-Ok-take_turn.ended c.in-Ok.count c.take_piece.new.piece (omega (arith, c.in-Ok.ensures.within, c.room_for.ensures.piece, c.take_piece.ensures.len, c.loop-taken.invariant.piece)) c.loop-taken.invariant.counted c.in-Ok-take_turn.ensures.many),
)

pub returns-in-Err-take_turn-clause-served : goal.returns-in-Err-take_turn-clause-served
returns-in-Err-take_turn-clause-served g c = λ o before seen.
    let so_far : Sees (g.A.Answerer.has_seen c.args.answerer.now c.loop-taken.pass o) before
    (λ after. Talks (g.A.Answerer.answers c.args.answerer.now o) before (g.S.Source.left c.args.source.now) (g.S.Source.left c.loop-taken.source) (g.K.Sink.held c.args.sink.now) (g.K.Sink.held c.loop-taken.sink) after c.loop-taken.cutter c.loop-taken.taken c.loop-taken.frames) =
    c.loop-taken.invariant.talks o before seen in
    sees_behind _ before so_far.after _ _ so_far.grows (λ after b. broken_served (g.A.Answerer.answers c.args.answerer.now o) (g.A.Answerer.begins c.args.answerer.now o) before after _ _ _ _ c.in-Err-take_turn.fault c.broken_by.result
    (turn_broken (g.A.Answerer.answers c.args.answerer.now o) (g.A.Answerer.begins c.args.answerer.now o) before so_far.after after _ (g.S.Source.left c.loop-taken.source) _ _ (g.K.Sink.held c.loop-taken.sink) _
    c.loop-taken.cutter c.take_turn.new.cutter c.loop-taken.taken c.loop-taken.frames (take c.in-Ok.count c.take_piece.new.piece) c.loop-taken.invariant.limit (c.take_turn.ensures.limit ∙ c.loop-taken.invariant.limit)
    so_far.holds c.in-Ok.ensures.taken b) c.broken_by.ensures.failed.1 c.broken_by.ensures.memory.1) (c.in-Err-take_turn.ensures.broken o so_far.after so_far.seen)

pub returns-then-is_full-clause-served : goal.returns-then-is_full-clause-served
returns-then-is_full-clause-served g c = λ o before seen. sees_more _ before _ _
    (λ after t. long_told (g.A.Answerer.answers c.args.answerer.now o) (g.A.Answerer.begins c.args.answerer.now o) before after _ _ _ (g.K.Sink.held c.take_turn.new.sink) _ c.take_turn.new.cutter _ _ c.put_last.result t (sym c.if-is_full.ensures.full)
    (full_length _ _ c.if-is_full.ensures.length ∙ c.take_turn.ensures.limit ∙ c.loop-taken.invariant.limit) c.put_last.ensures.told)
    (talks_seen (g.A.Answerer.answers c.args.answerer.now o) (g.A.Answerer.begins c.args.answerer.now o) (g.A.Answerer.has_seen c.args.answerer.now c.loop-taken.pass o) (g.A.Answerer.has_seen c.args.answerer.now c.take_turn.new.pass o) before
    (g.S.Source.left c.args.source.now) (g.S.Source.left c.loop-taken.source) (g.S.Source.left c.take_piece.new.source) (g.K.Sink.held c.args.sink.now) (g.K.Sink.held c.loop-taken.sink) (g.K.Sink.held c.take_turn.new.sink)
    c.loop-taken.cutter c.take_turn.new.cutter c.loop-taken.taken c.loop-taken.frames c.in-Ok-take_turn.ended c.in-Ok.count c.take_piece.new.piece (omega (arith, c.in-Ok.ensures.within, c.room_for.ensures.piece, c.take_piece.ensures.len, c.loop-taken.invariant.piece))
    c.loop-taken.invariant.limit (c.take_turn.ensures.limit ∙ c.loop-taken.invariant.limit) c.in-Ok.ensures.taken (c.loop-taken.invariant.talks o before seen) (c.in-Ok-take_turn.ensures.whole o))

pub returns-then-is_full-clause-read : goal.returns-then-is_full-clause-read
returns-then-is_full-clause-read g c = no_fault _ _ _ (c.in-Ok.ensures.faults.stays (λ e. cc e) ∙ c.loop-taken.invariant.reads) (not_read_last served.TooLong _ _ c.put_last.result c.put_last.ensures.told (λ e. cc e))

pub loop-taken-preserved : goal.loop-taken-preserved
loop-taken-preserved g c = record {
  pass = c.take_turn.ensures.pass;
  limit = c.take_turn.ensures.limit ∙ c.loop-taken.invariant.limit;
  memory = c.in-Ok-take_turn.ensures.memory;
  room = sym c.if-is_full.ensures.full;
  within = omega (arith, c.room_for.ensures.within, c.in-Ok.ensures.within);
  piece = c.take_piece.ensures.len ∙ c.loop-taken.invariant.piece;
  counted = more_counted c.loop-taken.cutter c.take_turn.new.cutter c.loop-taken.taken c.loop-taken.frames c.in-Ok-take_turn.ended c.in-Ok.count c.take_piece.new.piece (omega (arith, c.in-Ok.ensures.within, c.room_for.ensures.piece, c.take_piece.ensures.len, c.loop-taken.invariant.piece)) c.loop-taken.invariant.counted c.in-Ok-take_turn.ensures.many;
  talks = λ o before seen. talks_seen (g.A.Answerer.answers c.args.answerer.now o) (g.A.Answerer.begins c.args.answerer.now o) (g.A.Answerer.has_seen c.args.answerer.now c.loop-taken.pass o) (g.A.Answerer.has_seen c.args.answerer.now c.take_turn.new.pass o) before
      (g.S.Source.left c.args.source.now) (g.S.Source.left c.loop-taken.source) (g.S.Source.left c.take_piece.new.source) (g.K.Sink.held c.args.sink.now) (g.K.Sink.held c.loop-taken.sink) (g.K.Sink.held c.take_turn.new.sink)
      c.loop-taken.cutter c.take_turn.new.cutter c.loop-taken.taken c.loop-taken.frames c.in-Ok-take_turn.ended c.in-Ok.count c.take_piece.new.piece (omega (arith, c.in-Ok.ensures.within, c.room_for.ensures.piece, c.take_piece.ensures.len, c.loop-taken.invariant.piece))
      c.loop-taken.invariant.limit (c.take_turn.ensures.limit ∙ c.loop-taken.invariant.limit) c.in-Ok.ensures.taken (c.loop-taken.invariant.talks o before seen) (c.in-Ok-take_turn.ensures.whole o);
  reads = c.in-Ok.ensures.faults.stays (λ e. cc e) ∙ c.loop-taken.invariant.reads;
  writes = c.in-Ok-take_turn.ensures.stays ∙ c.loop-taken.invariant.writes;
}

pub returns-clause-served : goal.returns-clause-served
returns-clause-served g c = λ o before seen. sees_more _ before _ _ (λ after t. spent_told (g.A.Answerer.answers c.args.answerer.now o) (g.A.Answerer.begins c.args.answerer.now o) before after _ _ _ _ c.loop-taken.cutter c.loop-taken.taken c.loop-taken.frames t c.loop-taken.invariant.room (omega (arith, c.loop-taken-test.false, c.loop-taken.invariant.within))) (c.loop-taken.invariant.talks o before seen)
