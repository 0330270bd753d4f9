use Rattle.std.proofs.Common.{◌≡◌, take}
use Rattle.kp_frames.specs.Held.{frames_of}
use Rattle.kp_conn.specs.Conversations.{ForEachSeen}
use Rattle.kp_conn.specs.Turns.{AreAnswered}
use Rattle.kp_conn.proofs.turn.answer_all.Given as goal

abbrev pub invariant-loop-at : goal.invariant-loop-at
invariant-loop-at g l = record {
  pass : g.A.Answerer.is_pass l.answerer l.pass;
  answered : ForEachSeen (g.A.Answerer.has_seen l.answerer l.fn.pass) (g.A.Answerer.has_seen l.answerer l.pass)
      (λ o before. AreAnswered (g.A.Answerer.answers l.answerer o) before (frames_of (take l.at l.frames)) (g.K.Sink.held l.fn.sink) (g.K.Sink.held l.sink));
  faults : g.K.Sink.fault_count l.sink ≡ g.K.Sink.fault_count l.fn.sink;
}
