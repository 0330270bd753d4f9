use Rattle.std.proofs.Common.{◌≡◌, ◌-◌, ◌≤◌, false, length}
use Rattle.kp_frames.specs.Frames.{most_frame}
use Rattle.kp_conn.specs.Conversations.{ForEachSeen, most_taken}
use Rattle.kp_conn.specs.Turns.{HasCounted, Talks}
use Rattle.kp_conn.proofs.serving.serve.Given as goal

abbrev pub invariant-loop-taken : goal.invariant-loop-taken
invariant-loop-taken g l = record {
  pass : g.A.Answerer.is_pass l.answerer l.pass;
  limit : l.cutter.limit ≡ most_frame;
  memory : l.cutter.is_out_of_memory ≡ false;
  room : l.cutter.is_full ≡ false;
  within : l.taken ≤ most_taken;
  piece : length l.piece ≡ 65536;
  counted : HasCounted l.cutter l.taken l.frames;
  talks : ForEachSeen (g.A.Answerer.has_seen l.answerer l.fn.pass) (g.A.Answerer.has_seen l.answerer l.pass)
      (λ o before after. Talks (g.A.Answerer.answers l.answerer o) before (g.S.Source.left l.fn.source) (g.S.Source.left l.source) (g.K.Sink.held l.fn.sink) (g.K.Sink.held l.sink) after l.cutter l.taken l.frames);
  reads : g.S.Source.fault_count l.source ≡ g.S.Source.fault_count l.fn.source;
  writes : g.K.Sink.fault_count l.sink ≡ g.K.Sink.fault_count l.fn.sink;
}

abbrev pub decreases-loop-taken : goal.decreases-loop-taken
decreases-loop-taken g l = most_taken - l.taken
