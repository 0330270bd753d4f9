use Rattle.std.proofs.Common.{rules, ◌∙◌}
use Rattle.std.proofs.Math.Seq.{take-add}
use Rattle.std.proofs.KnownBytes.{Appends-trans}
use Rattle.kp_io.proofs.Rests.{rest_is_drop}
use Rattle.kp_io.proofs.whole.put_all.Goals as goal

pub loop-at-preserved : goal.loop-at-preserved
loop-at-preserved g c = record {
  within = search rules;
  put = rw (take-add c.loop-at.at c.in_ok-at.field-0 c.args.bytes.now)
      (Appends-trans _ (g.K.Sink.held c.loop-at.sink) _ _ _ c.loop-at.invariant.put (rw (rest_is_drop c.loop-at.at c.args.bytes.now) at c.in_ok-at.ensures.bytes));
  faults = c.in_ok-at.ensures.faults.stays (λ e. cc e) ∙ c.loop-at.invariant.faults;
}
