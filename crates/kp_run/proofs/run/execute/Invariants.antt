use Rattle.kp_signature.specs.View.{signature_view}
use Rattle.kp_kore.specs.Theory.{Theory}
use Rattle.kp_ground.specs.View.{value_view}
use Rattle.kp_run.specs.View.{AreDepthsOf}
use Rattle.kp_rule_sets.specs.RuleSets.{RunsAs}
use Rattle.kp_run.specs.Causes.{IsStateIn, StopsUntold}
use Rattle.kp_run.specs.Runs.{IsAt, GoesOnlyIn, written_of}
use Rattle.kp_run.proofs.States.{IsOnlyIn}
use Rattle.kp_run.proofs.run.execute.Given as goal

abbrev pub invariant-loop-depth : goal.invariant-loop-depth
invariant-loop-depth l = record {
  goes : (t : Theory) → RunsAs t l.rules → IsAt t l.fn.state → GoesOnlyIn t l.depth (value_view l.fn.state.value) (value_view l.state.value) × IsAt t l.state;
  states : (t : Theory) → RunsAs t l.rules → IsAt t l.fn.state → IsStateIn t l.depth (written_of l.fn.state) (written_of l.state);
  only : (t : Theory) → RunsAs t l.rules → IsAt t l.fn.state → IsOnlyIn t l.depth (written_of l.fn.state) (written_of l.state);
  told : (t : Theory) → RunsAs t l.rules → IsAt t l.fn.state → ¬ StopsUntold t (written_of l.fn.state) l.depth;
  counted : AreDepthsOf (signature_view l.rules.signature.value) (value_view l.state.value) l.depths;
}
