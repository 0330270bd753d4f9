use Rattle.std.proofs.Common.{subst}
use Rattle.kp_ground.specs.View.{value_view}
use Rattle.kp_run.specs.Causes.{StopsUntold}
use Rattle.kp_run.specs.Runs.{IsRunOf, written_of}
use Rattle.kp_methods.proofs.ExecutedEnds.{sorted_start}
use Rattle.kp_methods.proofs.execute_by_values.end_from.Goals as goal

pub returns-in-Ok : goal.returns-in-Ok
returns-in-Ok c = λ t p runs start plain.
    let state = c.args.state in
    let sorted = sorted_start t.signature p state start in
    record {
      start = state;
      is_start = start;
      plain = plain;
      run = subst (λ n. IsRunOf t (value_view state.value) n c.in-Ok.end) c.bound_of.ensures (c.in-Ok.ensures.is_run t runs sorted);
      ends = c.in-Ok.ensures.written t runs sorted;
      told = subst (λ n. ¬ StopsUntold t (written_of state) n) c.bound_of.ensures (c.in-Ok.ensures.answered t runs sorted);
    }
