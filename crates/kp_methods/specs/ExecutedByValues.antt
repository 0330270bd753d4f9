-- The run of a ground state, from one value to the next; for private clauses.
-- Source: this project.
use Rattle.std.specs.Prelude.{◌≡◌, []}
use Rattle.kp_kore.specs.Syntax.{KoreSort, KorePattern}
use Rattle.kp_kore.specs.Signature.{KoreSignature}
use Rattle.kp_kore.specs.Theory.{Theory}
use Rattle.kp_ground.specs.View.{value_view}
use Rattle.kp_signature.specs.Verify.{VerifiesAs}
use Rattle.kp_compile.specs.declared.state.GroundState.{GroundState}
use Rattle.kp_run.specs.Causes.{IsStateIn, StopsUntold}
use Rattle.kp_run.specs.Runs.{IsRunOf, written_of}
use Rattle.kp_run.specs.declared.run.GroundRun.{GroundRun}
use Rattle.kp_rpc.specs.Request.{ExecuteOptions, bound_of}
use Rattle.kp_methods.specs.Ends.{IsStateAt}

-- the pattern verifies, and is this ground state
pub record IsStateOf (g : KoreSignature) (p : KorePattern) (found : GroundState) : Type 0 where
  pub sort : KoreSort
  pub verifies : VerifiesAs g p sort
  pub is_state : IsStateAt g p sort found

-- there are no rules to stop at
pub record ListsNone (options : ExecuteOptions) : Type 0 where
  pub cut_points : options.cut_points ≡ []
  pub terminals : options.terminals ≡ []

-- the run from the state is told, and ends so
pub record IsEndOf (t : Theory) (options : ExecuteOptions) (p : KorePattern) (end : GroundRun) : Type 0 where
  pub start : GroundState
  pub is_start : IsStateOf t.signature p start
  pub plain : ListsNone options
  pub run : IsRunOf t (value_view start.value) (bound_of options) end
  pub ends : IsStateIn t end.depth (written_of start) (written_of end.state)
  pub told : ¬ StopsUntold t (written_of start) (bound_of options)
