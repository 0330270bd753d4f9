-- Why no result is told of what has no fault: what stands outside a service of ground terms, and is told as T2.
-- Source: this project.
use Rattle.std.specs.Prelude.{◌≡◌, [], ◌++◌, Option}
use Rattle.kp_kore.specs.Syntax.{Text, KoreSort, KorePattern}
use Rattle.kp_kore.specs.Value.{Value}
use Rattle.kp_kore.specs.Instance.{Valuation, instance}
use Rattle.kp_compile.specs.Spelled.{IsOtherShape}
use Rattle.kp_run.specs.Causes.{StopsUntold}
use Rattle.kp_rpc.specs.Request.{ExecuteOptions, bound_of}
use Rattle.kp_methods.specs.ServedTheory.{IsElsewhere, ServedTheory}

-- ---- execute

-- why no result is told of a pattern of this sort without a verify fault and without foreign symbols: it is asked for in
-- another module, or with rules to stop at; it is no ground state; the run from its value stops untold
pub data IsUntold (s : ServedTheory) (options : ExecuteOptions) (p : KorePattern) (sort : KoreSort) : Type 0 where
  elsewhere : IsElsewhere s.main options.module_name → IsUntold s options p sort
  stops_at_rules : ¬ (options.cut_points ++ options.terminals ≡ []) → IsUntold s options p sort
  no_state : IsOtherShape s.theory.signature p → IsUntold s options p sort
  no_run : (c : Value) → ((v : Valuation) → instance s.theory.signature v p ≡ c) → StopsUntold s.theory (record { value = c; sort = sort }) (bound_of options) → IsUntold s options p sort
