use Rattle.std.proofs.Common.{map}
use Rattle.kp_kore.specs.View.{sorted_variable_view}
use Rattle.kp_kore.proofs.FreeVariables.{free_more}
use Rattle.kp_kore.proofs.pattern.Pattern.+free.Goals as goal

pub add_all_free_vars-loop-pattern-preserved : goal.add_all_free_vars-loop-pattern-preserved
add_all_free_vars-loop-pattern-preserved t c =
    free_more c.args.patterns.now c.loop-pattern.pattern-index c.pattern-item.result
    (map sorted_variable_view c.loop-pattern.found.items) (map sorted_variable_view c.add_free_vars.new.found.items)
    (map sorted_variable_view c.args.found.now.items)
    c.loop-pattern-test.true c.pattern-item.is c.loop-pattern.invariant c.in_ok-add_free_vars.ensures
