use Rattle.kp_unify.proofs.NameLemmas.{next_at}
use Rattle.kp_unify.proofs.new_names.new_variables.Goals as goal

pub loop-sort-preserved : goal.loop-sort-preserved
loop-sort-preserved c used lists =
    next_at used c.args.next c.loop-sort.after c.in_ok-new.new.next c.loop-sort.sort-index c.args.sorts.now c.sort-item.result c.loop-sort.variables.items c.push.new.self.items c.in_ok-new.new.variable
    c.loop-sort-test.true c.sort-item.is c.in_ok-push.ensures.items (c.loop-sort.invariant used lists) (c.in_ok-new.ensures.named used lists) c.in_ok-new.ensures.sort
