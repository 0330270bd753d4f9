use Rattle.kp_outward.specs.View.{patterns_in}
use Rattle.kp_outward.proofs.OrderLemmas.{AreKept}
use Rattle.kp_outward.proofs.order.each_once.Given as goal

abbrev pub invariant-loop-one : goal.invariant-loop-one
invariant-loop-one l = AreKept (patterns_in l.fn.spelled.items) (patterns_in l.kept.items) (patterns_in l.one-iterator.rest.items)
