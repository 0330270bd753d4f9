use Rattle.std.proofs.Common.{sym, subst, true≢false, []}
use Rattle.std.specs.Vec.{vec_len}
use Rattle.kp_step.specs.RightSteps.{AreCasesOf}
use Rattle.kp_execute.proofs.OnwardLemmas.{the_one, none_of, nexts_len, no_instance}
use Rattle.kp_execute.proofs.onward.by_at_most_one.Goals as goal

pub returns-in-Some : goal.returns-in-Some
returns-in-Some c t used s runs cases few =
    c.by_one.ensures t used s runs (subst (λ ns. AreCasesOf t used s ns []) (the_one c.args.nexts.items c.pop.new.self.items c.in-Some.next c.in-Some.ensures.items few) cases)

pub returns : goal.returns
returns c t used s runs cases few =
    no_instance t used s (subst (λ ns. AreCasesOf t used s ns []) (none_of c.args.nexts.items (vec_len c.args.nexts) (nexts_len c.args.nexts) (λ more. true≢false (sym (c.in-None.ensures.variant.1 more)))) cases)
