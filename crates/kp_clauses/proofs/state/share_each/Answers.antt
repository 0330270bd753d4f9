use Rattle.std.proofs.Common.{rules, ◌≡◌, ◌++◌, [], ◌∷◌}
use Rattle.kp_clauses.proofs.VariableLemmas.{taken_along}
use Rattle.kp_clauses.proofs.state.share_each.Goals as goal

pub loop-variable-preserved : goal.loop-variable-preserved
loop-variable-preserved c =
    let pushed : c.push.new.self.items ≡ c.loop-variable.found.items ++ c.in_ok-shared.field-0 ∷ [] = search rules in
    taken_along c.push.new.self.items c.loop-variable.found.items c.in_ok-shared.field-0 c.in-Some.variable c.loop-variable.variable-iterator.rest.items c.next.new.self.rest.items _
    pushed c.in_ok-shared.ensures c.in-Some.ensures.steps.0 c.loop-variable.invariant
