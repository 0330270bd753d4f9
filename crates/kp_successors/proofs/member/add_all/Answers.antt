use Rattle.std.proofs.Common.{rules, ◌≡◌, ◌++◌, [], ◌∷◌}
use Rattle.kp_successors.proofs.Members.{taken_along}
use Rattle.kp_successors.proofs.member.add_all.Goals as goal

pub loop-variable-preserved : goal.loop-variable-preserved
loop-variable-preserved c =
    let pushed : c.push.new.self.items ≡ c.loop-variable.found.items ++ c.in-Some.variable ∷ [] = search rules in
    taken_along c.push.new.self.items c.loop-variable.found.items c.in-Some.variable c.loop-variable.variable-iterator.rest.items c.next.new.self.rest.items _
    pushed c.in-Some.ensures.steps.0 c.loop-variable.invariant
