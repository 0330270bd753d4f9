use Rattle.std.proofs.Common.{rules, ◌≡◌, ◌++◌, not, true, false, [], ◌∷◌, string_bytes}
use Rattle.indexmap.specs.IndexSet.{contains_text}
use Rattle.kp_rule_reading.proofs.NewVariables.{taken_along, left_out}
use Rattle.kp_rule_reading.proofs.choice.add_unnamed.Goals as goal

pub loop-variable-preserved-in-Continue-1 : goal.loop-variable-preserved-in-Continue-1
loop-variable-preserved-in-Continue-1 c =
    let names = c.args.names.now in
    let new : not (contains_text names (string_bytes c.in-Some.variable.name)) ≡ true = search rules in
    let pushed : c.push.new.self.items ≡ c.loop-variable.found.items ++ c.in-Some.variable ∷ [] = search rules in
    taken_along (λ x. not (contains_text names x.name)) c.push.new.self.items c.loop-variable.found.items c.in-Some.variable c.loop-variable.variable-iterator.rest.items c.next.new.self.rest.items _
    new pushed c.in-Some.ensures.steps.0 c.loop-variable.invariant

pub loop-variable-preserved : goal.loop-variable-preserved
loop-variable-preserved c =
    let names = c.args.names.now in
    let old : not (contains_text names (string_bytes c.in-Some.variable.name)) ≡ false = search rules in
    left_out (λ x. not (contains_text names x.name)) c.loop-variable.found.items c.in-Some.variable c.loop-variable.variable-iterator.rest.items c.next.new.self.rest.items _ old c.in-Some.ensures.steps.0 c.loop-variable.invariant
