use Rattle.std.proofs.Common.{◌≡◌, sym, ap, ◌∙◌, [], ◌++◌, drop, map, arith}
use Rattle.std.proofs.lemmas.List.{append-nil, drop_all}
use Rattle.kp_kore.specs.View.{view}
use Rattle.kp_symbolic.specs.View.{variable_view}
use Rattle.kp_outward.specs.Parts.{variable_pattern}
use Rattle.kp_outward.proofs.BoundLemmas.{variables_are}
use Rattle.kp_outward.proofs.test.variables_out.Goals as goal

pub returns : goal.returns
returns c =
    let found = map view c.loop-variable.patterns.items in
    let done : drop c.loop-variable.variable-index c.args.variables.now ≡ [] = drop_all c.loop-variable.variable-index c.args.variables.now (omega arith) in
    let all : found ≡ map (λ x. variable_pattern (variable_view x)) c.args.variables.now =
    sym (append-nil found) ∙ sym (ap (λ xs. found ++ map (λ x. variable_pattern (variable_view x)) xs) done) ∙ c.loop-variable.invariant in
    variables_are c.loop-variable.patterns.items c.args.variables.now all
