use Rattle.std.proofs.Common.{rules, ◌≡◌, length}
use Rattle.kp_literals.proofs.CallLemmas.{not_constant}
use Rattle.kp_literals.proofs.own_clause.constant_named.Goals as goal

pub returns-else-is_empty : goal.returns-else-is_empty
returns-else-is_empty c =
    let some : length c.args.arguments.now ≡ 0 → ⊥ = search rules in
    not_constant c.args.constructor.now c.args.arguments.now some
