use Rattle.std.proofs.Common.{rules, ◌<◌, ◌≤◌, length}
use Rattle.kp_heads.proofs.Uses.{uses_edge, uses_past}
use Rattle.kp_heads.proofs.users.add_use.Goals as goal

pub returns-in_ok-add_edge : goal.returns-in_ok-add_edge
returns-in_ok-add_edge c =
    let short : c.args.number < length c.args.users.now.items = search rules in
    uses_edge c.args.users.now.items c.add_edge.new.edges.items c.args.number c.args.place (c.in_ok-add_edge.ensures short)

pub returns-else-number-len : goal.returns-else-number-len
returns-else-number-len c =
    let past : length c.args.users.now.items ≤ c.args.number = search rules in
    uses_past c.args.users.now.items c.args.number c.args.place past
