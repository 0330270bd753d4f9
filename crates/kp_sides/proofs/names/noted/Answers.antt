use Rattle.std.proofs.Common.{rules, [], subst, map, take, string_bytes}
use Rattle.kp_names.specs.Met.{Lists}
use Rattle.kp_sides.proofs.NameLemmas.{one_name_more}
use Rattle.kp_sides.proofs.names.noted.Goals as goal

pub loop-name-init : goal.loop-name-init
loop-name-init c = let none : Lists [] c.new-names.result = search rules in none

pub loop-name-preserved : goal.loop-name-preserved
loop-name-preserved c =
    let xs = c.args.found.now in
    let i = c.loop-name.name-index in
    subst (λ l. Lists l c.note.new.names) (one_name_more string_bytes xs i c.name-item.result c.loop-name-test.true c.name-item.is) (c.in_ok-note.ensures (map string_bytes (take i xs)) c.loop-name.invariant)
