use Rattle.std.proofs.Common.{◌++◌, subst, map, take, string_bytes}
use Rattle.kp_names.specs.Met.{Lists}
use Rattle.kp_outward.proofs.FreshLemmas.{names_more}
use Rattle.kp_outward.proofs.fresh.note_all.Goals as goal

pub loop-name-preserved : goal.loop-name-preserved
loop-name-preserved c before is =
    let used = c.args.used.now in
    let i = c.loop-name.name-index in
    subst (λ l. Lists l c.note.new.names) (names_more before used i c.name-item.result c.loop-name-test.true c.name-item.is)
    (c.in_ok-note.ensures (before ++ map string_bytes (take i used)) (c.loop-name.invariant before is))
