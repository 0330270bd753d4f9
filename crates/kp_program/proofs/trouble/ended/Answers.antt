use Rattle.std.proofs.Common.{ap, inl, refl}
use Rattle.kp_io.specs.Outside.{Rose}
use Rattle.kp_program.specs.Statuses.{faulty, no_file, outside}
use Rattle.kp_program.specs.Troubles.{file_fault_view}
use Rattle.kp_program.specs.declared.trouble.Trouble.TheVariants as trouble
use Rattle.kp_program.proofs.Causes.{ends_as, ends_at}
use Rattle.kp_program.proofs.trouble.ended.Goals as goal

pub returns-in-File-clause-ended : goal.returns-in-File-clause-ended
returns-in-File-clause-ended g c =
    let failed = Rose (g.E.Sink.fault_count c.args.err.now) (g.E.Sink.fault_count c.told_if_made.new.err) in
    let before = g.E.Sink.held c.args.err.now in
    let after = g.E.Sink.held c.told_if_made.new.err in
    let e = faulty c.deref.result.now (file_fault_view c.in-File.fault) in
    ends_at c.args.trouble.now (trouble.File c.in-File.name c.in-File.fault) e c.in-File.is (ap (λ n. faulty n (file_fault_view c.in-File.fault)) c.deref.ensures) failed before after c.told_if_made.result
    (ends_as e failed before after c.fault_line.result c.told_if_made.result c.fault_line.ensures c.told_if_made.ensures.made c.told_if_made.ensures.lost)

pub returns-in-NoFile-clause-ended : goal.returns-in-NoFile-clause-ended
returns-in-NoFile-clause-ended g c =
    let failed = Rose (g.E.Sink.fault_count c.args.err.now) (g.E.Sink.fault_count c.told_if_made-in-NoFile.new.err) in
    let before = g.E.Sink.held c.args.err.now in
    let after = g.E.Sink.held c.told_if_made-in-NoFile.new.err in
    let e = no_file c.deref-in-NoFile.result.now in
    ends_at c.args.trouble.now (trouble.NoFile c.in-NoFile.name) e c.in-NoFile.is (ap (λ n. no_file n) c.deref-in-NoFile.ensures) failed before after c.told_if_made-in-NoFile.result
    (ends_as e failed before after c.no_file_line.result c.told_if_made-in-NoFile.result c.no_file_line.ensures c.told_if_made-in-NoFile.ensures.made c.told_if_made-in-NoFile.ensures.lost)

pub returns-in-Outside-clause-ended : goal.returns-in-Outside-clause-ended
returns-in-Outside-clause-ended g c =
    let failed = Rose (g.E.Sink.fault_count c.args.err.now) (g.E.Sink.fault_count c.told.new.err) in
    let before = g.E.Sink.held c.args.err.now in
    let after = g.E.Sink.held c.told.new.err in
    ends_at c.args.trouble.now trouble.Outside outside c.in-Outside.is refl failed before after c.told.result (inl (c.told.ensures.status, c.told.ensures.told))
