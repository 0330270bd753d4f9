use Rattle.std.proofs.Common.{inl, inr}
use Rattle.std.proofs.lemmas.Result.{IfErr-weaker, on_err_weaker, on_ok_weaker}
use Rattle.kp_modules.specs.Openings.{opening_of}
use Rattle.kp_program.specs.Served.{ServesInput}
use Rattle.kp_program.proofs.Causes.{late_cause, late_status}
use Rattle.kp_program.proofs.Served.{breaks_file, over_file}
use Rattle.kp_program.proofs.Spelled.{cause_weaker}
use Rattle.kp_program.proofs.program.serve_input.Goals as goal

pub returns-in-Ok-clause-served : goal.returns-in-Ok-clause-served
returns-in-Ok-clause-served g c =
    let x = c.in-Ok.ensures.loaded in
    on_ok_weaker c.serve_table.result (λ served.
    over_file (g.H.Shelf.names c.args.shelf.now) c.args.command.now.definition.now c.args.command.now.module_name.now x.0 c.in-Ok.table
    (λ o. ServesInput o (g.I.Source.left c.args.input.now) (g.I.Source.left c.serve_table.new.input) (g.O.Sink.held c.args.out.now) (g.O.Sink.held c.serve_table.new.out)) x.1 x.2 served)
    (c.serve_table.ensures.served (opening_of x.2.definition c.args.command.now.module_name.now) x.2.opens)

pub returns-in-Ok-clause-front : goal.returns-in-Ok-clause-front
returns-in-Ok-clause-front g c =
    let x = c.in-Ok.ensures.loaded in
    on_err_weaker c.serve_table.result (λ front.
    breaks_file (g.H.Shelf.names c.args.shelf.now) (g.I.Source.left c.args.input.now) (g.I.Source.left c.serve_table.new.input) (g.O.Sink.held c.args.out.now) (g.O.Sink.held c.serve_table.new.out) _
    c.args.command.now.definition.now c.args.command.now.module_name.now x.0 c.in-Ok.table x.1 x.2 front)
    (c.serve_table.ensures.front (opening_of x.2.definition c.args.command.now.module_name.now) x.2.opens)

pub returns-in-Ok-clause-cause : goal.returns-in-Ok-clause-cause
returns-in-Ok-clause-cause g c = λ words spelled.
    IfErr-weaker c.serve_table.result _ _ (λ t late. late_cause _ words _ _ t inr late) c.serve_table.ensures.late

pub returns-in-Ok-clause-untouched : goal.returns-in-Ok-clause-untouched
returns-in-Ok-clause-untouched g c =
    IfErr-weaker c.serve_table.result _ _ (λ t late low. absurd (late_status _ t late low)) c.serve_table.ensures.late

pub returns-in-Err-clause-cause : goal.returns-in-Err-clause-cause
returns-in-Err-clause-cause g c = λ words spelled. cause_weaker _ words _ _ c.in-Err.trouble inl (c.in-Err.ensures.cause words spelled)
