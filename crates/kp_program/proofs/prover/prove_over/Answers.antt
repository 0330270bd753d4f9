use Rattle.std.proofs.Common.{inl, inr}
use Rattle.std.proofs.lemmas.Result.{IfErr-weaker}
use Rattle.kp_modules.specs.Openings.{opening_of}
use Rattle.kp_command.specs.Commands.{prove_view}
use Rattle.kp_program.proofs.Causes.{late_cause, late_status}
use Rattle.kp_program.proofs.ClaimCauses.{claims_cause}
use Rattle.kp_program.proofs.Proving.{proved_ok, proved_front, theory_over}
use Rattle.kp_program.proofs.prover.prove_over.Goals as goal

pub returns-in-Ok-clause-proved : goal.returns-in-Ok-clause-proved
returns-in-Ok-clause-proved g c = λ l is opens.
    proved_ok (g.H.Shelf.names c.args.shelf.now) _ (prove_view c.args.command.now) l c.in-Ok.claims.items c.deref.result.now c.report_claims.result c.deref.ensures.value
    (c.in-Ok.ensures.loaded l.setting is) (c.report_claims.ensures.reported (opening_of l.definition c.args.command.now.module_name.now) l.setting.theory (theory_over _ _ c.args.command.now.module_name.now l c.args.table opens))

pub returns-in-Ok-clause-front : goal.returns-in-Ok-clause-front
returns-in-Ok-clause-front g c = λ l is opens.
    proved_front (g.H.Shelf.names c.args.shelf.now) _ _ (prove_view c.args.command.now) l c.in-Ok.claims.items c.deref.result.now c.report_claims.result c.deref.ensures.value
    (c.in-Ok.ensures.loaded l.setting is) (c.report_claims.ensures.front (opening_of l.definition c.args.command.now.module_name.now) l.setting.theory (theory_over _ _ c.args.command.now.module_name.now l c.args.table opens))

pub returns-in-Ok-clause-cause : goal.returns-in-Ok-clause-cause
returns-in-Ok-clause-cause g c = λ words l is opens spelled.
    IfErr-weaker c.report_claims.result _ _ (λ t late. late_cause _ words _ _ t inr late) c.report_claims.ensures.late

pub returns-in-Ok-clause-untouched : goal.returns-in-Ok-clause-untouched
returns-in-Ok-clause-untouched g c =
    IfErr-weaker c.report_claims.result _ _ (λ t late low. absurd (late_status _ t late low)) c.report_claims.ensures.late

pub returns-in-Err-clause-cause : goal.returns-in-Err-clause-cause
returns-in-Err-clause-cause g c = λ words l is opens spelled.
    claims_cause (g.H.Shelf.names c.args.shelf.now) words (prove_view c.args.command.now) l _ _ c.in-Err.trouble inl spelled (c.in-Err.ensures.trouble l.setting is)
