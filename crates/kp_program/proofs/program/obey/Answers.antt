use Rattle.std.proofs.Common.{arith, inl, inr, refl, subst}
use Rattle.std.proofs.lemmas.Result.{IfErr-weaker, IfOk-weaker, on_err_weaker}
use Rattle.kp_command.specs.Commands.{IsCommand, prove_view}
use Rattle.kp_command.specs.declared.command.Command.{Command}
use Rattle.kp_command.proofs.OneCommand.{not_both}
use Rattle.kp_program.proofs.Proving.{proof_status_low}
use Rattle.kp_program.proofs.Spelled.{begins_proving, begins_serving, cause_weaker, without_input}
use Rattle.kp_program.proofs.program.obey.Goals as goal

-- ---- stdio

pub returns-in-Ok-clause-done : goal.returns-in-Ok-clause-done
returns-in-Ok-clause-done g c = λ words is.
    (omega arith, inl ((c.in-Stdio.stdio.definition.now, c.in-Stdio.stdio.module_name.now, subst (λ (x : Command). IsCommand words x) c.in-Stdio.is is, c.in-Ok.ensures.served), refl))

pub returns-in-Ok-clause-unread : goal.returns-in-Ok-clause-unread
returns-in-Ok-clause-unread g c = λ words x is spelled. absurd (not_both words _ _ x (subst (λ (x : Command). IsCommand words x) c.in-Stdio.is is) spelled)

pub returns-in-Err-clause-unread : goal.returns-in-Err-clause-unread
returns-in-Err-clause-unread g c = λ words x is spelled. absurd (not_both words _ _ x (subst (λ (x : Command). IsCommand words x) c.in-Stdio.is is) spelled)

pub returns-in-Err-clause-cause : goal.returns-in-Err-clause-cause
returns-in-Err-clause-cause g c = λ words is. c.in-Err.ensures.cause words (inl (subst (λ (x : Command). IsCommand words x) c.in-Stdio.is is))

pub returns-in-Err-clause-front : goal.returns-in-Err-clause-front
returns-in-Err-clause-front g c = λ words is.
    begins_serving (g.H.Shelf.names c.args.shelf.now) (g.I.Source.left c.args.input.now) _ (g.O.Sink.held c.args.out.now) _ _ words c.in-Stdio.stdio.definition.now c.in-Stdio.stdio.module_name.now
    (subst (λ (x : Command). IsCommand words x) c.in-Stdio.is is) c.in-Err.ensures.front

-- ---- prove

pub returns-in-Prove-clause-done : goal.returns-in-Prove-clause-done
returns-in-Prove-clause-done g c = λ words is.
    let command = prove_view c.in-Prove.prove in
    let spelled = subst (λ (x : Command). IsCommand words x) c.in-Prove.is is in
    IfOk-weaker c.prove_file.result _ _ (λ status proved. (proof_status_low _ _ command status proved, inr (command, spelled, proved))) c.prove_file.ensures.proved

pub returns-in-Prove-clause-unread : goal.returns-in-Prove-clause-unread
returns-in-Prove-clause-unread g c = λ words x is spelled. refl

pub returns-in-Prove-clause-cause : goal.returns-in-Prove-clause-cause
returns-in-Prove-clause-cause g c = λ words is.
    IfErr-weaker c.prove_file.result _ _ (λ t because. cause_weaker _ words _ _ t (without_input _ _ _) because)
    (c.prove_file.ensures.cause words (subst (λ (x : Command). IsCommand words x) c.in-Prove.is is))

pub returns-in-Prove-clause-front : goal.returns-in-Prove-clause-front
returns-in-Prove-clause-front g c = λ words is.
    on_err_weaker c.prove_file.result (λ front.
    begins_proving (g.H.Shelf.names c.args.shelf.now) (g.I.Source.left c.args.input.now) _ (g.O.Sink.held c.args.out.now) _ words (prove_view c.in-Prove.prove)
    (subst (λ (x : Command). IsCommand words x) c.in-Prove.is is) refl front) c.prove_file.ensures.front
