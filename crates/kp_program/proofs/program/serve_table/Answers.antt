use denote.Param.Send.{sendable}
use Rattle.std.proofs.Common.{inr}
use Rattle.std.proofs.lemmas.Result.{IfErr-weaker, on_err_weaker, on_ok_weaker}
use Rattle.kp_registry.proofs.Crossing.{pass_send}
use Rattle.kp_program.proofs.Served.{breaks_off, late_end, serves_input}
use Rattle.kp_program.proofs.program.serve_table.Goals as goal

pub serve-requires-send-A-Pass : goal.serve-requires-send-A-Pass
serve-requires-send-A-Pass g c = search (pass_send, sendable) depth 20

pub returns-clause-served : goal.returns-clause-served
returns-clause-served g c = λ o is.
    on_ok_weaker c.outcome.result (λ whole. serves_input c.in_ok-service.service.registry c.serve.new.pass o (g.I.Source.left c.args.input.now) (g.I.Source.left c.serve.new.source) (g.O.Sink.held c.args.out.now) (g.O.Sink.held c.serve.new.sink) c.serve.result c.serve.ensures.pass.0 c.in_ok-service.ensures.seats whole
    (c.serve.ensures.served o _ (c.in_ok-service.ensures.seen o is))) c.outcome.ensures.whole

pub returns-clause-front : goal.returns-clause-front
returns-clause-front g c = λ o is.
    on_err_weaker c.outcome.result (λ cut. inr (breaks_off c.in_ok-service.service.registry c.serve.new.pass o (g.I.Source.left c.args.input.now) (g.I.Source.left c.serve.new.source) (g.O.Sink.held c.args.out.now) (g.O.Sink.held c.serve.new.sink) c.serve.result c.serve.ensures.pass.0 c.in_ok-service.ensures.seats cut
    (c.serve.ensures.served o _ (c.in_ok-service.ensures.seen o is)))) c.outcome.ensures.broken

pub returns-clause-late : goal.returns-clause-late
returns-clause-late g c = IfErr-weaker c.outcome.result _ _ (λ t late. late_end c.serve.result _ _ t c.serve.ensures.read.rose c.serve.ensures.rose late) c.outcome.ensures.late
