use Rattle.std.proofs.Common.{sym, ◌∙◌, subst}
use Rattle.std.proofs.KnownBytes.{Appends-nil}
use Rattle.kp_conn.specs.Turns.{IsLastPut, no_rest, rest_told}
use Rattle.kp_conn.proofs.Resting.{nothing_left, something_left}
use Rattle.kp_conn.proofs.serving.end.Goals as goal

pub returns-then-is_empty-clause-told : goal.returns-then-is_empty-clause-told
returns-then-is_empty-clause-told g c = no_rest (nothing_left c.args.rest.now (sym c.is_empty.ensures ∙ c.if-is_empty.true)) (Appends-nil (g.K.Sink.held c.args.sink.now))

pub returns-clause-told : goal.returns-clause-told
returns-clause-told g c = rest_told c.put_last.result (something_left c.args.rest.now (sym c.is_empty.ensures ∙ c.if-is_empty.false))
    (subst (λ e. IsLastPut e (g.K.Sink.held c.args.sink.now) (g.K.Sink.held c.put_last.new.sink) c.put_last.result) c.end_of.ensures c.put_last.ensures.told)
