use Rattle.std.proofs.Common.{ap}
use Rattle.std.specs.Prelude.{string_bytes}
use Rattle.kp_results.specs.View.{nexts_view, reason_view}
use Rattle.kp_execute.proofs.EndedLemmas.{stop_written}
use Rattle.std.proofs.lemmas.Result.{err_from_is_err_and}
use Rattle.kp_execute.proofs.result.terminal.Goals as goal

pub returns-clause-written : goal.returns-clause-written
returns-clause-written c = λ t runs.
    stop_written t c.args.place (string_bytes c.in_ok-rule.rule) (reason_view c.without_nexts.result.reason) (nexts_view c.without_nexts.result.nexts.items) (c.in_ok-rule.ensures.found t runs) (ap reason_view c.without_nexts.ensures.reason) c.without_nexts.ensures.none

pub returns-in_err-rule-clause-refused : goal.returns-in_err-rule-clause-refused
returns-in_err-rule-clause-refused c =
    let p = err_from_is_err_and c.from_residual.result c.from_residual.ensures.1 in
    rw (p.1, p.2) c.in_err-rule.ensures.refused
