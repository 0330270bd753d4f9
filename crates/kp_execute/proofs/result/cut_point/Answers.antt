use Rattle.std.proofs.Common.{rules, ◌≡◌, ◌∷◌, []}
use Rattle.kp_results.specs.View.{next_view, nexts_view}
use Rattle.std.specs.Prelude.{string_bytes}
use Rattle.kp_execute.proofs.EndedLemmas.{cut_written}
use Rattle.std.proofs.lemmas.Result.{err_from_is_err_and}
use Rattle.kp_execute.proofs.result.cut_point.Goals as goal

pub returns-clause-written : goal.returns-clause-written
returns-clause-written c = λ t runs same.
    let one : nexts_view c.add.new.found.items ≡ next_view c.in_ok-next_parts.field-0 ∷ [] = search rules in
    cut_written t c.args.next.now (next_view c.in_ok-next_parts.field-0) (string_bytes c.in_ok-rule.rule) (nexts_view c.add.new.found.items) (c.in_ok-rule.ensures.found t runs) (c.in_ok-next_parts.ensures.written t runs same) one

pub returns-in_err-rule-clause-wants : goal.returns-in_err-rule-clause-wants
returns-in_err-rule-clause-wants c =
    let p = err_from_is_err_and c.from_residual.result c.from_residual.ensures.1 in
    rw (p.1, p.2) (λ is. absurd (c.in_err-rule.ensures.refused is))

pub returns-in_err-next_parts-clause-wants : goal.returns-in_err-next_parts-clause-wants
returns-in_err-next_parts-clause-wants c =
    let p = err_from_is_err_and c.from_residual-in_err-next_parts.result c.from_residual-in_err-next_parts.ensures.1 in
    rw (p.1, p.2) c.in_err-next_parts.ensures.wants
