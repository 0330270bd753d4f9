use Rattle.std.proofs.Common.{sym, subst, take, ◌+◌, arith}
use Rattle.std.specs.List.{AllZip}
use Rattle.kp_compile.proofs.Compiled.{zip_push, zip_whole}
use Rattle.kp_results.specs.View.{next_view}
use Rattle.kp_execute.specs.Written.{IsNextWritten}
use Rattle.kp_execute.proofs.EndedLemmas.{zip_seen}
use Rattle.std.proofs.lemmas.Result.{err_from_is_err_and}
use Rattle.kp_symbolic.specs.Languages.{language_view}
use Rattle.kp_execute.specs.Wants.{NextWants}
use Rattle.kp_execute.proofs.WantsLemmas.{any_at}
use Rattle.kp_execute.proofs.next_states.all_next_parts.Goals as goal

pub loop-next-preserved : goal.loop-next-preserved
loop-next-preserved c = λ t runs same.
    subst (λ ys. AllZip (λ n x. IsNextWritten t n (next_view x)) (take (c.loop-next.next-index + 1) c.args.nexts.now) ys) (sym c.in_ok-add.ensures)
    (zip_push (λ n x. IsNextWritten t n (next_view x)) c.loop-next.next-index c.args.nexts.now c.loop-next.found.items c.next-item.result c.in_ok-next_parts.field-0 c.loop-next-test.true c.next-item.is (c.loop-next.invariant t runs same) (c.in_ok-next_parts.ensures.written t runs same))

pub returns-clause-written : goal.returns-clause-written
returns-clause-written c = λ t runs same.
    zip_seen (IsNextWritten t) next_view c.args.nexts.now c.loop-next.found.items
    (zip_whole (λ n x. IsNextWritten t n (next_view x)) c.loop-next.next-index c.args.nexts.now c.loop-next.found.items (omega arith) (c.loop-next.invariant t runs same))

pub returns-in_err-next_parts-clause-wants : goal.returns-in_err-next_parts-clause-wants
returns-in_err-next_parts-clause-wants c =
    let g = language_view c.args.language.now in
    let p = err_from_is_err_and c.from_residual.result c.from_residual.ensures.1 in
    rw (p.1, p.2) (λ is. any_at (NextWants g) c.args.nexts.now c.loop-next.next-index c.next-item.result c.loop-next-test.true c.next-item.is (c.in_err-next_parts.ensures.wants is))
