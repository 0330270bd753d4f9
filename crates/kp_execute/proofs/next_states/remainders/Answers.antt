use Rattle.std.proofs.Common.{sym, subst, take, ◌+◌, arith}
use Rattle.std.specs.List.{AllZip}
use Rattle.kp_compile.proofs.Compiled.{zip_push, zip_whole}
use Rattle.kp_results.specs.View.{next_view}
use Rattle.kp_execute.specs.Written.{IsRemainderWritten}
use Rattle.kp_execute.proofs.EndedLemmas.{zip_seen}
use Rattle.std.proofs.lemmas.Result.{err_from_is_err_and}
use Rattle.kp_symbolic.specs.Languages.{language_view}
use Rattle.kp_execute.specs.Wants.{RemainderWants}
use Rattle.kp_execute.proofs.WantsLemmas.{any_at}
use Rattle.kp_execute.proofs.next_states.remainders.Goals as goal

pub loop-part-preserved : goal.loop-part-preserved
loop-part-preserved c = λ t same.
    subst (λ ys. AllZip (λ n x. IsRemainderWritten t n (next_view x)) (take (c.loop-part.part-index + 1) c.args.remainder.now) ys) (sym c.in_ok-add.ensures)
    (zip_push (λ n x. IsRemainderWritten t n (next_view x)) c.loop-part.part-index c.args.remainder.now c.loop-part.found.items c.part-item.result c.in_ok-remainder_parts.field-0 c.loop-part-test.true c.part-item.is (c.loop-part.invariant t same) (c.in_ok-remainder_parts.ensures.written t same))

pub returns-clause-written : goal.returns-clause-written
returns-clause-written c = λ t same.
    zip_seen (IsRemainderWritten t) next_view c.args.remainder.now c.loop-part.found.items
    (zip_whole (λ n x. IsRemainderWritten t n (next_view x)) c.loop-part.part-index c.args.remainder.now c.loop-part.found.items (omega arith) (c.loop-part.invariant t same))

pub returns-in_err-remainder_parts-clause-wants : goal.returns-in_err-remainder_parts-clause-wants
returns-in_err-remainder_parts-clause-wants c =
    let g = language_view c.args.language.now in
    let p = err_from_is_err_and c.from_residual.result c.from_residual.ensures.1 in
    rw (p.1, p.2) (λ is. any_at (RemainderWants g) c.args.remainder.now c.loop-part.part-index c.part-item.result c.loop-part-test.true c.part-item.is (c.in_err-remainder_parts.ensures.wants is))
