use Rattle.std.proofs.Common.{sym, subst, take, ◌+◌, arith}
use Rattle.std.specs.List.{AllZip}
use Rattle.std.proofs.lemmas.Result.{err_from_is_err_and}
use Rattle.kp_kore.specs.View.{sort_view}
use Rattle.kp_signature.specs.View.{signature_view}
use Rattle.kp_symbolic.specs.View.{clause_view}
use Rattle.kp_compile.proofs.Compiled.{zip_push, zip_whole}
use Rattle.kp_outward.specs.Arranged.{IsWrittenClause, IsSpelledClause}
use Rattle.kp_outward.proofs.FaultlessLemmas.{one_faultless}
use Rattle.kp_outward.proofs.RoomLemmas.{all_further, all_done, HasRoomCodeClause, clauses_room}
use Rattle.kp_outward.proofs.state.clauses_out.Goals as goal

pub loop-clause-preserved : goal.loop-clause-preserved
loop-clause-preserved c =
    let g = signature_view c.args.language.now.signature.now in
    let s = sort_view c.args.sort.now in (
      subst (λ ps. AllZip (IsSpelledClause g s) (take (c.loop-clause.clause-index + 1) c.args.clauses.now) ps) (sym c.in_ok-push.ensures.items)
          (zip_push (IsSpelledClause g s) c.loop-clause.clause-index c.args.clauses.now c.loop-clause.found.items c.clause-item.result c.in_ok-spell.field-0 c.loop-clause-test.true c.clause-item.is c.loop-clause.invariant.0
          (subst (IsWrittenClause g s (clause_view c.clause-item.result)) (sym c.in_ok-spell.ensures) c.in_ok-clause_out.ensures.written)),
      all_further (HasRoomCodeClause g) c.loop-clause.clause-index c.args.clauses.now c.clause-item.result c.loop-clause-test.true c.clause-item.is c.in_ok-clause_out.ensures.room c.loop-clause.invariant.1,
    )

pub returns-clause-written : goal.returns-clause-written
returns-clause-written c =
    zip_whole (IsSpelledClause (signature_view c.args.language.now.signature.now) (sort_view c.args.sort.now)) c.loop-clause.clause-index c.args.clauses.now c.loop-clause.found.items (omega arith) c.loop-clause.invariant.0

pub returns-clause-room : goal.returns-clause-room
returns-clause-room c =
    let g = signature_view c.args.language.now.signature.now in
    clauses_room g c.args.clauses.now (all_done (HasRoomCodeClause g) c.loop-clause.clause-index c.args.clauses.now (omega arith) c.loop-clause.invariant.1)

pub returns-in_err-clause_out-clause-refused : goal.returns-in_err-clause_out-clause-refused
returns-in_err-clause_out-clause-refused c =
    let g = signature_view c.args.language.now.signature.now in
    let p = err_from_is_err_and c.from_residual.result c.from_residual.ensures.1 in
    rw (p.1, p.2) (λ all. c.in_err-clause_out.ensures.refused (one_faultless g c.args.clauses.now c.loop-clause.clause-index c.clause-item.result c.loop-clause-test.true c.clause-item.is all))
