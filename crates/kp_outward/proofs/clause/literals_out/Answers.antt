use Rattle.std.proofs.Common.{rules, arith, ◌≡◌}
use Rattle.kp_kore.specs.View.{sort_view}
use Rattle.kp_signature.specs.View.{signature_view}
use Rattle.kp_symbolic.specs.Writing.{written_literal}
use Rattle.kp_symbolic.specs.View.{literal_view}
use Rattle.kp_outward.specs.View.{spelled_view}
use Rattle.kp_outward.proofs.RoomLemmas.{HasRoomLiteral, all_further, all_done, written_further, written_all}
use Rattle.kp_outward.proofs.clause.literals_out.Goals as goal

pub loop-literal-preserved : goal.loop-literal-preserved
loop-literal-preserved c =
    let g = signature_view c.args.language.now.signature.now in
    let s = sort_view c.args.sort.now in
    let written : spelled_view c.in_ok-spell.field-0 ≡ written_literal g s (literal_view c.literal-item.result) = search rules in (
      written_further spelled_view (written_literal g s) literal_view c.loop-literal.literal-index c.args.literals.now c.literal-item.result c.loop-literal.found.items c.push.new.self.items c.in_ok-spell.field-0 c.loop-literal-test.true c.literal-item.is c.in_ok-push.ensures.items written c.loop-literal.invariant.0,
      all_further (HasRoomLiteral g) c.loop-literal.literal-index c.args.literals.now c.literal-item.result c.loop-literal-test.true c.literal-item.is c.in_ok-literal_out.ensures.room c.loop-literal.invariant.1,
    )

pub returns-clause-written : goal.returns-clause-written
returns-clause-written c =
    let g = signature_view c.args.language.now.signature.now in
    written_all spelled_view (written_literal g (sort_view c.args.sort.now)) literal_view c.loop-literal.literal-index c.args.literals.now c.loop-literal.found.items _ (omega arith) c.loop-literal.invariant.0

pub returns-clause-room : goal.returns-clause-room
returns-clause-room c = all_done (HasRoomLiteral (signature_view c.args.language.now.signature.now)) c.loop-literal.literal-index c.args.literals.now (omega arith) c.loop-literal.invariant.1
