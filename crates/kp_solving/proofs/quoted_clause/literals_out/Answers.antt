use Rattle.std.proofs.Common.{rules, ◌≡◌, ◌≤◌, length}
use Rattle.kp_kore.specs.View.{view, sort_view}
use Rattle.kp_symbolic.specs.Writing.{written_literal}
use Rattle.kp_symbolic.specs.Languages.{language_view}
use Rattle.kp_symbolic.specs.View.{literal_view}
use Rattle.kp_symbolic.specs.declared.clause.Literal.{Literal}
use Rattle.kp_outward.proofs.RoomLemmas.{HasRoomLiteral, all_further, all_done}
use Rattle.kp_solving.proofs.WholeLemmas.{all_literals, written_further}
use Rattle.kp_solving.proofs.quoted_clause.literals_out.Goals as goal

pub returns-clause-written : goal.returns-clause-written
returns-clause-written c =
    let past : length c.args.literals.now ≤ c.loop-literal.literal-index = search rules in
    all_literals (language_view c.args.language.now) (sort_view c.args.sort.now) c.loop-literal.patterns.items c.args.literals.now c.loop-literal.literal-index c.loop-literal.invariant.0 past

pub loop-literal-preserved : goal.loop-literal-preserved
loop-literal-preserved c =
    let g = language_view c.args.language.now in
    let f = λ (l : Literal). written_literal g (sort_view c.args.sort.now) (literal_view l) in
    let written : view c.in_ok-literal_out.field-0.value ≡ f c.literal-item.result = search rules in (
      written_further f c.loop-literal.literal-index c.args.literals.now c.literal-item.result c.loop-literal.patterns.items c.push.new.self.items c.in_ok-literal_out.field-0.value c.loop-literal-test.true c.literal-item.is (search rules) written c.loop-literal.invariant.0,
      all_further (HasRoomLiteral g) c.loop-literal.literal-index c.args.literals.now c.literal-item.result c.loop-literal-test.true c.literal-item.is c.in_ok-literal_out.ensures.room c.loop-literal.invariant.1,
    )

pub returns-clause-room : goal.returns-clause-room
returns-clause-room c =
    let past : length c.args.literals.now ≤ c.loop-literal.literal-index = search rules in
    all_done (HasRoomLiteral (language_view c.args.language.now)) c.loop-literal.literal-index c.args.literals.now past c.loop-literal.invariant.1
