use Rattle.std.proofs.Common.{rules, ◌≡◌, ◌∙◌, sym, true, false}
use Rattle.kp_demands.proofs.Lists.{image_at}
use Rattle.kp_signature.specs.View.{signature_view}
use Rattle.kp_literals.specs.Readings.{read_view, clauses_view}
use Rattle.kp_satisfiability.specs.Heads.{IsStanding}
use Rattle.kp_satisfiability.proofs.Along.{image_more}
use Rattle.kp_satisfiability.proofs.HeadSearch.{true_false}
use Rattle.kp_satisfiability.proofs.heads.are_standing.Goals as goal

pub returns-then-not-is_standing : goal.returns-then-not-is_standing
returns-then-not-is_standing c = λ before.
    let g = signature_view c.args.signature.now in
    let no : c.is_standing.result ≡ false = search rules in (
      (λ t. absurd (true_false (sym t))),
      (λ all.
          let own = image_at (λ r. IsStanding g (clauses_view c.args.clauses.now) r.form) read_view c.args.clause.now c.loop-literal.literal-index c.literal-item.result c.loop-literal-test.true c.literal-item.is all in
          absurd (true_false (sym ((c.is_standing.ensures before).1 own) ∙ no))),
    )

pub loop-literal-preserved : goal.loop-literal-preserved
loop-literal-preserved c = λ before.
    let g = signature_view c.args.signature.now in
    let met : c.is_standing.result ≡ true = search rules in
    image_more (λ r. IsStanding g (clauses_view c.args.clauses.now) r.form) read_view c.args.clause.now c.loop-literal.literal-index c.literal-item.result c.loop-literal-test.true c.literal-item.is (c.loop-literal.invariant before)
    ((c.is_standing.ensures before).0 met)
