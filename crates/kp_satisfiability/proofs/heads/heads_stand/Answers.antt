use Rattle.std.proofs.Common.{rules, ◌≡◌, ◌∙◌, sym, subst, true, false, map}
use Rattle.std.specs.List.{AllByRecursion}
use Rattle.kp_demands.proofs.Lists.{image_at}
use Rattle.kp_signature.specs.View.{signature_view}
use Rattle.kp_literals.specs.Readings.{read_view, clauses_view}
use Rattle.kp_satisfiability.specs.Heads.{IsStanding}
use Rattle.kp_satisfiability.proofs.Along.{image_more}
use Rattle.kp_satisfiability.proofs.HeadSearch.{true_false}
use Rattle.kp_satisfiability.proofs.heads.heads_stand.Goals as goal

pub returns-then-not-are_standing : goal.returns-then-not-are_standing
returns-then-not-are_standing c =
    let g = signature_view c.args.signature.now in
    let no : c.are_standing.result ≡ false = search rules in
    let Stand = AllByRecursion (λ r. IsStanding g (clauses_view c.args.clauses.now) r.form) in (
      (λ t. absurd (true_false (sym t))),
      (λ all.
          let own = image_at Stand (λ d. map read_view d.items) c.args.clauses.now c.loop-i.i c.index-clauses-i.result c.loop-i-test.true c.index-clauses-i.is all in
          absurd (true_false (sym ((c.are_standing.ensures c.loop-i.invariant).1 (subst (λ d. Stand (map read_view d)) (sym c.deref.ensures.value) own)) ∙ no))),
    )

pub loop-i-preserved : goal.loop-i-preserved
loop-i-preserved c =
    let g = signature_view c.args.signature.now in
    let met : c.are_standing.result ≡ true = search rules in
    let Stand = AllByRecursion (λ r. IsStanding g (clauses_view c.args.clauses.now) r.form) in
    image_more Stand (λ d. map read_view d.items) c.args.clauses.now c.loop-i.i c.index-clauses-i.result c.loop-i-test.true c.index-clauses-i.is c.loop-i.invariant
    (subst (λ d. Stand (map read_view d)) c.deref.ensures.value ((c.are_standing.ensures c.loop-i.invariant).0 met))
