use Rattle.std.proofs.Common.{rules, ◌≡◌, subst}
use Rattle.kp_kore.specs.View.{sort_view}
use Rattle.kp_signature.specs.View.{signature_view}
use Rattle.kp_symbolic.specs.WellFormed.{IsWellSorted}
use Rattle.kp_symbolic.specs.View.{term_view}
use Rattle.kp_unify.proofs.PlacedLemmas.{placed_by_test}
use Rattle.kp_unify.proofs.meeting.is_placed.Goals as goal

pub returns-then-has_sort : goal.returns-then-has_sort
returns-then-has_sort c p right o =
    let g = signature_view c.args.signature.now in
    let hand = p.state.variables in
    let left = term_view c.args.equality.now.left in
    let other = term_view c.args.equality.now.right in (
      subst (λ s. IsWellSorted g (sort_view s) left) c.deref.ensures (placed_by_test g hand (sort_view c.deref.result.now) left c.has_sort.result c.has_sort.ensures.variable c.has_sort.ensures.head o.0.term c.if-has_sort.true),
      subst (λ s. IsWellSorted g (sort_view s) other) c.deref-then-has_sort.ensures
          (placed_by_test g hand (sort_view c.deref-then-has_sort.result.now) other c.has_sort-then-has_sort.result c.has_sort-then-has_sort.ensures.variable c.has_sort-then-has_sort.ensures.head o.1.term right),
    )
