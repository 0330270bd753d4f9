use Rattle.std.proofs.Common.{rules, ◌≡◌}
use Rattle.kp_kore.specs.View.{view, sort_view}
use Rattle.kp_compile.proofs.SpelledParts.{placed_same, placed_ok}
use Rattle.kp_compile.proofs.spelling.placed_at.Goals as goal

pub returns-then-equal : goal.returns-then-equal
returns-then-equal c = placed_same (sort_view c.args.own) (sort_view c.args.sort.now) (view c.args.inner) (c.equal.ensures.0 c.if-equal.true)

pub returns : goal.returns
returns c =
    let copied : sort_view c.in_ok-copy.field-0 ≡ sort_view c.args.sort.now = search rules in
    placed_ok c.injected.result (sort_view c.args.own) (sort_view c.args.sort.now) (sort_view c.in_ok-copy.field-0) (view c.args.inner) c.injected.ensures copied (λ same. absurd (cc (c.equal.ensures.1 same, c.if-equal.false)))
