use Rattle.std.proofs.Common.{rules, ◌≡◌, sym, ap, ◌∙◌, Some}
use Rattle.kp_kore.specs.View.{sort_view}
use Rattle.kp_signature.specs.Verify.{sort_differs}
use Rattle.kp_signature.proofs.Faults.{same_is_no_fault, other_is_a_fault}
use Rattle.kp_signature.proofs.rules.check_same.Goals as goal

pub returns-then-equal-clause-ok : goal.returns-then-equal-clause-ok
returns-then-equal-clause-ok c =
    same_is_no_fault (sort_view c.args.expected.now) (sort_view c.args.found.now) (sort_differs (sort_view c.args.expected.now) (sort_view c.args.found.now)) (c.equal.ensures.0 c.if-equal.true)

pub returns-clause-err : goal.returns-clause-err
returns-clause-err c f e =
    let first : sort_view c.in_ok-copy.field-0 ≡ sort_view c.args.expected.now = search rules in
    let second : sort_view c.in_ok-copy-2.field-0 ≡ sort_view c.args.found.now = search rules in
    other_is_a_fault (sort_view c.args.expected.now) (sort_view c.args.found.now) (sort_differs (sort_view c.args.expected.now) (sort_view c.args.found.now)) (λ same. absurd (cc (c.equal.ensures.1 same, c.if-equal.false)))
    ∙ ap (λ s. Some (sort_differs s (sort_view c.args.found.now))) (sym first) ∙ ap (λ s. Some (sort_differs (sort_view c.in_ok-copy.field-0) s)) (sym second) ∙ e
