use Rattle.std.proofs.Common.{rules, ◌≡◌, sym, ap, ◌∙◌, Some, true, string_bytes}
use Rattle.kp_kore.specs.View.{sort_view}
use Rattle.kp_signature.specs.Nodes.{injects}
use Rattle.kp_signature.specs.Verify.{sort_differs}
use Rattle.kp_signature.specs.View.{signature_view}
use Rattle.kp_signature.proofs.Applied.{upwards, downwards}
use Rattle.kp_signature.proofs.applications.check_upwards.Goals as goal

pub returns-then-subsort-clause-ok : goal.returns-then-subsort-clause-ok
returns-then-subsort-clause-ok c ps =
    upwards (signature_view c.args.signature.now) (string_bytes c.args.symbol.now) (sort_view c.args.lower.now) (sort_view c.args.upper.now) ps c.subsort.result c.subsort.ensures c.if-subsort.true

pub returns-clause-err : goal.returns-clause-err
returns-clause-err c f ps e =
    let inj : injects (signature_view c.args.signature.now) (string_bytes c.args.symbol.now) ≡ true = search rules in
    let first : sort_view c.in_ok-copy.field-0 ≡ sort_view c.args.upper.now = search rules in
    let second : sort_view c.in_ok-copy-2.field-0 ≡ sort_view c.args.lower.now = search rules in
    downwards (signature_view c.args.signature.now) (string_bytes c.args.symbol.now) (sort_view c.args.lower.now) (sort_view c.args.upper.now) ps c.subsort.result c.subsort.ensures c.if-subsort.false inj
    ∙ ap (λ s. Some (sort_differs s (sort_view c.args.lower.now))) (sym first) ∙ ap (λ s. Some (sort_differs (sort_view c.in_ok-copy.field-0) s)) (sym second) ∙ e
