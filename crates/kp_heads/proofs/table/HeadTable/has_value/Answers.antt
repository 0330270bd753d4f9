use Rattle.std.proofs.Common.{rules, ◌≡◌, false, sym, ◌∙◌, inl, inr}
use Rattle.kp_kore.specs.View.{sort_view}
use Rattle.kp_signature.specs.View.{signature_view}
use Rattle.kp_heads.proofs.Values.{literal_has}
use Rattle.kp_heads.proofs.table.HeadTable.has_value.Goals as goal

pub returns-then-has_literals : goal.returns-then-has_literals
returns-then-has_literals c t =
    (λ _. literal_has (signature_view c.args.signature.now) (sort_view c.args.sort.now) (sym c.has_literals.ensures ∙ c.if-has_literals.true), λ _. c.if-has_literals.true)

pub returns-else-has_literals : goal.returns-else-has_literals
returns-else-has_literals c t =
    let g = signature_view c.args.signature.now in
    let not : c.has_literals.result ≡ false = search rules in
    (λ h. c.is_marked.ensures.sound g t h, λ u. elim (c.is_marked.ensures.others g t u) [ inl h ↦ h | inr l ↦ absurd (cc (c.has_literals.ensures, l, not)) ])
