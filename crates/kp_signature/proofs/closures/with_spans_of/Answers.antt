use Rattle.std.proofs.Common.{rules, ◌↔◌, ◌⊎◌, List, sym, subst, ◌∙◌}
use Rattle.kp_signature.specs.Spans.{IsWithin}
use Rattle.kp_signature.specs.declared.spans.Span.{Span}
use Rattle.kp_signature.proofs.SpanLemmas.{spans_read}
use Rattle.kp_signature.proofs.closures.with_spans_of.Goals as goal

pub returns-then-number-spans : goal.returns-then-number-spans
returns-then-number-spans c j =
    let read = spans_read c.args.spans.now c.args.number c.index-spans-number.result (search rules) c.index-spans-number.is in
    subst (λ (l : List Span). IsWithin c.in_ok-with_spans.field-0.items j ↔ (IsWithin c.args.all.items j ⊎ IsWithin l j)) (c.deref.ensures.value ∙ sym read) (c.in_ok-with_spans.ensures j)
