use Rattle.std.proofs.Common.{ℕ, ◌↔◌, ◌⊎◌, List, subst}
use Rattle.kp_signature.specs.Spans.{IsWithin}
use Rattle.kp_signature.specs.declared.spans.Span.{Span}
use Rattle.kp_signature.proofs.spans.with_spans.Goals as goal

pub returns-then-not-stands_behind : goal.returns-then-not-stands_behind
returns-then-not-stands_behind c =
    subst (λ (l : List Span). (j : ℕ) → IsWithin c.in_ok-merged.field-0.items j ↔ (IsWithin l j ⊎ IsWithin c.args.more.now j)) c.deref-then-not-stands_behind.ensures.value c.in_ok-merged.ensures
