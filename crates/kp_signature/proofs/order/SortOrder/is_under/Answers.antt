use Rattle.std.proofs.Common.{rules, sym, subst}
use Rattle.kp_signature.specs.Spans.{IsWithin}
use Rattle.kp_signature.proofs.SpanLemmas.{spans_read}
use Rattle.kp_signature.proofs.order.SortOrder.is_under.Goals as goal

pub returns-then-upper-len : goal.returns-then-upper-len
returns-then-upper-len c pairs ix short =
    let spans = c.args.self.now.spans.items in
    let read = spans_read spans c.args.upper c.index.result.now (search rules) c.index.ensures in
    let all = ix.spread c.args.upper c.args.lower (search rules) in (
      λ h. all.0 (subst (λ l. IsWithin l c.args.lower) (sym read) (subst (λ l. IsWithin l c.args.lower) c.deref.ensures.value (c.is_within.ensures.0 h))),
      λ u. c.is_within.ensures.1 (subst (λ l. IsWithin l c.args.lower) (sym c.deref.ensures.value) (subst (λ l. IsWithin l c.args.lower) read (all.1 u))),
    )
