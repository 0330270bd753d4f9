use Rattle.std.proofs.Common.{ap, ◌∙◌, codes, [], string_bytes, unwrap_or}
use Rattle.kp_kore.specs.Attributes.{has_mark}
use Rattle.kp_kore.specs.View.{view, sort_view, patterns_view, names_view}
use Rattle.kp_claim_sentences.specs.Claims.{dependencies_of}
use Rattle.kp_claim_files.proofs.FirstFaults.{made_same}
use Rattle.kp_claim_files.proofs.read.item_of.Goals as goal

pub returns : goal.returns
returns c =
    let s = c.args.sides in
    let as_ = patterns_view c.args.statement.now.attributes.items in
    record {
      item = made_same (string_bytes c.args.label) (view c.in_ok-pattern.pattern) (view c.args.statement.now.pattern) (sort_view c.in_ok-copy.field-0) (sort_view s.sort.now)
          (view c.in_ok-claim.claim.left) (view s.left.now) (view c.in_ok-claim.claim.right) (view s.right.now) c.has_mark.result (has_mark (codes "circularity") as_)
          (names_view c.in_ok-depends.depends.items) (unwrap_or (dependencies_of as_) [])
          c.in_ok-pattern.ensures c.in_ok-copy.ensures c.in_ok-claim.ensures.0 c.in_ok-claim.ensures.1
          (c.has_mark.ensures ∙ ap (λ x. has_mark (codes "circularity") (patterns_view x)) c.deref-2.ensures.value)
          (c.in_ok-depends.ensures ∙ ap (λ x. unwrap_or (dependencies_of (patterns_view x)) []) c.deref.ensures.value);
    }
