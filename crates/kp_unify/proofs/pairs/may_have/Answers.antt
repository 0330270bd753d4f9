use Rattle.std.proofs.Common.{sym, ◌∙◌, true, false}
use Rattle.kp_kore.specs.Signature.{constructor_of}
use Rattle.kp_kore.specs.View.{sort_view}
use Rattle.kp_signature.proofs.HeadLemmas.{is_head-Decides}
use Rattle.kp_unify.specs.Views.{signature_of}
use Rattle.kp_unify.proofs.NarrowedLemmas.{not_told}
use Rattle.kp_unify.proofs.pairs.may_have.Goals as goal

pub returns-then-makes : goal.returns-then-makes
returns-then-makes c heads =
    let is = (is_head-Decides (signature_of c.args.setting.now) (sort_view c.args.sort.now) (constructor_of c.args.symbol.now)).0 (sym c.makes.ensures ∙ c.if-makes.true) in
    ((λ t. (is, (c.is_live.ensures heads).0 t)), (λ h. (c.is_live.ensures heads).1 h.1))

pub returns-else-makes : goal.returns-else-makes
returns-else-makes c heads = (
  (λ t. absurd (not_told c.makes.result c.if-makes.false t)),
  (λ h. c.makes.ensures ∙ (is_head-Decides (signature_of c.args.setting.now) (sort_view c.args.sort.now) (constructor_of c.args.symbol.now)).1 h.0),
)
