use Rattle.std.proofs.Common.{◌≡◌, ◌↔◌, sym, subst, true, string_bytes}
use Rattle.kp_kore.specs.Signature.{IsHeadOf}
use Rattle.kp_kore.specs.View.{sort_view}
use Rattle.kp_signature.specs.View.{signature_view}
use Rattle.kp_kore.specs.Value.{head_of}
use Rattle.kp_ground.specs.View.{value_view}
use Rattle.kp_ground.proofs.SlotLemmas.{slot_within}
use Rattle.kp_rules.proofs.fires.passes.Goals as goal

pub bound_at-value-requires : goal.bound_at-value-requires
bound_at-value-requires c = slot_within c.args.bindings.now (string_bytes c.args.test.now.name) c.args.test.now.slot c.requires

pub returns : goal.returns
returns c = λ v s.
    subst (λ w. (c.in_ok-has_sort.field-0 ≡ true) ↔ IsHeadOf (signature_view c.args.signature.now) (sort_view c.args.test.now.sort) (head_of w))
    (sym (c.bound_at-value.ensures v (string_bytes c.args.test.now.name) s c.requires)) c.in_ok-has_sort.ensures
