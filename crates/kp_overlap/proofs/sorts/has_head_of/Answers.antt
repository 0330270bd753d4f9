use Rattle.std.proofs.Common.{◌≡◌, ◌↔◌, ◌∙◌, sym, ap, subst, string_bytes, IsTrue}
use Rattle.kp_kore.specs.Signature.{constructor_of, is_head}
use Rattle.kp_kore.specs.Value.{head_of}
use Rattle.kp_kore.specs.View.{sort_view}
use Rattle.kp_signature.specs.View.{signature_view}
use Rattle.kp_ground.specs.View.{value_view}
use Rattle.kp_overlap.specs.Labels.{HasHeadOf}
use Rattle.kp_overlap.specs.Views.{shape_view}
use Rattle.kp_overlap.proofs.SortLemmas.{head_told}
use Rattle.kp_overlap.proofs.sorts.has_head_of.Goals as goal

pub returns-in-Leaf : goal.returns-in-Leaf
returns-in-Leaf c =
    let g = signature_view c.args.signature.now in
    let s = sort_view c.args.sort.now in
    let b = c.is_value_of.result in
    subst (λ t. IsTrue b ↔ HasHeadOf g s (shape_view t)) (sym c.in-Leaf.is) (head_told g s (head_of (value_view c.in-Leaf.value)) b c.is_value_of.ensures)

pub returns-in-Made : goal.returns-in-Made
returns-in-Made c =
    let g = signature_view c.args.signature.now in
    let s = sort_view c.args.sort.now in
    let b = c.makes.result in
    let f = string_bytes c.in-Made.constructor.value in
    let e : b ≡ is_head g s (constructor_of f) = c.makes.ensures ∙ ap (λ n. is_head g s (constructor_of n)) (c.deref-in-Made.ensures ∙ ap string_bytes c.deref.ensures) in
    subst (λ t. IsTrue b ↔ HasHeadOf g s (shape_view t)) (sym c.in-Made.is) (head_told g s (constructor_of f) b e)
