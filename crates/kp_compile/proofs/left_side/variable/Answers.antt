use Rattle.std.proofs.Common.{rules, ◌≡◌, ◌∙◌, ap, [], ◌∷◌, string_bytes}
use Rattle.kp_kore.specs.Syntax.{Text}
use Rattle.kp_ground.specs.Slots.{Place, left_places}
use Rattle.kp_ground.specs.declared.left_side.CompiledLeft.{the_lemmas}
use Rattle.kp_ground.specs.declared.left_side.CompiledLeft.TheVariants.{Variable}
use Rattle.kp_compile.proofs.left_side.variable.Goals as goal

pub returns-clause-place : goal.returns-clause-place
returns-clause-place c =
    let at : left_places (Variable c.in_ok-shared_name.field-0 c.in_ok-slot.slot) ≡ record { name = string_bytes c.in_ok-shared_name.field-0.value; slot = c.in_ok-slot.slot } ∷ [] = search (rules, the_lemmas) in
    let named : Text → Place = λ x. record { name = x; slot = c.in_ok-slot.slot } in
    (c.in_ok-slot.slot, at ∙ ap (λ x. named x ∷ []) c.in_ok-shared_name.ensures, c.in_ok-slot.ensures.slot)
