use Rattle.std.proofs.Common.{◌≡◌, ◌∙◌, ap, subst, true}
use Rattle.kp_ground.specs.Slots.{is_numbered, left_places, names_after}
use Rattle.kp_compile.proofs.left_side.compile_left.Goals as goal

pub returns-clause-numbered : goal.returns-clause-numbered
returns-clause-numbered c = subst (λ xs. is_numbered xs (left_places c.in_ok-left.left) ≡ true) c.no_names-names.ensures c.in_ok-left.ensures.numbered

pub returns-clause-names : goal.returns-clause-names
returns-clause-names c = c.in_ok-left.ensures.names ∙ ap (λ xs. names_after xs (left_places c.in_ok-left.left)) c.no_names-names.ensures
