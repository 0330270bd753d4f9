use Rattle.std.proofs.Common.{◌≡◌, ◌++◌, ap, subst, ◌∙◌, map, IfOk}
use Rattle.std.specs.List.{flat_map}
use Rattle.std.proofs.lemmas.Grind.{flat_map-append}
use Rattle.kp_kore.specs.Parts.{free_variables, subpatterns}
use Rattle.kp_kore.specs.View.{view}
use Rattle.kp_compile.specs.Parts.{seen}
use Rattle.kp_claim_sentences.specs.Claims.{are_apart, bound_at}
use Rattle.kp_claim_sentences.proofs.names.are_clear.Goals as goal

pub returns : goal.returns
returns c =
    let l = view c.args.sides.left.now in
    let r = view c.args.sides.right.now in
    let names = map (λ x. x.name) (free_variables l ++ free_variables r) in
    subst (λ xs. IfOk c.are_apart.result (λ b. b ≡ are_apart names xs))
    (ap (flat_map bound_at) (ap seen c.deref.ensures.value ∙ c.in_ok-add_subpatterns.ensures ∙ ap (λ xs. xs ++ subpatterns r) c.in_ok-parts.ensures) ∙ flat_map-append bound_at (subpatterns l) (subpatterns r))
    (c.are_apart.ensures names c.in_ok-names.ensures)
