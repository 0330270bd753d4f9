use Rattle.std.proofs.Common.{◌≡◌, ◌∙◌, sym, ap, map, Some}
use Rattle.std.specs.Option.{option_map}
use Rattle.kp_kore.specs.Parts.{SortedName}
use Rattle.kp_kore.specs.View.{sort_view}
use Rattle.kp_signature.specs.View.{signature_view}
use Rattle.kp_symbolic.specs.Terms.{replacement_for}
use Rattle.kp_symbolic.specs.View.{replaced_view, term_view}
use Rattle.kp_step.proofs.PlacedLemmas.{bound_placed}
use Rattle.kp_step.proofs.placed_variables.is_placed.Goals as goal

pub returns-in-Some : goal.returns-in-Some
returns-in-Some c p right bound =
    let g = signature_view c.args.signature.now in
    let bs = map replaced_view c.args.bindings.now in
    let x : SortedName = record { name = c.args.name.now; sort = sort_view c.args.sort.now } in
    let t = term_view c.in-Some.term.now in
    let found : replacement_for bs x.name ≡ Some t = sym c.replacement_of.ensures ∙ ap (option_map (λ u. term_view u.now)) c.in-Some.is in
    bound_placed g p bs x t c.has_sort.result found c.has_sort.ensures.variable c.has_sort.ensures.head right bound
