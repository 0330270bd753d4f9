use Rattle.std.proofs.Common.{◌≡◌, subst, not}
use Rattle.std.specs.List.{filter}
use Rattle.std.specs.Option.{option_map}
use Rattle.kp_kore.specs.Parts.{is_term}
use Rattle.kp_kore.specs.View.{view}
use Rattle.kp_rules.specs.Shapes.{seen, side_view}
use Rattle.kp_rules.proofs.ShapeSides.{side_from, side_among}
use Rattle.kp_rules.proofs.shape.constrained_side.Goals as goal

pub returns : goal.returns
returns c =
    let members = c.in_ok-members.members.items in
    let terms = c.in_ok-terms.terms.items in
    let predicates = c.in_ok-predicates.predicates.items in
    side_from (view c.args.pattern.now) (seen members) (seen terms) (seen predicates) (option_map side_view c.side_among.result)
    c.in_ok-members.ensures
    (subst (λ ms. seen terms ≡ filter is_term (seen ms)) c.deref.ensures.value c.in_ok-terms.ensures)
    (subst (λ ms. seen predicates ≡ filter (λ q. not (is_term q)) (seen ms)) c.deref-2.ensures.value c.in_ok-predicates.ensures)
    (subst (λ ts. option_map side_view c.side_among.result ≡ side_among (seen ts) (seen predicates)) c.deref-3.ensures.value c.side_among.ensures)
