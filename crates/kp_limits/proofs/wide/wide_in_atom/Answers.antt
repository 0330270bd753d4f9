use Rattle.std.proofs.Common.{◌≡◌, sym, subst, ◌∙◌}
use Rattle.std.specs.Option.{option_map}
use Rattle.kp_signature.specs.View.{signature_view}
use Rattle.kp_symbolic.specs.Sources.{atom_parts}
use Rattle.kp_symbolic.specs.View.{atom_view, term_view}
use Rattle.kp_limits.specs.Calls.{call_view}
use Rattle.kp_limits.specs.Wide.{first_wide_among}
use Rattle.kp_limits.proofs.WideLemmas.{sides_are}
use Rattle.kp_limits.proofs.wide.wide_in_atom.Goals as goal

pub returns-in-Same : goal.returns-in-Same
returns-in-Same c =
    let g = signature_view c.args.signature.now in
    subst (λ a. option_map call_view c.wide_in_two.result ≡ first_wide_among g (atom_parts (atom_view a))) (sym c.in-Same.is)
    (c.wide_in_two.ensures ∙ sides_are g (term_view c.in-Same.left) (term_view c.in-Same.right))
