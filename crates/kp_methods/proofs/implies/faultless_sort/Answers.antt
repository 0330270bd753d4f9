use Rattle.std.proofs.Common.{ap, sym, ◌∙◌}
use Rattle.std.specs.Option.{option_map}
use Rattle.kp_kore.specs.View.{sort_view, view}
use Rattle.kp_signature.specs.View.{signature_view}
use Rattle.kp_sides.specs.View.{side_fault_view}
use Rattle.kp_methods.proofs.Implying.{refused_side}
use Rattle.kp_methods.proofs.implies.faultless_sort.Goals as goal

pub returns-in-Some-clause-failed : goal.returns-in-Some-clause-failed
returns-in-Some-clause-failed c = λ p verifies.
    refused_side (signature_view c.args.signature.now) p (view c.args.body.now) (sort_view c.args.sort) c.refusal.result (side_fault_view c.in-Some.fault) verifies (sym c.in_ok-fault.ensures ∙ ap (option_map side_fault_view) c.in-Some.is) c.refusal.ensures

pub returns-in-None-clause-found : goal.returns-in-None-clause-found
returns-in-None-clause-found c = λ p verifies. record { verifies = verifies; clear = sym c.in_ok-fault.ensures ∙ ap (option_map side_fault_view) c.in-None.is }
