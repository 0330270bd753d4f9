use Rattle.std.proofs.Common.{ap, string_bytes}
use Rattle.std.proofs.lemmas.Result.{IfOk-weaker}
use Rattle.std.specs.Option.{option_map}
use Rattle.kp_kore.specs.View.{view}
use Rattle.kp_signature.specs.View.{signature_view}
use Rattle.kp_sides.specs.View.{sides_fault_view}
use Rattle.kp_sides.proofs.SidesLemmas.{behind_none, idle_first}
use Rattle.kp_sides.proofs.sides.sides_fault.Goals as goal

pub returns-in-Some : goal.returns-in-Some
returns-in-Some c =
    idle_first (signature_view c.args.signature.now) (view c.args.antecedent.now) (view c.args.consequent.now) (option_map string_bytes c.in_ok-name.field-0) (string_bytes c.in-Some.name) c.in_ok-name.ensures (ap (option_map string_bytes) c.in-Some.is)

pub returns-in-None : goal.returns-in-None
returns-in-None c =
    let g = signature_view c.args.signature.now in
    let a = view c.args.antecedent.now in
    let k = view c.args.consequent.now in
    IfOk-weaker c.term_fault.result _ _ (λ o e. behind_none g a k (option_map string_bytes c.in_ok-name.field-0) (option_map sides_fault_view o) c.in_ok-name.ensures (ap (option_map string_bytes) c.in-None.is) e) c.term_fault.ensures
