use Rattle.std.proofs.Common.{Some, None}
use Rattle.std.proofs.lemmas.Result.{IfOk-weaker}
use Rattle.kp_signature.specs.View.{signature_view}
use Rattle.kp_symbolic.specs.States.{atom_variables}
use Rattle.kp_symbolic.specs.View.{literal_view}
use Rattle.kp_literals.specs.Unknowns.{IsSaidAmong}
use Rattle.kp_literals.proofs.UnknownLemmas.{said_among}
use Rattle.kp_literals.specs.Own.{IsSetApart}
use Rattle.kp_literals.proofs.Unknowns.{apart_among}
use Rattle.kp_literals.proofs.own_clause.own_form.Goals as goal

pub returns-in-Some-clause-kinds : goal.returns-in-Some-clause-kinds
returns-in-Some-clause-kinds c =
    let xs = atom_variables (literal_view c.args.literal.now).atom in
    said_among (signature_view c.args.signature.now) xs (Some c.in-Some.form) c.in-Some.ensures.kinds c.in-Some.ensures.unknowns

pub returns-in-Some-head_form-clause-kinds : goal.returns-in-Some-head_form-clause-kinds
returns-in-Some-head_form-clause-kinds c =
    let xs = atom_variables (literal_view c.args.literal.now).atom in
    apart_among (signature_view c.args.signature.now) xs (Some c.in-Some-head_form.form) c.in-Some-head_form.ensures.apart

pub returns-in-Some-equation_of-clause-kinds : goal.returns-in-Some-equation_of-clause-kinds
returns-in-Some-equation_of-clause-kinds c =
    let g = signature_view c.args.signature.now in
    let xs = atom_variables (literal_view c.args.literal.now).atom in
    IfOk-weaker c.solved_if.result IsSetApart (IsSaidAmong g xs) (λ o h. apart_among g xs o h) c.solved_if.ensures.apart

pub returns-in-None-clause-kinds : goal.returns-in-None-clause-kinds
returns-in-None-clause-kinds c = apart_among (signature_view c.args.signature.now) (atom_variables (literal_view c.args.literal.now).atom) None tt
