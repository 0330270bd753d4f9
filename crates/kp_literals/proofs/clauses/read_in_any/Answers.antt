use Rattle.kp_signature.specs.View.{signature_view}
use Rattle.kp_symbolic.specs.States.{atom_variables}
use Rattle.kp_symbolic.specs.View.{literal_view}
use Rattle.kp_literals.proofs.UnknownLemmas.{said_among}
use Rattle.kp_literals.proofs.clauses.read_in_any.Goals as goal

pub returns-clause-kinds : goal.returns-clause-kinds
returns-clause-kinds c =
    let g = signature_view c.args.signature.now in
    let xs = atom_variables (literal_view c.args.literal.now).atom in
    c.read.ensures.kinds g (said_among g xs c.form_of.result c.form_of.ensures.kinds c.form_of.ensures.unknowns)
