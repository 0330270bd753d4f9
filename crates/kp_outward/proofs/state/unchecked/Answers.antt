use Rattle.std.proofs.Common.{rules}
use Rattle.kp_kore.specs.View.{view}
use Rattle.kp_signature.specs.View.{signature_view}
use Rattle.kp_symbolic.specs.View.{state_view}
use Rattle.kp_outward.specs.View.{patterns_in}
use Rattle.kp_outward.proofs.ArrangedLemmas.{state_written}
use Rattle.kp_outward.proofs.state.unchecked.Goals as goal

pub returns-clause-written : goal.returns-clause-written
returns-clause-written c =
    state_written (signature_view c.args.language.now.signature.now) (state_view c.args.state.now) (patterns_in c.in_ok-spelled.spelled.items) (view c.in_ok-term.term.value) (view c.in_ok-beside_out.field-0.value)
    (search rules) (search rules) (search rules)
