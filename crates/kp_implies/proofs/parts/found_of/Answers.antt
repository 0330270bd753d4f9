use Rattle.kp_symbolic.specs.View.{state_view}
use Rattle.kp_unify.specs.Views.{signature_of}
use Rattle.kp_implies.proofs.FoundLemmas.{some_found, none_found, open_found}
use Rattle.kp_implies.proofs.parts.found_of.Goals as goal

pub returns-in-SomeValuation : goal.returns-in-SomeValuation
returns-in-SomeValuation c sorted = some_found (signature_of c.args.setting.now) (state_view c.args.state.now) c.in_ok-decide.field-0 (c.in_ok-decide.ensures sorted) c.in-SomeValuation.is

pub returns-in-NoValuation : goal.returns-in-NoValuation
returns-in-NoValuation c sorted = none_found (signature_of c.args.setting.now) (state_view c.args.state.now) c.in_ok-decide.field-0 (c.in_ok-decide.ensures sorted) c.in-NoValuation.is

pub returns-in_ok-open-in-Undecided : goal.returns-in_ok-open-in-Undecided
returns-in_ok-open-in-Undecided c sorted =
    open_found (signature_of c.args.setting.now) (state_view c.args.state.now) c.in-Undecided.shown c.in-Undecided.over c.in_ok-decide.field-0 c.in_ok-open-in-Undecided.open (c.in_ok-decide.ensures sorted) c.in-Undecided.is c.in_ok-open-in-Undecided.ensures
