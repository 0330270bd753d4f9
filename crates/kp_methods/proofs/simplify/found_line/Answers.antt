use Rattle.std.proofs.Common.{ap, sym, ◌∙◌}
use Rattle.kp_kore.specs.View.{sort_view, view}
use Rattle.kp_replies.specs.Failures.{undecided}
use Rattle.kp_methods.proofs.SimplifiedLines.{left_open_found, nothing_found, state_found}
use Rattle.kp_methods.proofs.simplify.found_line.Goals as goal

pub returns-in-State : goal.returns-in-State
returns-in-State c = λ g p verified clear h.
    let f = state_found g p c.args.found c.in-State.pattern c.in-State.is clear h in
    c.state_line.ensures g p f.0 f.1 (f.2 ∙ ap view (sym c.deref.ensures))

pub returns-in-Nothing : goal.returns-in-Nothing
returns-in-Nothing c = λ g p verified clear h. c.nothing_line.ensures g p (nothing_found g p c.args.found (sort_view c.args.sort.now) c.in-Nothing.is verified clear h)

pub returns-in-UndecidedStep : goal.returns-in-UndecidedStep
returns-in-UndecidedStep c = λ g p verified clear h.
    let f = left_open_found g p c.args.found c.in-UndecidedStep.undecided c.in-UndecidedStep.is clear h in
    c.undecided_line.ensures g p f.0 f.1 (ap undecided f.2)
