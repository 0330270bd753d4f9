use Rattle.std.proofs.Common.{ap, subst, sym, ◌∙◌}
use Rattle.kp_kore.specs.Implied.{not_valid, valid}
use Rattle.kp_kore.specs.Syntax.{bottom, top}
use Rattle.kp_kore.specs.View.{sort_view, view}
use Rattle.kp_symbolic.specs.Endings.{answered, what_is_undecided}
use Rattle.kp_implies.specs.Promises.{IsRightFor}
use Rattle.kp_methods.specs.ImpliedLines.{IsAnswerOf}
use Rattle.kp_methods.proofs.Implying.{answer_of, not_valid_found, undecided_found, vacuous_found, valid_found, verifies_at}
use Rattle.kp_methods.proofs.implies.told_line.Goals as goal

pub returns-in-NotValid : goal.returns-in-NotValid
returns-in-NotValid c = λ g a b h. c.result_line.ensures g a b (answer_of g a b c.args.told (answered not_valid) h (not_valid_found g h.left h.right (subst (IsRightFor g h.left h.right) c.in-NotValid.is h.found)))

pub returns-in-Valid : goal.returns-in-Valid
returns-in-Valid c = λ g a b h.
    let s = sort_view c.args.told.sort in
    let k = c.in-Valid.substitution in
    let right = valid_found g h.left h.right s k (verifies_at g a b c.args.told h) (subst (IsRightFor g h.left h.right) c.in-Valid.is h.found) in
    c.result_line-in-Valid.ensures g a b (subst (λ r. IsAnswerOf g a b (answered r)) (sym (c.valid_at.ensures ∙ ap (λ z. valid (top s) (view z)) c.into_inner.ensures)) (answer_of g a b c.args.told (answered (valid (top s) (view k.value))) h right))

pub returns-in-Vacuous : goal.returns-in-Vacuous
returns-in-Vacuous c = λ g a b h.
    let s = sort_view c.args.told.sort in
    c.vacuous_line.ensures g a b (answer_of g a b c.args.told (answered (valid (bottom s) (top s))) h (vacuous_found g h.left h.right s (verifies_at g a b c.args.told h) (subst (IsRightFor g h.left h.right) c.in-Vacuous.is h.found)))

pub returns-in-Undecided : goal.returns-in-Undecided
returns-in-Undecided c = λ g a b h.
    let f = undecided_found g h.left h.right c.in-Undecided.undecided (subst (IsRightFor g h.left h.right) c.in-Undecided.is h.found) in
    c.undecided_line.ensures g a b f.0 (answer_of g a b c.args.told (what_is_undecided f.0) h f.1) f.2
