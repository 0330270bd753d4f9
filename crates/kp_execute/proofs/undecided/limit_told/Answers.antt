use Rattle.std.proofs.Common.{rules, ◌≡◌, sym, subst, string_bytes, IfOk}
use Rattle.std.proofs.lemmas.Int.{to_z-of_z}
use mir.Syntax.{w128}
use mir.Val.{SFits}
use Rattle.kp_results.specs.View.{undecided_view}
use Rattle.kp_simplify.specs.Told.{parts_of_call}
use Rattle.kp_step.specs.Limits.{IsPassed}
use Rattle.kp_step.specs.Views.{limit_view}
use Rattle.kp_execute.specs.Answers.{IsUndecidedBy, by_depth}
use Rattle.kp_execute.proofs.AnswerLemmas.{open_by_number}
use Rattle.kp_execute.proofs.undecided.limit_told.Goals as goal

pub returns-in-Number : goal.returns-in-Number
returns-in-Number c = λ t s passed.
    let m = c.in-Number.first in
    let n = c.in-Number.second in
    let r = c.wide_number.result in
    let fits_first : SFits w128 m = search rules in
    let fits_second : SFits w128 n = search rules in
    open_by_number t s (string_bytes c.in-Number.symbol.value) m n _ _ r (to_z-of_z w128 m fits_first) (to_z-of_z w128 n fits_second) (subst (λ l. IsPassed t s (limit_view l)) c.in-Number.is passed)
    (subst (λ k. IfOk r (λ u. undecided_view u ≡ parts_of_call k)) c.wide_call.ensures c.wide_number.ensures)

pub returns-in-Depth : goal.returns-in-Depth
returns-in-Depth c = λ t s passed. subst (IsUndecidedBy t s) (sym c.deep_term.ensures) (by_depth c.in-Depth.levels (subst (λ l. IsPassed t s (limit_view l)) c.in-Depth.is passed))
