use Rattle.std.proofs.Common.{◌≡◌, sym, ◌∙◌, ap, subst, length, arith}
use Rattle.std.specs.Prelude.{IfOk, string_bytes}
use Rattle.kp_symbolic.specs.Languages.{language_view}
use Rattle.kp_symbolic.specs.View.{variable_view, clauses_view}
use Rattle.kp_case_laws.specs.Narrowings.{are_never}
use Rattle.kp_unify.proofs.NarrowedLemmas.{other_of_some, other_of_none, other_is_another}
use Rattle.kp_unify.proofs.narrow.other_head.Goals as goal

pub returns-then-arguments-gt0 : goal.returns-then-arguments-gt0
returns-then-arguments-gt0 c new e m = c.in_ok-clauses.ensures ∙ other_of_some (language_view c.args.language.now) (variable_view c.args.variable.now.value) (string_bytes c.args.symbol.now.value) new c.args.arguments e (omega (arith, c.if-arguments-gt0.true))

pub returns-then-are_never : goal.returns-then-are_never
returns-then-are_never c new e m =
    let none : length new ≡ 0 = omega (arith, e, c.if-arguments-gt0.false) in
    let never = ap are_never (sym c.in_ok-clauses.ensures ∙ ap clauses_view (sym c.deref.ensures.value)) ∙ sym c.are_never.ensures ∙ c.if-are_never.true in
    c.in_ok-clauses.ensures ∙ other_of_none (language_view c.args.language.now) (variable_view c.args.variable.now.value) (string_bytes c.args.symbol.now.value) new none never

pub returns : goal.returns
returns c new e m =
    let none : length new ≡ 0 = omega (arith, e, c.if-arguments-gt0.false) in
    let never = ap are_never (sym c.in_ok-clauses.ensures ∙ ap clauses_view (sym c.deref.ensures.value)) ∙ sym c.are_never.ensures ∙ c.if-are_never.false in
    subst (λ z. IfOk c.another_value.result (λ cs. clauses_view cs.items ≡ z)) (other_is_another (language_view c.args.language.now) (variable_view c.args.variable.now.value) (string_bytes c.args.symbol.now.value) new none never) (c.another_value.ensures m)
