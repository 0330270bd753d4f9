use Rattle.std.proofs.Common.{rules, ◌≡◌, subst}
use Rattle.std.proofs.lemmas.Result.{IfOk-weaker}
use Rattle.std.specs.Prelude.{MatchOption, string_bytes}
use Rattle.kp_ground.specs.View.{value_view}
use Rattle.kp_kore.specs.Steps.{IsUnknown}
use Rattle.kp_run.specs.Runs.{IsFirstUnknown, written_of}
use Rattle.kp_run.proofs.Runs.{first_is_unknown}
use Rattle.kp_run.proofs.States.{one_told, one_not_answered}
use Rattle.kp_run.proofs.Theories.{told_here}
use Rattle.kp_run.proofs.step.next_of.Goals as goal

pub returns-in_ok-from_str-in-Some-clause-next : goal.returns-in_ok-from_str-in-Some-clause-next
returns-in_ok-from_str-in-Some-clause-next c = λ t runs s.
    let u = value_view c.args.state.now.value in
    let told = told_here t c.args.rules.now u c.in_ok-rule.field-0 runs s c.in_ok-rule.ensures in
    let first : IsFirstUnknown t u (string_bytes c.in-Some.rule.now.id.value) = subst (λ o. MatchOption o (¬ IsUnknown t u) (λ f. IsFirstUnknown t u (string_bytes f.now.id.value))) c.in-Some.is told in
    let same : string_bytes c.in-Some.rule.now.id.value ≡ string_bytes c.in_ok-from_str-in-Some.field-0 = search rules in
    subst (IsFirstUnknown t u) same first

pub returns-in_ok-from_str-in-Some-clause-answered : goal.returns-in_ok-from_str-in-Some-clause-answered
returns-in_ok-from_str-in-Some-clause-answered c = λ t runs s.
    let u = value_view c.args.state.now.value in
    let told = told_here t c.args.rules.now u c.in_ok-rule.field-0 runs s c.in_ok-rule.ensures in
    let first : IsFirstUnknown t u (string_bytes c.in-Some.rule.now.id.value) = subst (λ o. MatchOption o (¬ IsUnknown t u) (λ f. IsFirstUnknown t u (string_bytes f.now.id.value))) c.in-Some.is told in
    one_told t (written_of c.args.state.now) (λ known. absurd (known (first_is_unknown t u (string_bytes c.in-Some.rule.now.id.value) first)))

pub returns-in-None-clause-next : goal.returns-in-None-clause-next
returns-in-None-clause-next c = λ t runs s.
    let u = value_view c.args.state.now.value in
    let told = told_here t c.args.rules.now u c.in_ok-rule.field-0 runs s c.in_ok-rule.ensures in
    let known : ¬ IsUnknown t u = subst (λ o. MatchOption o (¬ IsUnknown t u) (λ f. IsFirstUnknown t u (string_bytes f.now.id.value))) c.in-None.is told in
    c.known_next.ensures.next t runs s known

pub returns-in-None-clause-written : goal.returns-in-None-clause-written
returns-in-None-clause-written c = λ t runs s.
    let u = value_view c.args.state.now.value in
    let told = told_here t c.args.rules.now u c.in_ok-rule.field-0 runs s c.in_ok-rule.ensures in
    let known : ¬ IsUnknown t u = subst (λ o. MatchOption o (¬ IsUnknown t u) (λ f. IsFirstUnknown t u (string_bytes f.now.id.value))) c.in-None.is told in
    c.known_next.ensures.written t runs s known

pub returns-in-None-clause-answered : goal.returns-in-None-clause-answered
returns-in-None-clause-answered c = λ t runs s.
    let u = value_view c.args.state.now.value in
    let told = told_here t c.args.rules.now u c.in_ok-rule.field-0 runs s c.in_ok-rule.ensures in
    let known : ¬ IsUnknown t u = subst (λ o. MatchOption o (¬ IsUnknown t u) (λ f. IsFirstUnknown t u (string_bytes f.now.id.value))) c.in-None.is told in
    IfOk-weaker c.known_next.result _ _
    (λ n stepped. one_told t (written_of c.args.state.now) (λ _. stepped))
    (c.known_next.ensures.answered t runs s known)

pub returns-in-None-clause-not_answered : goal.returns-in-None-clause-not_answered
returns-in-None-clause-not_answered c = λ t runs s.
    let u = value_view c.args.state.now.value in
    let told = told_here t c.args.rules.now u c.in_ok-rule.field-0 runs s c.in_ok-rule.ensures in
    let known : ¬ IsUnknown t u = subst (λ o. MatchOption o (¬ IsUnknown t u) (λ f. IsFirstUnknown t u (string_bytes f.now.id.value))) c.in-None.is told in
    one_not_answered t (written_of c.args.state.now) c.known_next.result known (c.known_next.ensures.not_answered t runs s known)
