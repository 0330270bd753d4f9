use Rattle.std.proofs.Common.{subst}
use Rattle.std.specs.Prelude.{string_bytes}
use Rattle.kp_kore.specs.View.{sort_view}
use Rattle.kp_ground.specs.View.{value_view}
use Rattle.kp_rules.specs.Skeletons.{anything, nothing, any_of, one_of, fixed}
use Rattle.kp_symbolic.specs.View.{term_view}
use Rattle.kp_unify.specs.Forms.{form_view, IsAsked}
use Rattle.kp_unify.specs.Views.{signature_of, stage_view}
use Rattle.kp_unify.proofs.PairLemmas.{next_anything, next_nothing}
use Rattle.kp_unify.proofs.PairSteps.{asked_form}
use Rattle.kp_unify.proofs.course.Course.meet_pair.Goals as goal

pub returns-in-Anything : goal.returns-in-Anything
returns-in-Anything c used left p setting next =
    let g = signature_of c.args.setting.now in
    next_anything g used left p (stage_view c.args.self.now) (term_view c.args.pair.now.term)
    (asked_form g used left p (stage_view c.args.self.now) (term_view c.args.pair.now.term) (form_view c.args.pair.now.form) anything (subst (λ a. IsAsked a (form_view c.args.pair.now.form)) c.in-Anything.is c.ask_of.ensures) next)

pub returns-in-Nothing : goal.returns-in-Nothing
returns-in-Nothing c used left p setting next =
    let g = signature_of c.args.setting.now in
    next_nothing g used left p (stage_view c.args.self.now) (term_view c.args.pair.now.term)
    (asked_form g used left p (stage_view c.args.self.now) (term_view c.args.pair.now.term) (form_view c.args.pair.now.form) nothing (subst (λ a. IsAsked a (form_view c.args.pair.now.form)) c.in-Nothing.is c.ask_of.ensures) next)

pub returns-in-Any : goal.returns-in-Any
returns-in-Any c used left p setting next =
    let g = signature_of c.args.setting.now in
    c.meet_any.ensures used left p setting
    (asked_form g used left p (stage_view c.args.self.now) (term_view c.args.pair.now.term) (form_view c.args.pair.now.form) (any_of (sort_view c.in-Any.sort.now)) (subst (λ a. IsAsked a (form_view c.args.pair.now.form)) c.in-Any.is c.ask_of.ensures) next)

pub returns-in-Variable : goal.returns-in-Variable
returns-in-Variable c used left p setting next =
    let g = signature_of c.args.setting.now in
    c.meet_variable.ensures used left p setting
    (asked_form g used left p (stage_view c.args.self.now) (term_view c.args.pair.now.term) (form_view c.args.pair.now.form) (one_of (string_bytes c.in-Variable.name.now.value) (sort_view c.in-Variable.sort.now)) (subst (λ a. IsAsked a (form_view c.args.pair.now.form)) c.in-Variable.is c.ask_of.ensures) next)

pub meet_literal-requires-clause-literal : goal.meet_literal-requires-clause-literal
meet_literal-requires-clause-literal c = (subst (λ a. IsAsked a (form_view c.args.pair.now.form)) c.in-Literal.is c.ask_of.ensures).1

pub returns-in-Literal : goal.returns-in-Literal
returns-in-Literal c used left p setting next =
    let g = signature_of c.args.setting.now in
    c.meet_literal.ensures used left p setting
    (asked_form g used left p (stage_view c.args.self.now) (term_view c.args.pair.now.term) (form_view c.args.pair.now.form) (fixed (value_view c.in-Literal.value.now)) ((subst (λ a. IsAsked a (form_view c.args.pair.now.form)) c.in-Literal.is c.ask_of.ensures).0) next)

pub returns-in-Constructor : goal.returns-in-Constructor
returns-in-Constructor c used left p setting next =
    c.meet_constructor.ensures used left p (form_view c.args.pair.now.form) (subst (λ a. IsAsked a (form_view c.args.pair.now.form)) c.in-Constructor.is c.ask_of.ensures) setting next
