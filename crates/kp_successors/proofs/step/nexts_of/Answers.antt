use Rattle.std.proofs.Common.{sym, subst, map}
use Rattle.std.proofs.lemmas.Result.{err_from_is_err_and, IfOk-weaker, IfErr-weaker, on_ok_weaker}
use Rattle.kp_kore.specs.View.{view}
use Rattle.kp_signature.specs.View.{signature_view}
use Rattle.kp_ground.specs.View.{value_view}
use Rattle.kp_successors.specs.Successors.{AreSuccessors}
use Rattle.kp_successors.specs.Turns.{IsLeast}
use Rattle.kp_successors.proofs.Stepping.{nexts_are, none_are, nexts_narrow, none_narrow, least_refused, nexts_refused}
use Rattle.kp_successors.proofs.step.nexts_of.Goals as goal

pub returns-in_err-priority-clause-refused : goal.returns-in_err-priority-clause-refused
returns-in_err-priority-clause-refused c = λ t runs s.
    let p = err_from_is_err_and c.from_residual.result c.from_residual.ensures.1 in
    rw (p.1, p.2) (least_refused t c.args.rules.now (value_view c.args.value.now) c.in_err-priority.field-0.0 runs s c.in_err-priority.ensures.refused)

pub returns-in-Some-clause-successors : goal.returns-in-Some-clause-successors
returns-in-Some-clause-successors c = λ t runs s.
    let u = value_view c.args.value.now in
    let least = subst (IsLeast (signature_view c.args.rules.now.signature.value) u c.args.rules.now.rules.items) c.in-Some.is c.in_ok-priority.ensures.least in
    IfOk-weaker c.nexts_at.result _ _ (λ ps next known. nexts_are t c.args.rules.now u c.in-Some.priority _ runs s least next known) c.nexts_at.ensures.nexts

pub returns-in-Some-clause-narrow : goal.returns-in-Some-clause-narrow
returns-in-Some-clause-narrow c = λ t runs s.
    let u = value_view c.args.value.now in
    let least = subst (IsLeast (signature_view c.args.rules.now.signature.value) u c.args.rules.now.rules.items) c.in-Some.is c.in_ok-priority.ensures.least in
    on_ok_weaker c.nexts_at.result (λ rights. nexts_narrow t c.args.rules.now u c.in-Some.priority runs s least c.in_ok-priority.ensures.narrow rights) c.nexts_at.ensures.narrow

pub returns-in-Some-clause-refused : goal.returns-in-Some-clause-refused
returns-in-Some-clause-refused c = λ t runs s.
    let u = value_view c.args.value.now in
    let least = subst (IsLeast (signature_view c.args.rules.now.signature.value) u c.args.rules.now.rules.items) c.in-Some.is c.in_ok-priority.ensures.least in
    IfErr-weaker c.nexts_at.result _ _ (λ e h. nexts_refused t c.args.rules.now u c.in-Some.priority e runs s least h) c.nexts_at.ensures.refused

pub returns-in-None-clause-successors : goal.returns-in-None-clause-successors
returns-in-None-clause-successors c = λ t runs s known.
    let u = value_view c.args.value.now in
    subst (λ ps. AreSuccessors t u t.rules (map view ps)) (sym c.new.ensures.items)
    (none_are t c.args.rules.now u runs s (subst (IsLeast (signature_view c.args.rules.now.signature.value) u c.args.rules.now.rules.items) c.in-None.is c.in_ok-priority.ensures.least))

pub returns-in-None-clause-narrow : goal.returns-in-None-clause-narrow
returns-in-None-clause-narrow c = λ t runs s.
    let u = value_view c.args.value.now in
    none_narrow t c.args.rules.now u runs s (subst (IsLeast (signature_view c.args.rules.now.signature.value) u c.args.rules.now.rules.items) c.in-None.is c.in_ok-priority.ensures.least) c.in_ok-priority.ensures.narrow
