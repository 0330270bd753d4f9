use Rattle.std.proofs.Common.{◌≡◌, ◌∙◌, sym, ap, subst, true, []}
use Rattle.kp_ground.specs.Slots.{is_numbered, left_places, left_variables, condition_reads}
use Rattle.kp_ground.specs.Solves.{bound_names}
use Rattle.kp_ground.proofs.SlotLemmas.{first_so, second_so}
use Rattle.kp_signature.specs.View.{signature_view}
use Rattle.kp_rules.specs.Bound.{tests_read}
use Rattle.kp_rules.specs.Heads.{PassAs}
use Rattle.kp_rules.proofs.rule.Rewrite.fires_with.Goals as goal

pub pass-requires : goal.pass-requires
pass-requires c =
    let r = c.args.self.now in
    let names : left_variables r.left ≡ bound_names c.deref-2.result.now = sym c.requires ∙ ap bound_names (sym c.deref-2.ensures.value) in
    let reads : tests_read (left_variables r.left) r.tests.items ≡ true
    = first_so (tests_read (left_variables r.left) r.tests.items) (condition_reads (left_variables r.left) r.condition) (second_so (is_numbered [] (left_places r.left)) _ r.left_bound) in
    subst (λ ts. tests_read (bound_names c.deref-2.result.now) ts ≡ true) (sym c.deref.ensures.value) (subst (λ xs. tests_read xs r.tests.items ≡ true) names reads)

pub returns-clause-firing : goal.returns-clause-firing
returns-clause-firing c = λ u binds solvable.
    let g = signature_view c.args.signature.now in
    let told : PassAs g c.args.self.now c.args.bindings.items c.in_ok-passed.passed = rw (c.deref.ensures.value, c.deref-2.ensures.value) at c.in_ok-passed.ensures in
    c.fires_where.ensures.firing g u binds told solvable

pub returns-clause-number : goal.returns-clause-number
returns-clause-number c = λ u binds solvable.
    let g = signature_view c.args.signature.now in
    let told : PassAs g c.args.self.now c.args.bindings.items c.in_ok-passed.passed = rw (c.deref.ensures.value, c.deref-2.ensures.value) at c.in_ok-passed.ensures in
    c.fires_where.ensures.number g u binds told solvable

pub returns-clause-narrow : goal.returns-clause-narrow
returns-clause-narrow c = λ u binds.
    let g = signature_view c.args.signature.now in
    let told : PassAs g c.args.self.now c.args.bindings.items c.in_ok-passed.passed = rw (c.deref.ensures.value, c.deref-2.ensures.value) at c.in_ok-passed.ensures in
    c.fires_where.ensures.narrow g u binds told
