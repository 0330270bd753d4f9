use Rattle.std.proofs.Common.{rules, ◌≡◌, ◌∙◌, ap, sym, subst, true, false, []}
use Rattle.std.specs.Prelude.{Ok, Err}
use Rattle.kp_ground.specs.ConditionView.{condition_view, GivesTruth}
use Rattle.kp_ground.specs.Slots.{is_numbered, left_places, left_variables, condition_reads}
use Rattle.kp_ground.specs.Solves.{bound_names}
use Rattle.kp_ground.proofs.SlotLemmas.{second_so}
use Rattle.kp_rules.specs.Bound.{tests_read}
use Rattle.kp_rules.proofs.Firing.{none_fires, fires_kept, fires_not_told, none_meets, narrow_told, wide_told, kept_bound}
use Rattle.kp_rules.proofs.rule.Rewrite.fires_where.Goals as goal

pub returns-then-not-passed-clause-firing : goal.returns-then-not-passed-clause-firing
returns-then-not-passed-clause-firing c = λ g u binds pass solvable.
    let so : c.args.passed ≡ false = search rules in
    none_fires g c.args.self.now c.args.bindings.items u c.args.passed so binds pass

pub returns-in-Ok-clause-firing : goal.returns-in-Ok-clause-firing
returns-in-Ok-clause-firing c = λ g u binds pass solvable.
    let so : c.args.passed ≡ true = search rules in
    let gives : GivesTruth (Ok c.in-Ok.holds) c.args.bindings.items (condition_view c.args.self.now.condition) =
    subst (λ bs. GivesTruth (Ok c.in-Ok.holds) bs (condition_view c.args.self.now.condition)) c.deref.ensures.value c.in-Ok.ensures in
    fires_kept g c.args.self.now c.args.bindings.items u c.args.passed c.in-Ok.holds c.keep_if.result so gives c.keep_if.ensures binds pass

pub returns-in-Err-clause-firing : goal.returns-in-Err-clause-firing
returns-in-Err-clause-firing c = λ g u binds pass solvable.
    fires_not_told g c.args.self.now c.args.bindings.items u c.in-Err.error
    (subst (λ bs. GivesTruth (Err c.in-Err.error) bs (condition_view c.args.self.now.condition)) c.deref.ensures.value c.in-Err.ensures) binds

pub returns-then-not-passed-clause-narrow : goal.returns-then-not-passed-clause-narrow
returns-then-not-passed-clause-narrow c = λ g u binds pass v meets.
    let so : c.args.passed ≡ false = search rules in
    absurd (none_meets g c.args.self.now c.args.bindings.items u c.args.passed so binds pass v meets)

pub returns-in-Ok-clause-narrow : goal.returns-in-Ok-clause-narrow
returns-in-Ok-clause-narrow c = λ g u binds pass.
    narrow_told g c.args.self.now c.args.bindings.items u c.in-Ok.holds
    (subst (λ bs. GivesTruth (Ok c.in-Ok.holds) bs (condition_view c.args.self.now.condition)) c.deref.ensures.value c.in-Ok.ensures) binds

pub returns-in-Err-clause-number : goal.returns-in-Err-clause-number
returns-in-Err-clause-number c = λ g u binds pass solvable.
    let so : c.args.passed ≡ true = search rules in
    wide_told g c.args.self.now c.args.bindings.items u c.args.passed c.in-Err.error so
    (subst (λ bs. GivesTruth (Err c.in-Err.error) bs (condition_view c.args.self.now.condition)) c.deref.ensures.value c.in-Err.ensures) binds pass solvable

-- the condition reads no variables but those that are bound
pub holds-requires : goal.holds-requires
holds-requires c =
    let r = c.args.self.now in
    let names : left_variables r.left ≡ bound_names c.deref.result.now = sym c.requires ∙ ap bound_names (sym c.deref.ensures.value) in
    let reads : condition_reads (left_variables r.left) r.condition ≡ true
    = second_so (tests_read (left_variables r.left) r.tests.items) (condition_reads (left_variables r.left) r.condition) (second_so (is_numbered [] (left_places r.left)) _ r.left_bound) in
    subst (λ xs. condition_reads xs r.condition ≡ true) names reads

pub returns-in-Ok-clause-bound : goal.returns-in-Ok-clause-bound
returns-in-Ok-clause-bound c = kept_bound c.args.self.now.left c.args.bindings.items c.in-Ok.holds c.keep_if.result c.keep_if.ensures c.requires
