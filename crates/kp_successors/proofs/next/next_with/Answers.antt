use Rattle.std.proofs.Common.{◌≡◌, ◌++◌, ◌⊎◌, [], refl, subst, option_map, Some, None, slice_get, MatchOption}
use Rattle.std.proofs.lemmas.Result.{IfOk-weaker, IfErr-weaker, on_ok_weaker}
use Rattle.kp_kore.specs.View.{view}
use Rattle.kp_signature.specs.View.{signature_view}
use Rattle.kp_ground.specs.View.{value_view}
use Rattle.kp_rule_sets.specs.Turns.{with_first}
use Rattle.kp_run.specs.Turns.{BodyIsWide, FiresAt}
use Rattle.kp_run.proofs.Taking.{one_at_next, all_of_one, all_of_none, some_at}
use Rattle.kp_successors.specs.Errors.{IsCausedBy}
use Rattle.kp_successors.specs.Turns.{AreNexts, Follows, IsWideAt, next_list}
use Rattle.kp_successors.proofs.Asking.{nexts_after}
use Rattle.kp_successors.proofs.ByHead.{nexts_at_next}
use Rattle.kp_successors.proofs.Refused.{caused_by}
use Rattle.kp_successors.proofs.next.next_with.Goals as goal

pub returns-in-Some-clause-next : goal.returns-in-Some-clause-next
returns-in-Some-clause-next c =
    let g = signature_view c.args.rules.now.signature.value in
    let u = value_view c.args.value.now in
    let n = c.args.priority in
    let rules = c.args.rules.now.rules.items in
    let found : Some c.in-Some.rule.now ≡ slice_get rules c.args.place = subst (λ o. option_map (λ r. r.now) o ≡ slice_get rules c.args.place) c.in-Some.is c.rule_at.ensures in
    let r = c.in-Some.rule.now in
    IfOk-weaker c.next_at.result _ _
    (λ o next before ps nexts. one_at_next (λ rs. AreNexts g u n rs (ps ++ next_list o)) before (slice_get rules c.args.place) r found
    (nexts_after g u n before r ps (ps ++ next_list o) o nexts (subst (λ s. MatchOption o (¬ FiresAt (signature_view s) u n r) (λ p. FiresAt (signature_view s) u n r × Follows (signature_view s) u r.body.value (view p))) c.deref.ensures next) refl))
    c.next_at.ensures.next

pub returns-in-Some-clause-narrow : goal.returns-in-Some-clause-narrow
returns-in-Some-clause-narrow c =
    let g = signature_view c.args.rules.now.signature.value in
    let u = value_view c.args.value.now in
    let n = c.args.priority in
    let rules = c.args.rules.now.rules.items in
    let found : Some c.in-Some.rule.now ≡ slice_get rules c.args.place = subst (λ o. option_map (λ r. r.now) o ≡ slice_get rules c.args.place) c.in-Some.is c.rule_at.ensures in
    on_ok_weaker c.next_at.result (λ isnt. all_of_one (λ r. ¬ IsWideAt g u n r) (slice_get rules c.args.place) c.in-Some.rule.now found (subst (λ s. ¬ IsWideAt (signature_view s) u n c.in-Some.rule.now) c.deref.ensures isnt)) c.next_at.ensures.narrow

pub returns-in-Some-clause-refused : goal.returns-in-Some-clause-refused
returns-in-Some-clause-refused c =
    let g = signature_view c.args.rules.now.signature.value in
    let u = value_view c.args.value.now in
    let n = c.args.priority in
    let rules = c.args.rules.now.rules.items in
    let found : Some c.in-Some.rule.now ≡ slice_get rules c.args.place = subst (λ o. option_map (λ r. r.now) o ≡ slice_get rules c.args.place) c.in-Some.is c.rule_at.ensures in
    let r = c.in-Some.rule.now in
    IfErr-weaker c.next_at.result _ _
    (λ e h. caused_by g (BodyIsWide g u r.body.value ⊎ IsWideAt g u n r) _ e (λ w. some_at (λ q. BodyIsWide g u q.body.value ⊎ IsWideAt g u n q) rules c.args.place r found w)
    (subst (λ s. IsCausedBy (signature_view s) (BodyIsWide (signature_view s) u r.body.value ⊎ IsWideAt (signature_view s) u n r) e) c.deref.ensures h))
    c.next_at.ensures.refused

pub returns-in-None-clause-next : goal.returns-in-None-clause-next
returns-in-None-clause-next c = λ before ps nexts.
    let g = signature_view c.args.rules.now.signature.value in
    let u = value_view c.args.value.now in
    let n = c.args.priority in
    let rules = c.args.rules.now.rules.items in
    let none : None ≡ slice_get rules c.args.place = subst (λ o. option_map (λ r. r.now) o ≡ slice_get rules c.args.place) c.in-None.is c.rule_at.ensures in
    subst (λ o. AreNexts g u n (before ++ with_first o []) (ps ++ [])) none (nexts_at_next g u n before ps nexts)

pub returns-in-None-clause-narrow : goal.returns-in-None-clause-narrow
returns-in-None-clause-narrow c =
    let g = signature_view c.args.rules.now.signature.value in
    let u = value_view c.args.value.now in
    let n = c.args.priority in
    let rules = c.args.rules.now.rules.items in
    let none : None ≡ slice_get rules c.args.place = subst (λ o. option_map (λ r. r.now) o ≡ slice_get rules c.args.place) c.in-None.is c.rule_at.ensures in
    all_of_none (λ r. ¬ IsWideAt g u n r) (slice_get rules c.args.place) none
