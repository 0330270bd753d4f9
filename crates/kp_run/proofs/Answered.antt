-- A state that is stepped has no cause not to be.
use Rattle.std.proofs.Common.{◌≡◌, sym, ap, subst, ◌∙◌, ◌<◌, ◌≤◌, ℕ, true, false, not, arith}
use Rattle.std.specs.Prelude.{Some}
use Rattle.std.specs.List.{AllByRecursion}
use Rattle.kp_kore.specs.Syntax.{KoreSort}
use Rattle.kp_kore.specs.Parts.{term_depth}
use Rattle.kp_kore.specs.Signature.{KoreSignature, IsBelow}
use Rattle.kp_kore.specs.Sorting.{sort_of_term}
use Rattle.kp_kore.specs.View.{sort_view}
use Rattle.kp_signature.specs.View.{signature_view}
use Rattle.kp_kore.specs.Value.{Value}
use Rattle.kp_kore.specs.Sorted.{IsSorted}
use Rattle.kp_kore.specs.Limits.{most_depth}
use Rattle.kp_kore.specs.Rules as model
use Rattle.kp_kore.specs.Theory.{Theory}
use Rattle.kp_kore.specs.Steps.{AnyByRecursion, Fires, HasTurn}
use Rattle.kp_ground.specs.Terms.{stays_narrow}
use Rattle.kp_ground.specs.TermView.{term_view}
use Rattle.kp_ground.specs.View.{value_view}
use Rattle.kp_rules.specs.Bodies.{IsPlain, IsBodyOf, IsCodeOf}
use Rattle.kp_rule_sets.specs.RuleSets.{RunsAs}
use Rattle.kp_rules.specs.declared.rule.RuleBody.{RuleBody}
use Rattle.kp_rules.specs.declared.rule.RuleBody.TheVariants.{Rewrite, Foreign}
use Rattle.kp_rule_sets.specs.declared.rule_set.RuleSet.{RuleSet}
use Rattle.kp_rules.proofs.Fired.{fired_under}
use Rattle.kp_compile.specs.declared.state.GroundState.{GroundState}
use Rattle.kp_run.specs.declared.firing.GroundFiring.{GroundFiring}
use Rattle.kp_run.specs.Runs.{IsStuck, written_of}
use Rattle.kp_compile.specs.Spelled.{spelling}
use Rattle.kp_run.specs.Causes.{HasWideCondition, WideRight, HasWideRight, Chooses, IsWrittenAt, IsWrittenAs, IsWrittenBy, StepsTooDeep, IsNotStepped, wide_condition, several, chooses, wide_right, deep}
use Rattle.kp_run.specs.Turns.{BodyIsWide, IsAfterFiring, IsFollowed}
use Rattle.kp_run.proofs.Among.{one_all, one_any, of_some, none_in, zip_any_back, no_two, one_not_two}
use Rattle.kp_run.proofs.Theories.{FiresWith, FiresAfter, IsOneOf, fired, fires_first, rewrites_only_to, no_step_after}

wide_back : (g : KoreSignature) (u : Value) (m : model.RuleBody) (b : RuleBody) → IsSorted g u → IsBodyOf g m b → HasWideCondition g u m → BodyIsWide g u b
wide_back g u (model.rewrite w) (Rewrite r) s is h = record {
  valuation = h.valuation;
  meets = record { matches = is.left h.valuation ∙ h.matches; tests = (is.tests h.valuation (subst (IsSorted g) (sym h.matches) s)).1 h.sorts };
  wide = is.condition_narrow h.valuation ∙ ap not h.wide;
}
wide_back g u (model.foreign_rule l) (Foreign k) s is h = absurd h
wide_back g u (model.rewrite w) (Foreign k) s is h = absurd is
wide_back g u (model.foreign_rule l) (Rewrite r) s is h = absurd is

none_wide : (t : Theory) (rules : RuleSet) (u : Value) → RunsAs t rules → IsSorted t.signature u → AllByRecursion (λ r. ¬ BodyIsWide (signature_view rules.signature.value) u r.body.value) rules.rules.items →
    AnyByRecursion (λ m. HasWideCondition t.signature u m.body) t.rules → ⊥
none_wide t rules u runs s narrow some =
    let g = t.signature in
    none_in (λ r. ¬ BodyIsWide g u r.body.value) (λ r. BodyIsWide g u r.body.value) (λ r isnt is. isnt is) rules.rules.items
    (subst (λ g. AllByRecursion (λ r. ¬ BodyIsWide g u r.body.value) rules.rules.items) runs.signature narrow)
    (zip_any_back (IsCodeOf g) (λ r. BodyIsWide g u r.body.value) (λ m. HasWideCondition g u m.body) (λ m r is h. wide_back g u m.body r.body.value s is.is_body h) t.rules rules.rules.items runs.each some)

-- where none fires
pub stuck_without : (t : Theory) (rules : RuleSet) (s : GroundState) → RunsAs t rules → IsSorted t.signature (value_view s.value) →
    AllByRecursion (λ r. ¬ BodyIsWide (signature_view rules.signature.value) (value_view s.value) r.body.value) rules.rules.items → IsStuck t (value_view s.value) → IsNotStepped t (written_of s) → ⊥
stuck_without t rules s runs sorted narrow stuck (wide_condition some) = none_wide t rules (value_view s.value) runs sorted narrow some
stuck_without t rules s runs sorted narrow stuck (several two) =
    no_two (λ m. ¬ Fires t.signature m.body (value_view s.value)) (λ m. HasTurn t m (value_view s.value)) (λ m isnt h. isnt h.fires) t.rules stuck.0 two
stuck_without t rules s runs sorted narrow stuck (chooses some) =
    none_in (λ m. ¬ Fires t.signature m.body (value_view s.value)) (λ m. HasTurn t m (value_view s.value) × Chooses m.body) (λ m isnt h. isnt h.0.fires) t.rules stuck.0 some
stuck_without t rules s runs sorted narrow stuck (wide_right some) =
    none_in (λ m. ¬ Fires t.signature m.body (value_view s.value)) (λ m. HasTurn t m (value_view s.value) × HasWideRight t.signature (value_view s.value) m.body)
    (λ m isnt h. isnt h.0.fires) t.rules stuck.0 some
stuck_without t rules s runs sorted narrow stuck (deep some) =
    none_in (λ m. ¬ Fires t.signature m.body (value_view s.value)) (StepsTooDeep t (written_of s))
    (λ m isnt h. isnt (fires_first t.signature m.body (value_view s.value) h.next h.steps.rewrites)) t.rules stuck.0 some

-- ---- where one has its turn

no_turn_after : (t : Theory) (u : Value) (f : GroundFiring) (m : model.RewriteRule) → IsSorted t.signature u → IsOneOf t u f → FiresAfter t.signature u f.priority m → HasTurn t m u → ⊥
no_turn_after t u f m s one later h =
    let g = t.signature in
    let lt : f.priority < m.priority = later h.fires in
    of_some (λ n. n.priority < m.priority → ¬ Fires g n.body u) (FiresWith g u f) ⊥
    (λ n none k. none (subst (λ p. p < m.priority) (sym k.priority) lt)
    (subst (λ b. Fires g b u) (sym k.meant.body) (let d = fired g u f n s k in (d.valuation, d.fires))))
    t.rules h.none_before (one_any (FiresWith g u f) (FiresAfter g u f.priority) (FiresWith g u f) (λ n h. h) t.rules one)

-- what neither the rule that fires has nor those that go after it, no rule has
not_at_one : (t : Theory) (u : Value) (f : GroundFiring) (S : model.RewriteRule → Type 0) → IsOneOf t u f →
    ((m : model.RewriteRule) → FiresWith t.signature u f m → S m → ⊥) → ((m : model.RewriteRule) → FiresAfter t.signature u f.priority m → S m → ⊥) → AnyByRecursion S t.rules → ⊥
not_at_one t u f S one at later some =
    none_in (λ m. S m → ⊥) S (λ m isnt h. isnt h) t.rules (one_all (FiresWith t.signature u f) (FiresAfter t.signature u f.priority) (λ m. S m → ⊥) at later t.rules one) some

not_wide : (g : KoreSignature) (u : Value) (f : GroundFiring) (next : GroundState) (m : model.RewriteRule) → IsSorted g u → IsFollowed g f next → FiresWith g u f m → HasWideRight g u m.body → ⊥
not_wide g u f next m s followed k h =
    let w : WideRight g u k.meant.meant = subst (HasWideRight g u) k.meant.body h in
    let narrow : stays_narrow w.valuation (term_view f.rewrite.now.right) ≡ true =
    followed.narrow w.valuation ((k.solved w.valuation).1 ((fired_under g k.meant.meant f.rewrite.now k.meant.is u s w.valuation).1 w.fires)) in
    let wide : stays_narrow w.valuation (term_view f.rewrite.now.right) ≡ false = k.meant.is.right_narrow w.valuation ∙ ap not w.wide in
    absurd (cc)

-- the sort that a right side is written at is one
pub one_sort : (g : KoreSignature) (right state a b : KoreSort) → IsWrittenAt g right state a → IsWrittenAt g right state b → ¬ (a ≡ b) → ⊥
one_sort g right state a b at at' apart =
    let beside : ¬ IsBelow g.subsorts right state = λ below. apart (at.above below ∙ sym (at'.above below)) in
    apart (at.apart beside ∙ sym (at'.apart beside))

some_is : (a b : KoreSort) → Some a ≡ Some b → a ≡ b
some_is a b e = cc

-- and so it is that of the rewrite's right term
pub written_there : (g : KoreSignature) (w : model.Rewrite) (right state written : KoreSort) → IsWrittenAs g w state written → sort_of_term g w.right ≡ Some right → IsWrittenAt g right state written
written_there g w right state written is e = subst (λ r. IsWrittenAt g r state written) (some_is is.right right (sym is.is_right ∙ e)) is.place

not_deep : (t : Theory) (s next : GroundState) (f : GroundFiring) (m : model.RewriteRule) → IsSorted t.signature (value_view s.value) → IsAfterFiring t.signature f next → IsFollowed t.signature f next →
    IsWrittenAt t.signature (sort_view f.rewrite.now.right_sort) (sort_view s.sort) (sort_view next.sort) →
    FiresWith t.signature (value_view s.value) f m → StepsTooDeep t (written_of s) m → ⊥
not_deep t s next f m sorted after followed written k d =
    let g = t.signature in
    let same : d.next ≡ value_view next.value = rewrites_only_to g (value_view s.value) f next m d.next sorted after k d.steps.rewrites in
    let by : IsWrittenAs g k.meant.meant (sort_view s.sort) d.sort = subst (λ b. IsWrittenBy g b (sort_view s.sort) d.sort) k.meant.body d.written in
    let at : IsWrittenAt g (sort_view f.rewrite.now.right_sort) (sort_view s.sort) d.sort = written_there g k.meant.meant (sort_view f.rewrite.now.right_sort) (sort_view s.sort) d.sort by k.meant.is.right_sort in
    one_sort g (sort_view f.rewrite.now.right_sort) (sort_view s.sort) d.sort (sort_view next.sort) at written
    (λ e. beyond (term_depth (spelling g (sort_view next.sort) (value_view next.value))) followed.within
    (subst (λ x. most_depth < term_depth (spelling g x (value_view next.value))) e (subst (λ x. most_depth < term_depth (spelling g d.sort x)) same d.deep)))
  where
    beyond : (n : ℕ) → n ≤ most_depth → most_depth < n → ⊥
    beyond n le lt = absurd (omega arith)

-- what a step of a firing comes with
pub record IsStepOf (g : KoreSignature) (s next : GroundState) (f : GroundFiring) : Type 0 where
  pub after : IsAfterFiring g f next
  pub followed : IsFollowed g f next
  pub written : IsWrittenAt g (sort_view f.rewrite.now.right_sort) (sort_view s.sort) (sort_view next.sort)

there_without : (t : Theory) (rules : RuleSet) (s next : GroundState) (f : GroundFiring) → RunsAs t rules → IsSorted t.signature (value_view s.value) →
    AllByRecursion (λ r. ¬ BodyIsWide (signature_view rules.signature.value) (value_view s.value) r.body.value) rules.rules.items → IsOneOf t (value_view s.value) f →
    IsStepOf t.signature s next f → IsNotStepped t (written_of s) → ⊥
there_without t rules s next f runs sorted narrow one step (wide_condition some) = none_wide t rules (value_view s.value) runs sorted narrow some
there_without t rules s next f runs sorted narrow one step (several two) =
    let g = t.signature in
    let u = value_view s.value in
    one_not_two (FiresWith g u f) (FiresAfter g u f.priority) (λ m. HasTurn t m u) (λ m later h. no_turn_after t u f m sorted one later h) t.rules one two
there_without t rules s next f runs sorted narrow one step (chooses some) =
    let g = t.signature in
    let u = value_view s.value in
    not_at_one t u f (λ m. HasTurn t m u × Chooses m.body) one
    (λ m k h. let isnt : ¬ IsPlain k.meant.meant = subst Chooses k.meant.body h.1 in isnt (k.meant.is.plain step.after.chooses))
    (λ m later h. no_turn_after t u f m sorted one later h.0) some
there_without t rules s next f runs sorted narrow one step (wide_right some) =
    let g = t.signature in
    let u = value_view s.value in
    not_at_one t u f (λ m. HasTurn t m u × HasWideRight g u m.body) one
    (λ m k h. not_wide g u f next m sorted step.followed k h.1)
    (λ m later h. no_turn_after t u f m sorted one later h.0) some
there_without t rules s next f runs sorted narrow one step (deep some) =
    let u = value_view s.value in
    not_at_one t u f (StepsTooDeep t (written_of s)) one
    (λ m k d. not_deep t s next f m sorted step.after step.followed step.written k d)
    (λ m later d. no_step_after t u f m d.next sorted one later d.steps) some

pub goes_without : (t : Theory) (rules : RuleSet) (s next : GroundState) (f : GroundFiring) → RunsAs t rules → IsSorted t.signature (value_view s.value) →
    AllByRecursion (λ r. ¬ BodyIsWide (signature_view rules.signature.value) (value_view s.value) r.body.value) rules.rules.items → IsOneOf t (value_view s.value) f →
    IsStepOf (signature_view rules.signature.value) s next f → IsNotStepped t (written_of s) → ⊥
goes_without t rules s next f runs sorted narrow one step =
    there_without t rules s next f runs sorted narrow one (subst (λ g. IsStepOf g s next f) runs.signature step)
