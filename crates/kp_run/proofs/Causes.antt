-- Why a state isn't stepped, from the code's rules to those of the theory.
use Rattle.std.proofs.Common.{◌≡◌, refl, sym, subst, ◌∙◌, ℕ, ◌<◌, ◌≤◌, Bool, true, false, not, arith}
use Rattle.std.specs.List.{AllByRecursion}
use Rattle.kp_kore.specs.Signature.{KoreSignature}
use Rattle.kp_kore.specs.View.{sort_view}
use Rattle.kp_signature.specs.View.{signature_view}
use Rattle.kp_kore.specs.Value.{Value}
use Rattle.kp_kore.specs.Sorted.{IsSorted}
use Rattle.kp_kore.specs.Instance.{Valuation, instance}
use Rattle.kp_kore.specs.Rules as model
use Rattle.kp_kore.specs.Theory.{Theory}
use Rattle.kp_kore.specs.Steps.{Fires, HasTurn, NoneBefore, IsUnknown, AnyByRecursion}
use Rattle.kp_ground.specs.Solves.{Solves}
use Rattle.kp_ground.specs.Terms.{stays_narrow}
use Rattle.kp_ground.specs.TermView.{term_view}
use Rattle.kp_ground.specs.View.{value_view}
use Rattle.kp_rules.specs.Bodies.{IsBodyOf, IsCodeOf}
use Rattle.kp_rule_sets.specs.RuleSets.{RunsAs}
use Rattle.kp_rules.specs.declared.rule.Rule.{Rule}
use Rattle.kp_rules.specs.declared.rule.RuleBody.{RuleBody}
use Rattle.kp_rules.specs.declared.rule.RuleBody.TheVariants.{Rewrite, Foreign}
use Rattle.kp_rule_sets.specs.declared.rule_set.RuleSet.{RuleSet}
use Rattle.kp_rules.proofs.Fired.{fired_under}
use Rattle.kp_compile.specs.declared.state.GroundState.{GroundState}
use Rattle.kp_run.specs.declared.firing.GroundFiring.{GroundFiring}
use Rattle.kp_run.specs.declared.step.Turn.TheVariants.{Several}
use Rattle.kp_run.specs.Causes.{HasWideCondition, HasWideRight, Chooses, IsWrittenAt, IsWrittenBy, StepsTooDeep, IsNotStepped, wide_condition, several, chooses, wide_right, deep}
use Rattle.kp_run.specs.Runs.{written_of}
use Rattle.kp_run.specs.Turns as turns
use Rattle.kp_run.specs.Turns.{BodyFires, BodyIsWide, GoesAfter, FiresAt, IsFiring, OneAmong, IsTurn, IsDeep, NotFollowed}
use Rattle.kp_run.proofs.Among.{one_any, zip_all, zip_any, zip_two}
use Rattle.kp_run.proofs.Theories.{same_firing, only_rewrites_fire, FiresWith, FiresAfter, IsOneOf, one_of, none_before, fired, rewrites_to}

pub not_narrow : (narrow wide : Bool) → narrow ≡ not wide → narrow ≡ false → wide ≡ true
not_narrow narrow true e f = refl
not_narrow narrow false e f = absurd (cc)

-- a condition
wide_meant : (g : KoreSignature) (u : Value) (m : model.RuleBody) (b : RuleBody) → IsSorted g u → IsBodyOf g m b → BodyIsWide g u b → HasWideCondition g u m
wide_meant g u (model.rewrite w) (Rewrite r) s is h =
    let v = h.valuation in
    let same : instance g v w.left ≡ u = sym (is.left v) ∙ h.meets.matches in
    record { valuation = v; sorts = (is.tests v (subst (IsSorted g) (sym same) s)).0 h.meets.tests; matches = same; wide = not_narrow _ _ (is.condition_narrow v) h.wide }
wide_meant g u (model.foreign_rule l) (Foreign k) s is h = absurd h
wide_meant g u (model.rewrite w) (Foreign k) s is h = absurd is
wide_meant g u (model.foreign_rule l) (Rewrite r) s is h = absurd is

pub wide_stops : (t : Theory) (rules : RuleSet) (s : GroundState) → RunsAs t rules → IsSorted t.signature (value_view s.value) →
    AnyByRecursion (λ r. BodyIsWide (signature_view rules.signature.value) (value_view s.value) r.body.value) rules.rules.items → IsNotStepped t (written_of s)
wide_stops t rules s runs sorted h =
    let g = t.signature in
    let u = value_view s.value in
    wide_condition (zip_any (IsCodeOf g) (λ r. BodyIsWide g u r.body.value) (λ m. HasWideCondition g u m.body)
    (λ m r is k. wide_meant g u m.body r.body.value sorted is.is_body k) t.rules rules.rules.items runs.each
    (subst (λ g. AnyByRecursion (λ r. BodyIsWide g u r.body.value) rules.rules.items) runs.signature h))

-- two rules
none_smaller : (t : Theory) (rules : RuleSet) (u : Value) (n : ℕ) → RunsAs t rules → IsSorted t.signature u →
    AllByRecursion (λ r. BodyFires t.signature u r.body.value → n ≤ r.priority) rules.rules.items → NoneBefore t n u
none_smaller t rules u n runs s none =
    let g = t.signature in
    zip_all (IsCodeOf g) (λ r. BodyFires g u r.body.value → n ≤ r.priority) (λ m. m.priority < n → ¬ Fires g m.body u)
    (λ m r is no lt f.
    let b : BodyFires g u r.body.value = (same_firing g m.body r.body.value u s is.is_body).1 f in
    let e = only_rewrites_fire g u r.body.value b in
    let same : m.priority ≡ r.priority = is.is_priority e.0 e.1 in
    let le : n ≤ r.priority = no b in
    absurd (omega arith)) t.rules rules.rules.items runs.each none

turn_at : (t : Theory) (u : Value) (n : ℕ) (m : model.RewriteRule) (r : Rule) → IsSorted t.signature u → NoneBefore t n u → IsCodeOf t.signature m r → FiresAt t.signature u n r → HasTurn t m u
turn_at t u n m r s none is h =
    let g = t.signature in
    let e = only_rewrites_fire g u r.body.value h.0 in
    let same : m.priority ≡ n = is.is_priority e.0 e.1 ∙ h.1 in
    record { fires = (same_firing g m.body r.body.value u s is.is_body).0 h.0; none_before = subst (λ k. NoneBefore t k u) (sym same) none }

pub several_stop : (t : Theory) (rules : RuleSet) (s : GroundState) (n : ℕ) → RunsAs t rules → IsSorted t.signature (value_view s.value) →
    IsTurn (signature_view rules.signature.value) (value_view s.value) rules.rules.items (Several n) → IsNotStepped t (written_of s)
several_stop t rules s n runs sorted turn =
    let g = t.signature in
    let u = value_view s.value in
    let here : IsTurn g u rules.rules.items (Several n) = subst (λ g. IsTurn g u rules.rules.items (Several n)) runs.signature turn in
    several (zip_two (IsCodeOf g) (FiresAt g u n) (λ m. HasTurn t m u)
    (λ m r is k. turn_at t u n m r sorted (none_smaller t rules u n runs sorted here.0) is k) t.rules rules.rules.items runs.each here.1)

-- ---- the rule that has its turn

before_it : (t : Theory) (u : Value) (f : GroundFiring) (m : model.RewriteRule) → IsOneOf t u f → FiresWith t.signature u f m → NoneBefore t m.priority u
before_it t u f m one k = subst (λ n. NoneBefore t n u) (sym k.priority) (none_before t u f one)

turn_of : (t : Theory) (u : Value) (f : GroundFiring) (m : model.RewriteRule) → IsSorted t.signature u → IsOneOf t u f → FiresWith t.signature u f m → HasTurn t m u
turn_of t u f m s one k =
    let h = fired t.signature u f m s k in
    record { fires = subst (λ b. Fires t.signature b u) (sym k.meant.body) (h.valuation, h.fires); none_before = before_it t u f m one k }

pub wide_at : (g : KoreSignature) (u : Value) (f : GroundFiring) (m : model.RewriteRule) → IsSorted g u → ((v : Valuation) → Solves v f.bindings.items → stays_narrow v (term_view f.rewrite.now.right) ≡ false) →
    FiresWith g u f m → HasWideRight g u m.body
wide_at g u f m s wide k =
    let h = fired g u f m s k in
    subst (HasWideRight g u) (sym k.meant.body) (record {
      valuation = h.valuation;
      fires = h.fires;
      wide = not_narrow _ _ (k.meant.is.right_narrow h.valuation) (wide h.valuation ((k.solved h.valuation).1 ((fired_under g k.meant.meant f.rewrite.now k.meant.is u s h.valuation).1 h.fires)));
    })

-- the sort that a firing's right side is written at
pub written_by : (g : KoreSignature) (u : Value) (f : GroundFiring) (m : model.RewriteRule) (s next : GroundState) → FiresWith g u f m →
    IsWrittenAt g (sort_view f.rewrite.now.right_sort) (sort_view s.sort) (sort_view next.sort) → IsWrittenBy g m.body (sort_view s.sort) (sort_view next.sort)
written_by g u f m s next k at =
    subst (λ b. IsWrittenBy g b (sort_view s.sort) (sort_view next.sort)) (sym k.meant.body)
    (record { right = sort_view f.rewrite.now.right_sort; is_right = k.meant.is.right_sort; place = at })

deep_at : (t : Theory) (s : GroundState) (f : GroundFiring) (m : model.RewriteRule) → IsSorted t.signature (value_view s.value) → ¬ IsUnknown t (value_view s.value) → IsOneOf t (value_view s.value) f →
    IsDeep t.signature f (sort_view s.sort) → FiresWith t.signature (value_view s.value) f m → StepsTooDeep t (written_of s) m
deep_at t s f m sorted known one d k = record {
  next = value_view d.next.value;
  steps = record { known = known; none_before = before_it t (value_view s.value) f m one k; rewrites = rewrites_to t.signature (value_view s.value) f d.next m sorted d.after k };
  sort = sort_view d.next.sort;
  written = written_by t.signature (value_view s.value) f m s d.next k d.written;
  deep = d.deep;
}

not_followed_there : (t : Theory) (s : GroundState) (f : GroundFiring) → IsSorted t.signature (value_view s.value) → ¬ IsUnknown t (value_view s.value) →
    IsOneOf t (value_view s.value) f → NotFollowed t.signature f (sort_view s.sort) → IsNotStepped t (written_of s)
not_followed_there t s f sorted known one (turns.chooses e) =
    let g = t.signature in
    let u = value_view s.value in
    chooses (one_any (FiresWith g u f) (FiresAfter g u f.priority) (λ m. HasTurn t m u × Chooses m.body)
    (λ m k. (turn_of t u f m sorted one k, subst Chooses (sym k.meant.body) (k.meant.is.chooses e))) t.rules one)
not_followed_there t s f sorted known one (turns.wide h) =
    let g = t.signature in
    let u = value_view s.value in
    wide_right (one_any (FiresWith g u f) (FiresAfter g u f.priority) (λ m. HasTurn t m u × HasWideRight g u m.body)
    (λ m k. (turn_of t u f m sorted one k, wide_at g u f m sorted h k)) t.rules one)
not_followed_there t s f sorted known one (turns.deep d) =
    let g = t.signature in
    let u = value_view s.value in
    deep (one_any (FiresWith g u f) (FiresAfter g u f.priority) (StepsTooDeep t (written_of s))
    (λ m k. deep_at t s f m sorted known one d k) t.rules one)

-- one rule fires before all others, as the code found
pub one_here : (t : Theory) (rules : RuleSet) (u : Value) (f : GroundFiring) → RunsAs t rules → IsSorted t.signature u →
    OneAmong (IsFiring (signature_view rules.signature.value) u f) (GoesAfter (signature_view rules.signature.value) u f.priority) rules.rules.items → IsOneOf t u f
one_here t rules u f runs sorted one =
    one_of t rules u f runs sorted (subst (λ g. OneAmong (IsFiring g u f) (GoesAfter g u f.priority) rules.rules.items) runs.signature one)

pub not_followed_stops : (t : Theory) (rules : RuleSet) (s : GroundState) (f : GroundFiring) → RunsAs t rules → IsSorted t.signature (value_view s.value) → ¬ IsUnknown t (value_view s.value) →
    OneAmong (IsFiring (signature_view rules.signature.value) (value_view s.value) f) (GoesAfter (signature_view rules.signature.value) (value_view s.value) f.priority) rules.rules.items →
    NotFollowed (signature_view rules.signature.value) f (sort_view s.sort) → IsNotStepped t (written_of s)
not_followed_stops t rules s f runs sorted known one h =
    not_followed_there t s f sorted known (one_here t rules (value_view s.value) f runs sorted one)
    (subst (λ g. NotFollowed g f (sort_view s.sort)) runs.signature h)

pub next_written : (t : Theory) (rules : RuleSet) (s next : GroundState) (f : GroundFiring) → RunsAs t rules → IsSorted t.signature (value_view s.value) →
    OneAmong (IsFiring (signature_view rules.signature.value) (value_view s.value) f) (GoesAfter (signature_view rules.signature.value) (value_view s.value) f.priority) rules.rules.items →
    IsWrittenAt (signature_view rules.signature.value) (sort_view f.rewrite.now.right_sort) (sort_view s.sort) (sort_view next.sort) →
    AnyByRecursion (λ m. HasTurn t m (value_view s.value) × IsWrittenBy t.signature m.body (sort_view s.sort) (sort_view next.sort)) t.rules
next_written t rules s next f runs sorted one written =
    let g = t.signature in
    let u = value_view s.value in
    let here = one_here t rules u f runs sorted one in
    let at : IsWrittenAt g (sort_view f.rewrite.now.right_sort) (sort_view s.sort) (sort_view next.sort) =
    subst (λ g. IsWrittenAt g (sort_view f.rewrite.now.right_sort) (sort_view s.sort) (sort_view next.sort)) runs.signature written in
    one_any (FiresWith g u f) (FiresAfter g u f.priority) (λ m. HasTurn t m u × IsWrittenBy g m.body (sort_view s.sort) (sort_view next.sort))
    (λ m k. (turn_of t u f m sorted here k, written_by g u f m s next k at)) t.rules here
