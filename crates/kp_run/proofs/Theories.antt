-- From the code's rules to the rules of the theory.
use Rattle.std.proofs.Common.{◌≡◌, refl, sym, ap, subst, ◌∙◌, ℕ, ◌<◌, ◌≤◌, ◌↔◌, List, [], ◌∷◌, Option, Some, None, Bor, arith}
use Rattle.std.specs.Prelude.{string_bytes, MatchOption}
use Rattle.std.specs.List.{AllByRecursion}
use Rattle.kp_kore.specs.Syntax.{KorePattern}
use Rattle.kp_kore.specs.Parts.{SortedName, free_variables}
use Rattle.kp_kore.specs.Signature.{KoreSignature}
use Rattle.kp_kore.specs.View.{sort_view}
use Rattle.kp_signature.specs.View.{signature_view}
use Rattle.kp_kore.specs.Value.{Value, HasSort}
use Rattle.kp_kore.specs.Sorted.{IsSorted}
use Rattle.kp_kore.specs.Instance.{Valuation, instance, IsTrueUnder, GivesSorts, AgreesOn, AgreesOff}
use Rattle.kp_kore.specs.Rules as model
use Rattle.kp_kore.specs.Theory.{Theory}
use Rattle.kp_kore.specs.Steps.{Fires, FiresUnder, LeadsTo, Rewrites, Steps, StepsBy, NoneBefore, NoneFires, IsUnknown, IsUnknownBy}
use Rattle.kp_kore.proofs.InstanceLemmas.{same_instance}
use Rattle.kp_ground.specs.Solves.{Solves}
use Rattle.kp_ground.specs.View.{value_view}
use Rattle.kp_rules.specs.Heads.{FiresAs}
use Rattle.kp_rules.specs.Bodies.{IsTop, IsPlain, IsRewriteOf, IsBodyOf, IsCodeOf}
use Rattle.kp_rule_sets.specs.RuleSets.{RunsAs}
use Rattle.kp_rules.specs.declared.rule.Rule.{Rule}
use Rattle.kp_rules.specs.declared.rule.RuleBody.{RuleBody}
use Rattle.kp_rules.specs.declared.rule.RuleBody.TheVariants.{Rewrite, Foreign}
use Rattle.kp_rules.specs.declared.rule.Rewrite as code
use Rattle.kp_rule_sets.specs.declared.rule_set.RuleSet.{RuleSet}
use Rattle.kp_rules.proofs.Fired.{fired_under}
use Rattle.kp_compile.specs.declared.state.GroundState.{GroundState}
use Rattle.kp_run.specs.declared.firing.GroundFiring.{GroundFiring}
use Rattle.kp_rules.specs.declared.skeleton.Skeleton.{Skeleton}
use Rattle.kp_run.specs.Runs.{IsAt, IsStuck, IsUnknownAs, IsFirstUnknown, kept_priority, GoesOnlyTo}
use Rattle.kp_run.specs.Turns.{BodyFires, MightRewrite, NoneMight, IsFirstForeign, GoesAfter, IsFiring, OneAmong, IsAfterFiring}
use Rattle.kp_run.proofs.Among.{all_along, one_all, one_any, of_the_one, of_some, none_in, zip_all, zip_any_back, zip_one, zip_between}

-- ---- one rule

pub same_firing : (g : KoreSignature) (m : model.RuleBody) (b : RuleBody) (u : Value) → IsSorted g u → IsBodyOf g m b → BodyFires g u b ↔ Fires g m u
same_firing g (model.rewrite w) (Rewrite r) u s is = ((λ f. (f.0, (fired_under g w r is u s f.0).0 f.1)), (λ f. (f.0, (fired_under g w r is u s f.0).1 f.1)))
same_firing g (model.foreign_rule l) (Foreign k) u s is = ((λ f. f), (λ f. f))
same_firing g (model.rewrite w) (Foreign k) u s is = absurd is
same_firing g (model.foreign_rule l) (Rewrite r) u s is = absurd is

same_unknown : (g : KoreSignature) (m : model.RuleBody) (b : RuleBody) (u : Value) → IsSorted g u → IsBodyOf g m b → MightRewrite g u b ↔ IsUnknownBy g m u
same_unknown g (model.rewrite w) (Rewrite r) u s is = ((λ f. f), (λ f. f))
same_unknown g (model.foreign_rule l) (Foreign k) u s is = is u s
same_unknown g (model.rewrite w) (Foreign k) u s is = absurd is
same_unknown g (model.foreign_rule l) (Rewrite r) u s is = absurd is

-- what is read is a rewrite of the theory
pub record MeantBy (g : KoreSignature) (m : model.RuleBody) (r : code.Rewrite) : Type 0 where
  pub meant : model.Rewrite
  pub body : m ≡ model.rewrite meant
  pub is : IsRewriteOf g meant r

meant_by : (g : KoreSignature) (m : model.RuleBody) (r : code.Rewrite) → IsBodyOf g m (Rewrite r) → MeantBy g m r
meant_by g (model.rewrite w) r is = record { meant = w; body = refl; is = is }
meant_by g (model.foreign_rule l) r is = absurd is

pub only_rewrites_fire : (g : KoreSignature) (u : Value) (b : RuleBody) → BodyFires g u b → (r : code.Rewrite) × (b ≡ Rewrite r)
only_rewrites_fire g u (Rewrite r) f = (r, refl)
only_rewrites_fire g u (Foreign k) f = absurd f

only_foreign_might : (g : KoreSignature) (u : Value) (b : RuleBody) → MightRewrite g u b → (k : Skeleton) × (b ≡ Foreign k)
only_foreign_might g u (Rewrite r) f = absurd f
only_foreign_might g u (Foreign k) f = (k, refl)

-- what rewrites fires
pub fires_first : (g : KoreSignature) (m : model.RuleBody) (u next : Value) → Rewrites g m u next → Fires g m u
fires_first g (model.rewrite w) u next f = (f.0, f.1)
fires_first g (model.foreign_rule l) u next f = absurd f

-- ---- the rules of the theory

-- the first foreign rule of the code's is that of the theory
first_there : (t : Theory) (rules : RuleSet) (u : Value) (f : Rule) → RunsAs t rules → IsSorted t.signature u →
    IsFirstForeign t.signature u f rules.rules.items → IsFirstUnknown t u (string_bytes f.id.value)
first_there t rules u f runs s first =
    let g = t.signature in (
      f.priority,
      zip_between (IsCodeOf g)
          (λ r. (r ≡ f) × MightRewrite g u r.body.value) (λ r. MightRewrite g u r.body.value → f.priority < r.priority) (λ r. MightRewrite g u r.body.value → f.priority ≤ r.priority)
          (IsUnknownAs g u (string_bytes f.id.value) f.priority) (λ m. IsUnknownBy g m.body u → f.priority < kept_priority m) (λ m. IsUnknownBy g m.body u → f.priority ≤ kept_priority m)
          (λ m r is h. let k = only_foreign_might g u r.body.value h.1 in record {
            named = sym is.id ∙ ap (λ x. string_bytes x.id.value) h.0;
            numbered = is.is_foreign_priority k.0 k.1 ∙ ap (λ x. x.priority) h.0;
            unknown = (same_unknown g m.body r.body.value u s is.is_body).0 h.1;
          })
          (λ m r is h k. let might : MightRewrite g u r.body.value = (same_unknown g m.body r.body.value u s is.is_body).1 k in
          let e = only_foreign_might g u r.body.value might in
          subst (λ n. f.priority < n) (sym (is.is_foreign_priority e.0 e.1)) (h might))
          (λ m r is h k. let might : MightRewrite g u r.body.value = (same_unknown g m.body r.body.value u s is.is_body).1 k in
          let e = only_foreign_might g u r.body.value might in
          subst (λ n. f.priority ≤ n) (sym (is.is_foreign_priority e.0 e.1)) (h might))
          t.rules rules.rules.items runs.each first,
    )

first_here : (t : Theory) (rules : RuleSet) (u : Value) (f : Rule) → RunsAs t rules → IsSorted t.signature u →
    IsFirstForeign (signature_view rules.signature.value) u f rules.rules.items → IsFirstUnknown t u (string_bytes f.id.value)
first_here t rules u f runs s first = first_there t rules u f runs s (subst (λ g. IsFirstForeign g u f rules.rules.items) runs.signature first)

-- where no foreign rule of the code's might rewrite the value, it isn't unknown
known_here : (t : Theory) (rules : RuleSet) (u : Value) → RunsAs t rules → IsSorted t.signature u →
    NoneMight (signature_view rules.signature.value) u rules.rules.items → ¬ IsUnknown t u
known_here t rules u runs s none = λ unknown.
    let g = t.signature in
    none_in (λ r. ¬ MightRewrite g u r.body.value) (λ r. MightRewrite g u r.body.value) (λ r n h. n h) rules.rules.items
    (subst (λ g. NoneMight g u rules.rules.items) runs.signature none)
    (zip_any_back (IsCodeOf g) (λ r. MightRewrite g u r.body.value) (λ m. IsUnknownBy g m.body u) (λ m r is k. (same_unknown g m.body r.body.value u s is.is_body).1 k) t.rules rules.rules.items runs.each unknown)

-- as the code finds it
pub told_here : (t : Theory) (rules : RuleSet) (u : Value) (o : Option (Bor Rule)) → RunsAs t rules → IsSorted t.signature u →
    (IsSorted (signature_view rules.signature.value) u → MatchOption o (NoneMight (signature_view rules.signature.value) u rules.rules.items) (λ f. IsFirstForeign (signature_view rules.signature.value) u f.now rules.rules.items)) →
    MatchOption o (¬ IsUnknown t u) (λ f. IsFirstUnknown t u (string_bytes f.now.id.value))
told_here t rules u None runs s told = known_here t rules u runs s (told (subst (λ g. IsSorted g u) (sym runs.signature) s))
told_here t rules u (Some f) runs s told = first_here t rules u f.now runs s (told (subst (λ g. IsSorted g u) (sym runs.signature) s))

none_fires_here : (t : Theory) (rules : RuleSet) (u : Value) → RunsAs t rules → IsSorted t.signature u →
    AllByRecursion (λ r. ¬ BodyFires t.signature u r.body.value) rules.rules.items → NoneFires t u
none_fires_here t rules u runs s none =
    let g = t.signature in
    zip_all (IsCodeOf g) (λ r. ¬ BodyFires g u r.body.value) (λ m. ¬ Fires g m.body u) (λ m r is no f. no ((same_firing g m.body r.body.value u s is.is_body).1 f)) t.rules rules.rules.items runs.each none

-- the rule of the theory whose firing it is
pub record FiresWith (g : KoreSignature) (u : Value) (f : GroundFiring) (m : model.RewriteRule) : Type 0 where
  pub priority : m.priority ≡ f.priority
  pub meant : MeantBy g m.body f.rewrite.now
  pub solved : (v : Valuation) → Solves v f.bindings.items ↔ FiresAs g f.rewrite.now u v
  pub solvable : (v : Valuation) × Solves v f.bindings.items

abbrev pub FiresAfter : KoreSignature → Value → ℕ → model.RewriteRule → Type 0
FiresAfter g u n m = Fires g m.body u → n < m.priority

pub fires_with : (g : KoreSignature) (u : Value) (f : GroundFiring) (m : model.RewriteRule) (r : Rule) → IsCodeOf g m r → IsFiring g u f r → FiresWith g u f m
fires_with g u f m r is h = record {
  priority = is.is_priority f.rewrite.now h.body ∙ h.priority;
  meant = meant_by g m.body f.rewrite.now (subst (IsBodyOf g m.body) h.body is.is_body);
  solved = h.solved;
  solvable = h.solvable;
}

pub fires_after : (g : KoreSignature) (u : Value) (n : ℕ) (m : model.RewriteRule) (r : Rule) → IsSorted g u → IsCodeOf g m r → GoesAfter g u n r → FiresAfter g u n m
fires_after g u n m r s is h = λ f.
    let b : BodyFires g u r.body.value = (same_firing g m.body r.body.value u s is.is_body).1 f in
    let e = only_rewrites_fire g u r.body.value b in
    subst (λ k. n < k) (sym (is.is_priority e.0 e.1)) (h b)

abbrev pub IsOneOf : Theory → Value → GroundFiring → Type 0
IsOneOf t u f = OneAmong (FiresWith t.signature u f) (FiresAfter t.signature u f.priority) t.rules

pub one_of : (t : Theory) (rules : RuleSet) (u : Value) (f : GroundFiring) → RunsAs t rules → IsSorted t.signature u →
    OneAmong (IsFiring t.signature u f) (GoesAfter t.signature u f.priority) rules.rules.items → IsOneOf t u f
one_of t rules u f runs s one =
    let g = t.signature in
    zip_one (IsCodeOf g) (IsFiring g u f) (GoesAfter g u f.priority) (FiresWith g u f) (FiresAfter g u f.priority)
    (λ m r is h. fires_with g u f m r is h) (λ m r is h. fires_after g u f.priority m r s is h) t.rules rules.rules.items runs.each one

-- ---- where a firing leads

-- under each valuation that fires, the next value is the right term's instance
right_value : (g : KoreSignature) (u : Value) (f : GroundFiring) (next : GroundState) (w : model.Rewrite) → IsRewriteOf g w f.rewrite.now → IsSorted g u → ((v : Valuation) → Solves v f.bindings.items ↔ FiresAs g f.rewrite.now u v) →
    IsAfterFiring g f next → (v : Valuation) → FiresUnder g w v u → value_view next.value ≡ instance g v w.right
right_value g u f next w is s solved after v fires = after.value v ((solved v).1 ((fired_under g w f.rewrite.now is u s v).1 fires)) ∙ is.right v

-- a valuation that fires
pub record Fired (g : KoreSignature) (u : Value) (w : model.Rewrite) : Type 0 where
  pub valuation : Valuation
  pub fires : FiresUnder g w valuation u

pub fired : (g : KoreSignature) (u : Value) (f : GroundFiring) (m : model.RewriteRule) → IsSorted g u → (h : FiresWith g u f m) → Fired g u h.meant.meant
fired g u f m s h = record {
  valuation = h.solvable.0;
  fires = (fired_under g h.meant.meant f.rewrite.now h.meant.is u s h.solvable.0).0 ((h.solved h.solvable.0).0 h.solvable.1);
}

top_is_true : (g : KoreSignature) (v : Valuation) (p : KorePattern) → IsTop p → IsTrueUnder g v p
top_is_true g v p h = subst (IsTrueUnder g v) (sym h.1) tt

pub leads_to : (g : KoreSignature) (w : model.Rewrite) (v : Valuation) (next : Value) → IsPlain w → next ≡ instance g v w.right → LeadsTo g w v next
leads_to g w v next plain e = record {
  chosen = v;
  agrees = λ y _. refl;
  sorts = subst (GivesSorts g v) (sym plain.new_variables) tt;
  ensured = all_along IsTop (IsTrueUnder g v) (λ p h. top_is_true g v p h) w.ensured plain.ensured;
  result = e;
}

agree_everywhere : (v w : Valuation) → (xs : List SortedName) → ((x : _) → w x ≡ v x) → AgreesOn xs v w
agree_everywhere v w [] a = tt
agree_everywhere v w (x ∷ xs) a = (a x.name, agree_everywhere v w xs a)

pub leads_only_to : (g : KoreSignature) (w : model.Rewrite) (v : Valuation) (other : Value) → IsPlain w → LeadsTo g w v other → other ≡ instance g v w.right
leads_only_to g w v other plain to =
    let off : AgreesOff [] v to.chosen = subst (λ xs. AgreesOff xs v to.chosen) plain.new_variables to.agrees in
    to.result ∙ same_instance g v to.chosen w.right (agree_everywhere v to.chosen (free_variables w.right) (λ x. off x refl))

pub rewrites_to : (g : KoreSignature) (u : Value) (f : GroundFiring) (next : GroundState) (m : model.RewriteRule) → IsSorted g u → IsAfterFiring g f next → FiresWith g u f m → Rewrites g m.body u (value_view next.value)
rewrites_to g u f next m s after h =
    let w = h.meant.meant in
    let k = fired g u f m s h in
    let plain : IsPlain w = h.meant.is.plain after.chooses in
    subst (λ b. Rewrites g b u (value_view next.value)) (sym h.meant.body)
    (k.valuation, k.fires, leads_to g w k.valuation (value_view next.value) plain (right_value g u f next w h.meant.is s h.solved after k.valuation k.fires))

pub rewrites_only_to : (g : KoreSignature) (u : Value) (f : GroundFiring) (next : GroundState) (m : model.RewriteRule) (other : Value) → IsSorted g u → IsAfterFiring g f next → FiresWith g u f m → Rewrites g m.body u other → other ≡ value_view next.value
rewrites_only_to g u f next m other s after h r =
    let w = h.meant.meant in
    let k : Rewrites g (model.rewrite w) u other = subst (λ b. Rewrites g b u other) h.meant.body r in
    leads_only_to g w k.0 other (h.meant.is.plain after.chooses) k.2 ∙ sym (right_value g u f next w h.meant.is s h.solved after k.0 k.1)

-- ---- the one step

pub none_before : (t : Theory) (u : Value) (f : GroundFiring) → IsOneOf t u f → NoneBefore t f.priority u
none_before t u f one =
    let g = t.signature in
    one_all (FiresWith g u f) (FiresAfter g u f.priority) (λ m. m.priority < f.priority → ¬ Fires g m.body u)
    (λ m h lt k. let same : m.priority ≡ f.priority = h.priority in absurd (omega arith))
    (λ m h lt k. let later : f.priority < m.priority = h k in absurd (omega arith)) t.rules one

some_step : (t : Theory) (u : Value) (f : GroundFiring) (next : GroundState) → IsSorted t.signature u → ¬ IsUnknown t u → IsOneOf t u f → IsAfterFiring t.signature f next → Steps t u (value_view next.value)
some_step t u f next s known one after =
    let g = t.signature in
    one_any (FiresWith g u f) (FiresAfter g u f.priority) (λ m. StepsBy t m u (value_view next.value))
    (λ m h. record { known = known; none_before = subst (λ n. NoneBefore t n u) (sym h.priority) (none_before t u f one); rewrites = rewrites_to g u f next m s after h }) t.rules one

-- a rule that goes after it has no step
pub no_step_after : (t : Theory) (u : Value) (f : GroundFiring) (m : model.RewriteRule) (other : Value) → IsSorted t.signature u → IsOneOf t u f → FiresAfter t.signature u f.priority m → ¬ StepsBy t m u other
no_step_after t u f m other s one later step =
    let g = t.signature in
    let lt : f.priority < m.priority = later (fires_first g m.body u other step.rewrites) in
    of_some (λ n. n.priority < m.priority → ¬ Fires g n.body u) (FiresWith g u f) ⊥
    (λ n none h. none (subst (λ k. k < m.priority) (sym h.priority) lt)
    (subst (λ b. Fires g b u) (sym h.meant.body) (let k = fired g u f n s h in (k.valuation, k.fires))))
    t.rules step.none_before (one_any (FiresWith g u f) (FiresAfter g u f.priority) (FiresWith g u f) (λ n h. h) t.rules one)

only_step : (t : Theory) (u : Value) (f : GroundFiring) (next : GroundState) (other : Value) → IsSorted t.signature u → IsOneOf t u f → IsAfterFiring t.signature f next → Steps t u other → other ≡ value_view next.value
only_step t u f next other s one after steps =
    let g = t.signature in
    of_some (λ m. StepsBy t m u other → other ≡ value_view next.value) (λ m. StepsBy t m u other) (other ≡ value_view next.value) (λ m k b. k b) t.rules
    (one_all (FiresWith g u f) (FiresAfter g u f.priority) (λ m. StepsBy t m u other → other ≡ value_view next.value)
    (λ m h b. rewrites_only_to g u f next m other s after h b.rewrites)
    (λ m h b. absurd (no_step_after t u f m other s one h b)) t.rules one)
    steps

-- and the sort of what it leads to
next_is_at : (t : Theory) (u : Value) (f : GroundFiring) (next : GroundState) → IsSorted t.signature u → IsOneOf t u f → IsAfterFiring t.signature f next → IsAt t next
next_is_at t u f next s one after =
    let g = t.signature in
    of_the_one (FiresWith g u f) (FiresAfter g u f.priority) (IsAt t next)
    (λ m h. let k = fired g u f m s h in
    let w = h.meant.meant in
    let plain : IsPlain w = h.meant.is.plain after.chooses in
    after.sort (subst (HasSort g (sort_view f.rewrite.now.right_sort)) (sym (right_value g u f next w h.meant.is s h.solved after k.valuation k.fires))
    (h.meant.is.sorted k.valuation k.fires.sorts plain.new_variables))) t.rules one

goes_there : (t : Theory) (rules : RuleSet) (u : Value) (f : GroundFiring) (next : GroundState) → RunsAs t rules → IsSorted t.signature u → ¬ IsUnknown t u →
    OneAmong (IsFiring t.signature u f) (GoesAfter t.signature u f.priority) rules.rules.items → IsAfterFiring t.signature f next →
    GoesOnlyTo t u (value_view next.value) × IsAt t next
goes_there t rules u f next runs s known one after =
    let one_in : IsOneOf t u f = one_of t rules u f runs s one in
    ((some_step t u f next s known one_in after, λ other steps. only_step t u f next other s one_in after steps), next_is_at t u f next s one_in after)

-- ---- in the words of the code's signature

pub stuck_here : (t : Theory) (rules : RuleSet) (u : Value) → RunsAs t rules → IsSorted t.signature u → ¬ IsUnknown t u →
    AllByRecursion (λ r. ¬ BodyFires (signature_view rules.signature.value) u r.body.value) rules.rules.items → IsStuck t u
stuck_here t rules u runs s known none =
    (none_fires_here t rules u runs s (subst (λ g. AllByRecursion (λ r. ¬ BodyFires g u r.body.value) rules.rules.items) runs.signature none), known)

pub goes_here : (t : Theory) (rules : RuleSet) (u : Value) (f : GroundFiring) (next : GroundState) → RunsAs t rules → IsSorted t.signature u → ¬ IsUnknown t u →
    OneAmong (IsFiring (signature_view rules.signature.value) u f) (GoesAfter (signature_view rules.signature.value) u f.priority) rules.rules.items → IsAfterFiring (signature_view rules.signature.value) f next →
    GoesOnlyTo t u (value_view next.value) × IsAt t next
goes_here t rules u f next runs s known one after =
    goes_there t rules u f next runs s known
    (subst (λ g. OneAmong (IsFiring g u f) (GoesAfter g u f.priority) rules.rules.items) runs.signature one)
    (subst (λ g. IsAfterFiring g f next) runs.signature after)
