-- What a run says of the replies to it.
use Rattle.std.proofs.Common.{◌≡◌, refl, sym, subst, ◌∙◌, ℕ, zero, suc, ◌+◌, ◌<◌, ◌≤◌, true, List, [], ◌∷◌, inl, inr, arith}
use Rattle.std.specs.Prelude.{not, string_bytes, ⊤}
use Rattle.std.specs.List.{AllByRecursion, filter}
use Rattle.kp_kore.specs.Syntax.{Text, KorePattern}
use Rattle.kp_kore.specs.Parts.{SortedName, free_variables}
use Rattle.kp_kore.specs.Value.{Value, truth}
use Rattle.kp_kore.specs.Instance.{Valuation, GivesSorts, IsInstance, is_named}
use Rattle.kp_kore.specs.Rules.{RewriteRule}
use Rattle.kp_kore.specs.Theory.{Theory}
use Rattle.kp_kore.specs.Steps.{Fires, Steps, StepsBy, StepsIn, IsFinal, HasTurn, IsUnknown, IsUnknownBy, AnyByRecursion}
use Rattle.kp_kore.specs.AtHand.{OfSome, HasSome}
use Rattle.kp_kore.specs.Onward.{Leads, Passes}
use Rattle.kp_kore.specs.Executions.{Options, listed_in, RunsTo, IsRightReason, IsRightExecuted}
use Rattle.kp_kore.specs.Replies.{IsComputed, is_listed, variables_beyond, IsFreshName, IsAbsent}
use Rattle.kp_ground.specs.View.{value_view}
use Rattle.kp_run.specs.declared.run.GroundRun.{GroundRun}
use Rattle.kp_run.specs.declared.run.GroundEnding.{GroundEnding}
use Rattle.kp_run.specs.declared.run.GroundEnding.TheVariants.{Stuck, DepthBound, ForeignRule}
use Rattle.kp_run.specs.Runs.{GoesOnlyTo, GoesOnlyIn, IsStuck, IsUnknownAs, IsFirstUnknown, kept_priority, IsRunOf, IsOnlyInstance, reason_of}
use Rattle.kp_run.proofs.Among.{of_some, between_any}
use Rattle.kp_run.proofs.Theories.{fires_first}

-- ---- steps

-- one step more
one_more : (t : Theory) (n : ℕ) (c at next : Value) → GoesOnlyIn t n c at → GoesOnlyTo t at next → GoesOnlyIn t (suc n) c next
one_more t zero c at next e to = (next, subst (λ x. GoesOnlyTo t x next) e to, refl)
one_more t (suc n) c at next (m, first, rest) to = (m, first, one_more t n m at next rest to)

pub goes_on : (t : Theory) (n : ℕ) (c at next : Value) → GoesOnlyIn t n c at → GoesOnlyTo t at next → GoesOnlyIn t (n + 1) c next
goes_on t n c at next before to =
    let e : suc n ≡ n + 1 = omega arith in
    subst (λ m. GoesOnlyIn t m c next) e (one_more t n c at next before to)

steps_in : (t : Theory) (n : ℕ) (c later : Value) → GoesOnlyIn t n c later → StepsIn t n c later
steps_in t zero c later e = e
steps_in t (suc n) c later (m, first, rest) = (m, first.0, steps_in t n m later rest)

only_in : (t : Theory) (n : ℕ) (c later other : Value) → GoesOnlyIn t n c later → StepsIn t n c other → other ≡ later
only_in t zero c later other e s = s ∙ sym e
only_in t (suc n) c later other (m, first, rest) (k, step, more) = only_in t n m later other rest (subst (λ x. StepsIn t n x other) (first.1 k step) more)

-- before the last one each configuration has a step
steps_before : (t : Theory) (d n : ℕ) (c later at : Value) → GoesOnlyIn t d c later → n < d → StepsIn t n c at → (next : Value) × Steps t at next
steps_before t zero n c later at e lt s = absurd (omega arith)
steps_before t (suc d) zero c later at (m, first, rest) lt s = (m, subst (λ x. Steps t x m) (sym s) first.0)
steps_before t (suc d) (suc n) c later at (m, first, rest) lt (k, step, more) = steps_before t d n m later at rest (omega arith) (subst (λ x. StepsIn t n x at) (first.1 k step) more)

reached_before : (t : Theory) (n : ℕ) (c later : Value) → GoesOnlyIn t (suc n) c later → (at : Value) × StepsIn t n c at
reached_before t zero c later (m, first, rest) = (c, refl)
reached_before t (suc n) c later (m, first, rest) = let r = reached_before t n m later rest in (r.0, (m, first.0, r.1))

-- who has a step isn't final
pub not_final : (t : Theory) (c next : Value) → Steps t c next → ¬ IsFinal t c
not_final t c next steps (inl unknown) = known_steps t.rules steps
  where
    known_steps : (rs : List RewriteRule) → AnyByRecursion (λ r. StepsBy t r c next) rs → ⊥
    known_steps [] s = s
    known_steps (r ∷ rs) (inl s) = s.known unknown
    known_steps (r ∷ rs) (inr s) = known_steps rs s
not_final t c next steps (inr none) =
    of_some (λ r. ¬ Fires t.signature r.body c) (λ r. StepsBy t r c next) ⊥ (λ r no s. no (fires_first t.signature r.body c next s.rewrites)) t.rules none steps

-- ---- of a state without variables

beyond_none : (s s' : KorePattern) (P : SortedName → Type 0) → free_variables s' ≡ [] → AllByRecursion P (variables_beyond s s')
beyond_none s s' P e = subst (λ xs. AllByRecursion P (filter (λ x. not (is_named x.name (free_variables s))) xs)) (sym e) tt

no_rule_listed : (t : Theory) (c : Value) → (rs : List RewriteRule) → AllByRecursion (λ r. is_listed [] r ≡ true → ¬ HasTurn t r c) rs
no_rule_listed t c [] = tt
no_rule_listed t c (r ∷ rs) = ((λ e. absurd (cc)), no_rule_listed t c rs)

without_sorts : (t : Theory) (s : KorePattern) (v : Valuation) → free_variables s ≡ [] → GivesSorts t.signature v (free_variables s)
without_sorts t s v e = subst (GivesSorts t.signature v) (sym e) tt

-- an instance of the state is the configuration
from_only : (t : Theory) (s : KorePattern) (c : Value) (v : Valuation) (at : Value) (n : ℕ) (later : Value) → IsOnlyInstance t s c → IsInstance t.signature v s at → StepsIn t n at later → StepsIn t n c later
from_only t s c v at n later only met steps = subst (λ x. StepsIn t n x later) ((only v at).0 met) steps

-- the configurations after the state are those of the reply's state
run_leads : (t : Theory) (s s' : KorePattern) (c : Value) (bound : ℕ) (e : GroundRun) → IsRunOf t c bound e →
    IsOnlyInstance t s c → IsOnlyInstance t s' (value_view e.state.value) → free_variables s' ≡ [] → Leads t s s' e.depth
run_leads t s s' c bound e run only only' none' = record {
  found = λ v at given met later steps. record {
    chosen = v;
    agrees = λ y _. refl;
    sorts = without_sorts t s' v none';
    met = (only' v later).1 (only_in t e.depth c (value_view e.state.value) later run.steps (from_only t s c v at e.depth later only met steps));
  };
  only = λ v later sorts over.
      (c, (only v c).1 refl, subst (StepsIn t e.depth c) (sym ((only' over.chosen later).0 over.met)) (steps_in t e.depth c (value_view e.state.value) run.steps));
  names = beyond_none s s' (λ x. IsFreshName x.name × IsAbsent x.name s) none';
}

-- none before the last is final, where no rule is listed
run_passes : (t : Theory) (s : KorePattern) (c : Value) (bound : ℕ) (e : GroundRun) → IsRunOf t c bound e → IsOnlyInstance t s c → Passes t [] s e.depth
run_passes t s c bound e run only = record {
  not_final = λ v at given met n later less steps.
      let next = steps_before t e.depth n c (value_view e.state.value) later run.steps less (from_only t s c v at n later only met steps) in
      not_final t later next.0 next.1;
  none_listed = λ v at given met n later less steps. no_rule_listed t later t.rules;
}

some_valuation : Valuation
some_valuation = λ x. truth true

-- something of the one instance
of_only : (t : Theory) (known : List KorePattern) (s : KorePattern) (c : Value) (P : Valuation → Value → Type 0) → IsOnlyInstance t s c → free_variables s ≡ [] →
    AllByRecursion (λ p. GivesSorts t.signature some_valuation (free_variables p)) known → P some_valuation c → OfSome t.signature known s P
of_only t known s c P only none given such =
    record { valuation = some_valuation; configuration = c; given = (without_sorts t s some_valuation none, given); met = (only some_valuation c).1 refl; such = such }

-- some configuration is as far as the depth but one
run_is_reached : (t : Theory) (s : KorePattern) (c : Value) (bound : ℕ) (e : GroundRun) → IsRunOf t c bound e → IsOnlyInstance t s c → free_variables s ≡ [] →
    (n : ℕ) → e.depth ≡ suc n → OfSome t.signature [] s (λ v at. (later : Value) × StepsIn t n at later)
run_is_reached t s c bound e run only none n is =
    let r = reached_before t n c (value_view e.state.value) (subst (λ d. GoesOnlyIn t d c (value_view e.state.value)) is run.steps) in
    of_only t [] s c (λ v at. (later : Value) × StepsIn t n at later) only none tt (r.0, r.1)

-- a configuration for which a foreign rule is told is unknown
pub first_is_unknown : (t : Theory) (c : Value) (id : Text) → IsFirstUnknown t c id → IsUnknown t c
first_is_unknown t c id first =
    between_any (IsUnknownAs t.signature c id first.0) (λ r. IsUnknownBy t.signature r.body c → first.0 < kept_priority r) (λ r. IsUnknownBy t.signature r.body c → first.0 ≤ kept_priority r)
    (λ r. IsUnknownBy t.signature r.body c) (λ r h. h.unknown) t.rules first.1

-- and the reason is right
run_has_reason : (t : Theory) (o : Options) (s s' : KorePattern) (c : Value) (e : GroundRun) → IsRunOf t c o.bound e → IsOnlyInstance t s' (value_view e.state.value) → free_variables s ≡ [] → free_variables s' ≡ [] →
    IsRightReason t o s s' e.depth (reason_of e.stop)
run_has_reason t o s s' c e run only none none' = by_stop e.stop refl
  where
    some : (P : Valuation → Value → Type 0) → P some_valuation (value_view e.state.value) → OfSome t.signature (s ∷ []) s' P
    some P such = of_only t (s ∷ []) s' (value_view e.state.value) P only none' (without_sorts t s some_valuation none, tt) such

    has_some : HasSome t.signature (s ∷ []) s'
    has_some = some (λ v at. ⊤) tt

    by_stop : (r : GroundEnding) → e.stop ≡ r → IsRightReason t o s s' e.depth (reason_of r)
    by_stop Stuck is =
        let k = run.stuck is in
        (k.0, record { has = has_some; final = λ v u given met. subst (IsStuck t) (sym ((only v u).0 met)) k.1 })
    by_stop (ForeignRule id) is =
        let k = run.foreign id is in
        let u = value_view e.state.value in
        let number = k.1.0 in (
          k.0,
          between_any (IsUnknownAs t.signature u (string_bytes id) number) (λ r. IsUnknownBy t.signature r.body u → number < kept_priority r) (λ r. IsUnknownBy t.signature r.body u → number ≤ kept_priority r)
              (λ r. (r.id ≡ string_bytes id) × OfSome t.signature (s ∷ []) s' (λ v at. IsUnknownBy t.signature r.body at))
              (λ r h. (h.named, some (λ v at. IsUnknownBy t.signature r.body at) h.unknown))
              t.rules k.1.1,
        )
    by_stop DepthBound is = (run.at_bound is, λ _. has_some)

-- ---- the reply

within_bound : (t : Theory) (c : Value) (bound : ℕ) (e : GroundRun) → IsRunOf t c bound e → e.depth ≤ bound
within_bound t c bound e run = by_stop e.stop refl
  where
    by_stop : (s : GroundEnding) → e.stop ≡ s → e.depth ≤ bound
    by_stop Stuck is = let k = (run.stuck is).0 in omega arith
    by_stop DepthBound is = let k = run.at_bound is in omega arith
    by_stop (ForeignRule id) is = let k = (run.foreign id is).0 in omega arith

-- how the run came to its end
runs_to : (t : Theory) (o : Options) (s s' : KorePattern) (d : ℕ) (stop : GroundEnding) → Leads t s s' d → Passes t (listed_in o) s d → RunsTo t o s s' d (reason_of stop)
runs_to t o s s' d Stuck leads passes = (leads, passes)
runs_to t o s s' d DepthBound leads passes = (leads, passes)
runs_to t o s s' d (ForeignRule id) leads passes = (leads, passes)

-- between two states without variables, of which these are the only instances, where no rule is listed
pub run_is_told : (t : Theory) (o : Options) (s s' : KorePattern) (c : Value) (e : GroundRun) → IsRunOf t c o.bound e → listed_in o ≡ [] →
    IsOnlyInstance t s c → IsOnlyInstance t s' (value_view e.state.value) → free_variables s ≡ [] → free_variables s' ≡ [] → IsComputed t.signature s' →
    IsRightExecuted t o s (record { depth = e.depth; reason = reason_of e.stop; state = s' })
run_is_told t o s s' c e run unlisted only only' none none' computed = record {
  within_bound = within_bound t c o.bound e run;
  runs = runs_to t o s s' e.depth e.stop
      (run_leads t s s' c o.bound e run only only' none')
      (subst (λ ids. Passes t ids s e.depth) (sym unlisted) (run_passes t s c o.bound e run only));
  reached = run_is_reached t s c o.bound e run only none;
  computed = computed;
  reason = run_has_reason t o s s' c e run only' none none';
}
