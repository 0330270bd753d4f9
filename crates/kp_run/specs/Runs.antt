-- Runs of a theory from one configuration, each of whose steps is the only one that it has.
-- Source: this project; steps and final configurations are those of the theory.
use Rattle.std.specs.Prelude.{◌≡◌, ◌↔◌, ◌⊎◌, ℕ, zero, suc, min, ◌<◌, ◌≤◌, List, [], ◌∷◌, String, string_bytes, ⊤}
use Rattle.std.specs.List.{AllByRecursion}
use Rattle.std.specs.declared.alloc.Global.{Global}
use Rattle.kp_kore.specs.Signature.{KoreSignature}
use Rattle.kp_kore.specs.View.{sort_view}
use Rattle.kp_kore.specs.Syntax.{Text, KorePattern}
use Rattle.kp_kore.specs.Value.{Value, HasSort}
use Rattle.kp_kore.specs.Instance.{Valuation, IsInstance}
use Rattle.kp_kore.specs.Theory.{Theory}
use Rattle.kp_kore.specs.Rules.{RewriteRule, most_priority}
use Rattle.kp_kore.specs.Steps.{Steps, NoneFires, IsUnknown, IsUnknownBy}
use Rattle.kp_kore.specs.Causes.{foreign}
use Rattle.kp_kore.specs.Executions.{Reason, stuck, depth_bound, aborted}
use Rattle.kp_ground.specs.View.{value_view}
use Rattle.kp_compile.specs.declared.state.GroundState.{GroundState}
use Rattle.kp_run.specs.declared.run.GroundRun.{GroundRun}
use Rattle.kp_run.specs.declared.run.GroundEnding.{GroundEnding}
use Rattle.kp_run.specs.declared.run.GroundEnding.TheVariants.{Stuck, DepthBound, ForeignRule}
use Rattle.kp_run.specs.declared.step.GroundNext.{GroundNext}
use Rattle.kp_run.specs.declared.step.GroundNext.TheVariants as after
use Rattle.kp_run.specs.Causes.{Written, IsNextState}

-- the value has the sort that the state is written at
abbrev pub IsAt : Theory → GroundState → Type 0
IsAt t s = HasSort t.signature (sort_view s.sort) (value_view s.value)

-- no rule fires, and none is unknown
abbrev pub IsStuck : Theory → Value → Type 0
IsStuck t c = NoneFires t c × ¬ IsUnknown t c

-- P of one member of the list, Q of each before it, S of each after it
abbrev pub OneBetween : {X : Type 0} → (X → Type 0) → (X → Type 0) → (X → Type 0) → List X → Type 0
OneBetween P Q S [] = ⊥
OneBetween P Q S (x ∷ xs) = (P x × AllByRecursion S xs) ⊎ (Q x × OneBetween P Q S xs)

-- the number by which foreign rules are compared: the priority, up to the greatest that a rule may have
abbrev pub kept_priority : RewriteRule → ℕ
kept_priority r = min r.priority most_priority

-- the foreign rule of this id and number, and the configuration meets its skeleton
pub record IsUnknownAs (g : KoreSignature) (c : Value) (id : Text) (number : ℕ) (r : RewriteRule) : Type 0 where
  pub named : r.id ≡ id
  pub numbered : kept_priority r ≡ number
  pub unknown : IsUnknownBy g r.body c

-- of the foreign rules whose skeletons the configuration meets, the first of least number has this id
abbrev pub IsFirstUnknown : Theory → Value → Text → Type 0
IsFirstUnknown t c id = (number : ℕ) × OneBetween
    (IsUnknownAs t.signature c id number)
    (λ r. IsUnknownBy t.signature r.body c → number < kept_priority r)
    (λ r. IsUnknownBy t.signature r.body c → number ≤ kept_priority r) t.rules

-- the one configuration that follows
abbrev pub GoesOnlyTo : Theory → Value → Value → Type 0
GoesOnlyTo t c next = Steps t c next × ((other : Value) → Steps t c other → other ≡ next)

-- what comes after a configuration
abbrev pub IsNext : Theory → Value → GroundNext → Type 0
IsNext t c after.Stuck = IsStuck t c
IsNext t c (after.ForeignRule id) = IsFirstUnknown t c (string_bytes id)
IsNext t c (after.Stepped s ds) = GoesOnlyTo t c (value_view s.value) × IsAt t s

-- a state, and the sort that it is written at
abbrev pub written_of : GroundState → Written
written_of s = record { value = value_view s.value; sort = sort_view s.sort }

abbrev pub IsWrittenNext : Theory → Written → GroundNext → Type 0
IsWrittenNext t s (after.Stepped next ds) = IsNextState t s (written_of next)
IsWrittenNext t s _ = ⊤

-- so many steps on, each of them the only one
abbrev pub GoesOnlyIn : Theory → ℕ → Value → Value → Type 0
GoesOnlyIn t zero c later = later ≡ c
GoesOnlyIn t (suc n) c later = (next : Value) × GoesOnlyTo t c next × GoesOnlyIn t n next later

-- the run from c for at most so many steps: it ends where it says, at its bound, where nothing fires, or where a foreign
-- rule might rewrite the configuration
pub record IsRunOf (t : Theory) (c : Value) (bound : ℕ) (e : GroundRun) : Type 0 where
  pub steps : GoesOnlyIn t e.depth c (value_view e.state.value)
  pub sorted : IsAt t e.state
  pub stuck : e.stop ≡ Stuck → (e.depth < bound) × IsStuck t (value_view e.state.value)
  pub foreign : (id : String Global) → e.stop ≡ ForeignRule id → (e.depth < bound) × IsFirstUnknown t (value_view e.state.value) (string_bytes id)
  pub at_bound : e.stop ≡ DepthBound → e.depth ≡ bound

-- c is the instance of the pattern under each valuation
abbrev pub IsOnlyInstance : Theory → KorePattern → Value → Type 0
IsOnlyInstance t s c = (v : Valuation) (u : Value) → IsInstance t.signature v s u ↔ (u ≡ c)

-- the reason of the reply
abbrev pub reason_of : GroundEnding → Reason
reason_of Stuck = stuck
reason_of DepthBound = depth_bound
reason_of (ForeignRule id) = aborted (foreign (string_bytes id))
