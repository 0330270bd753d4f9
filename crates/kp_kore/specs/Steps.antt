-- How configurations go on: rules fire, have their turn, step; final configurations and complete runs.
-- Source: rewriting in the K framework (priorities, owise), All-Path Reachability Logic (complete runs).
use Rattle.std.specs.Prelude.{◌≡◌, ℕ, zero, suc, ◌<◌, ◌⊎◌, List, [], ◌∷◌}
use Rattle.std.specs.List.{AllByRecursion}
use Rattle.kp_kore.specs.Parts.{free_variables}
use Rattle.kp_kore.specs.Signature.{KoreSignature}
use Rattle.kp_kore.specs.Value.{Value}
use Rattle.kp_kore.specs.Instance.{Valuation, instance, IsTrueUnder, GivesSorts, AgreesOff}
use Rattle.kp_kore.specs.Rules.{Rewrite, RuleBody, rewrite, foreign_rule, RewriteRule}
use Rattle.kp_kore.specs.Foreign.{IsSkeletonInstance}
use Rattle.kp_kore.specs.Theory.{Theory}

-- P holds of some member
abbrev pub AnyByRecursion : {X : Type 0} → (X → Type 0) → List X → Type 0
AnyByRecursion P [] = ⊥
AnyByRecursion P (x ∷ xs) = P x ⊎ AnyByRecursion P xs

-- ---- firing

-- the valuation gives the left term's variables values of their sorts, makes the configuration the left
-- term's instance, and makes the condition true
pub record FiresUnder (g : KoreSignature) (r : Rewrite) (v : Valuation) (c : Value) : Type 0 where
  pub sorts : GivesSorts g v (free_variables r.left)
  pub matches : instance g v r.left ≡ c
  pub condition : AllByRecursion (IsTrueUnder g v) r.condition

-- a foreign rule never fires
abbrev pub Fires : KoreSignature → RuleBody → Value → Type 0
Fires g (rewrite r) c = (v : Valuation) × FiresUnder g r v c
Fires g (foreign_rule l) c = ⊥

-- no rule of a smaller priority number fires
abbrev pub NoneBefore : Theory → ℕ → Value → Type 0
NoneBefore t priority c = AllByRecursion (λ r. r.priority < priority → ¬ Fires t.signature r.body c) t.rules

pub record HasTurn (t : Theory) (r : RewriteRule) (c : Value) : Type 0 where
  pub fires : Fires t.signature r.body c
  pub none_before : NoneBefore t r.priority c

-- ---- unknown configurations

abbrev pub IsUnknownBy : KoreSignature → RuleBody → Value → Type 0
IsUnknownBy g (rewrite r) c = ⊥
IsUnknownBy g (foreign_rule l) c = IsSkeletonInstance g l c

-- some foreign rule might rewrite it
abbrev pub IsUnknown : Theory → Value → Type 0
IsUnknown t c = AnyByRecursion (λ r. IsUnknownBy t.signature r.body c) t.rules

-- ---- steps

-- the next configuration is the right term's instance under a valuation that agrees off the new variables,
-- gives them values of their sorts, and makes the ensured condition true
pub record LeadsTo (g : KoreSignature) (r : Rewrite) (v : Valuation) (next : Value) : Type 0 where
  pub chosen : Valuation
  pub agrees : AgreesOff r.new_variables v chosen
  pub sorts : GivesSorts g chosen r.new_variables
  pub ensured : AllByRecursion (IsTrueUnder g chosen) r.ensured
  pub result : next ≡ instance g chosen r.right

abbrev pub Rewrites : KoreSignature → RuleBody → Value → Value → Type 0
Rewrites g (rewrite r) c next = (v : Valuation) × FiresUnder g r v c × LeadsTo g r v next
Rewrites g (foreign_rule l) c next = ⊥

-- a configuration that isn't unknown steps by a rule that has its turn
pub record StepsBy (t : Theory) (r : RewriteRule) (c next : Value) : Type 0 where
  pub known : ¬ IsUnknown t c
  pub none_before : NoneBefore t r.priority c
  pub rewrites : Rewrites t.signature r.body c next

abbrev pub Steps : Theory → Value → Value → Type 0
Steps t c next = AnyByRecursion (λ r. StepsBy t r c next) t.rules

-- so many steps on
abbrev pub StepsIn : Theory → ℕ → Value → Value → Type 0
StepsIn t zero c later = later ≡ c
StepsIn t (suc n) c later = (next : Value) × Steps t c next × StepsIn t n next later

-- ---- final configurations and complete runs

abbrev pub NoneFires : Theory → Value → Type 0
NoneFires t c = AllByRecursion (λ r. ¬ Fires t.signature r.body c) t.rules

-- it is unknown, or no rule fires
abbrev pub IsFinal : Theory → Value → Type 0
IsFinal t c = IsUnknown t c ⊎ NoneFires t c

-- configurations joined by steps, the last of them final
abbrev pub IsCompleteRun : Theory → Value → List Value → Type 0
IsCompleteRun t c [] = IsFinal t c
IsCompleteRun t c (next ∷ more) = Steps t c next × IsCompleteRun t next more
