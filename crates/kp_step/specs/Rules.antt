-- Which rule of a theory stands at a place of a rule set, and what the rule set tells of it.
use Rattle.std.specs.Prelude.{◌≡◌, ◌↔◌, ℕ, List, Option, Some, None}
use Rattle.kp_kore.specs.Syntax.{Text}
use Rattle.kp_kore.specs.Signature.{KoreSignature}
use Rattle.kp_kore.specs.Sorting.{sort_of_term}
use Rattle.kp_kore.specs.View.{sort_view}
use Rattle.kp_kore.specs.Value.{Value}
use Rattle.kp_kore.specs.Sorted.{IsSorted}
use Rattle.kp_kore.specs.Rules.{Rewrite, rewrite, RewriteRule, ForeignLeft, foreign_rule}
use Rattle.kp_kore.specs.Foreign.{IsSkeletonInstance}
use Rattle.kp_kore.specs.Theory.{Theory}
use Rattle.kp_kore.specs.Steps.{IsUnknown}
use Rattle.kp_symbolic.specs.States.{SymbolicState}
use Rattle.kp_rules.specs.Sides.{AreSidesOf}
use Rattle.kp_rules.specs.VerifiedSides.{AreVerifiedSides}
use Rattle.kp_rules.specs.Skeletons.{IsAdmitted}
use Rattle.kp_rules.specs.declared.rule.Rewrite as code
use Rattle.kp_rules.specs.declared.skeleton.Skeleton.{Skeleton}
use Rattle.kp_rule_sets.specs.RuleSets.{RunsAs}
use Rattle.kp_rule_sets.specs.declared.rule_set.RuleSet.{RuleSet}
use Rattle.kp_case_laws.specs.Parts.{whole, OfEachInstance}
use Rattle.kp_case_laws.specs.NextStates.{HaveOwnIds}
use Rattle.kp_unify.specs.Narrowed.{NumberedPart}
use Rattle.kp_unify.specs.Views.{signature_of, IsSetting}
use Rattle.kp_unify.specs.declared.part.Setting.{Setting}
use Rattle.kp_step.specs.Places.{IsAt}
use Rattle.kp_step.specs.Ready.{IsWholeReady}
use Rattle.kp_step.specs.Limits.{PassesNone}

-- the rule set is the theory, over the setting's signature; no two rules have one id
pub record Steps (t : Theory) (k : Setting) (rules : RuleSet) : Type 0 where
  pub signature : signature_of k ≡ t.signature
  pub runs : RunsAs t rules
  pub own_ids : HaveOwnIds t.rules

-- the code's rule has the sides and the right sort of what is read, which is verified
pub record IsReadBy (g : KoreSignature) (m : Rewrite) (r : code.Rewrite) : Type 0 where
  pub sides : AreSidesOf g m r.sides
  pub verified : AreVerifiedSides g m
  pub right_sort : sort_of_term g m.right ≡ Some (sort_view r.right_sort)

-- and the rule of this place is read so
pub record IsReadAt (t : Theory) (place : ℕ) (r : code.Rewrite) : Type 0 where
  pub rule : RewriteRule
  pub at : IsAt t place rule
  pub read : Rewrite
  pub body : rule.body ≡ rewrite read
  pub is : IsReadBy t.signature read r

-- the rule of this place, where it is read; None where no such rule stands there
abbrev pub TellsRead : Theory → ℕ → Option code.Rewrite → Type 0
TellsRead t place (Some r) = IsReadAt t place r
TellsRead t place None = (r : RewriteRule) (m : Rewrite) → IsAt t place r → ¬ (r.body ≡ rewrite m)

-- the rule of this place is foreign, and the skeleton stands for what its left side may stand for
pub record IsForeignAt (t : Theory) (place : ℕ) (k : Skeleton) : Type 0 where
  pub rule : RewriteRule
  pub at : IsAt t place rule
  pub left : ForeignLeft
  pub body : rule.body ≡ foreign_rule left
  pub stands : (u : Value) → IsSorted t.signature u → IsAdmitted t.signature k u ↔ IsSkeletonInstance t.signature left u

abbrev pub TellsSkeleton : Theory → ℕ → Option Skeleton → Type 0
TellsSkeleton t place (Some k) = IsForeignAt t place k
TellsSkeleton t place None = (r : RewriteRule) (l : ForeignLeft) → IsAt t place r → ¬ (r.body ≡ foreign_rule l)

-- a step of the theory's from the whole of a state, whose names and those met before are in use; it passes no limit
pub record IsStepFrom (t : Theory) (used : List Text) (s : SymbolicState) (k : Setting) (rules : RuleSet) (q : NumberedPart) : Type 0 where
  pub steps : Steps t k rules
  pub setting : IsSetting used k
  pub whole : IsWholeReady t.signature used s q
  pub limits : PassesNone t.signature s

-- the same, where no foreign rule might rewrite an instance
pub record IsSearchFrom (t : Theory) (used : List Text) (s : SymbolicState) (k : Setting) (rules : RuleSet) (q : NumberedPart) : Type 0 where
  pub steps : Steps t k rules
  pub setting : IsSetting used k
  pub limits : PassesNone t.signature s
  pub known : OfEachInstance t.signature (whole s) (λ w c. ¬ IsUnknown t c)
  pub whole : IsWholeReady t.signature used s q
