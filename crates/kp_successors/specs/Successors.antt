-- What follows a ground configuration, rule by rule, and why it isn't told.
-- Source: All-Path Reachability Logic (steps); the K framework (priorities, owise).
use Rattle.std.specs.Prelude.{◌≡◌, ◌↔◌, ◌⊎◌, true, List, [], ◌∷◌, Some}
use Rattle.kp_kore.specs.Syntax.{KoreSort, KorePattern}
use Rattle.kp_kore.specs.Parts.{free_variables}
use Rattle.kp_kore.specs.Signature.{KoreSignature}
use Rattle.kp_kore.specs.Sorting.{sort_of_term}
use Rattle.kp_kore.specs.Value.{Value}
use Rattle.kp_kore.specs.Instance.{Valuation}
use Rattle.kp_kore.specs.Numbers.{computes_wide}
use Rattle.kp_kore.specs.Rules.{Rewrite, RuleBody, rewrite, foreign_rule, RewriteRule}
use Rattle.kp_kore.specs.Theory.{Theory}
use Rattle.kp_kore.specs.Steps.{AnyByRecursion, FiresUnder, HasTurn, StepsBy}
use Rattle.kp_rules.specs.Bodies.{IsPlain}
use Rattle.kp_compile.specs.Spelled.{IsSpellingOf}
use Rattle.kp_run.specs.Causes.{HasWideCondition}
use Rattle.kp_pattern_substitution.specs.Substitution.{ReplacedName}
use Rattle.kp_successors.specs.Instances.{IsSomeInstance}
use Rattle.kp_successors.specs.Choices.{AreNamed, SpellUnder, chosen_pattern}
use Rattle.kp_rules.specs.WideParts.{part_computes_wide}

-- ---- the pattern of one rule

-- after a rule without new variables and ensured conditions: the normal spelling of a value
pub record IsPlainNext (g : KoreSignature) (m : Rewrite) (p : KorePattern) : Type 0 where
  pub plain : IsPlain m
  pub value : Value
  pub spelling : IsSpellingOf g value p

-- after a rule that chooses: its right side, in which the left term's variables, but for those that are new, are
-- replaced by spellings of the values that they have
pub record IsChosenNext (g : KoreSignature) (m : Rewrite) (c : Value) (p : KorePattern) : Type 0 where
  pub chooses : ¬ IsPlain m
  pub terms : List ReplacedName
  pub names : AreNamed (free_variables m.left) m.new_variables terms
  pub spelled : (v : Valuation) → FiresUnder g m v c → SpellUnder g v terms
  pub sort : KoreSort
  pub is_sort : sort_of_term g m.right ≡ Some sort
  pub pattern : p ≡ chosen_pattern sort terms m.right m.ensured m.new_variables

abbrev pub IsWrittenNext : KoreSignature → RuleBody → Value → KorePattern → Type 0
IsWrittenNext g (rewrite m) c p = IsPlainNext g m p ⊎ IsChosenNext g m c p
IsWrittenNext g (foreign_rule l) c p = ⊥

-- its instances are exactly the rule's successors
pub record IsSuccessor (t : Theory) (c : Value) (r : RewriteRule) (p : KorePattern) : Type 0 where
  pub exact : (next : Value) → StepsBy t r c next ↔ IsSomeInstance t.signature p next
  pub written : IsWrittenNext t.signature r.body c p

-- ---- the patterns of all rules

abbrev pub FirstThen : (KorePattern → Type 0) → (List KorePattern → Type 0) → List KorePattern → Type 0
FirstThen P Q [] = ⊥
FirstThen P Q (p ∷ ps) = P p × Q ps

-- one pattern for each rule that has its turn, in the order of the rules, none for the others
abbrev pub AreSuccessors : Theory → Value → List RewriteRule → List KorePattern → Type 0
AreSuccessors t c [] ps = ps ≡ []
AreSuccessors t c (r ∷ rs) ps =
    ((¬ HasTurn t r c) × AreSuccessors t c rs ps) ⊎ (HasTurn t r c × FirstThen (IsSuccessor t c r) (AreSuccessors t c rs) ps)

-- ---- G1

-- it fires, and under that valuation a part of the right term in which no new variable stands computes one
pub record WidePart (g : KoreSignature) (c : Value) (m : Rewrite) : Type 0 where
  pub valuation : Valuation
  pub fires : FiresUnder g m valuation c
  pub wide : part_computes_wide g valuation m.new_variables m.right ≡ true

abbrev pub HasWidePart : KoreSignature → Value → RuleBody → Type 0
HasWidePart g c (rewrite m) = WidePart g c m
HasWidePart g c (foreign_rule l) = ⊥

-- of a configuration c that the pattern spells
pub data IsTooWide (t : Theory) (p : KorePattern) (c : Value) : Type 0 where
  -- a call of the pattern itself
  wide_pattern : ((v : Valuation) → computes_wide t.signature v p ≡ true) → IsTooWide t p c
  -- the condition of some rule whose left term matches
  wide_condition : AnyByRecursion (λ r. HasWideCondition t.signature c r.body) t.rules → IsTooWide t p c
  -- the right term of some rule that has its turn
  wide_right : AnyByRecursion (λ r. HasTurn t r c × HasWidePart t.signature c r.body) t.rules → IsTooWide t p c
