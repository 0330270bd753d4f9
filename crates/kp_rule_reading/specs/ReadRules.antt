-- What is asked of a rewrite axiom that is read, by the parts of which the code asks it.
use Rattle.std.specs.Prelude.{◌≡◌, ◌↔◌, Bool, true, false, not, ◌&&◌, nat_le, List, [], Option, Some, None, IsTrue, String}
use Rattle.std.specs.List.{list_all, list_any, AllByRecursion}
use Rattle.std.specs.declared.alloc.Global.{Global}
use Rattle.indexmap.specs.IndexSet.{IndexSet, contains_text}
use Rattle.kp_kore.specs.Syntax.{Text, KorePattern, KoreSort, exists, top, Statement}
use Rattle.kp_kore.specs.Parts.{SortedName, subpatterns, free_variables, term_depth}
use Rattle.kp_kore.specs.Signature.{KoreSignature}
use Rattle.kp_kore.specs.View.{view, sort_view}
use Rattle.kp_kore.specs.Sorted.{IsSorted}
use Rattle.kp_kore.specs.Instance.{Valuation, instance, is_named, GivesSorts, IsTrueUnder}
use Rattle.kp_kore.specs.Rules as model
use Rattle.kp_kore.specs.Limits.{most_depth}
use Rattle.kp_kore.specs.Foreign.{Reads, is_wide_literal, applies_foreign, has_interpreted_head, is_set_variable, is_quantifier, is_floor_of_term, repeats_literals_only, InjectionsSplit, LoneVariableSplits, is_read_priority}
use Rattle.std.specs.Bool.{Decides}
use Rattle.kp_kore.specs.Numbers.{computes_wide}
use Rattle.kp_ground.specs.Conditions.{condition_holds, condition_narrow as is_condition_narrow}
use Rattle.kp_ground.specs.ConditionView.{condition_view}
use Rattle.kp_compile.specs.Exact.{IsLeftOf, IsTermOf, IsNarrowAs}
use Rattle.kp_compile.specs.Verified.{IsVerifiedTerm, IsVerifiedLeftTerm, IsVerifiedPredicate}
use Rattle.kp_signature.specs.Verify.{VerifyFault}
use Rattle.kp_rule_reading.specs.declared.read.RuleError.{RuleError}
use Rattle.kp_rule_reading.specs.declared.read.RuleError.TheVariants.{Memory, Fault}
use Rattle.kp_rules.specs.Heads.{HasHead}
use Rattle.kp_rule_reading.specs.LeftForms.{AreMadeSides}
use Rattle.kp_rules.specs.Bodies.{IsBodyOf, IsVerifiedLeft, IsChoiceOf}
use Rattle.kp_rules.specs.Shapes.{seen, rewrite_seen}
use Rattle.kp_rules.specs.declared.rule.RuleBody.{RuleBody}
use Rattle.kp_rules.specs.declared.rule.Rewrite as code
use Rattle.kp_rules.specs.declared.shape.Shape.{Shape}

-- the set has the names of these variables
abbrev pub Names : {S : Type 0} → IndexSet (String Global) S → List SortedName → Type 0
Names names xs = (y : Text) → contains_text names y ≡ is_named y xs

-- no application of a declared foreign symbol, no set variable, no number outside signed 128 bits, no term that is too deep
abbrev pub is_part_read : KoreSignature → KorePattern → Bool
is_part_read g p = not (applies_foreign g p) && (not (is_set_variable p) && (not (is_wide_literal g p) && nat_le (term_depth p) most_depth))

-- neither a quantifier nor \floor of a term
abbrev pub is_condition_part : KorePattern → Bool
is_condition_part p = not (is_quantifier p) && not (is_floor_of_term p)

-- no quantifiers, no \floor of a term, and only variables whose names pass
abbrev pub is_predicate_read : (Text → Bool) → KorePattern → Bool
is_predicate_read named c = list_all is_condition_part (subpatterns c) && list_all (λ x. named x.name) (free_variables c)

-- no interpreted symbol, and a variable that stands twice has a sort of literals
abbrev pub is_left_read : KoreSignature → KorePattern → Bool
is_left_read g left = list_all (λ p. not (has_interpreted_head g p)) (subpatterns left) && repeats_literals_only g (free_variables left)

-- the left term and the condition, with no variables but the left term's
abbrev pub is_side_read : KoreSignature → KorePattern → List KorePattern → Bool
is_side_read g left condition = is_left_read g left && list_all (is_predicate_read (λ y. is_named y (free_variables left))) condition

-- the same, and a variable alone as the left term has a meet of its sort with each that shares heads with it
pub record IsLeftSideRead (g : KoreSignature) (left : KorePattern) (condition : List KorePattern) : Type 0 where
  pub side : is_side_read g left condition ≡ true
  pub lone_variable : LoneVariableSplits g left

abbrev pub is_binder : KorePattern → Bool
is_binder (exists s x t p) = true
is_binder _ = false

abbrev pub is_top_pattern : KorePattern → Bool
is_top_pattern (top s) = true
is_top_pattern _ = false

-- no new variable, where these are the names that aren't new, and nothing but \top to ensure
abbrev pub is_plain_by : (Text → Bool) → KorePattern → List KorePattern → Bool
is_plain_by named right ensured = not (is_binder right) && (list_all is_top_pattern ensured && list_all (λ x. named x.name) (free_variables right))

-- the same by the names of the left term's variables
abbrev pub is_plain_over : KorePattern → KorePattern → List KorePattern → Bool
is_plain_over left right ensured = is_plain_by (λ y. is_named y (free_variables left)) right ensured

-- the shape's parts are the rewrite's, and its left side is read; or no rewrite's is
abbrev pub IsShapeRead : KoreSignature → KorePattern → KorePattern → Option Shape → Type 0
IsShapeRead g p right (Some shape) = (model.rewrite_of p ≡ Some (rewrite_seen right shape)) × IsLeftSideRead g (view shape.left.term.now) (seen shape.left.predicates.items)
IsShapeRead g p right None = (m : model.Rewrite) → model.rewrite_of p ≡ Some m → ¬ IsLeftSideRead g m.left m.condition

-- what doesn't depend on the sides
pub record IsStatementRead (g : KoreSignature) (a : Statement) : Type 0 where
  pub no_parameters : a.parameters ≡ []
  pub priority : IsTrue (is_read_priority (model.priority_of a.attributes))
  pub parts : IsTrue (list_all (is_part_read g) (subpatterns a.pattern))
  pub injections : AllByRecursion (InjectionsSplit g) (subpatterns a.pattern)

-- the code's rule is made of a rewrite's parts
pub record IsMadeOf (g : KoreSignature) (s : KoreSort) (m : model.Rewrite) (r : code.Rewrite) : Type 0 where
  pub left : IsLeftOf g m.left r.left
  pub tests : IsVerifiedLeft g m.left → (v : Valuation) → IsSorted g (instance g v m.left) → AllByRecursion (HasHead g v) r.tests.items ↔ GivesSorts g v (free_variables m.left)
  pub condition : (v : Valuation) → Decides (condition_holds v (condition_view r.condition)) (AllByRecursion (IsTrueUnder g v) m.condition)
  pub right : IsTermOf g m.right r.right
  pub right_narrow : IsNarrowAs g m.right r.right
  pub condition_narrow : (v : Valuation) → is_condition_narrow v (condition_view r.condition) ≡ not (list_any (computes_wide g v) m.condition)
  pub right_sort : sort_view r.right_sort ≡ s
  pub choice : IsChoiceOf g m r.chooses r.choice
  pub sides : AreMadeSides g m r.sides

-- what is compiled of a rewrite is verified
pub record IsSound (g : KoreSignature) (m : model.Rewrite) : Type 0 where
  pub left : IsVerifiedLeftTerm g m.left
  pub condition : AllByRecursion (IsVerifiedPredicate g) m.condition
  pub right : IsVerifiedTerm g m.right

-- a rule's body with what it is read from
pub record IsReadBody (g : KoreSignature) (a : Statement) (body : RuleBody) : Type 0 where
  pub meant : model.RuleBody
  pub reads : Reads g a.parameters a.attributes a.pattern meant
  pub is_body : IsBodyOf g meant body

-- what the error of a verification says: want of memory, or a fault
abbrev pub rule_error : Option VerifyFault → RuleError
rule_error (Some f) = Fault
rule_error None = Memory

-- a right side that isn't bound at its top has only variables of the left term where its one term has
abbrev pub RightPasses : KorePattern → KorePattern → KorePattern → Type 0
RightPasses left right term =
    is_binder right ≡ false → list_all (λ x. is_named x.name (free_variables left)) (free_variables right) ≡ true →
    list_all (λ x. is_named x.name (free_variables left)) (free_variables term) ≡ true
