-- Which rules of a theory the code's rules are.
use Rattle.std.specs.Prelude.{◌≡◌, ◌↔◌, ℕ, Bool, true, false, not, min, [], map, Option, Some, None, unwrap_or, IsTrue, string_bytes, ◌⊎◌, ⊤}
use Rattle.std.specs.Bool.{Decides}
use Rattle.std.specs.List.{AllByRecursion, list_any}
use Rattle.kp_kore.specs.Syntax.{KoreSort, KorePattern, top, conjunction, Statement}
use Rattle.kp_kore.specs.Parts.{is_term, free_variables}
use Rattle.kp_kore.specs.Signature.{KoreSignature}
use Rattle.kp_kore.specs.Sorting.{sort_of_term}
use Rattle.kp_kore.specs.View.{view, sort_view, sorted_variable_view}
use Rattle.kp_signature.specs.Places.{Place}
use Rattle.kp_signature.specs.Verify.{first_fault, VerifyFault, FailsWith}
use Rattle.kp_kore.specs.Value.{Value, HasSort}
use Rattle.kp_kore.specs.Sorted.{IsSorted}
use Rattle.kp_kore.specs.Instance.{Valuation, instance, IsTrueUnder, GivesSorts}
use Rattle.kp_kore.specs.Rules as model
use Rattle.kp_kore.specs.Foreign.{none_within, has_foreign_head, applies_undeclared, has_interpreted_head, IsRead, Reads, IsSkeletonInstance}
use Rattle.kp_kore.specs.Numbers.{computes_wide}
use Rattle.kp_ground.specs.Conditions.{condition_holds, condition_narrow as is_condition_narrow}
use Rattle.kp_ground.specs.ConditionView.{condition_view}
use Rattle.kp_compile.specs.Exact.{IsLeftOf, IsTermOf, IsNarrowAs}
use Rattle.kp_compile.specs.Verified.{misapplies_injection}
use Rattle.kp_rules.specs.Heads.{HasHead}
use Rattle.kp_rules.specs.Sides.{AreSidesOf}
use Rattle.kp_rules.specs.Skeletons.{IsAdmitted}
use Rattle.kp_rules.specs.VerifiedSides.{AreVerifiedSides}
use Rattle.kp_rules.specs.WideParts.{part_computes_wide, all_narrow}
use Rattle.kp_rules.specs.declared.rule.Rule.{Rule}
use Rattle.kp_rules.specs.declared.rule.RuleBody.{RuleBody}
use Rattle.kp_rules.specs.declared.rule.RuleBody.TheVariants.{Rewrite, Foreign}
use Rattle.kp_rules.specs.declared.rule.Rewrite as code
use Rattle.kp_rules.specs.declared.right_side.RightSide.{RightSide}
use Rattle.kp_rules.specs.declared.skeleton.Skeleton.{Skeleton}

-- a term of variables, literals, constructors and inj, without a verify fault
abbrev pub IsVerifiedLeft : KoreSignature → KorePattern → Type 0
IsVerifiedLeft g p =
    IsTrue (is_term p)
    × IsTrue (none_within (has_foreign_head g) p)
    × IsTrue (none_within (has_interpreted_head g) p)
    × ((c : Place) × (first_fault g c p ≡ None))

abbrev pub IsTop : KorePattern → Type 0
IsTop p = (s : KoreSort) × (p ≡ top s)

-- one configuration follows: no new variables, and nothing but \top to ensure
pub record IsPlain (m : model.Rewrite) : Type 0 where
  pub new_variables : m.new_variables ≡ []
  pub ensured : AllByRecursion IsTop m.ensured

-- the right side as its axiom has it: term, ensured condition and new variables, beside the left term's variables; the
-- numbers beyond 128 bits that its compiled parts compute are those of the term's parts without new variables
pub record IsSideOf (g : KoreSignature) (m : model.Rewrite) (s : RightSide) : Type 0 where
  pub term : view s.term ≡ m.right
  pub ensured : map view s.ensured.items ≡ m.ensured
  pub new_variables : map sorted_variable_view s.new_variables.items ≡ m.new_variables
  pub left_variables : map sorted_variable_view s.left_variables.items ≡ free_variables m.left
  pub parts : (v : Valuation) → all_narrow v s.parts.items ≡ not (part_computes_wide g v m.new_variables m.right)

-- it is kept exactly where the rule chooses
abbrev pub IsChoiceOf : KoreSignature → model.Rewrite → Bool → Option RightSide → Type 0
IsChoiceOf g m true (Some s) = IsSideOf g m s
IsChoiceOf g m false None = ⊤
IsChoiceOf g m true None = ⊥
IsChoiceOf g m false (Some s) = ⊥

abbrev pub is_conjunction : KorePattern → Bool
is_conjunction (conjunction s ps) = true
is_conjunction _ = false

-- no term, and no conjunction
pub record IsLonePredicate (p : KorePattern) : Type 0 where
  pub no_term : is_term p ≡ false
  pub no_conjunction : is_conjunction p ≡ false

-- the right side is a term beside predicates, none of which is a conjunction
pub record IsConstrained (m : model.Rewrite) : Type 0 where
  pub right : is_term m.right ≡ true
  pub ensured : AllByRecursion IsLonePredicate m.ensured

-- the code's rule is the rewrite: its terms and its condition are the rewrite's, its tests pass on a value that has a
-- sort exactly where the valuation gives the left term's variables values of their sorts, and the right term's
-- instance has the sort that is noted
pub record IsRewriteOf (g : KoreSignature) (m : model.Rewrite) (r : code.Rewrite) : Type 0 where
  pub left : IsLeftOf g m.left r.left
  pub tests : (v : Valuation) → IsSorted g (instance g v m.left) → AllByRecursion (HasHead g v) r.tests.items ↔ GivesSorts g v (free_variables m.left)
  pub condition : (v : Valuation) → Decides (condition_holds v (condition_view r.condition)) (AllByRecursion (IsTrueUnder g v) m.condition)
  pub right : IsTermOf g m.right r.right
  pub plain : r.chooses ≡ false → IsPlain m
  pub chooses : r.chooses ≡ true → ¬ IsPlain m
  pub choice : IsChoiceOf g m r.chooses r.choice
  pub sides : AreSidesOf g m r.sides
  pub verified : AreVerifiedSides g m
  pub constrained : IsConstrained m
  -- the numbers beyond 128 bits that they compute are those of the rewrite's patterns
  pub right_narrow : IsNarrowAs g m.right r.right
  pub condition_narrow : (v : Valuation) → is_condition_narrow v (condition_view r.condition) ≡ not (list_any (computes_wide g v) m.condition)
  pub right_sort : sort_of_term g m.right ≡ Some (sort_view r.right_sort)
  pub sorted : (v : Valuation) → GivesSorts g v (free_variables m.left) → m.new_variables ≡ [] → HasSort g (sort_view r.right_sort) (instance g v m.right)

-- and the skeleton is the foreign rule's: it stands for the same values
abbrev pub IsBodyOf : KoreSignature → model.RuleBody → RuleBody → Type 0
IsBodyOf g (model.rewrite m) (Rewrite r) = IsRewriteOf g m r
IsBodyOf g (model.foreign_rule l) (Foreign k) = (u : Value) → IsSorted g u → IsAdmitted g k u ↔ IsSkeletonInstance g l u
IsBodyOf g (model.rewrite m) (Foreign k) = ⊥
IsBodyOf g (model.foreign_rule l) (Rewrite r) = ⊥

-- what a rewrite axiom is read as: its body, and its priority where it isn't foreign
pub record IsReadAs (g : KoreSignature) (a : Statement) (priority : ℕ) (body : RuleBody) : Type 0 where
  pub meant : model.RuleBody
  pub reads : Reads g a.parameters a.attributes a.pattern meant
  pub is_body : IsBodyOf g meant body
  pub is_priority : (r : code.Rewrite) → body ≡ Rewrite r → model.priority_of a.attributes ≡ Some priority
  pub is_foreign_priority : (k : Skeleton) → body ≡ Foreign k → min (unwrap_or (model.priority_of a.attributes) model.usual_priority) model.most_priority ≡ priority

-- the pattern has a verify fault, applies inj to another number of arguments than one, or applies an undeclared name
abbrev pub HasFault : KoreSignature → KorePattern → Type 0
HasFault g p = ((f : VerifyFault) × FailsWith g p f) ⊎ ((none_within (misapplies_injection g) p ≡ false) ⊎ (none_within (applies_undeclared g) p ≡ false))

-- a rewrite axiom that is read has a fault
pub record IsFaulty (g : KoreSignature) (a : Statement) : Type 0 where
  pub rule : model.Rewrite
  pub read : IsRead g a.parameters a.attributes a.pattern rule
  pub has : HasFault g a.pattern

-- the code's rule is the theory's; a foreign rule's priority is kept up to the greatest that a rule may have
pub record IsCodeOf (g : KoreSignature) (m : model.RewriteRule) (r : Rule) : Type 0 where
  pub id : string_bytes r.id.value ≡ m.id
  pub is_body : IsBodyOf g m.body r.body.value
  pub is_priority : (w : code.Rewrite) → r.body.value ≡ Rewrite w → m.priority ≡ r.priority
  pub is_foreign_priority : (k : Skeleton) → r.body.value ≡ Foreign k → min m.priority model.most_priority ≡ r.priority
