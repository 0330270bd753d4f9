-- What follows one of the code's rules.
use Rattle.std.specs.Prelude.{◌≡◌, Bool, List, map, Option, Some, None}
use Rattle.kp_kore.specs.Syntax.{KoreSort, KorePattern}
use Rattle.kp_kore.specs.Parts.{SortedName}
use Rattle.kp_kore.specs.Signature.{KoreSignature}
use Rattle.kp_kore.specs.View.{view, sort_view, sorted_variable_view}
use Rattle.kp_kore.specs.Value.{Value, HasSort}
use Rattle.kp_kore.specs.Instance.{Valuation, GivesSorts}
use Rattle.kp_ground.specs.Terms.{term_value, stays_narrow}
use Rattle.kp_ground.specs.TermView.{term_view}
use Rattle.kp_rules.specs.declared.rule.Rewrite.{Rewrite}
use Rattle.kp_rules.specs.declared.right_side.RightSide.{RightSide}
use Rattle.kp_rules.specs.WideParts.{all_narrow}
use Rattle.kp_compile.specs.Spelled.{IsSpellingOf}
use Rattle.kp_pattern_substitution.specs.Substitution.{ReplacedName}
use Rattle.kp_successors.specs.Choices.{AreNamed, SpellUnder, chosen_pattern}

abbrev pub left_of : RightSide → List SortedName
left_of s = map sorted_variable_view s.left_variables.items

abbrev pub new_of : RightSide → List SortedName
new_of s = map sorted_variable_view s.new_variables.items

abbrev pub ensured_of : RightSide → List KorePattern
ensured_of s = map view s.ensured.items

-- the terms are for the names of the left term's variables that aren't new
abbrev pub AreForLeft : RightSide → List ReplacedName → Type 0
AreForLeft s terms = AreNamed (left_of s) (new_of s) terms

-- and spell their values under each of these valuations
abbrev pub Spell : KoreSignature → List SortedName → (Valuation → Type 0) → List ReplacedName → Type 0
Spell g left Holds terms = (v : Valuation) → Holds v → GivesSorts g v left → SpellUnder g v terms

-- the normal spelling of the right term's value under these valuations
pub record PlainBy (g : KoreSignature) (r : Rewrite) (Holds : Valuation → Type 0) (p : KorePattern) : Type 0 where
  pub value : Value
  pub meant : (v : Valuation) → Holds v → value ≡ term_value v (term_view r.right)
  pub spelled : HasSort g (sort_view r.right_sort) value → IsSpellingOf g value p

-- the right side, of this sort, with the spellings of the left term's variables
pub record ChosenBy (g : KoreSignature) (sort : KoreSort) (side : RightSide) (Holds : Valuation → Type 0) (p : KorePattern) : Type 0 where
  pub terms : List ReplacedName
  pub names : AreForLeft side terms
  pub spelled : Spell g (left_of side) Holds terms
  pub pattern : p ≡ chosen_pattern sort terms (view side.term) (ensured_of side) (new_of side)

abbrev pub IsNextBy : KoreSignature → Rewrite → Option RightSide → (Valuation → Type 0) → KorePattern → Type 0
IsNextBy g r None Holds p = PlainBy g r Holds p
IsNextBy g r (Some s) Holds p = ChosenBy g (sort_view r.right_sort) s Holds p

-- the pattern that follows the rule under these valuations
abbrev pub IsNextOf : KoreSignature → Rewrite → (Valuation → Type 0) → KorePattern → Type 0
IsNextOf g r Holds p = IsNextBy g r r.choice Holds p

-- whether the right term stays within 128 bits; where the rule chooses, each part without new variables
abbrev pub is_right_narrow_by : Rewrite → Option RightSide → Valuation → Bool
is_right_narrow_by r None v = stays_narrow v (term_view r.right)
is_right_narrow_by r (Some s) v = all_narrow v s.parts.items

abbrev pub is_right_narrow : Rewrite → Valuation → Bool
is_right_narrow r v = is_right_narrow_by r r.choice v
