-- What the sort tests of a left term tell.
use Rattle.std.specs.Prelude.{◌≡◌, true, ◌↔◌, List, Option, Some, None}
use Rattle.std.specs.Borrow.{Bor}
use Rattle.std.specs.List.{AllByRecursion}
use Rattle.kp_kore.specs.Syntax.{Text, KorePatterns}
use Rattle.kp_kore.specs.Parts.{SortedName}
use Rattle.kp_kore.specs.Signature.{KoreSignature, meaning_of}
use Rattle.kp_kore.specs.View.{sort_view}
use Rattle.kp_kore.specs.declared.sort.Sort.{Sort}
use Rattle.kp_kore.specs.Value.{Value, HasSort}
use Rattle.kp_kore.specs.Sorted.{IsSorted}
use Rattle.kp_kore.specs.Instance.{Valuation, instances, applied, GivesSorts}
use Rattle.kp_compile.specs.Exact.{are_named}
use Rattle.kp_rules.specs.Bound.{tests_read}
use Rattle.kp_rules.specs.Heads.{HasHead}
use Rattle.kp_rules.specs.declared.rule.SortTest.{SortTest}

-- the value has the sort that its place gives; where the place gives none, some sort
abbrev pub IsGiven : KoreSignature → Option (Bor Sort) → Value → Type 0
IsGiven g (Some s) u = HasSort g (sort_view s.now) u
IsGiven g None u = IsSorted g u

-- the new tests pass exactly where the old ones do and these variables stand for values of their sorts
abbrev pub Adds : KoreSignature → Valuation → List SortTest → List SortTest → List SortedName → Type 0
Adds g v old new xs = AllByRecursion (HasHead g v) new ↔ (AllByRecursion (HasHead g v) old × GivesSorts g v xs)

-- wherever this holds of a valuation, the new tests add to the old ones those of these variables
abbrev pub AddWhere : KoreSignature → (Valuation → Type 0) → List SortTest → List SortTest → List SortedName → Type 0
AddWhere g Holds old new xs = (v : Valuation) → Holds v → Adds g v old new xs

-- the symbol applied to the arguments' instances under the valuation is a value of some sort
abbrev pub HasSortedInstance : KoreSignature → Text → KorePatterns → Valuation → Type 0
HasSortedInstance g f ps v = IsSorted g (applied (meaning_of g f) f (instances g v ps))

-- where these variables are named and the old tests tell the numbers of names, the new ones do
abbrev pub ReadMore : List Text → List SortedName → List SortTest → List SortTest → Type 0
ReadMore xs vs old new = are_named xs vs ≡ true → tests_read xs old ≡ true → tests_read xs new ≡ true
