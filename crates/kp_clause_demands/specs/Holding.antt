-- That some values of the unknowns of clauses are as all clauses ask.
-- Source: satisfiability of clauses; the division is this project's.
use Rattle.std.specs.Prelude.{◌≡◌, ℕ, ◌+◌, ◌<◌, ◌≤◌, ◌^◌, List, length, Vec}
use Rattle.std.specs.List.{AllByRecursion, Contains}
use Rattle.std.specs.declared.alloc.Global.{Global}
use Rattle.kp_kore.specs.Parts.{SortedName}
use Rattle.kp_kore.specs.Signature.{KoreSignature}
use Rattle.kp_kore.specs.Value.{Value, HasSort}
use Rattle.kp_kore.specs.Instance.{Valuation, GivesSorts}
use Rattle.kp_symbolic.specs.Weights.{largest, numeric_names, all_bounds}
use Rattle.kp_literals.specs.Readings.{clauses_view}
use Rattle.kp_literals.specs.Unknowns.{all_unknowns, AreSaidOfKind}
use Rattle.kp_literals.specs.declared.reading.ReadLiteral.{ReadLiteral}
use Rattle.kp_clause_demands.specs.Asking.{AreAskedTruly}

-- numeric variables and digits of constants are within the limit
pub record AreLight (cs : List (Vec ReadLiteral Global)) : Type 0 where
  pub bits : ℕ
  pub below : largest (all_bounds (clauses_view cs)) < 2 ^ bits
  pub within : length (numeric_names (all_bounds (clauses_view cs))) + bits ≤ 126

-- each unknown is of its kind's sorts, has one sort, and values; numbers are within the limit
pub record CanBeDecided (g : KoreSignature) (cs : List (Vec ReadLiteral Global)) : Type 0 where
  pub forms : AllByRecursion (λ c. AreSaidOfKind g c.items) cs
  pub one_sort_each : (x y : SortedName) → Contains (all_unknowns cs) x → Contains (all_unknowns cs) y → x.name ≡ y.name → x.sort ≡ y.sort
  pub have_values : AllByRecursion (λ x. (u : Value) × HasSort g x.sort u) (all_unknowns cs)
  pub light : AreLight cs

-- some values of the unknowns make a decided literal of each clause true
pub record CanBeAsked (g : KoreSignature) (cs : List (Vec ReadLiteral Global)) : Type 0 where
  pub valuation : Valuation
  pub sorts : GivesSorts g valuation (all_unknowns cs)
  pub are_true : AreAskedTruly g valuation (clauses_view cs)
