-- The first weight that is above its limit, as it is told.
use Rattle.std.specs.Prelude.{◌≡◌, ℕ, ◌<◌, ◌-◌, ◌^◌, min, List, ◌++◌, Option, Some, None}
use Rattle.std.specs.List.{flat_map}
use Rattle.kp_kore.specs.Syntax.{Text}
use Rattle.kp_symbolic.specs.Plain.{ReadLiteral}
use Rattle.kp_symbolic.specs.Weights as model
use Rattle.kp_symbolic.specs.Weights.{DifferenceBound, name_in, IsWeight, IsOver}
use Rattle.kp_limits.specs.declared.weight.WeightKind.{WeightKind}
use Rattle.kp_limits.specs.declared.weight.WeightKind.TheVariants.{Bits, Literals, Product}
use Rattle.kp_limits.specs.declared.weight.Weighed.{Weighed}

abbrev pub weight_view : WeightKind → model.Weight
weight_view Bits = model.bits
weight_view Literals = model.literals
weight_view Product = model.product

-- no number is told that is more than this
abbrev pub told : ℕ → ℕ
told n = min n (2 ^ 64 - 1)

-- the number that is told for the clauses' weight of this kind
pub record TellsWeight (cs : List (List ReadLiteral)) (w : model.Weight) (number : ℕ) : Type 0 where
  pub weight : ℕ
  pub weighs : IsWeight w cs weight
  pub told_is : number ≡ told weight

-- the variables of the bounds, one for each place
abbrev pub names_in_bounds : List DifferenceBound → List Text
names_in_bounds bs = flat_map (λ b. name_in b.first ++ name_in b.second) bs

-- the order in which weights are looked at
abbrev pub rank : model.Weight → ℕ
rank model.bits = 0
rank model.literals = 1
rank model.product = 2

-- the clauses weigh more than the limit, and those before it are within theirs
pub record IsFirstOver (cs : List (List ReadLiteral)) (h : Weighed) : Type 0 where
  pub number : ℕ
  pub over : IsOver (weight_view h.weight) cs number
  pub told_is : h.number ≡ told number
  pub others : (w : model.Weight) (n : ℕ) → rank w < rank (weight_view h.weight) → ¬ IsOver w cs n

abbrev pub TellsOver : List (List ReadLiteral) → Option Weighed → Type 0
TellsOver cs (Some h) = IsFirstOver cs h
TellsOver cs None = (w : model.Weight) (n : ℕ) → ¬ IsOver w cs n
