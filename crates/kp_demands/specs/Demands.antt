-- Demands on unknowns that have numbers, and when some values meet them.
-- Source: difference constraints, truth values and equality logic (Kroening, Strichman, Decision Procedures).
use Rattle.std.specs.Prelude.{◌≡◌, ◌≢◌, ◌<◌, ◌≤◌, ◌^◌, ℕ, ℤ, pos, ◌-ℤ◌, ◌≤ℤ◌, unsigned_abs, Bool, List, [], ◌∷◌, map, ⊤, ◌⊎◌, Vec}
use Rattle.std.specs.List.{AllByRecursion}
use Rattle.std.specs.declared.alloc.Global.{Global}
use Rattle.kp_demands.specs.declared.demand.Demand.{Demand}
use Rattle.kp_demands.specs.declared.demand.Demand.TheVariants.{Bound, Truth, Same, Apart}
use Rattle.kp_demands.specs.Classes.{AreFixed}

-- a whole number, a truth value and a class of equal tokens for each number; the three kinds are numbered apart
pub record Assignment : Type 0 where
  pub wholes : ℕ → ℤ
  pub truths : ℕ → Bool
  pub classes : ℕ → ℕ

-- ---- one kind at a time

abbrev pub MeetsBound : (ℕ → ℤ) → Demand → Type 0
MeetsBound wholes (Bound x y c) = (wholes x -ℤ wholes y) ≤ℤ c
MeetsBound wholes d = ⊤

abbrev pub MeetsTruth : (ℕ → Bool) → Demand → Type 0
MeetsTruth truths (Truth x b) = truths x ≡ b
MeetsTruth truths d = ⊤

abbrev pub MeetsSame : (ℕ → ℕ) → Demand → Type 0
MeetsSame classes (Same x y) = classes x ≡ classes y
MeetsSame classes d = ⊤

abbrev pub MeetsApart : (ℕ → ℕ) → Demand → Type 0
MeetsApart classes (Apart x y) = classes x ≢ classes y
MeetsApart classes d = ⊤

-- ---- all kinds

abbrev pub IsMetBy : Assignment → Demand → Type 0
IsMetBy a (Bound x y c) = (a.wholes x -ℤ a.wholes y) ≤ℤ c
IsMetBy a (Truth x b) = a.truths x ≡ b
IsMetBy a (Same x y) = a.classes x ≡ a.classes y
IsMetBy a (Apart x y) = a.classes x ≢ a.classes y

-- the whole number 0 is zero, and the first classes, those of tokens that are written out, differ
pub record IsLawful (fixed : ℕ) (a : Assignment) : Type 0 where
  pub zero_is : a.wholes 0 ≡ pos 0
  pub differ : AreFixed fixed a.classes

-- one of the ways has all its demands met
abbrev pub HasWay : Assignment → List (List Demand) → Type 0
HasWay a [] = ⊥
HasWay a (w ∷ ways) = AllByRecursion (IsMetBy a) w ⊎ HasWay a ways

-- some values meet all the demands, and those of one way for each choice
pub record CanBeMet (fixed : ℕ) (demands : List Demand) (choices : List (List (List Demand))) : Type 0 where
  pub values : Assignment
  pub lawful : IsLawful fixed values
  pub demands_met : AllByRecursion (IsMetBy values) demands
  pub choices_met : AllByRecursion (HasWay values) choices

-- ---- sizes

-- how many unknowns of each kind there are, and how many bits the bounds have
pub record Sizes : Type 0 where
  pub wholes : ℕ
  pub truths : ℕ
  pub classes : ℕ
  pub bits : ℕ

abbrev pub IsSized : Sizes → Demand → Type 0
IsSized s (Bound x y c) = (x ≤ s.wholes) × (y ≤ s.wholes) × (unsigned_abs c < 2 ^ s.bits)
IsSized s (Truth x b) = x < s.truths
IsSized s (Same x y) = (x < s.classes) × (y < s.classes)
IsSized s (Apart x y) = (x < s.classes) × (y < s.classes)

-- ---- the code's lists

abbrev pub choices_of : List (Vec (Vec Demand Global) Global) → List (List (List Demand))
choices_of choices = map (λ c. map (λ w. w.items) c.items) choices
