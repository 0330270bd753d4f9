-- Where a walk along dependencies stands.
use Rattle.std.specs.Prelude.{◌≡◌, ℕ, suc, ◌+◌, ◌-◌, ◌*◌, ◌^◌, ◌<◌, ◌≤◌, false, List, [], map, length, get_or, Vec}
use Rattle.std.specs.List.{list_any}
use Rattle.std.specs.declared.alloc.Global.{Global}
use Rattle.kp_layers.specs.Layers.{DependsOn, AreLayers, highest, is_open}
use Rattle.kp_layers.specs.declared.layers.Layering.{Layering}
use Rattle.kp_layers.specs.declared.layers.Layering.TheVariants as layering
use Rattle.kp_layers.specs.declared.walk.Step.{Step}
use Rattle.kp_layers.specs.declared.walk.Step.TheVariants as step
use Rattle.kp_layers.specs.declared.walk.Walk.{Walk}

-- the lists that the code has
abbrev pub numbers_of : List (Vec ℕ Global) → List (List ℕ)
numbers_of = map (λ v. v.items)

-- a claim that isn't open has its layer, and needs none that is
abbrev pub AreKnown : List (List ℕ) → List ℕ → Type 0
AreKnown needs layers = (i : ℕ) → i < length layers → is_open layers i ≡ false →
    (get_or layers i 0 ≡ suc (highest layers (get_or needs i []))) × (list_any (is_open layers) (get_or needs i []) ≡ false)

-- each claim of a path depends on those behind it
abbrev pub IsPath : List (List ℕ) → List ℕ → Type 0
IsPath needs path = (i j : ℕ) → i < j → j < length path → DependsOn needs (get_or path i 0) (get_or path j 0)

pub record IsWalk (needs : List (List ℕ)) (w : Walk) : Type 0 where
  pub count : length w.layers.items ≡ length needs
  pub known : AreKnown needs w.layers.items
  -- no layer is higher than the number of claims that have theirs
  pub low : (i : ℕ) → get_or w.layers.items i 0 ≤ length w.settled.items
  pub path : IsPath needs w.path.items

-- the claim is the path's last, and needs these
pub record IsLast (needs : List (List ℕ)) (w : Walk) (claim : ℕ) (of_claim : List ℕ) : Type 0 where
  pub walk : IsWalk needs w
  pub last : (rest : ℕ) × (length w.path.items ≡ rest + 1) × (get_or w.path.items rest 0 ≡ claim)
  pub needed : get_or needs claim [] ≡ of_claim

-- how far a walk can go on at most: lists have fewer than 2 ^ 64 members
abbrev pub work_left : Walk → ℕ
work_left w = 2 * (2 ^ 64 - length w.settled.items) + (2 ^ 64 - length w.path.items)

-- what a step has found, and that it came nearer to the end
abbrev pub Finds : List (List ℕ) → Walk → Walk → Step → Type 0
Finds needs before w step.More = IsWalk needs w × (work_left w < work_left before)
Finds needs before w (step.Cycle i) = DependsOn needs i i
Finds needs before w step.Over = AreLayers needs w.layers.items

-- layers, or a claim that depends on itself
abbrev pub IsRight : List (List ℕ) → Layering → Type 0
IsRight needs (layering.Layers ls) = AreLayers needs ls.items
IsRight needs (layering.Cycle i) = DependsOn needs i i
