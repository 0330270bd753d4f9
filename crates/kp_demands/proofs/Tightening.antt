-- Bounds that are put in and gone over, and the room that they leave.
use Rattle.std.proofs.Common.{arith, ◌≡◌, sym, subst, ◌↔◌, ◌<◌, ◌≤◌, ◌+◌, ◌-◌, ◌*◌, ◌^◌, ℕ, ℤ, suc, List, ◌++◌}
use Rattle.std.specs.List.{AllByRecursion}
use Rattle.std.proofs.Math.Pow.{pow_mono}
use Rattle.kp_diff.specs.Bounds.{Bounds, Meets, HaveBits}
use Rattle.kp_diff.specs.Rows.{Differences, bounds_of}
use Rattle.kp_demands.specs.declared.demand.Demand.{Demand}
use Rattle.kp_demands.specs.Demands.{IsMetBy, MeetsBound, CanBeMet}
use Rattle.kp_demands.specs.Known.{Follow}
use Rattle.kp_demands.proofs.Lists.{all_append, all_map}
use Rattle.kp_demands.proofs.MetKinds.{bound_met}

-- a pass keeps what meets the bounds, whatever the size is called
pub passed : (n m : ℕ) (before after : Bounds) (values : ℕ → ℤ) → m ≡ n → (Meets m before values ↔ Meets m after values) → Meets n before values → Meets n after values
passed n m before after values e same h = subst (λ k. Meets k after values) e (same.0 (subst (λ k. Meets k before values) (sym e) h))

pub at_size : (n m : ℕ) (bounds : Bounds) (values : ℕ → ℤ) → m ≡ n → Meets n bounds values → Meets m bounds values
at_size n m bounds values e h = subst (λ k. Meets k bounds values) (sym e) h

pub bits_at_size : (bits n m : ℕ) (bounds : Bounds) → m ≡ n → HaveBits bits n bounds → HaveBits bits m bounds
bits_at_size bits n m bounds e h = subst (λ k. HaveBits bits k bounds) (sym e) h

-- a number of 78 bits has as many as the bounds, which have no fewer
pub small_enough : (bits m : ℕ) → 78 ≤ bits → m < 2 ^ 78 → m < 2 ^ bits
small_enough bits m least small = let le : 2 ^ 78 ≤ 2 ^ bits = pow_mono {i = 78} {j = bits} least in omega (arith, le, small)

-- one bound more, and room for one fewer
pub room_for_one : (bits room : ℕ) → 0 < room → bits + 2 * room ≤ 127 → bits + 2 ≤ 127
room_for_one bits room some h = omega (arith, some, h)

pub room_left : (bits room less : ℕ) → 0 < room → less + 1 ≡ room → bits + 2 * room ≤ 127 → suc (suc bits) + 2 * less ≤ 127
room_left bits room less some e h = omega (arith, some, e, h)

pub more_bits : (bits : ℕ) → 78 ≤ bits → 78 ≤ suc (suc bits)
more_bits bits h = omega (arith, h)

-- ---- along the search

-- what follows from the chosen demands, with those of a way that stands behind them
pub follows_with_way : (ds way : List Demand) (before after : Differences) → Follow ds before → ((values : ℕ → ℤ) → AllByRecursion (MeetsBound values) ds → AllByRecursion (MeetsBound values) way) →
    after.size ≡ before.size → ((values : ℕ → ℤ) → Meets before.size (bounds_of before) values → AllByRecursion (MeetsBound values) way → Meets before.size (bounds_of after) values) → Follow ds after
follows_with_way ds way before after f last size met values zero_is all = at_size before.size after.size (bounds_of after) values size (met values (f values zero_is all) (last values all))

pub follows_more : (ds now more extended : List Demand) (m : Differences) → now ≡ ds → extended ≡ now ++ more → Follow ds m → Follow extended m
follows_more ds now more extended m kept built f values zero_is all =
    f values zero_is (subst (AllByRecursion (MeetsBound values)) kept ((all_append (MeetsBound values) now more).0 (subst (AllByRecursion (MeetsBound values)) built all)).0)

-- what holds of all holds of those that were put behind
pub last_of : (P : Demand → Type 0) (now more way extended : List Demand) → extended ≡ now ++ more → way ≡ more → AllByRecursion P extended → AllByRecursion P way
last_of P now more way extended built same all = subst (AllByRecursion P) (sym same) ((all_append P now more).0 (subst (AllByRecursion P) built all)).1

-- a way that the bounds stand against can't be among what is met
pub none_against : (fixed : ℕ) (ds way : List Demand) (choices : List (List (List Demand))) (m : Differences) → Follow ds m → ((values : ℕ → ℤ) → AllByRecursion (MeetsBound values) ds → AllByRecursion (MeetsBound values) way) →
    ((values : ℕ → ℤ) → Meets m.size (bounds_of m) values → ¬ AllByRecursion (MeetsBound values) way) → ¬ CanBeMet fixed ds choices
none_against fixed ds way choices m f last none can =
    let all : AllByRecursion (MeetsBound can.values.wholes) ds = all_map (IsMetBy can.values) (MeetsBound can.values.wholes) ds (bound_met can.values) can.demands_met in
    none can.values.wholes (f can.values.wholes can.lawful.zero_is all) (last can.values.wholes all)
