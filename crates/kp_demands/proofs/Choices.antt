-- Demands and choices can be met exactly where the demands and one way of the first choice can, with the other choices.
use Rattle.std.proofs.Common.{arith, ◌≡◌, refl, sym, subst, ap, ◌∙◌, ◌<◌, ◌≤◌, ◌+◌, ◌-◌, ℕ, zero, suc, Bool, true, false, nat_lt, List, [], ◌∷◌, ◌++◌, inl, inr, length, get_or, map, take, drop, Vec}
use Rattle.std.specs.List.{AllByRecursion}
use Rattle.std.specs.declared.alloc.Global.{Global}
use Rattle.std.proofs.lemmas.List.{take_all, length-map}
use Rattle.std.proofs.Math.Seq.{take-append_seam}
use Rattle.kp_demands.specs.declared.demand.Demand.{Demand}
use Rattle.kp_demands.specs.Demands.{Assignment, IsMetBy, HasWay, CanBeMet, Sizes, IsSized, choices_of}
use Rattle.kp_demands.proofs.Lists.{all_append, all_at}

has_way_at : (a : Assignment) (ways : List (List Demand)) (i : ℕ) → i < length ways → AllByRecursion (IsMetBy a) (get_or ways i []) → HasWay a ways
has_way_at a [] i lt h = absurd (omega (arith, lt))
has_way_at a (w ∷ ways) zero lt h = inl h
has_way_at a (w ∷ ways) (suc i) lt h = inr (has_way_at a ways i (omega (arith, lt)) h)

way_of : (a : Assignment) (ways : List (List Demand)) → HasWay a ways → (i : ℕ) × (i < length ways) × AllByRecursion (IsMetBy a) (get_or ways i [])
way_of a [] h = absurd h
way_of a (w ∷ ways) (inl h) = (0, omega arith, h)
way_of a (w ∷ ways) (inr h) = let on = way_of a ways h in (suc on.0, further on.0 ways on.1, on.2)
  where
    further : (i : ℕ) (ways : List (List Demand)) → i < length ways → suc i < suc (length ways)
    further i ways lt = omega (arith, lt)

pub by_way : (fixed : ℕ) (ds : List Demand) (ways : List (List Demand)) (rest : List (List (List Demand))) (i : ℕ) → i < length ways → CanBeMet fixed (ds ++ get_or ways i []) rest → CanBeMet fixed ds (ways ∷ rest)
by_way fixed ds ways rest i lt can = let parts = (all_append (IsMetBy can.values) ds (get_or ways i [])).0 can.demands_met in record {
  values = can.values;
  lawful = can.lawful;
  demands_met = parts.0;
  choices_met = (has_way_at can.values ways i lt parts.1, can.choices_met);
}

pub by_no_way : (fixed : ℕ) (ds : List Demand) (ways : List (List Demand)) (rest : List (List (List Demand))) → ((i : ℕ) → i < length ways → ¬ CanBeMet fixed (ds ++ get_or ways i []) rest) → ¬ CanBeMet fixed ds (ways ∷ rest)
by_no_way fixed ds ways rest none can = let found = way_of can.values ways can.choices_met.0 in none found.0 found.1 (record {
  values = can.values;
  lawful = can.lawful;
  demands_met = (all_append (IsMetBy can.values) ds (get_or ways found.0 [])).1 (can.demands_met, found.2);
  choices_met = can.choices_met.1;
})

-- ---- along the loop over the ways of the first choice

split : (choices : List (Vec (Vec Demand Global) Global)) (first : Vec (Vec Demand Global) Global) → 0 < length choices → first ≡ get_or choices 0 first →
    choices_of choices ≡ map (λ w. w.items) first.items ∷ choices_of (take (length choices - 1) (drop 1 choices))
split [] first lt is = absurd (omega (arith, lt))
split (c ∷ cs) first lt is = ap (λ (f : Vec (Vec Demand Global) Global). map (λ w. w.items) f.items ∷ choices_of cs) (sym is) ∙ ap (λ r. map (λ w. w.items) first.items ∷ choices_of r) (sym (rest cs))
  where
    rest : (cs : List (Vec (Vec Demand Global) Global)) → take (length (c ∷ cs) - 1) cs ≡ cs
    rest cs = take_all (length (c ∷ cs) - 1) cs (omega arith)

way_items : (ways : List (Vec Demand Global)) (i : ℕ) (w : Vec Demand Global) → i < length ways → w ≡ get_or ways i w → get_or (map (λ v. v.items) ways) i [] ≡ w.items
way_items [] i w lt is = absurd (omega (arith, lt))
way_items (v ∷ ways) zero w lt is = ap (λ (u : Vec Demand Global). u.items) (sym is)
way_items (v ∷ ways) (suc i) w lt is = way_items ways i w (omega (arith, lt)) is

-- the demands have one way of the first choice behind them
pub record IsWayTaken (choices : List (Vec (Vec Demand Global) Global)) (ways : List (Vec Demand Global)) (ds : List Demand) (i : ℕ) (extended : List Demand) : Type 0 where
  pub first : choices_of choices ≡ map (λ w. w.items) ways ∷ choices_of (take (length choices - 1) (drop 1 choices))
  pub short : i < length (map (λ (w : Vec Demand Global). w.items) ways)
  pub is : extended ≡ ds ++ get_or (map (λ w. w.items) ways) i []

pub first_split : (choices : List (Vec (Vec Demand Global) Global)) (first : Vec (Vec Demand Global) Global) (ways : List (Vec Demand Global)) → 0 < length choices → first ≡ get_or choices 0 first → ways ≡ first.items →
    choices_of choices ≡ map (λ w. w.items) ways ∷ choices_of (take (length choices - 1) (drop 1 choices))
first_split choices first ways long is items = split choices first long is ∙ ap (λ ws. map (λ w. w.items) ws ∷ choices_of (take (length choices - 1) (drop 1 choices))) (sym items)

pub way_taken : (choices : List (Vec (Vec Demand Global) Global)) (first : Vec (Vec Demand Global) Global) (ways : List (Vec Demand Global)) (way : Vec Demand Global) (added ds now : List Demand) (i : ℕ) (extended : List Demand) →
    0 < length choices → first ≡ get_or choices 0 first → ways ≡ first.items → i < length ways → way ≡ get_or ways i way → added ≡ way.items → now ≡ ds → extended ≡ now ++ added → IsWayTaken choices ways ds i extended
way_taken choices first ways way added ds now i extended long is items short at by kept built = record {
  first = first_split choices first ways long is items;
  short = subst (λ n. i < n) (sym (length-map ways (λ w. w.items))) short;
  is = built ∙ ap (λ l. l ++ added) kept ∙ ap (λ l. ds ++ l) (by ∙ sym (way_items ways i way short at));
}

pub taken_can : (fixed : ℕ) (choices : List (Vec (Vec Demand Global) Global)) (ways : List (Vec Demand Global)) (ds : List Demand) (i : ℕ) (extended : List Demand) → IsWayTaken choices ways ds i extended →
    CanBeMet fixed extended (choices_of (take (length choices - 1) (drop 1 choices))) → CanBeMet fixed ds (choices_of choices)
taken_can fixed choices ways ds i extended t can = subst (CanBeMet fixed ds) (sym t.first)
    (by_way fixed ds (map (λ w. w.items) ways) (choices_of (take (length choices - 1) (drop 1 choices))) i t.short (subst (λ l. CanBeMet fixed l (choices_of (take (length choices - 1) (drop 1 choices)))) t.is can))

pub taken_sized : (s : Sizes) (choices : List (Vec (Vec Demand Global) Global)) (ways : List (Vec Demand Global)) (ds : List Demand) (i : ℕ) (extended : List Demand) → IsWayTaken choices ways ds i extended →
    AllByRecursion (IsSized s) ds → AllByRecursion (AllByRecursion (AllByRecursion (IsSized s))) (choices_of choices) →
    AllByRecursion (IsSized s) extended × AllByRecursion (AllByRecursion (AllByRecursion (IsSized s))) (choices_of (take (length choices - 1) (drop 1 choices)))
taken_sized s choices ways ds i extended t sized all = let parts = subst (AllByRecursion (AllByRecursion (AllByRecursion (IsSized s)))) t.first all in (
  subst (AllByRecursion (IsSized s)) (sym t.is) ((all_append (IsSized s) ds (get_or (map (λ w. w.items) ways) i [])).1 (sized, all_at (AllByRecursion (IsSized s)) (map (λ w. w.items) ways) i [] t.short parts.0)),
  parts.1,
)

pub none_more : (fixed : ℕ) (ds : List Demand) (ways : List (List Demand)) (rest : List (List (List Demand))) (k : ℕ) (extended : List Demand) → extended ≡ ds ++ get_or ways k [] →
    ((i : ℕ) → i < k → ¬ CanBeMet fixed (ds ++ get_or ways i []) rest) → ¬ CanBeMet fixed extended rest → (i : ℕ) → i < k + 1 → ¬ CanBeMet fixed (ds ++ get_or ways i []) rest
none_more fixed ds ways rest k extended is before now i lt can = by (nat_lt i k) refl
  where
    by : (b : Bool) → nat_lt i k ≡ b → ⊥
    by true e = before i (grind (arith, e)) can
    by false e = let same : i ≡ k = grind (arith, e, lt) in now (subst (λ l. CanBeMet fixed l rest) (sym is) (subst (λ j. CanBeMet fixed (ds ++ get_or ways j []) rest) same can))

pub none_at_all : (fixed : ℕ) (choices : List (Vec (Vec Demand Global) Global)) (ways : List (Vec Demand Global)) (ds : List Demand) (k : ℕ) →
    choices_of choices ≡ map (λ w. w.items) ways ∷ choices_of (take (length choices - 1) (drop 1 choices)) → length ways ≤ k →
    ((i : ℕ) → i < k → ¬ CanBeMet fixed (ds ++ get_or (map (λ w. w.items) ways) i []) (choices_of (take (length choices - 1) (drop 1 choices)))) → ¬ CanBeMet fixed ds (choices_of choices)
none_at_all fixed choices ways ds k first past none can = by_no_way fixed ds (map (λ w. w.items) ways) (choices_of (take (length choices - 1) (drop 1 choices)))
    (λ i lt. none i (within i (subst (λ n. i < n) (length-map ways (λ w. w.items)) lt))) (subst (CanBeMet fixed ds) first can)
  where
    within : (i : ℕ) → i < length ways → i < k
    within i lt = omega (arith, lt, past)

pub shorter : (choices : List (Vec (Vec Demand Global) Global)) → 0 < length choices → length (take (length choices - 1) (drop 1 choices)) < length choices
shorter [] lt = absurd (omega (arith, lt))
shorter (c ∷ cs) lt = let is : length (take (length (c ∷ cs) - 1) cs) ≡ length cs = ap (λ (l : List (Vec (Vec Demand Global) Global)). length l) (take_all (length (c ∷ cs) - 1) cs (omega arith)) in omega (arith, is)

-- what was put behind is taken away again
pub cut : (n : ℕ) (ds now w : List Demand) → n ≡ length ds → now ≡ ds ++ w → take n now ≡ ds
cut n ds now w count is = ap (λ l. take n l) is ∙ ap (λ k. take k (ds ++ w)) count ∙ take-append_seam ds w

pub without_choices : (fixed : ℕ) (ds : List Demand) (choices : List (List (List Demand))) → CanBeMet fixed ds choices → CanBeMet fixed ds []
without_choices fixed ds choices can = record { values = can.values; lawful = can.lawful; demands_met = can.demands_met; choices_met = tt }
