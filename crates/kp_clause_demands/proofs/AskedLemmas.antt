-- What is asked, before and after the ways of one more clause.
use Rattle.std.proofs.Common.{arith, ◌≡◌, sym, subst, ◌∙◌, ap, ◌↔◌, ◌⊎◌, inl, inr, ◌<◌, ◌≤◌, ◌+◌, ℕ, List, [], ◌∷◌, ◌++◌, length, take, get_or}
use Rattle.std.specs.Prelude.{Vec, Result, Ok, Err, IfOk}
use Rattle.std.specs.List.{AllByRecursion}
use Rattle.std.specs.declared.alloc.Global.{Global}
use Rattle.std.specs.declared.alloc.AllocError.{AllocError}
use Rattle.kp_demands.specs.Demands.{Assignment, IsMetBy, HasWay, Sizes, IsSized, choices_of}
use Rattle.kp_demands.specs.Tabled.{AreSizesOf}
use Rattle.kp_demands.specs.declared.tables.Tables.{Tables}
use Rattle.kp_demands.specs.declared.demand.Demand.{Demand}
use Rattle.kp_demands.proofs.Lists.{all_push, all_append, all_of_map, told_more, told_all}
use Rattle.kp_clause_demands.specs.Ways.{items_of_ways, AreWaysSized}

-- what holds of demands and of the ways of each choice
abbrev pub Both : (Demand → Type 0) → (List (List Demand) → Type 0) → List Demand → List (Vec (Vec Demand Global) Global) → Type 0
Both P Q ds cs = AllByRecursion P ds × AllByRecursion Q (choices_of cs)

one_more : (P : Demand → Type 0) (Q : List (List Demand) → Type 0) (ds w : List Demand) (cs : List (Vec (Vec Demand Global) Global)) → (AllByRecursion P w ↔ Q (w ∷ [])) → Both P Q (ds ++ w) cs ↔ (Both P Q ds cs × Q (w ∷ []))
one_more P Q ds w cs f = (
  λ h. let p = (all_append P ds w).0 h.0 in ((p.0, h.1), f.0 p.1),
  λ h. ((all_append P ds w).1 (h.0.0, f.1 h.1), h.0.1),
)

pub one_added : (P : Demand → Type 0) (Q : List (List Demand) → Type 0) (ds es w : List Demand) (cs : List (Vec (Vec Demand Global) Global)) (ways : List (List Demand)) → (AllByRecursion P w ↔ Q (w ∷ [])) → es ≡ ds ++ w → ways ≡ w ∷ [] → Both P Q es cs ↔ (Both P Q ds cs × Q ways)
one_added P Q ds es w cs ways f e k = subst (λ l. Both P Q l cs ↔ (Both P Q ds cs × Q ways)) (sym e) (subst (λ ws. Both P Q (ds ++ w) cs ↔ (Both P Q ds cs × Q ws)) (sym k) (one_more P Q ds w cs f))

choices_more : (Q : List (List Demand) → Type 0) (cs : List (Vec (Vec Demand Global) Global)) (c : Vec (Vec Demand Global) Global) → AllByRecursion Q (choices_of (cs ++ c ∷ [])) ↔ (AllByRecursion Q (choices_of cs) × Q (items_of_ways c.items))
choices_more Q cs c =
    let R = λ (d : Vec (Vec Demand Global) Global). Q (items_of_ways d.items) in
    let whole = all_of_map Q (λ (d : Vec (Vec Demand Global) Global). items_of_ways d.items) (cs ++ c ∷ []) in
    let part = all_of_map Q (λ (d : Vec (Vec Demand Global) Global). items_of_ways d.items) cs in
    let push = all_push R cs c in
    (λ h. let p = push.0 (whole.0 h) in (part.1 p.0, p.1), λ h. whole.1 (push.1 (part.0 h.0, h.1)))

pub choice_added : (P : Demand → Type 0) (Q : List (List Demand) → Type 0) (ds : List Demand) (cs es : List (Vec (Vec Demand Global) Global)) (c : Vec (Vec Demand Global) Global) → es ≡ cs ++ c ∷ [] → Both P Q ds es ↔ (Both P Q ds cs × Q (items_of_ways c.items))
choice_added P Q ds cs es c e = let on = choices_more Q cs c in subst (λ l. Both P Q ds l ↔ (Both P Q ds cs × Q (items_of_ways c.items))) (sym e)
    (λ h. let p = on.0 h.1 in ((h.0, p.0), p.1), λ h. (h.0.0, on.1 (h.0.1, h.1)))

pub way_alone : (a : Assignment) (w : List Demand) → AllByRecursion (IsMetBy a) w ↔ HasWay a (w ∷ [])
way_alone a w = (λ h. inl h, to)
  where
    to : AllByRecursion (IsMetBy a) w ⊎ ⊥ → AllByRecursion (IsMetBy a) w
    to (inl h) = h
    to (inr h) = absurd h

pub sizes_alone : (s : Sizes) (w : List Demand) → AllByRecursion (IsSized s) w ↔ AreWaysSized s (w ∷ [])
sizes_alone s w = (λ h. (h, tt), λ h. h.0)

pub only_one : {X : Type 0} (xs : List X) (x : X) → 1 ≤ length xs → length xs < 2 → x ≡ get_or xs 0 x → xs ≡ x ∷ []
only_one [] x h k e = absurd (omega (arith, h))
only_one (y ∷ []) x h k e = ap (λ z. z ∷ []) (sym e)
only_one (y ∷ z ∷ xs) x h k e = absurd (omega (arith, k))

-- along the clauses
pub step_more : {X : Type 0} (P : X → Type 0) (xs : List X) (i : ℕ) (x : X) (old new now : Type 0) → i < length xs → x ≡ get_or xs i x → old ↔ AllByRecursion P (take i xs) → now ≡ P x → new ↔ (old × now) → new ↔ AllByRecursion P (take (i + 1) xs)
step_more P xs i x old new now lt is before e step = told_more P xs i x old new lt before (subst (λ t. new ↔ (old × t)) (e ∙ ap P is) step)

pub step_end : {X : Type 0} (P : X → Type 0) (xs : List X) (i : ℕ) (old : Type 0) → length xs ≤ i → old ↔ AllByRecursion P (take i xs) → old ↔ AllByRecursion P xs
step_end P xs i old le before = told_all P xs i old le before

-- ---- tables

pub sized_as : (r : Result Tables AllocError) (w t k wholes truths classes : ℕ) → w ≡ wholes → t ≡ truths → k ≡ classes → IfOk r (λ x. (bits : ℕ) → AreSizesOf (record { wholes = w; truths = t; classes = k; bits = bits }) x) → IfOk r (λ x. (s : Sizes) → s.wholes ≡ wholes → s.truths ≡ truths → s.classes ≡ classes → AreSizesOf s x)
sized_as (Ok x) w t k wholes truths classes e f d h = λ s i j l. let z = h s.bits in record { wholes = i ∙ sym e ∙ z.wholes; truths = j ∙ sym f ∙ z.truths; classes = l ∙ sym d ∙ z.classes }
sized_as (Err a) w t k wholes truths classes e f d h = tt
