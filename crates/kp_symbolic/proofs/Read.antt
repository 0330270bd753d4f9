-- Verified predicates and what holds of their parts.
use Rattle.std.proofs.Common.{◌≡◌, refl, sym, ◌∙◌, Bool, true, false, not, ◌||◌, List, ◌++◌, Some, None}
use Rattle.std.specs.List.{list_all, AllByRecursion}
use Rattle.std.proofs.lemmas.List.Folds.{list_all-append}
use Rattle.kp_kore.specs.Syntax.{KoreSort, KorePattern, KorePatterns, negation, conjunction, disjunction, implication, equivalence, ceil, floor, equals, membership, no_patterns, next_pattern}
use Rattle.kp_kore.specs.Parts.{SortedName, is_term, free_variables, all_free_variables, subpatterns}
use Rattle.kp_kore.specs.Signature.{KoreSignature}
use Rattle.kp_kore.specs.Value.{HasSort}
use Rattle.kp_kore.specs.Instance.{Valuation, GivesSorts, is_predicate, are_predicates, is_conjoined_pair, conjuncts, all_conjuncts, instance}
use Rattle.kp_kore.specs.Foreign.{none_within, has_foreign_head}
use Rattle.kp_kore.proofs.InstanceLemmas.{first_true, second_true}
use Rattle.kp_signature.specs.Places.{Place, part_at, after}
use Rattle.kp_signature.specs.Verify.{first_fault, members_fault}
use Rattle.kp_signature.proofs.FaultLemmas.{nothing_earlier, nothing_later, term_has_wanted_sort}
use Rattle.kp_signature.proofs.SortedInstances.{none_among, none_in_first, none_in_others}
use Rattle.kp_symbolic.specs.Terms.{term_instance, term_variables, Replaced, replacement_for, under_replaced}
use Rattle.kp_symbolic.specs.States.{variables_for, AreGiven}
use Rattle.kp_symbolic.specs.WellFormed.{IsWellSorted, AreWellPlaced}
use Rattle.kp_symbolic.specs.Folding.{term_for, folded}
use Rattle.kp_symbolic.proofs.Distribution.{all_both, all_first, all_second}
use Rattle.kp_symbolic.proofs.Opened.{IsClosed}
use Rattle.kp_symbolic.proofs.Folded.{folded_is, folded_variables}
use Rattle.kp_symbolic.proofs.SortedFolding.{folded_sorted}

-- no fault where the pattern stands, no foreign symbol in it; the terms in the place of its variables are well-sorted
pub record Stands (g : KoreSignature) (rs : List Replaced) (p : KorePattern) : Type 0 where
  pub place : Place
  pub faultless : first_fault g place p ≡ None
  pub meant : none_within (has_foreign_head g) p ≡ true
  pub placed : AreWellPlaced g rs (free_variables p)

pub record StandAll (g : KoreSignature) (rs : List Replaced) (ps : KorePatterns) : Type 0 where
  pub place : Place
  pub faultless : members_fault g place ps ≡ None
  pub meant : none_among (has_foreign_head g) ps ≡ true
  pub placed : AreWellPlaced g rs (all_free_variables ps)

-- two parts, without what holds of none
two_within : (test : KorePattern → Bool) (p q : KorePattern) → list_all (λ z. not (test z)) (subpatterns p ++ subpatterns q) ≡ true → (none_within test p ≡ true) × (none_within test q ≡ true)
two_within test p q e =
    let d = sym (list_all-append (λ z. not (test z)) (subpatterns p) (subpatterns q)) ∙ e in
    (first_true (none_within test p) (none_within test q) d, second_true (none_within test p) (none_within test q) d)

abbrev Placed : KoreSignature → List Replaced → SortedName → Type 0
Placed g rs x = IsWellSorted g x.sort (term_for x (replacement_for rs x.name))

abbrev Sorted : KoreSignature → List Replaced → Valuation → SortedName → Type 0
Sorted g rs v x = GivesSorts g v (variables_for x (replacement_for rs x.name))

pub first_stands : (g : KoreSignature) (rs : List Replaced) (p : KorePattern) (ps : KorePatterns) → StandAll g rs (next_pattern p ps) → Stands g rs p
first_stands g rs p ps h = record {
  place = h.place;
  faultless = nothing_earlier _ _ h.faultless;
  meant = none_in_first (has_foreign_head g) p ps h.meant;
  placed = all_first (Placed g rs) (free_variables p) (all_free_variables ps) h.placed;
}

pub others_stand : (g : KoreSignature) (rs : List Replaced) (p : KorePattern) (ps : KorePatterns) → StandAll g rs (next_pattern p ps) → StandAll g rs ps
others_stand g rs p ps h = record {
  place = after p h.place;
  faultless = nothing_later (first_fault g h.place p) _ h.faultless;
  meant = none_in_others (has_foreign_head g) p ps h.meant;
  placed = all_second (Placed g rs) (free_variables p) (all_free_variables ps) h.placed;
}

-- the parts of two patterns beside each other
pub record StandBoth (g : KoreSignature) (rs : List Replaced) (a : KoreSort) (p q : KorePattern) : Type 0 where
  pub first : Stands g rs p
  pub second : Stands g rs q
  pub first_wanted : first.place.wanted ≡ Some a
  pub second_wanted : second.place.wanted ≡ Some a

two_stand : (g : KoreSignature) (rs : List Replaced) (c : Place) (a : KoreSort) (p q : KorePattern) → first_fault g (part_at c a) p ≡ None → first_fault g (after p (part_at c a)) q ≡ None → list_all (λ z. not (has_foreign_head g z)) (subpatterns p ++ subpatterns q) ≡ true → AreWellPlaced g rs (free_variables p ++ free_variables q) → StandBoth g rs a p q
two_stand g rs c a p q e f k w = record {
  first = record { place = part_at c a; faultless = e; meant = (two_within (has_foreign_head g) p q k).0; placed = all_first (Placed g rs) (free_variables p) (free_variables q) w };
  second = record { place = after p (part_at c a); faultless = f; meant = (two_within (has_foreign_head g) p q k).1; placed = all_second (Placed g rs) (free_variables p) (free_variables q) w };
  first_wanted = refl;
  second_wanted = refl;
}

pub equals_stand : (g : KoreSignature) (rs : List Replaced) (a s : KoreSort) (p q : KorePattern) → Stands g rs (equals a s p q) → StandBoth g rs a p q
equals_stand g rs a s p q h = let k = nothing_later _ _ h.faultless in two_stand g rs h.place a p q (nothing_earlier _ _ k) (nothing_earlier _ _ (nothing_later _ _ k)) h.meant h.placed

pub membership_stands : (g : KoreSignature) (rs : List Replaced) (a s : KoreSort) (p q : KorePattern) → Stands g rs (membership a s p q) → StandBoth g rs a p q
membership_stands g rs a s p q h = let k = nothing_later _ _ h.faultless in two_stand g rs h.place a p q (nothing_earlier _ _ k) (nothing_earlier _ _ (nothing_later _ _ k)) h.meant h.placed

pub implication_stands : (g : KoreSignature) (rs : List Replaced) (s : KoreSort) (p q : KorePattern) → Stands g rs (implication s p q) → StandBoth g rs s p q
implication_stands g rs s p q h = let k = nothing_later _ _ h.faultless in two_stand g rs h.place s p q (nothing_earlier _ _ k) (nothing_earlier _ _ (nothing_later _ _ k)) h.meant h.placed

pub equivalence_stands : (g : KoreSignature) (rs : List Replaced) (s : KoreSort) (p q : KorePattern) → Stands g rs (equivalence s p q) → StandBoth g rs s p q
equivalence_stands g rs s p q h = let k = nothing_later _ _ h.faultless in two_stand g rs h.place s p q (nothing_earlier _ _ k) (nothing_earlier _ _ (nothing_later _ _ k)) h.meant h.placed

pub conjunction_stands : (g : KoreSignature) (rs : List Replaced) (s : KoreSort) (ps : KorePatterns) → Stands g rs (conjunction s ps) → StandAll g rs ps
conjunction_stands g rs s ps h = record { place = part_at h.place s; faultless = nothing_later _ _ h.faultless; meant = h.meant; placed = h.placed }

pub disjunction_stands : (g : KoreSignature) (rs : List Replaced) (s : KoreSort) (ps : KorePatterns) → Stands g rs (disjunction s ps) → StandAll g rs ps
disjunction_stands g rs s ps h = record { place = part_at h.place s; faultless = nothing_later _ _ h.faultless; meant = h.meant; placed = h.placed }

pub negation_stands : (g : KoreSignature) (rs : List Replaced) (s : KoreSort) (p : KorePattern) → Stands g rs (negation s p) → Stands g rs p
negation_stands g rs s p h = record { place = part_at h.place s; faultless = nothing_later _ _ h.faultless; meant = h.meant; placed = h.placed }

pub ceil_stands : (g : KoreSignature) (rs : List Replaced) (a s : KoreSort) (p : KorePattern) → Stands g rs (ceil a s p) → Stands g rs p
ceil_stands g rs a s p h = record { place = part_at h.place a; faultless = nothing_later _ _ h.faultless; meant = h.meant; placed = h.placed }

pub floor_stands : (g : KoreSignature) (rs : List Replaced) (a s : KoreSort) (p : KorePattern) → Stands g rs (floor a s p) → Stands g rs p
floor_stands g rs a s p h = record { place = part_at h.place a; faultless = nothing_later _ _ h.faultless; meant = h.meant; placed = h.placed }

-- ---- predicates

pub record IsRead (g : KoreSignature) (rs : List Replaced) (v : Valuation) (p : KorePattern) : Type 0 where
  pub stands : Stands g rs p
  pub predicate : is_predicate p ≡ true
  pub given : AreGiven g rs v (free_variables p)

pub record AreRead (g : KoreSignature) (rs : List Replaced) (v : Valuation) (ps : KorePatterns) : Type 0 where
  pub stand : StandAll g rs ps
  pub predicates : are_predicates ps ≡ true
  pub given : AreGiven g rs v (all_free_variables ps)

pub three_tests : (a b c : Bool) → a || b || c ≡ true → a ≡ false → c ≡ false → b ≡ true
three_tests a true c h e f = refl
three_tests true false c h e f = absurd (cc)
three_tests false false true h e f = absurd (cc)
three_tests false false false h e f = absurd (cc)

pub two_tests : (a b : Bool) → a || b ≡ true → a ≡ false → b ≡ true
two_tests a true h e = refl
two_tests true false h e = absurd (cc)
two_tests false false h e = absurd (cc)

pub read_closed : (g : KoreSignature) (rs : List Replaced) (v : Valuation) → IsClosed (IsRead g rs v) (AreRead g rs v)
read_closed g rs v = record {
  denied = λ s p h. record { stands = negation_stands g rs s p h.stands; predicate = h.predicate; given = h.given };
  conjoined = λ s ps h. record { stand = conjunction_stands g rs s ps h.stands; predicates = h.predicate; given = h.given };
  disjoined = λ s ps h. record { stand = disjunction_stands g rs s ps h.stands; predicates = h.predicate; given = h.given };
  implied = λ s p q h. let k = implication_stands g rs s p q h.stands in (
    record { stands = k.first; predicate = first_true (is_predicate p) (is_predicate q) h.predicate; given = all_first (Sorted g rs v) (free_variables p) (free_variables q) h.given },
    record { stands = k.second; predicate = second_true (is_predicate p) (is_predicate q) h.predicate; given = all_second (Sorted g rs v) (free_variables p) (free_variables q) h.given },
  );
  agreed = λ s p q h. let k = equivalence_stands g rs s p q h.stands in (
    record { stands = k.first; predicate = first_true (is_predicate p) (is_predicate q) h.predicate; given = all_first (Sorted g rs v) (free_variables p) (free_variables q) h.given },
    record { stands = k.second; predicate = second_true (is_predicate p) (is_predicate q) h.predicate; given = all_second (Sorted g rs v) (free_variables p) (free_variables q) h.given },
  );
  under_ceil = λ a s p e f h. record { stands = ceil_stands g rs a s p h.stands; predicate = three_tests (is_term p) (is_predicate p) (is_conjoined_pair p) h.predicate e f; given = h.given };
  under_floor = λ a s p e h. record { stands = floor_stands g rs a s p h.stands; predicate = two_tests (is_term p) (is_predicate p) h.predicate e; given = h.given };
  first = λ p ps h. record { stands = first_stands g rs p ps h.stand; predicate = first_true (is_predicate p) (are_predicates ps) h.predicates; given = all_first (Sorted g rs v) (free_variables p) (all_free_variables ps) h.given };
  others = λ p ps h. record { stand = others_stand g rs p ps h.stand; predicates = second_true (is_predicate p) (are_predicates ps) h.predicates; given = all_second (Sorted g rs v) (free_variables p) (all_free_variables ps) h.given };
}

-- ---- the sides of an equality

-- a term of this sort, as it is folded
pub record IsSide (g : KoreSignature) (rs : List Replaced) (v : Valuation) (a : KoreSort) (p : KorePattern) : Type 0 where
  pub sorted : IsWellSorted g a (folded g rs p)
  pub given : GivesSorts g v (term_variables (folded g rs p))
  pub is : term_instance g v (folded g rs p) ≡ instance g (under_replaced g rs v) p

pub side_of : (g : KoreSignature) (rs : List Replaced) (v : Valuation) (a : KoreSort) (p : KorePattern) (h : Stands g rs p) → h.place.wanted ≡ Some a → is_term p ≡ true → AreGiven g rs v (free_variables p) → IsSide g rs v a p
side_of g rs v a p h w t i = record {
  sorted = folded_sorted g rs h.place p a h.faultless (term_has_wanted_sort g h.place p a t h.faultless w) t h.meant h.placed;
  given = folded_variables g rs (λ x. HasSort g x.sort (v x.name)) p i;
  is = folded_is g rs v p i;
}

-- ---- conjuncts

mutual
  pub conjuncts_read : (V : KorePattern → Type 0) (W : KorePatterns → Type 0) (p : KorePattern) → ((s : KoreSort) (ps : KorePatterns) → V (conjunction s ps) → W ps) → ((q : KorePattern) (qs : KorePatterns) → W (next_pattern q qs) → V q × W qs) → V p → AllByRecursion V (conjuncts p)
  conjuncts_read V W (conjunction s ps) c n h = all_conjuncts_read V W ps c n (c s ps h)
  conjuncts_read V W _ c n h = (h, tt)

  pub all_conjuncts_read : (V : KorePattern → Type 0) (W : KorePatterns → Type 0) (ps : KorePatterns) → ((s : KoreSort) (qs : KorePatterns) → V (conjunction s qs) → W qs) → ((q : KorePattern) (qs : KorePatterns) → W (next_pattern q qs) → V q × W qs) → W ps → AllByRecursion V (all_conjuncts ps)
  all_conjuncts_read V W no_patterns c n h = tt
  all_conjuncts_read V W (next_pattern p ps) c n h = all_both V (conjuncts p) (all_conjuncts ps) (conjuncts_read V W p c n (n p ps h).0) (all_conjuncts_read V W ps c n (n p ps h).1)
