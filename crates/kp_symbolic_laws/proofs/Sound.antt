-- The terms of a verified predicate without foreign symbols are well-sorted, also with such terms in its variables' places.
use Rattle.std.proofs.Common.{◌≡◌, refl, Bool, true, false, ◌&&◌, [], ◌++◌, Some, None}
use Rattle.std.specs.Prelude.{MatchBool, ⊤}
use Rattle.kp_kore.specs.Syntax.{KoreSort, KorePattern, KorePatterns, negation, conjunction, disjunction, implication, equivalence, exists, forall, ceil, floor, equals, membership, no_patterns, next_pattern}
use Rattle.kp_kore.specs.Parts.{is_term, free_variables}
use Rattle.kp_kore.specs.Signature.{KoreSignature}
use Rattle.kp_kore.specs.Instance.{is_predicate, are_predicates, is_conjoined_pair}
use Rattle.kp_kore.specs.Foreign.{none_within, has_foreign_head}
use Rattle.kp_kore.proofs.InstanceLemmas.{first_true, second_true}
use Rattle.kp_signature.specs.Places.{Place, part_at, under_binder}
use Rattle.kp_signature.specs.Verify.{fault_at, first_fault}
use Rattle.kp_signature.proofs.FaultLemmas.{nothing_later, term_has_wanted_sort}
use Rattle.kp_signature.proofs.OneSort.{agrees}
use Rattle.kp_symbolic.proofs.SortedFolding.{folded_sorted}
use Rattle.kp_symbolic.proofs.Read.{Stands, StandAll, StandBoth, equals_stand, membership_stands, negation_stands, conjunction_stands, disjunction_stands, implication_stands, equivalence_stands, ceil_stands, floor_stands, first_stands, others_stand, three_tests, two_tests}
use Rattle.kp_symbolic.proofs.OpenedState.{placed_as_they_are}
use Rattle.kp_symbolic_laws.specs.Runs.{IsSoundTerm, IsSoundPair, IsSoundPredicate, AreSoundPredicates}
use Rattle.kp_symbolic_laws.proofs.Binders.{bound_sort}
use Rattle.kp_symbolic_laws.proofs.OpenedGood.{pair_stands}

sound_term : (g : KoreSignature) (a : KoreSort) (p : KorePattern) (h : Stands g [] p) → h.place.wanted ≡ Some a → is_term p ≡ true → IsSoundTerm g p
sound_term g a p h w t = record {
  term = t;
  sorted = λ rs placed. (a, folded_sorted g rs h.place p a h.faultless (term_has_wanted_sort g h.place p a t h.faultless w) t h.meant placed);
}

sound_sides : (g : KoreSignature) (a : KoreSort) (p q : KorePattern) → StandBoth g [] a p q → is_term p && is_term q ≡ true → IsSoundTerm g p × IsSoundTerm g q
sound_sides g a p q k t = (sound_term g a p k.first k.first_wanted (first_true (is_term p) (is_term q) t), sound_term g a q k.second k.second_wanted (second_true (is_term p) (is_term q) t))

sound_pair : (g : KoreSignature) (a s : KoreSort) (p : KorePattern) → Stands g [] (ceil a s p) → is_conjoined_pair p ≡ true → IsSoundPair g p
sound_pair g a s (conjunction t (next_pattern p (next_pattern q no_patterns))) h e = sound_sides g a p q (pair_stands g a s t p q h) e
sound_pair g a s _ h e = absurd (cc)

by_bool : (b : Bool) (P Q : Type 0) → (b ≡ true → P) → (b ≡ false → Q) → MatchBool b P Q
by_bool true P Q f h = f refl
by_bool false P Q f h = h refl

mutual
  pub sound : (g : KoreSignature) (p : KorePattern) → Stands g [] p → is_predicate p ≡ true → IsSoundPredicate g p
  sound g (negation s p) h b = sound g p (negation_stands g [] s p h) b
  sound g (conjunction s ps) h b = all_sound g ps (conjunction_stands g [] s ps h) b
  sound g (disjunction s ps) h b = all_sound g ps (disjunction_stands g [] s ps h) b
  sound g (implication s p q) h b = let k = implication_stands g [] s p q h in (sound g p k.first (first_true (is_predicate p) (is_predicate q) b), sound g q k.second (second_true (is_predicate p) (is_predicate q) b))
  sound g (equivalence s p q) h b = let k = equivalence_stands g [] s p q h in (sound g p k.first (first_true (is_predicate p) (is_predicate q) b), sound g q k.second (second_true (is_predicate p) (is_predicate q) b))
  sound g (exists s x t p) h b =
      let c = under_binder x t (part_at h.place s) in
      let e = nothing_later (fault_at g h.place (exists s x t p)) (first_fault g c p) h.faultless in
      (bound_sort x t (h.place.scope ++ free_variables p) (free_variables p) (agrees g c p e), sound g p (record { place = c; faultless = e; meant = h.meant; placed = placed_as_they_are g (free_variables p) }) b)
  sound g (forall s x t p) h b =
      let c = under_binder x t (part_at h.place s) in
      let e = nothing_later (fault_at g h.place (forall s x t p)) (first_fault g c p) h.faultless in
      (bound_sort x t (h.place.scope ++ free_variables p) (free_variables p) (agrees g c p e), sound g p (record { place = c; faultless = e; meant = h.meant; placed = placed_as_they_are g (free_variables p) }) b)
  sound g (ceil a s p) h b = by_bool (is_term p) ⊤ _ (λ e. tt) (λ e. by_bool (is_conjoined_pair p) (IsSoundPair g p) (IsSoundPredicate g p)
      (λ f. sound_pair g a s p h f)
      (λ f. sound g p (ceil_stands g [] a s p h) (three_tests (is_term p) (is_predicate p) (is_conjoined_pair p) b e f)))
  sound g (floor a s p) h b = by_bool (is_term p) (IsSoundTerm g p) (IsSoundPredicate g p)
      (λ e. sound_term g a p (record { place = part_at h.place a; faultless = nothing_later _ _ h.faultless; meant = h.meant; placed = h.placed }) refl e)
      (λ e. sound g p (floor_stands g [] a s p h) (two_tests (is_term p) (is_predicate p) b e))
  sound g (equals a s p q) h b = sound_sides g a p q (equals_stand g [] a s p q h) b
  sound g (membership a s p q) h b = sound_sides g a p q (membership_stands g [] a s p q h) b
  sound g _ h b = tt

  all_sound : (g : KoreSignature) (ps : KorePatterns) → StandAll g [] ps → are_predicates ps ≡ true → AreSoundPredicates g ps
  all_sound g no_patterns h b = tt
  all_sound g (next_pattern p ps) h b = (sound g p (first_stands g [] p ps h) (first_true (is_predicate p) (are_predicates ps) b), all_sound g ps (others_stand g [] p ps h) (second_true (is_predicate p) (are_predicates ps) b))

pub place_sound : (g : KoreSignature) (c : Place) (p : KorePattern) → first_fault g c p ≡ None → none_within (has_foreign_head g) p ≡ true → is_predicate p ≡ true → IsSoundPredicate g p
place_sound g c p e m b = sound g p (record { place = c; faultless = e; meant = m; placed = placed_as_they_are g (free_variables p) }) b
