-- The terms of what is written for a clause are well-sorted, also with such terms in the place of variables, where the signature has
-- inj or nothing wants it.
use Rattle.std.proofs.Common.{◌≡◌, ◌⊎◌, inl, inr, refl, sym, ◌∙◌, subst, arith, ◌+◌, ◌<◌, ◌^◌, Bool, true, false, not, List, [], ◌∷◌, ◌++◌, map, length, Option, Some}
use Rattle.std.specs.Prelude.{if◌then◌else◌, cond, unwrap_or, MatchBool, ⊤}
use Rattle.std.specs.List.{AllByRecursion, list_any, flat_map}
use Rattle.std.specs.Str.{bytes_eq}
use Rattle.kp_kore.specs.Syntax.{Text, KoreSort, sort_variable, KoreSorts, no_sorts, next_sort, KorePattern, KorePatterns, variable, application, literal, negation, conjunction, disjunction, implication, equivalence, exists, forall, ceil, floor, equals, membership, no_patterns, next_pattern}
use Rattle.kp_kore.specs.Parts.{SortedName, sort_list, is_term, free_variables, all_free_variables, without_name, subpatterns, all_subpatterns}
use Rattle.kp_kore.specs.Signature.{KoreSignature, construction, meaning_of, itself}
use Rattle.kp_kore.specs.Sorting.{result_sort}
use Rattle.kp_kore.specs.Instance.{is_named, is_predicate, are_predicates, is_conjoined_pair}
use Rattle.kp_kore.proofs.InstanceLemmas.{first_true, second_true}
use Rattle.kp_compile.specs.Spelled.{placed, places_of}
use Rattle.kp_symbolic.specs.Terms.{SymbolicTerm, unknown, offset, known, headed, Replaced, replacement_for}
use Rattle.kp_symbolic.specs.States.{one_head, head_of_sort, Atom, same, has_head, quoted, variables_for, Literal}
use Rattle.kp_symbolic.specs.WellFormed.{IsWellSorted, AreWellSorted, IsWellSortedAtom, AreWellPlaced, stands_in_terms}
use Rattle.kp_symbolic.specs.Folding.{term_for, folded, all_folded}
use Rattle.kp_symbolic.specs.Writing.{least_fresh, new_variables, under_exists, variables_of, written_test, bound_name, renamed, written_under, all_written_under, written_term, written_atom, written_signed, written_literal, is_solved_by, is_second_solved, turned_if, written_literals, written_clause}
use Rattle.kp_symbolic.proofs.Distribution.{all_first, all_second}
use Rattle.kp_symbolic.proofs.Folded.{OfEach}
use Rattle.kp_symbolic.proofs.WellSorted.{plain_symbol}
use Rattle.kp_symbolic.proofs.SortedFolding.{applied_sorted}
use Rattle.kp_symbolic.proofs.Written.{turned}
use Rattle.kp_symbolic.proofs.Read.{three_tests, two_tests}
use Rattle.kp_symbolic_laws.specs.Runs.{HasRoom, AllHaveRoom, HasRoomAtom, IsSoundTerm, IsSoundPair, IsOfOneSort, IsSoundPredicate, AreSoundPredicates, IsSoundAtom}
use Rattle.kp_symbolic_laws.proofs.Binders.{other_way, bound_apart, IsApart, apart_first, apart_second, neither}
use Rattle.kp_symbolic_laws.proofs.HeadTests.{placed_variables}
use Rattle.kp_symbolic_laws.proofs.NewNames.{least_is_new, new_apart, holds_first}
use Rattle.kp_symbolic_laws.proofs.BareTerms.{Bare, bare_left, bare_right, bare_folded, bare_sound}
use Rattle.kp_symbolic_laws.proofs.SoundTerms.{stripped, within_placed, written_sound}
use Rattle.kp_symbolic_laws.proofs.WrittenUnder.{IsInj, term_kept, pair_kept, placed_term, matched, unmatched, two_of_three}
use Rattle.kp_symbolic_laws.proofs.WrittenForms.{variables_are_terms}
use Rattle.kp_symbolic_laws.proofs.WrittenVariables.{under_variables}

abbrev Fits : KoreSignature → List Replaced → SortedName → Type 0
Fits g rs x = IsWellSorted g x.sort (term_for x (replacement_for rs x.name))

-- ---- terms

-- the signature has inj, or none of these patterns stands at two sorts
abbrev pub CanInject : KoreSignature → List KorePattern → Type 0
CanInject g ps = IsInj g ⊎ Bare ps

can_left : (g : KoreSignature) (ps qs : List KorePattern) → CanInject g (ps ++ qs) → CanInject g ps
can_left g ps qs (inl i) = inl i
can_left g ps qs (inr b) = inr (bare_left ps qs b)

can_right : (g : KoreSignature) (ps qs : List KorePattern) → CanInject g (ps ++ qs) → CanInject g qs
can_right g ps qs (inl i) = inl i
can_right g ps qs (inr b) = inr (bare_right ps qs b)

can_fold : (g : KoreSignature) (rs : List Replaced) (own s : KoreSort) (p : KorePattern) → CanInject g (subpatterns (placed own s p)) → folded g rs (placed own s p) ≡ folded g rs p
can_fold g rs own s p (inl i) = stripped g rs own s p i
can_fold g rs own s p (inr b) = bare_folded g rs own s p b

can_sound : (g : KoreSignature) (a b : KoreSort) (t : SymbolicTerm) → CanInject g (subpatterns (written_term g a t)) → IsWellSorted g b t → IsSoundTerm g (written_term g a t)
can_sound g a b t (inl i) w = written_sound g a b t i w
can_sound g a b t (inr n) w = bare_sound g a b t n w

abbrev SoundIfWritten : KoreSignature → KorePattern → Type 0
SoundIfWritten g p = CanInject g (subpatterns p) → IsSoundTerm g p

side_any : (g : KoreSignature) (rs : List Replaced) (R : KorePattern → Type 0) (p : KorePattern) → is_term p ≡ true → ((a : KoreSort) → R (written_term g a (folded g rs p))) → R (written_under g rs p)
side_any g rs R (variable x s) t f = f s
side_any g rs R (literal s x) t f = f s
side_any g rs R (application h ss ps) t f = f (unwrap_or (result_sort g h ss) (sort_variable []))
side_any g rs R _ t f = absurd (cc)

side_sound : (g : KoreSignature) (rs : List Replaced) (p : KorePattern) → IsSoundTerm g p → AreWellPlaced g rs (free_variables p) → SoundIfWritten g (written_under g rs p)
side_sound g rs p o w = let d = o.sorted rs w in side_any g rs (SoundIfWritten g) p o.term (λ a n. can_sound g a d.0 (folded g rs p) n d.1)

sides_sound : (g : KoreSignature) (rs : List Replaced) (p q : KorePattern) → CanInject g (subpatterns (written_under g rs p) ++ subpatterns (written_under g rs q)) → IsSoundTerm g p × IsSoundTerm g q → AllByRecursion (Fits g rs) (free_variables p ++ free_variables q) → IsSoundTerm g (written_under g rs p) × IsSoundTerm g (written_under g rs q)
sides_sound g rs p q i o w =
    let here = subpatterns (written_under g rs p) in
    let others = subpatterns (written_under g rs q) in
    (side_sound g rs p o.0 (all_first (Fits g rs) (free_variables p) (free_variables q) w) (can_left g here others i), side_sound g rs q o.1 (all_second (Fits g rs) (free_variables p) (free_variables q) w) (can_right g here others i))

pair_sound : (g : KoreSignature) (rs : List Replaced) (p : KorePattern) → CanInject g (subpatterns (written_under g rs p)) → IsSoundPair g p → is_conjoined_pair p ≡ true → AreWellPlaced g rs (free_variables p) → IsSoundPair g (written_under g rs p)
pair_sound g rs (conjunction t (next_pattern p (next_pattern q no_patterns))) i o e w =
    let ps = next_pattern q no_patterns in
    let here = subpatterns (written_under g rs p) in
    let last = subpatterns (written_under g rs q) in
    (side_sound g rs p o.0 (all_first (Fits g rs) (free_variables p) (all_free_variables ps) w) (can_left g here (last ++ []) i), side_sound g rs q o.1 (all_first (Fits g rs) (free_variables q) [] (all_second (Fits g rs) (free_variables p) (all_free_variables ps) w)) (can_left g last [] (can_right g here (last ++ []) i)))
pair_sound g rs _ i o e w = absurd (cc)

-- ---- under a binder of x, which is named y now

true_false : true ≡ false → ⊥
true_false e = cc

-- each variable of this name has this sort
abbrev Named : Text → KoreSort → SortedName → Type 0
Named y t z = bytes_eq z.name y ≡ true → z.sort ≡ t

apart_named : (y : Text) (t : KoreSort) (ws : List SortedName) → IsApart y ws → AllByRecursion (Named y t) ws
apart_named y t [] e = tt
apart_named y t (w ∷ ws) e =
    let k = neither (bytes_eq y w.name) (list_any (bytes_eq y) (map (λ z. z.name) ws)) e in
    ((λ h. absurd (true_false (sym (other_way w.name y true h) ∙ k.0))), apart_named y t ws k.1)

abbrev bound : Text → KoreSort → SymbolicTerm
bound y t = unknown (record { name = y; sort = t })

record IsBound (g : KoreSignature) (rs : List Replaced) (x y : Text) (t : KoreSort) (z : SortedName) : Type 0 where
  named : AllByRecursion (Named y t) (variables_for z (replacement_for (renamed x y t rs) z.name))
  fits : Fits g (renamed x y t rs) z

bound_here : (g : KoreSignature) (rs : List Replaced) (x y : Text) (t : KoreSort) (z : SortedName) (o : Option SymbolicTerm) → (if bytes_eq x z.name then Some (bound y t) else replacement_for rs z.name) ≡ o → AllByRecursion (Named y t) (variables_for z o) → IsWellSorted g z.sort (term_for z o) → IsBound g rs x y t z
bound_here g rs x y t z o e a b = record { named = subst (λ k. AllByRecursion (Named y t) (variables_for z k)) (sym e) a; fits = subst (λ k. IsWellSorted g z.sort (term_for z k)) (sym e) b }

bound_all : (g : KoreSignature) (rs : List Replaced) (x y : Text) (t : KoreSort) (zs : List SortedName) → IsOfOneSort x t zs → AllByRecursion (Fits g rs) (without_name x zs) → IsApart y (flat_map (λ z. variables_for z (replacement_for rs z.name)) (without_name x zs)) → AllByRecursion (IsBound g rs x y t) zs
bound_all g rs x y t [] s p q = tt
bound_all g rs x y t (z ∷ zs) s p q = by (bytes_eq z.name x) refl p q (bound_all g rs x y t zs s.1)
  where
    by : (b : Bool) → bytes_eq z.name x ≡ b → AllByRecursion (Fits g rs) (cond (not b) (z ∷ without_name x zs) (without_name x zs)) → IsApart y (flat_map (λ w. variables_for w (replacement_for rs w.name)) (cond (not b) (z ∷ without_name x zs) (without_name x zs)))
        → (AllByRecursion (Fits g rs) (without_name x zs) → IsApart y (flat_map (λ w. variables_for w (replacement_for rs w.name)) (without_name x zs)) → AllByRecursion (IsBound g rs x y t) zs) → AllByRecursion (IsBound g rs x y t) (z ∷ zs)
    by true e i k rest = (bound_here g rs x y t z (Some (bound y t)) (rw (other_way z.name x true e) refl) ((λ h. refl), tt) (subst (λ a. IsWellSorted g a (bound y t)) (sym (s.0 e)) (itself t)), rest i k)
    by false e i k rest =
        let these = variables_for z (replacement_for rs z.name) in
        let others = flat_map (λ w. variables_for w (replacement_for rs w.name)) (without_name x zs) in
        (bound_here g rs x y t z (replacement_for rs z.name) (rw (other_way z.name x false e) refl) (apart_named y t these (apart_first y these others k)) i.0, rest i.1 (apart_second y these others k))

bound_named : (g : KoreSignature) (rs : List Replaced) (x y : Text) (t : KoreSort) (zs : List SortedName) → AllByRecursion (IsBound g rs x y t) zs → OfEach (renamed x y t rs) (Named y t) zs
bound_named g rs x y t [] a = tt
bound_named g rs x y t (z ∷ zs) a = (a.0.named, bound_named g rs x y t zs a.1)

bound_fits : (g : KoreSignature) (rs : List Replaced) (x y : Text) (t : KoreSort) (zs : List SortedName) → AllByRecursion (IsBound g rs x y t) zs → AreWellPlaced g (renamed x y t rs) zs
bound_fits g rs x y t [] a = tt
bound_fits g rs x y t (z ∷ zs) a = (a.0.fits, bound_fits g rs x y t zs a.1)

without_kept : (Q : SortedName → Type 0) (x : Text) (zs : List SortedName) → AllByRecursion Q zs → AllByRecursion Q (without_name x zs)
without_kept Q x [] a = tt
without_kept Q x (z ∷ zs) a = by (bytes_eq z.name x) (without_kept Q x zs a.1)
  where
    by : (b : Bool) → AllByRecursion Q (without_name x zs) → AllByRecursion Q (cond (not b) (z ∷ without_name x zs) (without_name x zs))
    by true r = r
    by false r = (a.0, r)

-- ---- predicates that aren't opened

by_forms : (a b : Bool) (P Q : Type 0) → a ≡ b → (b ≡ true → P) → (b ≡ false → Q) → MatchBool a P Q
by_forms true true P Q e f h = f refl
by_forms false false P Q e f h = h refl
by_forms true false P Q e f h = absurd (cc)
by_forms false true P Q e f h = absurd (cc)

mutual
  pub under_sound : (g : KoreSignature) (rs : List Replaced) (p : KorePattern) → CanInject g (subpatterns (written_under g rs p)) → is_predicate p ≡ true → IsSoundPredicate g p → AreWellPlaced g rs (free_variables p) → HasRoom rs p → IsSoundPredicate g (written_under g rs p)
  under_sound g rs (negation s p) i b o w m = under_sound g rs p i b o w m
  under_sound g rs (conjunction s ps) i b o w m = all_under_sound g rs ps i b o w m
  under_sound g rs (disjunction s ps) i b o w m = all_under_sound g rs ps i b o w m
  under_sound g rs (implication s p q) i b o w m =
      let here = subpatterns (written_under g rs p) in
      let others = subpatterns (written_under g rs q) in (
        under_sound g rs p (can_left g here others i) (first_true (is_predicate p) (is_predicate q) b) o.0 (all_first (Fits g rs) (free_variables p) (free_variables q) w) m.0,
        under_sound g rs q (can_right g here others i) (second_true (is_predicate p) (is_predicate q) b) o.1 (all_second (Fits g rs) (free_variables p) (free_variables q) w) m.1,
      )
  under_sound g rs (equivalence s p q) i b o w m =
      let here = subpatterns (written_under g rs p) in
      let others = subpatterns (written_under g rs q) in (
        under_sound g rs p (can_left g here others i) (first_true (is_predicate p) (is_predicate q) b) o.0 (all_first (Fits g rs) (free_variables p) (free_variables q) w) m.0,
        under_sound g rs q (can_right g here others i) (second_true (is_predicate p) (is_predicate q) b) o.1 (all_second (Fits g rs) (free_variables p) (free_variables q) w) m.1,
      )
  under_sound g rs (exists s x t p) i b o w m =
      let y = bound_name rs x p in
      let a = bound_all g rs x y t (free_variables p) o.0 w (bound_apart rs x p m.0) in
      (under_variables g (Named y t) (renamed x y t rs) p b (bound_named g rs x y t (free_variables p) a), under_sound g (renamed x y t rs) p i b o.1 (bound_fits g rs x y t (free_variables p) a) m.1)
  under_sound g rs (forall s x t p) i b o w m =
      let y = bound_name rs x p in
      let a = bound_all g rs x y t (free_variables p) o.0 w (bound_apart rs x p m.0) in
      (under_variables g (Named y t) (renamed x y t rs) p b (bound_named g rs x y t (free_variables p) a), under_sound g (renamed x y t rs) p i b o.1 (bound_fits g rs x y t (free_variables p) a) m.1)
  under_sound g rs (ceil a s p) i b o w m = by_forms (is_term (written_under g rs p)) (is_term p) ⊤ _ (term_kept g rs p b) (λ e. tt)
      (λ e. let k = unmatched (is_term p) _ _ e o in
      by_forms (is_conjoined_pair (written_under g rs p)) (is_conjoined_pair p) (IsSoundPair g (written_under g rs p)) (IsSoundPredicate g (written_under g rs p)) (pair_kept g rs p b)
      (λ f. pair_sound g rs p i (matched (is_conjoined_pair p) _ _ f k) f w)
      (λ f. under_sound g rs p i (three_tests (is_term p) (is_predicate p) (is_conjoined_pair p) b e f) (unmatched (is_conjoined_pair p) _ _ f k) w m))
  under_sound g rs (floor a s p) i b o w m = by_forms (is_term (written_under g rs p)) (is_term p) (IsSoundTerm g (written_under g rs p)) (IsSoundPredicate g (written_under g rs p)) (term_kept g rs p (two_of_three (is_term p) (is_predicate p) (is_conjoined_pair p) b))
      (λ e. side_sound g rs p (matched (is_term p) _ _ e o) w i)
      (λ e. under_sound g rs p i (two_tests (is_term p) (is_predicate p) b e) (unmatched (is_term p) _ _ e o) w m)
  under_sound g rs (equals a s p q) i b o w m = sides_sound g rs p q i o w
  under_sound g rs (membership a s p q) i b o w m = sides_sound g rs p q i o w
  under_sound g rs (variable x s) i b o w m = absurd (cc)
  under_sound g rs (literal s t) i b o w m = absurd (cc)
  under_sound g rs (application f ss ps) i b o w m = absurd (cc)
  under_sound g rs _ i b o w m = tt

  all_under_sound : (g : KoreSignature) (rs : List Replaced) (ps : KorePatterns) → CanInject g (all_subpatterns (all_written_under g rs ps)) → are_predicates ps ≡ true → AreSoundPredicates g ps → AreWellPlaced g rs (all_free_variables ps) → AllHaveRoom rs ps → AreSoundPredicates g (all_written_under g rs ps)
  all_under_sound g rs no_patterns i b o w m = tt
  all_under_sound g rs (next_pattern p ps) i b o w m =
      let here = subpatterns (written_under g rs p) in
      let others = all_subpatterns (all_written_under g rs ps) in (
        under_sound g rs p (can_left g here others i) (first_true (is_predicate p) (are_predicates ps) b) o.0 (all_first (Fits g rs) (free_variables p) (all_free_variables ps) w) m.0,
        all_under_sound g rs ps (can_right g here others i) (second_true (is_predicate p) (are_predicates ps) b) o.1 (all_second (Fits g rs) (free_variables p) (all_free_variables ps) w) m.1,
      )

-- ---- tests of heads

abbrev AreOfOneSort : List SortedName → SortedName → Type 0
AreOfOneSort zs z = IsOfOneSort z.name z.sort zs

other_names : (y : Text) (t : KoreSort) (zs : List SortedName) → is_named y zs ≡ false → IsOfOneSort y t zs
other_names y t [] e = tt
other_names y t (z ∷ zs) e = let k = neither (bytes_eq z.name y) (is_named y zs) e in ((λ h. absurd (true_false (sym h ∙ k.0))), other_names y t zs k.1)

one_more : (x : SortedName) (zs ys : List SortedName) → is_named x.name ys ≡ false → AllByRecursion (AreOfOneSort zs) ys → AllByRecursion (AreOfOneSort (x ∷ zs)) ys
one_more x zs [] e a = tt
one_more x zs (y ∷ ys) e a = let k = neither (bytes_eq y.name x.name) (is_named x.name ys) e in (((λ h. absurd (true_false (sym (other_way x.name y.name true h) ∙ k.0))), a.0), one_more x zs ys k.1 a.1)

new_one_sort : (used : List Text) (ss : KoreSorts) → length used + length (sort_list ss) < 2 ^ 64 → AllByRecursion (AreOfOneSort (new_variables used ss)) (new_variables used ss)
new_one_sort used no_sorts b = tt
new_one_sort used (next_sort s ss) b =
    let n = least_fresh used in
    let rest = new_variables (n ∷ used) ss in
    let e = new_apart (n ∷ used) ss n (omega (arith, b)) (holds_first n used) in
    (((λ h. refl), other_names n s rest e), one_more (record { name = n; sort = s }) rest rest e (new_one_sort (n ∷ used) ss (omega (arith, b))))

exists_all : (Q : SortedName → Type 0) (sort : KoreSort) (ys : List SortedName) (p : KorePattern) → AllByRecursion Q (free_variables p) → AllByRecursion Q (free_variables (under_exists sort ys p))
exists_all Q sort [] p a = a
exists_all Q sort (y ∷ ys) p a = without_kept Q y.name (free_variables (under_exists sort ys p)) (exists_all Q sort ys p a)

exists_sound : (g : KoreSignature) (sort : KoreSort) (ys : List SortedName) (p : KorePattern) → AllByRecursion (AreOfOneSort (free_variables p)) ys → IsSoundPredicate g p → IsSoundPredicate g (under_exists sort ys p)
exists_sound g sort [] p a o = o
exists_sound g sort (y ∷ ys) p a o = (exists_all (λ z. bytes_eq z.name y.name ≡ true → z.sort ≡ y.sort) sort ys p a.0, exists_sound g sort ys p a.1 o)

these_variables : (Q : SortedName → Type 0) (xs : List SortedName) → AllByRecursion Q xs → AllByRecursion Q (all_free_variables (variables_of xs))
these_variables Q [] a = tt
these_variables Q (x ∷ xs) a = (a.0, these_variables Q xs a.1)

-- what holds of x and of these holds of those of the equality
both_named : (x : SortedName) (own : KoreSort) (c : Text) (xs ys : List SortedName) → AllByRecursion (AreOfOneSort (x ∷ xs)) ys → AllByRecursion (AreOfOneSort (record { name = x.name; sort = x.sort } ∷ free_variables (placed own x.sort (application c no_sorts (variables_of xs))))) ys
both_named x own c xs [] a = tt
both_named x own c xs (y ∷ ys) a = ((a.0.0, placed_variables (λ z. bytes_eq z.name y.name ≡ true → z.sort ≡ y.sort) own x.sort (application c no_sorts (variables_of xs)) (these_variables (λ z. bytes_eq z.name y.name ≡ true → z.sort ≡ y.sort) xs a.0.1)), both_named x own c xs ys a.1)

variables_sorted : (g : KoreSignature) (rs : List Replaced) (used : List Text) (ss : KoreSorts) → AllByRecursion (Fits g rs) (all_free_variables (variables_of (new_variables used ss))) → AreWellSorted g ss (all_folded g rs (variables_of (new_variables used ss)))
variables_sorted g rs used no_sorts a = tt
variables_sorted g rs used (next_sort s ss) a = (a.0, variables_sorted g rs (least_fresh used ∷ used) ss a.1)

variable_sound : (g : KoreSignature) (x : SortedName) → IsSoundTerm g (variable x.name x.sort)
variable_sound g x = record { term = refl; sorted = λ rs a. (x.sort, a.0) }

construction_sound : (g : KoreSignature) (own s : KoreSort) (c : Text) (used : List Text) → CanInject g (subpatterns (placed own s (application c no_sorts (variables_of (new_variables used (places_of g c)))))) → meaning_of g c ≡ construction → IsSoundTerm g (placed own s (application c no_sorts (variables_of (new_variables used (places_of g c)))))
construction_sound g own s c used i m =
    let xs = new_variables used (places_of g c) in
    let p = application c no_sorts (variables_of xs) in
    let stands : stands_in_terms (meaning_of g c) ≡ true = rw m refl in
    let k = plain_symbol g c stands in
    record {
      term = placed_term own s p (variables_are_terms xs);
      sorted = λ rs a. (k.declaration.result, subst (IsWellSorted g k.declaration.result) (sym (can_fold g rs own s p i)) (applied_sorted g c (all_folded g rs (variables_of xs)) k stands (variables_sorted g rs used (places_of g c) (within_placed (Fits g rs) own s p a))));
    }

placed_sound : (g : KoreSignature) (s a : KoreSort) (y : SortedName) → CanInject g (subpatterns (placed s a (variable y.name y.sort))) → IsSoundTerm g (placed s a (variable y.name y.sort))
placed_sound g s a y i = record {
  term = placed_term s a (variable y.name y.sort) refl;
  sorted = λ rs h. (y.sort, subst (IsWellSorted g y.sort) (sym (can_fold g rs s a (variable y.name y.sort) i)) (within_placed (Fits g rs) s a (variable y.name y.sort) h).0);
}

few : 1 < 2 ^ 64
few = omega arith

under_binders_still : (g : KoreSignature) (sort : KoreSort) (ys : List SortedName) (p : KorePattern) → CanInject g (subpatterns (under_exists sort ys p)) → CanInject g (subpatterns p)
under_binders_still g sort [] p i = i
under_binders_still g sort (y ∷ ys) p i = under_binders_still g sort ys p i

test_sound : (g : KoreSignature) (sort : KoreSort) (x : SortedName) (c : Text) → CanInject g (subpatterns (written_test g sort x (one_head c))) → meaning_of g c ≡ construction → 1 + length (sort_list (places_of g c)) < 2 ^ 64 → IsSoundPredicate g (written_test g sort x (one_head c))
test_sound g sort x c i m b =
    let xs = new_variables (x.name ∷ []) (places_of g c) in
    let own = unwrap_or (result_sort g c no_sorts) x.sort in
    exists_sound g sort xs (equals x.sort sort (variable x.name x.sort) (placed own x.sort (application c no_sorts (variables_of xs))))
    (both_named x own c xs xs (one_more x xs xs (new_apart (x.name ∷ []) (places_of g c) x.name b (holds_first x.name [])) (new_one_sort (x.name ∷ []) (places_of g c) b)))
    (variable_sound g x, construction_sound g own x.sort c (x.name ∷ []) (under_binders_still g sort xs (equals x.sort sort (variable x.name x.sort) (placed own x.sort (application c no_sorts (variables_of xs)))) i) m)

sort_sound : (g : KoreSignature) (sort s : KoreSort) (x : SortedName) → CanInject g (subpatterns (written_test g sort x (head_of_sort s))) → IsSoundPredicate g (written_test g sort x (head_of_sort s))
sort_sound g sort s x i =
    let y = least_fresh (x.name ∷ []) in
    let n = neither (bytes_eq y x.name) false (least_is_new (x.name ∷ []) few) in (
      ((λ h. absurd (true_false (sym (other_way x.name y true h) ∙ n.0))), placed_variables (λ z. bytes_eq z.name y ≡ true → z.sort ≡ s) s x.sort (variable y s) ((λ h. refl), tt)),
      (variable_sound g x, placed_sound g s x.sort (record { name = y; sort = s }) i),
    )

-- ---- literals and clauses

-- what is asked of a literal whose written form is sound
abbrev pub IsReady : KoreSignature → Atom → Type 0
IsReady g a = IsWellSortedAtom g a × IsSoundAtom g a × HasRoomAtom g a

sides : (g : KoreSignature) (s : KoreSort) (t u : SymbolicTerm) → CanInject g (subpatterns (written_term g s t) ++ subpatterns (written_term g s u)) → IsWellSorted g s t × IsWellSorted g s u → IsSoundTerm g (written_term g s t) × IsSoundTerm g (written_term g s u)
sides g s t u i w =
    let here = subpatterns (written_term g s t) in
    let others = subpatterns (written_term g s u) in
    (can_sound g s s t (can_left g here others i) w.0, can_sound g s s u (can_right g here others i) w.1)

atom_sound : (g : KoreSignature) (sort : KoreSort) (a : Atom) → CanInject g (subpatterns (written_atom g sort a)) → IsReady g a → IsSoundPredicate g (written_atom g sort a)
atom_sound g sort (same s t u) i r = sides g s t u i r.0
atom_sound g sort (has_head x (one_head c)) i r = test_sound g sort x c i r.1 r.2
atom_sound g sort (has_head x (head_of_sort s)) i r = sort_sound g sort s x i
atom_sound g sort (quoted p rs) i r = under_sound g rs p i r.1.0 r.1.1 r.0 r.2

signed_sound : (g : KoreSignature) (sort : KoreSort) (b : Bool) (p : KorePattern) → CanInject g (subpatterns (written_signed sort b p)) → (CanInject g (subpatterns p) → IsSoundPredicate g p) → IsSoundPredicate g (written_signed sort b p)
signed_sound g sort true p i f = f i
signed_sound g sort false p i f = f i

by_name : (g : KoreSignature) (sort s : KoreSort) (t u : SymbolicTerm) (b : Bool) → CanInject g (subpatterns (written_atom g sort (turned_if b s t u))) → IsWellSorted g s t × IsWellSorted g s u → IsSoundPredicate g (written_atom g sort (turned_if b s t u))
by_name g sort s t u true i w = sides g s u t i (w.1, w.0)
by_name g sort s t u false i w = sides g s t u i w

turned_sound : (g : KoreSignature) (sort : KoreSort) (b : Bool) (a : Atom) → CanInject g (subpatterns (written_literal g sort (turned g b a))) → IsReady g a → IsSoundPredicate g (written_literal g sort (turned g b a))
turned_sound g sort true (same s (unknown x) (unknown y)) i r = by_name g sort s (unknown x) (unknown y) (is_second_solved g x y) i r.0
turned_sound g sort true (same s (offset x k) (unknown y)) i r = by_name g sort s (offset x k) (unknown y) (is_solved_by g y (offset x k)) i r.0
turned_sound g sort true (same s (known w) (unknown y)) i r = by_name g sort s (known w) (unknown y) (is_solved_by g y (known w)) i r.0
turned_sound g sort true (same s (headed h us) (unknown y)) i r = by_name g sort s (headed h us) (unknown y) (is_solved_by g y (headed h us)) i r.0
turned_sound g sort true (same s (unknown x) (offset y c)) i r = by_name g sort s (unknown x) (offset y c) false i r.0
turned_sound g sort true (same s (unknown x) (known u)) i r = by_name g sort s (unknown x) (known u) false i r.0
turned_sound g sort true (same s (unknown x) (headed f ts)) i r = by_name g sort s (unknown x) (headed f ts) false i r.0
turned_sound g sort true (same s (offset x k) (offset y c)) i r = by_name g sort s (offset x k) (offset y c) false i r.0
turned_sound g sort true (same s (offset x k) (known u)) i r = by_name g sort s (offset x k) (known u) false i r.0
turned_sound g sort true (same s (offset x k) (headed f ts)) i r = by_name g sort s (offset x k) (headed f ts) false i r.0
turned_sound g sort true (same s (known w) (offset y c)) i r = by_name g sort s (known w) (offset y c) false i r.0
turned_sound g sort true (same s (known w) (known u)) i r = by_name g sort s (known w) (known u) false i r.0
turned_sound g sort true (same s (known w) (headed f ts)) i r = by_name g sort s (known w) (headed f ts) false i r.0
turned_sound g sort true (same s (headed h us) (offset y c)) i r = by_name g sort s (headed h us) (offset y c) false i r.0
turned_sound g sort true (same s (headed h us) (known u)) i r = by_name g sort s (headed h us) (known u) false i r.0
turned_sound g sort true (same s (headed h us) (headed f ts)) i r = by_name g sort s (headed h us) (headed f ts) false i r.0
turned_sound g sort true (has_head x test) i r = atom_sound g sort (has_head x test) i r
turned_sound g sort true (quoted p rs) i r = atom_sound g sort (quoted p rs) i r
turned_sound g sort false a i r = signed_sound g sort false (written_atom g sort a) i (λ n. atom_sound g sort a n r)

literals_sound : (g : KoreSignature) (sort : KoreSort) (c : List Literal) → CanInject g (all_subpatterns (written_literals g sort c)) → AllByRecursion (λ l. IsReady g l.atom) c → AreSoundPredicates g (written_literals g sort c)
literals_sound g sort [] i r = tt
literals_sound g sort (l ∷ c) i r =
    let here = subpatterns (written_literal g sort l) in
    let others = all_subpatterns (written_literals g sort c) in
    (signed_sound g sort l.holds (written_atom g sort l.atom) (can_left g here others i) (λ n. atom_sound g sort l.atom n r.0), literals_sound g sort c (can_right g here others i) r.1)

pub clause_sound : (g : KoreSignature) (sort : KoreSort) (c : List Literal) → CanInject g (subpatterns (written_clause g sort c)) → AllByRecursion (λ l. IsReady g l.atom) c → IsSoundPredicate g (written_clause g sort c)
clause_sound g sort [] i r = tt
clause_sound g sort (l ∷ []) i r = turned_sound g sort l.holds l.atom i r.0
clause_sound g sort (l ∷ m ∷ c) i r = literals_sound g sort (l ∷ m ∷ c) i r
