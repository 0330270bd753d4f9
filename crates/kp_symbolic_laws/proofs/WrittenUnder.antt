-- What is written for a quoted predicate says what the predicate says where its variables stand for the terms' instances.
use Rattle.std.proofs.Common.{◌≡◌, refl, sym, ◌∙◌, ap, ap₂, subst, inl, inr, Bool, true, false, not, ◌&&◌, ◌||◌, List, [], ◌∷◌, ◌++◌, Option, Some, None, ◌↔◌}
use Rattle.std.specs.Prelude.{if◌then◌else◌, option_map, unwrap_or, MatchBool, ℤ, neg_ℤ, int_lt, pos}
use Rattle.std.specs.Fmt.{signed_decimal}
use Rattle.std.specs.List.{AllByRecursion, list_all}
use Rattle.kp_kore.specs.Syntax.{Text, KoreSort, sort_variable, KoreSorts, no_sorts, next_sort, KorePattern, KorePatterns, variable, application, literal, top, bottom, negation, conjunction, disjunction, implication, equivalence, exists, forall, ceil, floor, equals, membership, no_patterns, next_pattern}
use Rattle.kp_kore.specs.Attributes.{sorts_equal}
use Rattle.kp_kore.specs.Hooks.{addition, subtraction}
use Rattle.kp_kore.specs.Parts.{SortedName, is_term, are_terms, free_variables, all_free_variables, subpatterns, all_subpatterns}
use Rattle.kp_kore.specs.Signature.{KoreSignature, injection, meaning_of, integer_sort, boolean_sort, IsBelow, itself}
use Rattle.kp_kore.specs.Sorting.{result_sort}
use Rattle.kp_kore.specs.Value.{Value, whole, truth, token, constructed, no_values, next_value, HasSort}
use Rattle.kp_kore.specs.Instance.{Valuation, GivesSorts, assigned, instance, IsTrueUnder, AllTrueUnder, NoneTrueUnder, PairSame, applied, is_predicate, are_predicates, is_conjoined_pair}
use Rattle.kp_kore.proofs.InstanceLemmas.{first_true, second_true}
use Rattle.kp_kore.proofs.SameLemmas.{sorts_equal-Decides}
use Rattle.kp_kore.proofs.TruthLemmas.{same_truth}
use Rattle.kp_signature.proofs.Below.{is_below-Decides}
use Rattle.kp_compile.specs.Spelled.{placed, injected, injection_name, places_of, own_sort, spelling, truth_text, has_two_sorts, NumbersFit}
use Rattle.kp_compile.proofs.SpelledForms.{spelling_term}
use Rattle.kp_compile.proofs.SpelledMeaning.{InjectsWell, said}
use Rattle.kp_symbolic.specs.Terms.{SymbolicTerm, unknown, offset, known, headed, SymbolicTerms, no_terms, next_term, Replaced, term_instance, replacement_for, under_replaced}
use Rattle.kp_symbolic.specs.States.{variables_for, AreGiven}
use Rattle.kp_symbolic.specs.WellFormed.{is_sort_below, IsWellSorted, AreWellPlaced}
use Rattle.kp_symbolic.specs.Folding.{least_symbol, term_for, folded}
use Rattle.kp_symbolic.specs.Writing.{written_call, written_sum, written_term, written_terms, bound_name, renamed, written_under, all_written_under}
use Rattle.kp_symbolic.proofs.Distribution.{all_first, all_second}
use Rattle.kp_symbolic.proofs.Folded.{folded_is}
use Rattle.kp_symbolic.proofs.Written.{written_is, injects_right, injects_left}
use Rattle.kp_symbolic.proofs.Read.{three_tests, two_tests}
use Rattle.kp_symbolic_laws.specs.Runs.{HasRoom, AllHaveRoom, IsSoundTerm, IsSoundPair, IsSoundPredicate, AreSoundPredicates}
use Rattle.kp_symbolic_laws.proofs.RightEquations.{value_at}
use Rattle.kp_symbolic_laws.proofs.Binders.{IsUnder, bound_apart, all_under, under_placed, under_given, under_agrees}

-- ---- what is written for a term is a term

pub placed_term : (own s : KoreSort) (p : KorePattern) → is_term p ≡ true → is_term (placed own s p) ≡ true
placed_term own s p e = by (sorts_equal own s)
  where
    by : (b : Bool) → is_term (if b then p else injected own s p) ≡ true
    by true = e
    by false = rw e refl

call_term : (o : Option Text) (x : SortedName) (n : ℤ) → is_term (written_call o x n) ≡ true
call_term (Some f) x n = refl
call_term None x n = refl

sum_term : (g : KoreSignature) (x : SortedName) (c : ℤ) → is_term (written_sum g x c) ≡ true
sum_term g x c = by (int_lt (pos 0) c)
  where
    by : (b : Bool) → is_term (if b then written_call (least_symbol g addition) x c else written_call (least_symbol g subtraction) x (neg_ℤ c)) ≡ true
    by true = call_term (least_symbol g addition) x c
    by false = call_term (least_symbol g subtraction) x (neg_ℤ c)

mutual
  pub written_is_term : (g : KoreSignature) (s : KoreSort) (t : SymbolicTerm) → is_term (written_term g s t) ≡ true
  written_is_term g s (unknown x) = placed_term x.sort s (variable x.name x.sort) refl
  written_is_term g s (offset x c) = placed_term x.sort s (written_sum g x c) (sum_term g x c)
  written_is_term g s (known u) = spelling_term g s u
  written_is_term g s (headed f ts) = placed_term (unwrap_or (result_sort g f no_sorts) s) s (application f no_sorts (written_terms g (places_of g f) ts)) (written_are_terms g (places_of g f) ts)

  written_are_terms : (g : KoreSignature) (ss : KoreSorts) (ts : SymbolicTerms) → are_terms (written_terms g ss ts) ≡ true
  written_are_terms g no_sorts ts = refl
  written_are_terms g (next_sort s ss) no_terms = refl
  written_are_terms g (next_sort s ss) (next_term t ts) = ap₂ (λ a b. a && b) (written_is_term g s t) (written_are_terms g ss ts)

-- ---- and a term is written for nothing else

-- a term, a predicate, or two conjoined terms
abbrev pub IsRightForm : KorePattern → Type 0
IsRightForm p = is_term p || is_predicate p || is_conjoined_pair p ≡ true

pub term_form : (p : KorePattern) → is_term p ≡ true → IsRightForm p
term_form p e = rw e refl

either_true : (a b c : Bool) → b ≡ true → a || b || c ≡ true
either_true true b c e = refl
either_true false true c e = refl
either_true false false c e = absurd (cc)

pub predicate_form : (p : KorePattern) → is_predicate p ≡ true → IsRightForm p
predicate_form p e = either_true (is_term p) (is_predicate p) (is_conjoined_pair p) e

only_first : (a : Bool) → a || false || false ≡ true → a ≡ true
only_first true e = refl
only_first false e = absurd (cc)

pub term_kept : (g : KoreSignature) (rs : List Replaced) (p : KorePattern) → IsRightForm p → is_term (written_under g rs p) ≡ is_term p
term_kept g rs (variable x s) h = written_is_term g s (folded g rs (variable x s))
term_kept g rs (literal s t) h = written_is_term g s (folded g rs (literal s t))
term_kept g rs (application f ss ps) h = written_is_term g (unwrap_or (result_sort g f ss) (sort_variable [])) (folded g rs (application f ss ps)) ∙ sym (only_first (are_terms ps) h)
term_kept g rs _ h = refl

no_pair : (p : KorePattern) → is_term p ≡ true → is_conjoined_pair p ≡ false
no_pair (variable x s) h = refl
no_pair (literal s x) h = refl
no_pair (application f ss ps) h = refl
no_pair _ h = absurd (cc)

-- two members that are both predicates, or both terms
two_forms : (p q : KorePattern) → (is_predicate p && (is_predicate q && true)) || (is_term p && is_term q) ≡ true → IsRightForm p × IsRightForm q
two_forms p q e = by (is_predicate p && (is_predicate q && true)) (is_term p && is_term q) refl refl e
  where
    by : (b c : Bool) → is_predicate p && (is_predicate q && true) ≡ b → is_term p && is_term q ≡ c → b || c ≡ true → IsRightForm p × IsRightForm q
    by true c i j h = (predicate_form p (first_true (is_predicate p) (is_predicate q && true) i), predicate_form q (first_true (is_predicate q) true (second_true (is_predicate p) (is_predicate q && true) i)))
    by false true i j h = (term_form p (first_true (is_term p) (is_term q) j), term_form q (second_true (is_term p) (is_term q) j))
    by false false i j h = absurd (cc)

pub pair_kept : (g : KoreSignature) (rs : List Replaced) (p : KorePattern) → IsRightForm p → is_conjoined_pair (written_under g rs p) ≡ is_conjoined_pair p
pair_kept g rs (variable x s) h = no_pair (written_under g rs (variable x s)) (term_kept g rs (variable x s) h)
pair_kept g rs (literal s t) h = no_pair (written_under g rs (literal s t)) (term_kept g rs (literal s t) h)
pair_kept g rs (application f ss ps) h = no_pair (written_under g rs (application f ss ps)) (term_kept g rs (application f ss ps) h ∙ only_first (are_terms ps) h)
pair_kept g rs (conjunction s no_patterns) h = refl
pair_kept g rs (conjunction s (next_pattern p no_patterns)) h = refl
pair_kept g rs (conjunction s (next_pattern p (next_pattern q no_patterns))) h = let k = two_forms p q h in ap₂ (λ a b. a && b) (term_kept g rs p k.0) (term_kept g rs q k.1)
pair_kept g rs (conjunction s (next_pattern p (next_pattern q (next_pattern r ps)))) h = refl
pair_kept g rs _ h = refl

-- ---- terms

abbrev pub IsInj : KoreSignature → Type 0
IsInj g = meaning_of g injection_name ≡ injection

pub under_inj : (g : KoreSignature) (v : Valuation) (own s : KoreSort) (p : KorePattern) → IsInj g → instance g v (placed own s p) ≡ instance g v p
under_inj g v own s p i = by (sorts_equal own s)
  where
    by : (b : Bool) → instance g v (if b then p else injected own s p) ≡ instance g v p
    by true = refl
    by false = ap (λ m. applied m injection_name (next_value (instance g v p) no_values)) i

-- ---- inj is what it should be, or stands nowhere

-- of what is written
abbrev pub Well : KoreSignature → KorePattern → Type 0
Well g p = InjectsWell g (subpatterns p)

pub well_behind : (g : KoreSignature) (q : KorePattern) (ps : List KorePattern) → InjectsWell g (q ∷ ps) → InjectsWell g ps
well_behind g q ps j = injects_right g (q ∷ []) ps j

not_placed : (own s : KoreSort) (p : KorePattern) (b : Bool) → list_all (λ q. not (has_two_sorts q)) (subpatterns (if b then p else injected own s p)) ≡ true → b ≡ true
not_placed own s p true e = refl
not_placed own s p false e = absurd (cc)

as_it_is : (own s : KoreSort) (p : KorePattern) → own ≡ s → placed own s p ≡ p
as_it_is own s p e = rw ((sorts_equal-Decides own s).1 e) refl

same_sort : (own s : KoreSort) (p : KorePattern) → list_all (λ q. not (has_two_sorts q)) (subpatterns (placed own s p)) ≡ true → own ≡ s
same_sort own s p e = (sorts_equal-Decides own s).0 (not_placed own s p (sorts_equal own s) e)

placed_well : (g : KoreSignature) (v : Valuation) (own s : KoreSort) (p : KorePattern) → Well g (placed own s p) → instance g v (placed own s p) ≡ instance g v p
placed_well g v own s p (inl i) = under_inj g v own s p i
placed_well g v own s p (inr e) = ap (instance g v) (as_it_is own s p (same_sort own s p e))

within_well : (g : KoreSignature) (own s : KoreSort) (p : KorePattern) → Well g (placed own s p) → Well g p
within_well g own s p (inl i) = inl i
within_well g own s p (inr e) = inr (subst (λ q. list_all (λ z. not (has_two_sorts z)) (subpatterns q) ≡ true) (as_it_is own s p (same_sort own s p e)) e)

-- ---- what is written has the term's instance at whatever sort it is written

spelled_at : (g : KoreSignature) (v : Valuation) (a b : KoreSort) (u : Value) → IsInj g → HasSort g b u → instance g v (spelling g a u) ≡ instance g v (spelling g b u)
spelled_at g v a b (whole n) i h = under_inj g v _ a _ i ∙ ap (λ o. instance g v (literal o (signed_decimal n))) (ap (λ o. unwrap_or o a) h.1 ∙ sym (ap (λ o. unwrap_or o b) h.1)) ∙ sym (under_inj g v _ b _ i)
spelled_at g v a b (truth c) i h = under_inj g v _ a _ i ∙ ap (λ o. instance g v (literal o (truth_text c))) (ap (λ o. unwrap_or o a) h.1 ∙ sym (ap (λ o. unwrap_or o b) h.1)) ∙ sym (under_inj g v _ b _ i)
spelled_at g v a b (token t x) i h = under_inj g v t a _ i ∙ sym (under_inj g v t b _ i)
spelled_at g v a b (constructed c us) i h = under_inj g v _ a _ i ∙ sym (under_inj g v _ b _ i)

-- a value that is written without inj has the sort of its place
pub at_its_sort : (g : KoreSignature) (b : KoreSort) (u : Value) (o : Option KoreSort) (a k : KoreSort) → own_sort g u ≡ o → o ≡ Some k → unwrap_or o a ≡ a → HasSort g b u → HasSort g a u
at_its_sort g b u o a k e f q h = value_at g b a u h (subst (λ z. is_sort_below g z a ≡ true) (sym (e ∙ f)) ((is_below-Decides g.subsorts k a).1 (subst (λ z. IsBelow g.subsorts k z) (ap (λ z. unwrap_or z a) (sym f) ∙ q) (itself k))))

spelled_here : (g : KoreSignature) (a b : KoreSort) (u : Value) → list_all (λ q. not (has_two_sorts q)) (subpatterns (spelling g a u)) ≡ true → HasSort g b u → HasSort g a u
spelled_here g a b (whole n) e h = at_its_sort g b (whole n) (integer_sort g) a h.0 refl h.1 (same_sort _ a _ e) h
spelled_here g a b (truth c) e h = at_its_sort g b (truth c) (boolean_sort g) a h.0 refl h.1 (same_sort _ a _ e) h
spelled_here g a b (token t x) e h = at_its_sort g b (token t x) (Some t) a t refl refl (same_sort t a _ e) h
spelled_here g a b (constructed c us) e h = at_its_sort g b (constructed c us) (own_sort g (constructed c us)) a h.0.1.0.result refl (ap (option_map (λ d. d.result)) h.0.1.1) (same_sort _ a _ e) h

value_well : (g : KoreSignature) (v : Valuation) (a b : KoreSort) (u : Value) → Well g (spelling g a u) → HasSort g b u → NumbersFit u → instance g v (spelling g a u) ≡ u
value_well g v a b u (inl i) h f = spelled_at g v a b u i h ∙ (said g v b u h f (inl i)).meant
value_well g v a b u (inr e) h f = (said g v a u (spelled_here g a b u e h) f (inr e)).meant

own_placed : (r : Option KoreSort) (own : KoreSort) (p : KorePattern) → r ≡ Some own → placed (unwrap_or r own) own p ≡ p
own_placed r own p e = as_it_is (unwrap_or r own) own p (ap (λ o. unwrap_or o own) e)

at_own : (g : KoreSignature) (v : Valuation) (p q : KorePattern) (u : Value) → q ≡ p → (Well g q → instance g v q ≡ u) → Well g p → instance g v p ≡ u
at_own g v p q u e f j = sym (ap (instance g v) e) ∙ f (subst (Well g) (sym e) j)

pub at_any_sort : (g : KoreSignature) (v : Valuation) (a b : KoreSort) (t : SymbolicTerm) → Well g (written_term g a t) → IsWellSorted g b t → instance g v (written_term g a t) ≡ term_instance g v t
at_any_sort g v a b (unknown x) j w = placed_well g v x.sort a (variable x.name x.sort) j
at_any_sort g v a b (offset x c) j w = placed_well g v x.sort a (written_sum g x c) j
    ∙ at_own g v (written_sum g x c) (placed x.sort x.sort (written_sum g x c)) _ (as_it_is x.sort x.sort (written_sum g x c) refl) (written_is g v x.sort (offset x c) (w.0, w.1, itself x.sort)) (within_well g x.sort a (written_sum g x c) j)
at_any_sort g v a b (known u) j w = value_well g v a b u j w.0 w.1
at_any_sort g v a b (headed f ts) j w =
    let p = application f no_sorts (written_terms g (places_of g f) ts) in
    let own = w.1.0 in
    placed_well g v (unwrap_or (result_sort g f no_sorts) a) a p j
    ∙ at_own g v p (placed (unwrap_or (result_sort g f no_sorts) own) own p) _ (own_placed (result_sort g f no_sorts) own p w.1.1) (written_is g v own (headed f ts) (w.0, (own, w.1.1, itself own), w.2)) (within_well g (unwrap_or (result_sort g f no_sorts) a) a p j)

side_at : (g : KoreSignature) (rs : List Replaced) (v : Valuation) (a : KoreSort) (p : KorePattern) → IsSoundTerm g p → AreWellPlaced g rs (free_variables p) → AreGiven g rs v (free_variables p) → Well g (written_term g a (folded g rs p)) → instance g v (written_term g a (folded g rs p)) ≡ instance g (under_replaced g rs v) p
side_at g rs v a p o w k j = let d = o.sorted rs w in at_any_sort g v a d.0 (folded g rs p) j d.1 ∙ folded_is g rs v p k

side_by : (g : KoreSignature) (rs : List Replaced) (v : Valuation) (p : KorePattern) → is_term p ≡ true → ((a : KoreSort) → Well g (written_term g a (folded g rs p)) → instance g v (written_term g a (folded g rs p)) ≡ instance g (under_replaced g rs v) p) → Well g (written_under g rs p) → instance g v (written_under g rs p) ≡ instance g (under_replaced g rs v) p
side_by g rs v (variable x s) t f j = f s j
side_by g rs v (literal s x) t f j = f s j
side_by g rs v (application h ss ps) t f j = f (unwrap_or (result_sort g h ss) (sort_variable [])) j
side_by g rs v _ t f j = absurd (cc)

side_written : (g : KoreSignature) (rs : List Replaced) (v : Valuation) (p : KorePattern) → Well g (written_under g rs p) → IsSoundTerm g p → AreWellPlaced g rs (free_variables p) → AreGiven g rs v (free_variables p) → instance g v (written_under g rs p) ≡ instance g (under_replaced g rs v) p
side_written g rs v p j o w k = side_by g rs v p o.term (λ a. side_at g rs v a p o w k) j

abbrev Placed : KoreSignature → List Replaced → SortedName → Type 0
Placed g rs x = IsWellSorted g x.sort (term_for x (replacement_for rs x.name))

abbrev Sorted : KoreSignature → List Replaced → Valuation → SortedName → Type 0
Sorted g rs v x = GivesSorts g v (variables_for x (replacement_for rs x.name))

same_sides : (u u' w w' : Value) → u ≡ u' → w ≡ w' → (u ≡ w) ↔ (u' ≡ w')
same_sides u u' w w' e f = ((λ h. sym e ∙ h ∙ f), (λ h. e ∙ h ∙ sym f))

both_written : (g : KoreSignature) (rs : List Replaced) (v : Valuation) (p q : KorePattern) → InjectsWell g (subpatterns (written_under g rs p) ++ subpatterns (written_under g rs q)) → IsSoundTerm g p × IsSoundTerm g q → AllByRecursion (Placed g rs) (free_variables p ++ free_variables q) → AllByRecursion (Sorted g rs v) (free_variables p ++ free_variables q) →
    (instance g v (written_under g rs p) ≡ instance g v (written_under g rs q)) ↔ (instance g (under_replaced g rs v) p ≡ instance g (under_replaced g rs v) q)
both_written g rs v p q i o w k = same_sides _ _ _ _
    (side_written g rs v p (injects_left g (subpatterns (written_under g rs p)) (subpatterns (written_under g rs q)) i) o.0 (all_first (Placed g rs) (free_variables p) (free_variables q) w) (all_first (Sorted g rs v) (free_variables p) (free_variables q) k))
    (side_written g rs v q (injects_right g (subpatterns (written_under g rs p)) (subpatterns (written_under g rs q)) i) o.1 (all_second (Placed g rs) (free_variables p) (free_variables q) w) (all_second (Sorted g rs v) (free_variables p) (free_variables q) k))

-- ---- predicates and their parts

-- what is needed of a predicate that isn't opened
pub record IsQuoted (g : KoreSignature) (rs : List Replaced) (v : Valuation) (p : KorePattern) : Type 0 where
  pub predicate : is_predicate p ≡ true
  pub sound : IsSoundPredicate g p
  pub placed : AreWellPlaced g rs (free_variables p)
  pub given : AreGiven g rs v (free_variables p)

record AreQuoted (g : KoreSignature) (rs : List Replaced) (v : Valuation) (ps : KorePatterns) : Type 0 where
  predicates : are_predicates ps ≡ true
  sound : AreSoundPredicates g ps
  placed : AreWellPlaced g rs (all_free_variables ps)
  given : AreGiven g rs v (all_free_variables ps)

two_quoted : (g : KoreSignature) (rs : List Replaced) (v : Valuation) (p q : KorePattern) → is_predicate p && is_predicate q ≡ true → IsSoundPredicate g p × IsSoundPredicate g q → AllByRecursion (Placed g rs) (free_variables p ++ free_variables q) → AllByRecursion (Sorted g rs v) (free_variables p ++ free_variables q) → IsQuoted g rs v p × IsQuoted g rs v q
two_quoted g rs v p q b o w k = (
  record { predicate = first_true (is_predicate p) (is_predicate q) b; sound = o.0; placed = all_first (Placed g rs) (free_variables p) (free_variables q) w; given = all_first (Sorted g rs v) (free_variables p) (free_variables q) k },
  record { predicate = second_true (is_predicate p) (is_predicate q) b; sound = o.1; placed = all_second (Placed g rs) (free_variables p) (free_variables q) w; given = all_second (Sorted g rs v) (free_variables p) (free_variables q) k },
)

first_quoted : (g : KoreSignature) (rs : List Replaced) (v : Valuation) (p : KorePattern) (ps : KorePatterns) → AreQuoted g rs v (next_pattern p ps) → IsQuoted g rs v p
first_quoted g rs v p ps r = record { predicate = first_true (is_predicate p) (are_predicates ps) r.predicates; sound = r.sound.0; placed = all_first (Placed g rs) (free_variables p) (all_free_variables ps) r.placed; given = all_first (Sorted g rs v) (free_variables p) (all_free_variables ps) r.given }

others_quoted : (g : KoreSignature) (rs : List Replaced) (v : Valuation) (p : KorePattern) (ps : KorePatterns) → AreQuoted g rs v (next_pattern p ps) → AreQuoted g rs v ps
others_quoted g rs v p ps r = record { predicates = second_true (is_predicate p) (are_predicates ps) r.predicates; sound = r.sound.1; placed = all_second (Placed g rs) (free_variables p) (all_free_variables ps) r.placed; given = all_second (Sorted g rs v) (free_variables p) (all_free_variables ps) r.given }

-- ---- \ceil and \floor

pub matched : (b : Bool) (P Q : Type 0) → b ≡ true → MatchBool b P Q → P
matched true P Q e m = m
matched false P Q e m = absurd (cc)

pub unmatched : (b : Bool) (P Q : Type 0) → b ≡ false → MatchBool b P Q → Q
unmatched true P Q e m = absurd (cc)
unmatched false P Q e m = m

abbrev Says : KoreSignature → List Replaced → Valuation → KorePattern → Type 0
Says g rs v p = IsTrueUnder g v (written_under g rs p) ↔ IsTrueUnder g (under_replaced g rs v) p

by_test : (b c : Bool) (P Q R S : Type 0) → b ≡ c → (c ≡ true → P ↔ R) → (c ≡ false → Q ↔ S) → MatchBool b P Q ↔ MatchBool c R S
by_test true true P Q R S e f h = f refl
by_test false false P Q R S e f h = h refl
by_test true false P Q R S e f h = absurd (cc)
by_test false true P Q R S e f h = absurd (cc)

pair_written : (g : KoreSignature) (rs : List Replaced) (v : Valuation) (p : KorePattern) → Well g (written_under g rs p) → IsSoundPair g p → AreWellPlaced g rs (free_variables p) → AreGiven g rs v (free_variables p) → is_conjoined_pair p ≡ true → PairSame g v (written_under g rs p) ↔ PairSame g (under_replaced g rs v) p
pair_written g rs v (conjunction t (next_pattern p (next_pattern q no_patterns))) i o w k e =
    let ps = next_pattern q no_patterns in
    let both = well_behind g (written_under g rs (conjunction t (next_pattern p ps))) (subpatterns (written_under g rs p) ++ (subpatterns (written_under g rs q) ++ [])) i in
    same_sides _ _ _ _
    (side_written g rs v p (injects_left g (subpatterns (written_under g rs p)) (subpatterns (written_under g rs q) ++ []) both) o.0 (all_first (Placed g rs) (free_variables p) (all_free_variables ps) w) (all_first (Sorted g rs v) (free_variables p) (all_free_variables ps) k))
    (side_written g rs v q (injects_left g (subpatterns (written_under g rs q)) [] (injects_right g (subpatterns (written_under g rs p)) (subpatterns (written_under g rs q) ++ []) both)) o.1 (all_first (Placed g rs) (free_variables q) [] (all_second (Placed g rs) (free_variables p) (all_free_variables ps) w)) (all_first (Sorted g rs v) (free_variables q) [] (all_second (Sorted g rs v) (free_variables p) (all_free_variables ps) k)))
pair_written g rs v _ i o w k e = absurd (cc)

ceil_written : (g : KoreSignature) (rs : List Replaced) (v : Valuation) (a s : KoreSort) (p : KorePattern) → Well g (written_under g rs p) → IsQuoted g rs v (ceil a s p) → (IsQuoted g rs v p → Says g rs v p) → Says g rs v (ceil a s p)
ceil_written g rs v a s p i r k =
    by_test (is_term (written_under g rs p)) (is_term p) _ _ _ _ (term_kept g rs p r.predicate) (λ e. ((λ h. h), (λ h. h)))
    (λ e. let o = unmatched (is_term p) _ _ e r.sound in
    by_test (is_conjoined_pair (written_under g rs p)) (is_conjoined_pair p) _ _ _ _ (pair_kept g rs p r.predicate)
    (λ f. pair_written g rs v p i (matched (is_conjoined_pair p) _ _ f o) r.placed r.given f)
    (λ f. k (record { predicate = three_tests (is_term p) (is_predicate p) (is_conjoined_pair p) r.predicate e f; sound = unmatched (is_conjoined_pair p) _ _ f o; placed = r.placed; given = r.given })))

pub two_of_three : (a b c : Bool) → a || b ≡ true → a || b || c ≡ true
two_of_three true b c e = refl
two_of_three false true c e = refl
two_of_three false false c e = absurd (cc)

floor_written : (g : KoreSignature) (rs : List Replaced) (v : Valuation) (a s : KoreSort) (p : KorePattern) → Well g (written_under g rs p) → IsQuoted g rs v (floor a s p) → (IsQuoted g rs v p → Says g rs v p) → Says g rs v (floor a s p)
floor_written g rs v a s p i r k =
    by_test (is_term (written_under g rs p)) (is_term p) _ _ _ _ (term_kept g rs p (two_of_three (is_term p) (is_predicate p) (is_conjoined_pair p) r.predicate))
    (λ e. let d = side_written g rs v p i (matched (is_term p) _ _ e r.sound) r.placed r.given in ((λ f u h. f u h ∙ d), (λ f u h. f u h ∙ sym d)))
    (λ e. k (record { predicate = two_tests (is_term p) (is_predicate p) r.predicate e; sound = unmatched (is_term p) _ _ e r.sound; placed = r.placed; given = r.given }))

-- ---- predicates

-- under a binder of x, which is named y now
binder_says : (g : KoreSignature) (rs : List Replaced) (x y : Text) (t : KoreSort) (v : Valuation) (u : Value) (p : KorePattern) → AllByRecursion (IsUnder g rs x y t v u) (free_variables p) → Says g (renamed x y t rs) (assigned v y u) p → IsTrueUnder g (assigned v y u) (written_under g (renamed x y t rs) p) ↔ IsTrueUnder g (assigned (under_replaced g rs v) x u) p
binder_says g rs x y t v u p a i =
    let same = same_truth g p (assigned (under_replaced g rs v) x u) (under_replaced g (renamed x y t rs) (assigned v y u)) (under_agrees g rs x y t v u (free_variables p) a) in
    ((λ h. same.1 (i.0 h)), (λ h. i.1 (same.0 h)))

mutual
  pub written_says : (g : KoreSignature) (rs : List Replaced) (v : Valuation) (p : KorePattern) → Well g (written_under g rs p) → IsQuoted g rs v p → HasRoom rs p → Says g rs v p
  written_says g rs v (top s) i r m = ((λ h. h), (λ h. h))
  written_says g rs v (bottom s) i r m = ((λ h. h), (λ h. h))
  written_says g rs v (negation s p) i r m = let k = written_says g rs v p (well_behind g (written_under g rs (negation s p)) (subpatterns (written_under g rs p)) i) (record { predicate = r.predicate; sound = r.sound; placed = r.placed; given = r.given }) m in ((λ n h. n (k.1 h)), (λ n h. n (k.0 h)))
  written_says g rs v (conjunction s ps) i r m = all_say g rs v ps (well_behind g (written_under g rs (conjunction s ps)) (all_subpatterns (all_written_under g rs ps)) i) (record { predicates = r.predicate; sound = r.sound; placed = r.placed; given = r.given }) m
  written_says g rs v (disjunction s ps) i r m = let k = none_say g rs v ps (well_behind g (written_under g rs (disjunction s ps)) (all_subpatterns (all_written_under g rs ps)) i) (record { predicates = r.predicate; sound = r.sound; placed = r.placed; given = r.given }) m in ((λ n h. n (k.1 h)), (λ n h. n (k.0 h)))
  written_says g rs v (implication s p q) i r m =
      let parts = two_quoted g rs v p q r.predicate r.sound r.placed r.given in
      let j = (well_behind g (written_under g rs (implication s p q)) (subpatterns (written_under g rs p) ++ subpatterns (written_under g rs q)) i) in
      let k = written_says g rs v p (injects_left g (subpatterns (written_under g rs p)) (subpatterns (written_under g rs q)) j) parts.0 m.0 in
      let l = written_says g rs v q (injects_right g (subpatterns (written_under g rs p)) (subpatterns (written_under g rs q)) j) parts.1 m.1 in
      ((λ f h. l.0 (f (k.1 h))), (λ f h. l.1 (f (k.0 h))))
  written_says g rs v (equivalence s p q) i r m =
      let parts = two_quoted g rs v p q r.predicate r.sound r.placed r.given in
      let j = (well_behind g (written_under g rs (equivalence s p q)) (subpatterns (written_under g rs p) ++ subpatterns (written_under g rs q)) i) in
      let k = written_says g rs v p (injects_left g (subpatterns (written_under g rs p)) (subpatterns (written_under g rs q)) j) parts.0 m.0 in
      let l = written_says g rs v q (injects_right g (subpatterns (written_under g rs p)) (subpatterns (written_under g rs q)) j) parts.1 m.1 in
      ((λ f. ((λ h. l.0 (f.0 (k.1 h))), (λ h. k.0 (f.1 (l.1 h))))), (λ f. ((λ h. l.1 (f.0 (k.0 h))), (λ h. k.1 (f.1 (l.0 h))))))
  written_says g rs v (exists s x t p) i r m =
      let y = bound_name rs x p in
      let a = λ (u : Value) (z : HasSort g t u). all_under g rs x y t v u (free_variables p) z r.sound.0 r.placed r.given (bound_apart rs x p m.0) in
      let k = λ (u : Value) (z : HasSort g t u). binder_says g rs x y t v u p (a u z) (written_says g (renamed x y t rs) (assigned v y u) p (well_behind g (written_under g rs (exists s x t p)) (subpatterns (written_under g (renamed x y t rs) p)) i)
      (record { predicate = r.predicate; sound = r.sound.1; placed = under_placed g rs x y t v u (free_variables p) (a u z); given = under_given g rs x y t v u (free_variables p) (a u z) }) m.1) in
      ((λ n f. n (λ u z e. f u z ((k u z).0 e))), (λ n f. n (λ u z e. f u z ((k u z).1 e))))
  written_says g rs v (forall s x t p) i r m =
      let y = bound_name rs x p in
      let a = λ (u : Value) (z : HasSort g t u). all_under g rs x y t v u (free_variables p) z r.sound.0 r.placed r.given (bound_apart rs x p m.0) in
      let k = λ (u : Value) (z : HasSort g t u). binder_says g rs x y t v u p (a u z) (written_says g (renamed x y t rs) (assigned v y u) p (well_behind g (written_under g rs (forall s x t p)) (subpatterns (written_under g (renamed x y t rs) p)) i)
      (record { predicate = r.predicate; sound = r.sound.1; placed = under_placed g rs x y t v u (free_variables p) (a u z); given = under_given g rs x y t v u (free_variables p) (a u z) }) m.1) in
      ((λ f u z. (k u z).0 (f u z)), (λ f u z. (k u z).1 (f u z)))
  written_says g rs v (ceil a s p) i r m = let j = (well_behind g (written_under g rs (ceil a s p)) (subpatterns (written_under g rs p)) i) in ceil_written g rs v a s p j r (λ q. written_says g rs v p j q m)
  written_says g rs v (floor a s p) i r m = let j = (well_behind g (written_under g rs (floor a s p)) (subpatterns (written_under g rs p)) i) in floor_written g rs v a s p j r (λ q. written_says g rs v p j q m)
  written_says g rs v (equals a s p q) i r m = both_written g rs v p q (well_behind g (written_under g rs (equals a s p q)) (subpatterns (written_under g rs p) ++ subpatterns (written_under g rs q)) i) r.sound r.placed r.given
  written_says g rs v (membership a s p q) i r m = both_written g rs v p q (well_behind g (written_under g rs (membership a s p q)) (subpatterns (written_under g rs p) ++ subpatterns (written_under g rs q)) i) r.sound r.placed r.given
  written_says g rs v _ i r m = absurd (no_form r.predicate)
    where
      no_form : false ≡ true → ⊥
      no_form e = cc

  all_say : (g : KoreSignature) (rs : List Replaced) (v : Valuation) (ps : KorePatterns) → InjectsWell g (all_subpatterns (all_written_under g rs ps)) → AreQuoted g rs v ps → AllHaveRoom rs ps → AllTrueUnder g v (all_written_under g rs ps) ↔ AllTrueUnder g (under_replaced g rs v) ps
  all_say g rs v no_patterns i r m = ((λ h. h), (λ h. h))
  all_say g rs v (next_pattern p ps) i r m =
      let k = written_says g rs v p (injects_left g (subpatterns (written_under g rs p)) (all_subpatterns (all_written_under g rs ps)) i) (first_quoted g rs v p ps r) m.0 in
      let l = all_say g rs v ps (injects_right g (subpatterns (written_under g rs p)) (all_subpatterns (all_written_under g rs ps)) i) (others_quoted g rs v p ps r) m.1 in
      ((λ h. (k.0 h.0, l.0 h.1)), (λ h. (k.1 h.0, l.1 h.1)))

  none_say : (g : KoreSignature) (rs : List Replaced) (v : Valuation) (ps : KorePatterns) → InjectsWell g (all_subpatterns (all_written_under g rs ps)) → AreQuoted g rs v ps → AllHaveRoom rs ps → NoneTrueUnder g v (all_written_under g rs ps) ↔ NoneTrueUnder g (under_replaced g rs v) ps
  none_say g rs v no_patterns i r m = ((λ h. h), (λ h. h))
  none_say g rs v (next_pattern p ps) i r m =
      let k = written_says g rs v p (injects_left g (subpatterns (written_under g rs p)) (all_subpatterns (all_written_under g rs ps)) i) (first_quoted g rs v p ps r) m.0 in
      let l = none_say g rs v ps (injects_right g (subpatterns (written_under g rs p)) (all_subpatterns (all_written_under g rs ps)) i) (others_quoted g rs v p ps r) m.1 in
      ((λ h. ((λ t. h.0 (k.1 t)), l.0 h.1)), (λ h. ((λ t. h.0 (k.0 t)), l.1 h.1)))
