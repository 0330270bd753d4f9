-- What is written for settled terms, clauses and states is fit, and each open call in it has a value that leaves 128 bits.
use Rattle.std.proofs.Common.{◌≡◌, refl, sym, ◌∙◌, ap, ap₂, subst, ◌⊎◌, inl, inr, ℤ, pos, neg_ℤ, Bool, true, false, ◌&&◌, List, [], ◌∷◌, Option, Some, None}
use Rattle.std.specs.Prelude.{if◌then◌else◌, is_some, int_lt, FitsSigned, unwrap_or, IsTrue}
use Rattle.std.specs.Int.{w128}
use Rattle.std.specs.Fmt.{signed_decimal}
use Rattle.std.specs.List.{AllByRecursion}
use Rattle.std.specs.Str.Parse.{signed_digits_value}
use Rattle.kp_kore.specs.Syntax.{Text, KoreSort, KoreSorts, no_sorts, next_sort, KorePattern, KorePatterns, variable, set_variable, application, string_literal, literal, top, bottom, negation, next, conjunction, disjunction, implication, equivalence, rewriting, exists, forall, ceil, floor, equals, membership, mu, nu, no_patterns, next_pattern}
use Rattle.kp_kore.specs.Attributes.{sorts_equal}
use Rattle.kp_kore.specs.Hooks.{Arithmetic, addition, subtraction, Hook, whole_arithmetic, whole_comparison, truth_connective, truth_negation, values_equal, values_different}
use Rattle.kp_kore.specs.Limits.{fits_number}
use Rattle.kp_kore.specs.Parts.{SortedName, subpatterns}
use Rattle.kp_kore.specs.Signature.{KoreSignature, SymbolMeaning, injection, construction, interpretation, foreign, meaning_of, integer_sort, is_number_sort, is_truth_sort, fits_hook, are_one, are_two, itself}
use Rattle.kp_kore.specs.Sorting.{result_sort}
use Rattle.kp_kore.specs.Value.{Value, whole, truth, token, constructed, Values, no_values, next_value}
use Rattle.kp_kore.specs.Forms.{two}
use Rattle.kp_kore.specs.Interpretation.{interpreted, no_meaning}
use Rattle.kp_kore.specs.Instance.{Valuation, applied, instance, literal_value}
use Rattle.kp_kore.specs.Foreign.{is_interpretation}
use Rattle.kp_kore.specs.Replies.{are_literals, is_open_call, is_wide_value}
use Rattle.kp_kore.proofs.InstanceLemmas.{first_true, second_true}
use Rattle.kp_signature.proofs.SortLemmas.{is_that_sort}
use Rattle.kp_compile.specs.Spelled.{placed, places_of, home_of, spelling, spellings, injected, injection_name, has_two_sorts, truth_text}
use Rattle.kp_compile.proofs.SpelledMeaning.{InjectsWell, said}
use Rattle.kp_symbolic.specs.Terms.{SymbolicTerm, unknown, offset, known, headed, SymbolicTerms, no_terms, next_term, Replaced}
use Rattle.kp_symbolic.specs.WellFormed.{stands_in_terms}
use Rattle.kp_symbolic.specs.States.{one_head, head_of_sort, Atom, same, has_head, quoted, Literal, SymbolicState}
use Rattle.kp_symbolic.specs.Folding.{least_symbol, with_first, values_known, made, made_call, applied_term, folded}
use Rattle.kp_symbolic.specs.Writing.{written_call, written_sum, written_term, written_terms, new_variables, least_fresh, under_exists, variables_of, bound_name, renamed, written_under, all_written_under, written_atom, written_signed, written_literal, is_solved_by, is_second_solved, turned_if, written_literals, written_clause, written_clauses, written_state}
use Rattle.kp_symbolic.proofs.Replacing.{least_is}
use Rattle.kp_symbolic.proofs.WellSorted.{plain_symbol, places_are, number_sort_is}
use Rattle.kp_symbolic.proofs.SortedFolding.{fits_signed, symbol_fits}
use Rattle.kp_symbolic.proofs.Written.{turned, one_sort}
use Rattle.kp_symbolic_laws.proofs.Settled.{IsSettledValue, AreSettledValues, HaveRoom, IsSettled, AreSettled, ArePutSettled, known_settled, stands}
use Rattle.kp_symbolic_laws.proofs.Fit.{HavePlaces, HasPlaces, IsFit, AreFit, Any, folded_settled, literal_settled}
use Rattle.kp_symbolic_laws.proofs.OpenedSettled.{IsSettledAtom, IsSettledLiteral, AreSettledClauses}

-- ---- open calls

-- an open call has a value that leaves 128 bits, where inj is what it should be or this is no inj
abbrev pub IsRight : KoreSignature → KorePattern → Type 0
IsRight g q = (meaning_of g injection_name ≡ injection) ⊎ (has_two_sorts q ≡ false) → is_open_call g q ≡ true → (v : Valuation) → IsTrue (is_wide_value (instance g v q))

abbrev IsRightFit : KoreSignature → KorePattern → Type 0
IsRightFit g p = IsFit g (IsRight g) p

abbrev AreRightFit : KoreSignature → KorePatterns → Type 0
AreRightFit g ps = AreFit g (IsRight g) ps

false_true : (b : Bool) → b ≡ false → b ≡ true → ⊥
false_true true e f = cc
false_true false e f = cc

-- an application that is no call
no_call_places : (g : KoreSignature) (f : Text) (ps : KorePatterns) → is_interpretation (meaning_of g f) ≡ false → HasPlaces g f ps
no_call_places g f ps n i = absurd (false_true (is_interpretation (meaning_of g f)) n i)

no_call_right : (g : KoreSignature) (f : Text) (ss : KoreSorts) (ps : KorePatterns) → is_interpretation (meaning_of g f) ≡ false → IsRight g (application f ss ps)
no_call_right g f ss ps n k o v = absurd (false_true (is_interpretation (meaning_of g f)) n (first_true (is_interpretation (meaning_of g f)) (are_literals ps) o))

no_call_fit : (g : KoreSignature) (f : Text) (ss : KoreSorts) (ps : KorePatterns) → is_interpretation (meaning_of g f) ≡ false → AreRightFit g ps → IsRightFit g (application f ss ps)
no_call_fit g f ss ps n h = (no_call_places g f ps n, no_call_right g f ss ps n, h)

-- ---- a pattern at a sort

two_places : (test : KoreSort → Bool) (ss : KoreSorts) (p q : KorePattern) → are_two test ss ≡ true → HavePlaces ss (next_pattern p (next_pattern q no_patterns))
two_places test no_sorts p q e = absurd (cc)
two_places test (next_sort a no_sorts) p q e = absurd (cc)
two_places test (next_sort a (next_sort b (next_sort c ss))) p q e = absurd (cc)
two_places test (next_sort a (next_sort b no_sorts)) p q e = tt

one_of_two : (test : KoreSort → Bool) (ss : KoreSorts) (p : KorePattern) → are_two test ss ≡ true → HavePlaces ss (next_pattern p no_patterns)
one_of_two test no_sorts p e = absurd (cc)
one_of_two test (next_sort a no_sorts) p e = tt
one_of_two test (next_sort a (next_sort b ss)) p e = tt

one_place : (test : KoreSort → Bool) (ss : KoreSorts) (p : KorePattern) → are_one test ss ≡ true → HavePlaces ss (next_pattern p no_patterns)
one_place test no_sorts p e = absurd (cc)
one_place test (next_sort a no_sorts) p e = tt
one_place test (next_sort a (next_sort b ss)) p e = tt

hook_place : (g : KoreSignature) (h : Hook) (ss : KoreSorts) (s : KoreSort) (p : KorePattern) → fits_hook g h ss s ≡ true → HavePlaces ss (next_pattern p no_patterns)
hook_place g (whole_arithmetic a) ss s p e = one_of_two (is_number_sort g) ss p (first_true (are_two (is_number_sort g) ss) (is_number_sort g s) e)
hook_place g (whole_comparison c) ss s p e = one_of_two (is_number_sort g) ss p (first_true (are_two (is_number_sort g) ss) (is_truth_sort g s) e)
hook_place g (truth_connective c) ss s p e = one_of_two (is_truth_sort g) ss p (first_true (are_two (is_truth_sort g) ss) (is_truth_sort g s) e)
hook_place g truth_negation ss s p e = one_place (is_truth_sort g) ss p (first_true (are_one (is_truth_sort g) ss) (is_truth_sort g s) e)
hook_place g values_equal ss s p e = one_of_two (λ t. true) ss p (first_true (are_two (λ t. true) ss) (is_truth_sort g s) e)
hook_place g values_different ss s p e = one_of_two (λ t. true) ss p (first_true (are_two (λ t. true) ss) (is_truth_sort g s) e)

-- each call has a place
first_place : (g : KoreSignature) (f : Text) (p : KorePattern) → HasPlaces g f (next_pattern p no_patterns)
first_place g f p i = by (meaning_of g f) refl
  where
    by : (m : SymbolMeaning) → meaning_of g f ≡ m → HavePlaces (places_of g f) (next_pattern p no_patterns)
    by (interpretation h) m =
        let k = plain_symbol g f (stands g f i) in
        subst (λ ss. HavePlaces ss (next_pattern p no_patterns)) (sym (places_are g f k)) (hook_place g h k.declaration.arguments k.declaration.result p (symbol_fits g f k h m))
    by construction m = absurd (false_true (is_interpretation (meaning_of g f)) (ap is_interpretation m) i)
    by injection m = absurd (false_true (is_interpretation (meaning_of g f)) (ap is_interpretation m) i)
    by foreign m = absurd (false_true (is_interpretation (meaning_of g f)) (ap is_interpretation m) i)

inj_right : (g : KoreSignature) (own s : KoreSort) (p : KorePattern) → IsRight g (injected own s p)
inj_right g own s p (inl e) o v = absurd (false_true (is_interpretation (meaning_of g injection_name)) (ap is_interpretation e) (first_true (is_interpretation (meaning_of g injection_name)) (are_literals (next_pattern p no_patterns)) o))
inj_right g own s p (inr e) o v = absurd (cc)

by_sorts : (g : KoreSignature) (own s : KoreSort) (p : KorePattern) (b : Bool) → IsRightFit g p → IsRightFit g (if b then p else injected own s p)
by_sorts g own s p true h = h
by_sorts g own s p false h = (first_place g injection_name p, inj_right g own s p, (h, tt))

placed_fit : (g : KoreSignature) (own s : KoreSort) (p : KorePattern) → IsRightFit g p → IsRightFit g (placed own s p)
placed_fit g own s p h = by_sorts g own s p (sorts_equal own s) h

-- ---- numbers

no_values_given : Valuation
no_values_given x = no_meaning

number_is : (g : KoreSignature) (s : KoreSort) (n : ℤ) → integer_sort g ≡ Some s → FitsSigned w128 n → literal_value g s (signed_decimal n) ≡ whole n
number_is g s n i f =
    let e : spelling g s (whole n) ≡ literal s (signed_decimal n) = one_sort s n (integer_sort g) i in
    subst (λ p. instance g no_values_given p ≡ whole n) e (said g no_values_given s (whole n) (s, i, itself s) f (subst (λ p. InjectsWell g (subpatterns p)) (sym e) (inr refl))).meant

home_number : (g : KoreSignature) (s : KoreSort) (n : ℤ) → IsSettledValue g (whole n) → literal_value g (unwrap_or (integer_sort g) s) (signed_decimal n) ≡ whole n
home_number g s n h = subst (λ o. literal_value g (unwrap_or o s) (signed_decimal n) ≡ whole n) (sym h.1) (number_is g h.0 n h.1 h.2)

truth_fits : (b : Bool) → fits_number (signed_digits_value 10 (truth_text b)) ≡ true
truth_fits true = refl
truth_fits false = refl

-- ---- values

mutual
  spelling_fit : (g : KoreSignature) (s : KoreSort) (u : Value) → IsSettledValue g u → IsRightFit g (spelling g s u)
  spelling_fit g s (whole n) h = placed_fit g (home_of g s (whole n)) s (literal (home_of g s (whole n)) (signed_decimal n)) (subst (IsSettledValue g) (sym (home_number g s n h)) h)
  spelling_fit g s (truth b) h =
      let home = home_of g s (truth b) in
      placed_fit g home s (literal home (truth_text b)) (literal_settled g home (truth_text b) (λ i. (home, is_that_sort (integer_sort g) home i, fits_signed (signed_digits_value 10 (truth_text b)) (truth_fits b))))
  spelling_fit g s (token t x) h = placed_fit g t s (literal t x) (literal_settled g t x (λ i. absurd (false_true _ h i)))
  spelling_fit g s (constructed c us) h = placed_fit g (home_of g s (constructed c us)) s (application c no_sorts (spellings g (places_of g c) us)) (no_call_fit g c no_sorts (spellings g (places_of g c) us) h.0 (spellings_fit g (places_of g c) us h.1))

  spellings_fit : (g : KoreSignature) (ss : KoreSorts) (us : Values) → AreSettledValues g us → AreRightFit g (spellings g ss us)
  spellings_fit g no_sorts us h = tt
  spellings_fit g (next_sort s ss) no_values h = tt
  spellings_fit g (next_sort s ss) (next_value u us) h = (spelling_fit g s u h.0, spellings_fit g ss us h.1)

-- ---- sums

sum_right : (g : KoreSignature) (f : Text) (x : SortedName) (p : KorePattern) → IsRight g (application f no_sorts (next_pattern (variable x.name x.sort) (next_pattern p no_patterns)))
sum_right g f x p k o v = absurd (no_true (second_true (is_interpretation (meaning_of g f)) false o))
  where
    no_true : false ≡ true → ⊥
    no_true e = cc

sum_call_fit : (g : KoreSignature) (a : Arithmetic) (o : Option Text) (x : SortedName) (n : ℤ) → integer_sort g ≡ Some x.sort → ((f : Text) → o ≡ Some f → meaning_of g f ≡ interpretation (whole_arithmetic a)) → is_some o && fits_number n ≡ true → IsRightFit g (written_call o x n)
sum_call_fit g a (Some f) x n i m e =
    let fits = fits_signed n (second_true true (fits_number n) e) in
    let k = plain_symbol g f (ap stands_in_terms (m f refl)) in
    let d = k.declaration in
    let p = literal x.sort (signed_decimal n) in (
      (λ j. subst (λ ss. HavePlaces ss (next_pattern (variable x.name x.sort) (next_pattern p no_patterns))) (sym (places_are g f k))
          (two_places (is_number_sort g) d.arguments (variable x.name x.sort) p (first_true (are_two (is_number_sort g) d.arguments) (is_number_sort g d.result) (symbol_fits g f k (whole_arithmetic a) (m f refl))))),
      sum_right g f x p,
      (tt, (subst (IsSettledValue g) (sym (number_is g x.sort n i fits)) (x.sort, i, fits), tt)),
    )
sum_call_fit g a None x n i m e = tt

sum_fit : (g : KoreSignature) (x : SortedName) (c : ℤ) (b : Bool) → integer_sort g ≡ Some x.sort → (if b then is_some (least_symbol g addition) && fits_number c else is_some (least_symbol g subtraction) && fits_number (neg_ℤ c)) ≡ true
    → IsRightFit g (if b then written_call (least_symbol g addition) x c else written_call (least_symbol g subtraction) x (neg_ℤ c))
sum_fit g x c true i e = sum_call_fit g addition (least_symbol g addition) x c i (least_is g addition g.symbols) e
sum_fit g x c false i e = sum_call_fit g subtraction (least_symbol g subtraction) x (neg_ℤ c) i (least_is g subtraction g.symbols) e

-- ---- calls of literals alone

rest_literals : (p : KorePattern) (ps : KorePatterns) → are_literals (next_pattern p ps) ≡ true → are_literals ps ≡ true
rest_literals (literal s t) ps e = e
rest_literals _ ps e = absurd (cc)

no_literal : (own s : KoreSort) (p : KorePattern) (ps : KorePatterns) (b : Bool) → (are_literals (next_pattern p ps) ≡ true → ⊥) → are_literals (next_pattern (if b then p else injected own s p) ps) ≡ true → ⊥
no_literal own s p ps true n e = n e
no_literal own s p ps false n e = cc

no_call_literal : (o : Option Text) (x : SortedName) (n : ℤ) (ps : KorePatterns) → are_literals (next_pattern (written_call o x n) ps) ≡ true → ⊥
no_call_literal (Some f) x n ps e = cc
no_call_literal None x n ps e = cc

no_sum_literal : (g : KoreSignature) (x : SortedName) (c : ℤ) (ps : KorePatterns) (b : Bool) → are_literals (next_pattern (if b then written_call (least_symbol g addition) x c else written_call (least_symbol g subtraction) x (neg_ℤ c)) ps) ≡ true → ⊥
no_sum_literal g x c ps true e = no_call_literal (least_symbol g addition) x c ps e
no_sum_literal g x c ps false e = no_call_literal (least_symbol g subtraction) x (neg_ℤ c) ps e

no_variable_literal : (x : SortedName) (ps : KorePatterns) → are_literals (next_pattern (variable x.name x.sort) ps) ≡ true → ⊥
no_variable_literal x ps e = cc

no_headed_literal : (f : Text) (ss : KoreSorts) (qs ps : KorePatterns) → are_literals (next_pattern (application f ss qs) ps) ≡ true → ⊥
no_headed_literal f ss qs ps e = cc

-- all of these terms are values
record AreValues (ts : SymbolicTerms) : Type 0 where
  values : Values
  known : values_known ts ≡ Some values

literals_are_values : (g : KoreSignature) (ss : KoreSorts) (ts : SymbolicTerms) → HaveRoom ss ts → are_literals (written_terms g ss ts) ≡ true → AreValues ts
literals_are_values g ss no_terms r e = record { values = no_values; known = refl }
literals_are_values g no_sorts (next_term t ts) r e = absurd r
literals_are_values g (next_sort s ss) (next_term (known u) ts) r e =
    let k = literals_are_values g ss ts r (rest_literals (spelling g s u) (written_terms g ss ts) e) in
    record { values = next_value u k.values; known = ap (with_first (Some u)) k.known }
literals_are_values g (next_sort s ss) (next_term (unknown x) ts) r e = absurd (no_literal x.sort s (variable x.name x.sort) (written_terms g ss ts) (sorts_equal x.sort s) (no_variable_literal x (written_terms g ss ts)) e)
literals_are_values g (next_sort s ss) (next_term (offset x c) ts) r e = absurd (no_literal x.sort s (written_sum g x c) (written_terms g ss ts) (sorts_equal x.sort s) (no_sum_literal g x c (written_terms g ss ts) (int_lt (pos 0) c)) e)
literals_are_values g (next_sort s ss) (next_term (headed f us) ts) r e =
    let own = unwrap_or (result_sort g f no_sorts) s in
    absurd (no_literal own s (application f no_sorts (written_terms g (places_of g f) us)) (written_terms g ss ts) (sorts_equal own s) (no_headed_literal f no_sorts (written_terms g (places_of g f) us) (written_terms g ss ts)) e)

-- the values as terms
abbrev known_each : Values → SymbolicTerms
known_each no_values = no_terms
known_each (next_value u us) = next_term (known u) (known_each us)

known_first : (u : Value) (ts : SymbolicTerms) (o : Option Values) (us : Values) → ((ws : Values) → o ≡ Some ws → ts ≡ known_each ws) → with_first (Some u) o ≡ Some us → next_term (known u) ts ≡ known_each us
known_first u ts (Some ws) us i e = let q : next_value u ws ≡ us = cc in ap (next_term (known u)) (i ws refl) ∙ ap known_each q
known_first u ts None us i e = absurd (cc)

terms_are : (ts : SymbolicTerms) (us : Values) → values_known ts ≡ Some us → ts ≡ known_each us
terms_are no_terms us e = let q : no_values ≡ us = cc in ap known_each q
terms_are (next_term (known u) ts) us e = known_first u ts (values_known ts) us (terms_are ts) e
terms_are (next_term (unknown x) ts) us e = absurd (cc)
terms_are (next_term (offset x c) ts) us e = absurd (cc)
terms_are (next_term (headed f ws) ts) us e = absurd (cc)

-- arithmetic on two numbers
record ComputesNumbers (h : Hook) (us : Values) : Type 0 where
  operation : Arithmetic
  first : ℤ
  second : ℤ
  hook : h ≡ whole_arithmetic operation
  values : us ≡ two (whole first) (whole second)

wide_numbers : (h : Hook) (us : Values) → is_wide_value (interpreted h us) ≡ true → ComputesNumbers h us
wide_numbers (whole_arithmetic a) (next_value (whole m) (next_value (whole n) no_values)) e = record { operation = a; first = m; second = n; hook = refl; values = refl }
wide_numbers (whole_comparison c) (next_value (whole m) (next_value (whole n) no_values)) e = absurd (cc)
wide_numbers (truth_connective c) (next_value (truth a) (next_value (truth b) no_values)) e = absurd (cc)
wide_numbers truth_negation (next_value (truth a) no_values) e = absurd (cc)
wide_numbers values_equal (next_value u (next_value w no_values)) e = absurd (cc)
wide_numbers values_different (next_value u (next_value w no_values)) e = absurd (cc)
wide_numbers h us e = absurd (cc)

-- a number that stands as a literal has its value
record IsNumberFirst (g : KoreSignature) (v : Valuation) (p : KorePattern) (n : ℤ) (ps : KorePatterns) : Type 0 where
  meant : instance g v p ≡ whole n
  others : are_literals ps ≡ true

number_first : (g : KoreSignature) (v : Valuation) (own s : KoreSort) (t : Text) (n : ℤ) (ps : KorePatterns) (b : Bool) → literal_value g own t ≡ whole n → are_literals (next_pattern (if b then literal own t else injected own s (literal own t)) ps) ≡ true → IsNumberFirst g v (if b then literal own t else injected own s (literal own t)) n ps
number_first g v own s t n ps true q e = record { meant = q; others = e }
number_first g v own s t n ps false q e = absurd (cc)

spelled_first : (g : KoreSignature) (v : Valuation) (s : KoreSort) (n : ℤ) (ps : KorePatterns) → IsSettledValue g (whole n) → are_literals (next_pattern (spelling g s (whole n)) ps) ≡ true → IsNumberFirst g v (spelling g s (whole n)) n ps
spelled_first g v s n ps h e = let home = home_of g s (whole n) in number_first g v home s (signed_decimal n) n ps (sorts_equal home s) (home_number g s n h) e

abbrev two_numbers : ℤ → ℤ → SymbolicTerms
two_numbers m n = next_term (known (whole m)) (next_term (known (whole n)) no_terms)

call_value : (g : KoreSignature) (v : Valuation) (f : Text) (a : Arithmetic) (m n : ℤ) (p q : KorePattern) → meaning_of g f ≡ interpretation (whole_arithmetic a) → instance g v p ≡ whole m → instance g v q ≡ whole n → instance g v (application f no_sorts (next_pattern p (next_pattern q no_patterns))) ≡ interpreted (whole_arithmetic a) (two (whole m) (whole n))
call_value g v f a m n p q e i j = ap (λ k. applied k f (two (instance g v p) (instance g v q))) e ∙ ap₂ (λ x y. interpreted (whole_arithmetic a) (two x y)) i j

numbers_wide : (g : KoreSignature) (v : Valuation) (f : Text) (a : Arithmetic) (m n : ℤ) (ss : KoreSorts) → meaning_of g f ≡ interpretation (whole_arithmetic a) → IsSettledValue g (whole m) → IsSettledValue g (whole n) → HaveRoom ss (two_numbers m n) → are_literals (written_terms g ss (two_numbers m n)) ≡ true → is_wide_value (interpreted (whole_arithmetic a) (two (whole m) (whole n))) ≡ true
    → is_wide_value (instance g v (application f no_sorts (written_terms g ss (two_numbers m n)))) ≡ true
numbers_wide g v f a m n no_sorts e h k r l w = absurd r
numbers_wide g v f a m n (next_sort s no_sorts) e h k r l w = absurd r
numbers_wide g v f a m n (next_sort s (next_sort t no_sorts)) e h k r l w =
    let i = spelled_first g v s m (next_pattern (spelling g t (whole n)) no_patterns) h l in
    let j = spelled_first g v t n no_patterns k i.others in
    ap is_wide_value (call_value g v f a m n (spelling g s (whole m)) (spelling g t (whole n)) e i.meant j.meant) ∙ w
numbers_wide g v f a m n (next_sort s (next_sort t (next_sort z ss))) e h k r l w =
    let i = spelled_first g v s m (next_pattern (spelling g t (whole n)) no_patterns) h l in
    let j = spelled_first g v t n no_patterns k i.others in
    ap is_wide_value (call_value g v f a m n (spelling g s (whole m)) (spelling g t (whole n)) e i.meant j.meant) ∙ w

by_width : (f : Text) (ts : SymbolicTerms) (u : Value) (b : Bool) → (if b then headed f ts else known u) ≡ headed f ts → b ≡ true
by_width f ts u true e = refl
by_width f ts u false e = absurd (cc)

call_right : (g : KoreSignature) (v : Valuation) (f : Text) (h : Hook) (ts : SymbolicTerms) → meaning_of g f ≡ interpretation h → applied_term g f ts ≡ headed f ts → AreSettled g ts → HaveRoom (places_of g f) ts → are_literals (written_terms g (places_of g f) ts) ≡ true
    → is_wide_value (instance g v (application f no_sorts (written_terms g (places_of g f) ts))) ≡ true
call_right g v f h ts m e a r l =
    let ss = places_of g f in
    let k = literals_are_values g ss ts r l in
    let us = k.values in
    let itself_made : made_call g h f ts (Some us) ≡ headed f ts = sym (ap (made_call g h f ts) k.known) ∙ sym (ap (λ x. made g x f ts) m) ∙ e in
    let wide = by_width f ts (interpreted h us) (is_wide_value (interpreted h us)) itself_made in
    let n = wide_numbers h us wide in
    let terms : ts ≡ two_numbers n.first n.second = terms_are ts us k.known ∙ ap known_each n.values in
    let settled : AreSettledValues g (two (whole n.first) (whole n.second)) = subst (AreSettledValues g) n.values (known_settled g ts us a k.known) in
    subst (λ xs. is_wide_value (instance g v (application f no_sorts (written_terms g ss xs))) ≡ true) (sym terms)
    (numbers_wide g v f n.operation n.first n.second ss (m ∙ ap interpretation n.hook) settled.0 settled.1.0 (subst (HaveRoom ss) terms r) (subst (λ xs. are_literals (written_terms g ss xs) ≡ true) terms l)
    (sym (ap₂ (λ x y. is_wide_value (interpreted x y)) n.hook n.values) ∙ wide))

headed_right : (g : KoreSignature) (f : Text) (ts : SymbolicTerms) → IsSettled g (headed f ts) → IsRight g (application f no_sorts (written_terms g (places_of g f) ts))
headed_right g f ts s k o v =
    let i = first_true (is_interpretation (meaning_of g f)) (are_literals (written_terms g (places_of g f) ts)) o in
    by (meaning_of g f) refl i (second_true (is_interpretation (meaning_of g f)) (are_literals (written_terms g (places_of g f) ts)) o)
  where
    by : (m : SymbolMeaning) → meaning_of g f ≡ m → is_interpretation (meaning_of g f) ≡ true → are_literals (written_terms g (places_of g f) ts) ≡ true → is_wide_value (instance g v (application f no_sorts (written_terms g (places_of g f) ts))) ≡ true
    by (interpretation h) m i l = call_right g v f h ts m s.0 s.2 (s.1 i) l
    by construction m i l = absurd (false_true (is_interpretation (meaning_of g f)) (ap is_interpretation m) i)
    by injection m i l = absurd (false_true (is_interpretation (meaning_of g f)) (ap is_interpretation m) i)
    by foreign m i l = absurd (false_true (is_interpretation (meaning_of g f)) (ap is_interpretation m) i)

-- ---- terms

written_places : (g : KoreSignature) (ss : KoreSorts) (ts : SymbolicTerms) → HavePlaces ss (written_terms g ss ts)
written_places g no_sorts no_terms = tt
written_places g no_sorts (next_term t ts) = tt
written_places g (next_sort s ss) no_terms = tt
written_places g (next_sort s ss) (next_term t ts) = written_places g ss ts

mutual
  written_term_fit : (g : KoreSignature) (s : KoreSort) (t : SymbolicTerm) → IsSettled g t → IsRightFit g (written_term g s t)
  written_term_fit g s (unknown x) h = placed_fit g x.sort s (variable x.name x.sort) tt
  written_term_fit g s (offset x c) h = placed_fit g x.sort s (written_sum g x c) (sum_fit g x c (int_lt (pos 0) c) (number_sort_is g x.sort h.0) h.1)
  written_term_fit g s (known u) h = spelling_fit g s u h
  written_term_fit g s (headed f ts) h = placed_fit g (unwrap_or (result_sort g f no_sorts) s) s (application f no_sorts (written_terms g (places_of g f) ts))
      ((λ i. written_places g (places_of g f) ts), headed_right g f ts h, written_terms_fit g (places_of g f) ts h.2)

  written_terms_fit : (g : KoreSignature) (ss : KoreSorts) (ts : SymbolicTerms) → AreSettled g ts → AreRightFit g (written_terms g ss ts)
  written_terms_fit g no_sorts no_terms h = tt
  written_terms_fit g no_sorts (next_term t ts) h = tt
  written_terms_fit g (next_sort s ss) no_terms h = tt
  written_terms_fit g (next_sort s ss) (next_term t ts) h = (written_term_fit g s t h.0, written_terms_fit g ss ts h.1)

-- ---- tests of heads

under_fit : (g : KoreSignature) (sort : KoreSort) (xs : List SortedName) (p : KorePattern) → IsRightFit g p → IsRightFit g (under_exists sort xs p)
under_fit g sort [] p h = h
under_fit g sort (x ∷ xs) p h = under_fit g sort xs p h

variables_fit : (g : KoreSignature) (xs : List SortedName) → AreRightFit g (variables_of xs)
variables_fit g [] = tt
variables_fit g (x ∷ xs) = (tt, variables_fit g xs)

-- ---- quoted predicates

mutual
  written_under_fit : (g : KoreSignature) (rs : List Replaced) (p : KorePattern) → ArePutSettled g rs → IsFit g Any p → IsRightFit g (written_under g rs p)
  written_under_fit g rs (variable x s) a h = written_term_fit g s (folded g rs (variable x s)) (folded_settled g rs (variable x s) a h)
  written_under_fit g rs (literal s t) a h = written_term_fit g s (folded g rs (literal s t)) (folded_settled g rs (literal s t) a h)
  written_under_fit g rs (application f ss ps) a h = written_term_fit g _ (folded g rs (application f ss ps)) (folded_settled g rs (application f ss ps) a h)
  written_under_fit g rs (set_variable x s) a h = tt
  written_under_fit g rs (string_literal t) a h = tt
  written_under_fit g rs (top s) a h = tt
  written_under_fit g rs (bottom s) a h = tt
  written_under_fit g rs (negation s p) a h = written_under_fit g rs p a h
  written_under_fit g rs (next s p) a h = absurd h
  written_under_fit g rs (conjunction s ps) a h = all_written_under_fit g rs ps a h
  written_under_fit g rs (disjunction s ps) a h = all_written_under_fit g rs ps a h
  written_under_fit g rs (implication s p q) a h = (written_under_fit g rs p a h.0, written_under_fit g rs q a h.1)
  written_under_fit g rs (equivalence s p q) a h = (written_under_fit g rs p a h.0, written_under_fit g rs q a h.1)
  written_under_fit g rs (rewriting s p q) a h = absurd h
  written_under_fit g rs (exists s x t p) a h = written_under_fit g (renamed x (bound_name rs x p) t rs) p (tt, a) h
  written_under_fit g rs (forall s x t p) a h = written_under_fit g (renamed x (bound_name rs x p) t rs) p (tt, a) h
  written_under_fit g rs (ceil b s p) a h = written_under_fit g rs p a h
  written_under_fit g rs (floor b s p) a h = written_under_fit g rs p a h
  written_under_fit g rs (equals b s p q) a h = (written_under_fit g rs p a h.0, written_under_fit g rs q a h.1)
  written_under_fit g rs (membership b s p q) a h = (written_under_fit g rs p a h.0, written_under_fit g rs q a h.1)
  written_under_fit g rs (mu x s p) a h = absurd h
  written_under_fit g rs (nu x s p) a h = absurd h

  all_written_under_fit : (g : KoreSignature) (rs : List Replaced) (ps : KorePatterns) → ArePutSettled g rs → AreFit g Any ps → AreRightFit g (all_written_under g rs ps)
  all_written_under_fit g rs no_patterns a h = tt
  all_written_under_fit g rs (next_pattern p ps) a h = (written_under_fit g rs p a h.0, all_written_under_fit g rs ps a h.1)

-- ---- literals and clauses

atom_fit : (g : KoreSignature) (sort : KoreSort) (a : Atom) → IsSettledAtom g a → IsRightFit g (written_atom g sort a)
atom_fit g sort (same s t u) h = (written_term_fit g s t h.0, written_term_fit g s u h.1)
atom_fit g sort (has_head x (one_head c)) h =
    let xs = new_variables (x.name ∷ []) (places_of g c) in
    let own = unwrap_or (result_sort g c no_sorts) x.sort in
    under_fit g sort xs (equals x.sort sort (variable x.name x.sort) (placed own x.sort (application c no_sorts (variables_of xs))))
    (tt, placed_fit g own x.sort (application c no_sorts (variables_of xs)) (no_call_fit g c no_sorts (variables_of xs) h (variables_fit g xs)))
atom_fit g sort (has_head x (head_of_sort s)) h = (tt, placed_fit g s x.sort (variable (least_fresh (x.name ∷ [])) s) tt)
atom_fit g sort (quoted p rs) h = written_under_fit g rs p h.1 h.0

signed_fit : (g : KoreSignature) (sort : KoreSort) (b : Bool) (p : KorePattern) → IsRightFit g p → IsRightFit g (written_signed sort b p)
signed_fit g sort true p h = h
signed_fit g sort false p h = h

literal_fit : (g : KoreSignature) (sort : KoreSort) (l : Literal) → IsSettledLiteral g l → IsRightFit g (written_literal g sort l)
literal_fit g sort l h = signed_fit g sort l.holds (written_atom g sort l.atom) (atom_fit g sort l.atom h)

by_name : (g : KoreSignature) (s : KoreSort) (t u : SymbolicTerm) (b : Bool) → IsSettled g t → IsSettled g u → IsSettledAtom g (turned_if b s t u)
by_name g s t u true i j = (j, i)
by_name g s t u false i j = (i, j)

turned_settled : (g : KoreSignature) (b : Bool) (a : Atom) → IsSettledAtom g a → IsSettledLiteral g (turned g b a)
turned_settled g true (same s (unknown x) (unknown y)) h = by_name g s (unknown x) (unknown y) (is_second_solved g x y) h.0 h.1
turned_settled g true (same s t (unknown y)) h = by_name g s t (unknown y) (is_solved_by g y t) h.0 h.1
turned_settled g b a h = h

literals_fit : (g : KoreSignature) (sort : KoreSort) (c : List Literal) → AllByRecursion (IsSettledLiteral g) c → AreRightFit g (written_literals g sort c)
literals_fit g sort [] h = tt
literals_fit g sort (l ∷ c) h = (literal_fit g sort l h.0, literals_fit g sort c h.1)

pub clause_fit : (g : KoreSignature) (sort : KoreSort) (c : List Literal) → AllByRecursion (IsSettledLiteral g) c → IsFit g (IsRight g) (written_clause g sort c)
clause_fit g sort [] h = tt
clause_fit g sort (l ∷ []) h = literal_fit g sort (turned g l.holds l.atom) (turned_settled g l.holds l.atom h.0)
clause_fit g sort (l ∷ m ∷ c) h = literals_fit g sort (l ∷ m ∷ c) h

clauses_fit : (g : KoreSignature) (sort : KoreSort) (cs : List (List Literal)) → AreSettledClauses g cs → AreRightFit g (written_clauses g sort cs)
clauses_fit g sort [] h = tt
clauses_fit g sort (c ∷ cs) h = (clause_fit g sort c h.0, clauses_fit g sort cs h.1)

-- ---- states

abbrev with_these : KoreSignature → SymbolicState → List (List Literal) → KorePattern
with_these g s [] = written_term g s.sort s.term
with_these g s cs = conjunction s.sort (next_pattern (written_term g s.sort s.term) (written_clauses g s.sort cs))

with_these_fit : (g : KoreSignature) (s : SymbolicState) (cs : List (List Literal)) → IsSettled g s.term → AreSettledClauses g cs → IsRightFit g (with_these g s cs)
with_these_fit g s [] h a = written_term_fit g s.sort s.term h
with_these_fit g s (c ∷ cs) h a = (written_term_fit g s.sort s.term h, clauses_fit g s.sort (c ∷ cs) a)

pub state_fit : (g : KoreSignature) (s : SymbolicState) → IsSettled g s.term → AreSettledClauses g s.clauses → IsFit g (IsRight g) (written_state g s)
state_fit g s h a = with_these_fit g s s.clauses h a
