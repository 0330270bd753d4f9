-- What is written for a term has its instance; what is written for a clause says what the clause says, where what is written for its atoms does.
use Rattle.std.proofs.Common.{◌≡◌, refl, sym, ◌∙◌, ap, ap₂, subst, inl, inr, ℤ, pos, neg_ℤ, Bool, true, false, not, ◌&&◌, List, [], ◌∷◌, ◌++◌, Option, Some, None, ◌↔◌}
use Rattle.std.specs.Prelude.{if◌then◌else◌, is_some, int_lt, FitsSigned, unwrap_or, MatchBool}
use Rattle.std.specs.Int.{w128}
use Rattle.std.specs.List.{list_all, AllByRecursion}
use Rattle.std.specs.Fmt.{signed_decimal}
use Rattle.std.proofs.lemmas.List.Folds.{list_all-append}
use Rattle.kp_kore.specs.Syntax.{Text, KoreSort, KoreSorts, no_sorts, next_sort, KorePattern, variable, application, literal}
use Rattle.kp_kore.specs.Attributes.{sorts_equal}
use Rattle.kp_kore.specs.Hooks.{Arithmetic, addition, subtraction, whole_arithmetic}
use Rattle.kp_kore.specs.Parts.{SortedName, subpatterns, all_subpatterns}
use Rattle.kp_kore.specs.Signature.{KoreSignature, interpretation, meaning_of, integer_sort, itself}
use Rattle.kp_kore.specs.Sorting.{result_sort}
use Rattle.kp_kore.specs.Value.{Value, whole, no_values, next_value}
use Rattle.kp_kore.specs.Forms.{two}
use Rattle.kp_kore.specs.Interpretation.{interpreted}
use Rattle.kp_kore.specs.Instance.{Valuation, instance, instances, applied, literal_value, IsTrueUnder, NoneTrueUnder, AllTrueUnder}
use Rattle.kp_kore.specs.Limits.{fits_number}
use Rattle.kp_kore.proofs.InstanceLemmas.{first_true, second_true}
use Rattle.kp_kore.proofs.SameLemmas.{sorts_equal-Decides}
use Rattle.kp_compile.specs.Spelled.{placed, places_of, spelling, injected, injection_name, has_two_sorts}
use Rattle.kp_compile.proofs.SpelledMeaning.{InjectsWell, said}
use Rattle.kp_symbolic.specs.Terms.{SymbolicTerm, unknown, offset, known, headed, SymbolicTerms, no_terms, next_term, term_instance, term_instances}
use Rattle.kp_symbolic.specs.WellFormed.{IsWellSorted, AreWellSorted}
use Rattle.kp_symbolic.specs.Folding.{least_symbol}
use Rattle.kp_symbolic.specs.States.{Atom, same, has_head, quoted, IsAtomTrue, Literal, IsLiteralTrue, IsClauseTrue, AreTrue}
use Rattle.kp_symbolic.specs.Writing.{written_call, written_sum, written_term, written_terms, written_atom, IsSaid, written_signed, written_literal, is_solved_by, is_second_solved, turned_if, written_literals, written_clause, written_clauses}
use Rattle.kp_symbolic.proofs.Stable.{stable_literal}
use Rattle.kp_symbolic.proofs.Replacing.{least_is, taken_away}
use Rattle.kp_symbolic.proofs.WellSorted.{number_sort_is}
use Rattle.kp_symbolic.proofs.SortedFolding.{fits_signed}

-- ---- inj is what it should be, or stands nowhere

pub injects_left : (g : KoreSignature) (ps qs : List KorePattern) → InjectsWell g (ps ++ qs) → InjectsWell g ps
injects_left g ps qs (inl e) = inl e
injects_left g ps qs (inr e) = inr (first_true (list_all (λ q. not (has_two_sorts q)) ps) (list_all (λ q. not (has_two_sorts q)) qs) (sym (list_all-append (λ q. not (has_two_sorts q)) ps qs) ∙ e))

pub injects_right : (g : KoreSignature) (ps qs : List KorePattern) → InjectsWell g (ps ++ qs) → InjectsWell g qs
injects_right g ps qs (inl e) = inl e
injects_right g ps qs (inr e) = inr (second_true (list_all (λ q. not (has_two_sorts q)) ps) (list_all (λ q. not (has_two_sorts q)) qs) (sym (list_all-append (λ q. not (has_two_sorts q)) ps qs) ∙ e))

placed_is : (g : KoreSignature) (v : Valuation) (u : Value) (own s : KoreSort) (p : KorePattern) (b : Bool) → InjectsWell g (subpatterns (if b then p else injected own s p)) → (InjectsWell g (subpatterns p) → instance g v p ≡ u) → instance g v (if b then p else injected own s p) ≡ u
placed_is g v u own s p true i h = h i
placed_is g v u own s p false (inl e) h = ap (λ m. applied m injection_name (next_value (instance g v p) no_values)) e ∙ h (inl e)
placed_is g v u own s p false (inr e) h = absurd (cc)

-- ---- sums

pub one_sort : (s : KoreSort) (n : ℤ) (o : Option KoreSort) → o ≡ Some s → placed (unwrap_or o s) s (literal (unwrap_or o s) (signed_decimal n)) ≡ literal s (signed_decimal n)
one_sort s n o e = subst (λ x. placed (unwrap_or x s) s (literal (unwrap_or x s) (signed_decimal n)) ≡ literal s (signed_decimal n)) (sym e) (rw ((sorts_equal-Decides s s).1 refl) refl)

number_is : (g : KoreSignature) (v : Valuation) (s : KoreSort) (n : ℤ) → integer_sort g ≡ Some s → FitsSigned w128 n → literal_value g s (signed_decimal n) ≡ whole n
number_is g v s n i f =
    let e : spelling g s (whole n) ≡ literal s (signed_decimal n) = one_sort s n (integer_sort g) i in
    subst (λ p. instance g v p ≡ whole n) e (said g v s (whole n) (s, i, itself s) f (subst (λ p. InjectsWell g (subpatterns p)) (sym e) (inr refl))).meant

call_is : (g : KoreSignature) (v : Valuation) (a : Arithmetic) (o : Option Text) (x : SortedName) (n : ℤ) → integer_sort g ≡ Some x.sort → ((f : Text) → o ≡ Some f → meaning_of g f ≡ interpretation (whole_arithmetic a)) → is_some o && fits_number n ≡ true → instance g v (written_call o x n) ≡ interpreted (whole_arithmetic a) (two (v x.name) (whole n))
call_is g v a (Some f) x n i m e =
    ap (λ k. applied k f (two (v x.name) (literal_value g x.sort (signed_decimal n)))) (m f refl)
    ∙ ap (λ u. interpreted (whole_arithmetic a) (two (v x.name) u)) (number_is g v x.sort n i (fits_signed n (second_true true (fits_number n) e)))
call_is g v a None x n i m e = absurd (cc)

sum_is_written : (g : KoreSignature) (v : Valuation) (x : SortedName) (c : ℤ) (b : Bool) → integer_sort g ≡ Some x.sort → (if b then is_some (least_symbol g addition) && fits_number c else is_some (least_symbol g subtraction) && fits_number (neg_ℤ c)) ≡ true
    → instance g v (if b then written_call (least_symbol g addition) x c else written_call (least_symbol g subtraction) x (neg_ℤ c)) ≡ interpreted (whole_arithmetic addition) (two (v x.name) (whole c))
sum_is_written g v x c true i e = call_is g v addition (least_symbol g addition) x c i (least_is g addition g.symbols) e
sum_is_written g v x c false i e = call_is g v subtraction (least_symbol g subtraction) x (neg_ℤ c) i (least_is g subtraction g.symbols) e ∙ taken_away (v x.name) c

-- ---- terms

mutual
  pub written_is : (g : KoreSignature) (v : Valuation) (s : KoreSort) (t : SymbolicTerm) → IsWellSorted g s t → InjectsWell g (subpatterns (written_term g s t)) → instance g v (written_term g s t) ≡ term_instance g v t
  written_is g v s (unknown x) w i = placed_is g v (v x.name) x.sort s (variable x.name x.sort) (sorts_equal x.sort s) i (λ j. refl)
  written_is g v s (offset x c) w i = placed_is g v (term_instance g v (offset x c)) x.sort s (written_sum g x c) (sorts_equal x.sort s) i (λ j. sum_is_written g v x c (int_lt (pos 0) c) (number_sort_is g x.sort w.0) w.1)
  written_is g v s (known u) w i = (said g v s u w.0 w.1 i).meant
  written_is g v s (headed f ts) w i =
      let p = application f no_sorts (written_terms g (places_of g f) ts) in
      placed_is g v (term_instance g v (headed f ts)) (unwrap_or (result_sort g f no_sorts) s) s p (sorts_equal (unwrap_or (result_sort g f no_sorts) s) s) i
      (λ j. ap (applied (meaning_of g f) f) (all_written_are g v (places_of g f) ts w.2 (injects_right g (p ∷ []) (all_subpatterns (written_terms g (places_of g f) ts)) j)))

  pub all_written_are : (g : KoreSignature) (v : Valuation) (ss : KoreSorts) (ts : SymbolicTerms) → AreWellSorted g ss ts → InjectsWell g (all_subpatterns (written_terms g ss ts)) → instances g v (written_terms g ss ts) ≡ term_instances g v ts
  all_written_are g v no_sorts no_terms w i = refl
  all_written_are g v (next_sort s ss) (next_term t ts) w i = ap₂ next_value
      (written_is g v s t w.0 (injects_left g (subpatterns (written_term g s t)) (all_subpatterns (written_terms g ss ts)) i))
      (all_written_are g v ss ts w.1 (injects_right g (subpatterns (written_term g s t)) (all_subpatterns (written_terms g ss ts)) i))
  all_written_are g v no_sorts (next_term t ts) w i = absurd w
  all_written_are g v (next_sort s ss) no_terms w i = absurd w

-- ---- literals and clauses

pub equality_is_said : (g : KoreSignature) (v : Valuation) (sort s : KoreSort) (t u : SymbolicTerm) → IsWellSorted g s t → IsWellSorted g s u → InjectsWell g (subpatterns (written_term g s t)) → InjectsWell g (subpatterns (written_term g s u)) → IsSaid g v sort (same s t u)
equality_is_said g v sort s t u w z i j =
    let p = written_is g v s t w i in
    let q = written_is g v s u z j in
    ((λ e. sym p ∙ e ∙ q), (λ e. p ∙ e ∙ sym q))

signed_said : (g : KoreSignature) (v : Valuation) (sort : KoreSort) (b : Bool) (a : Atom) → IsSaid g v sort a → IsTrueUnder g v (written_signed sort b (written_atom g sort a)) ↔ MatchBool b (IsAtomTrue g v a) (¬ IsAtomTrue g v a)
signed_said g v sort true a i = i
signed_said g v sort false a i = ((λ n h. n (i.1 h)), (λ n h. n (i.0 h)))

literal_said : (g : KoreSignature) (v : Valuation) (sort : KoreSort) (l : Literal) → IsSaid g v sort l.atom → IsTrueUnder g v (written_literal g sort l) ↔ IsLiteralTrue g v l
literal_said g v sort l i = signed_said g v sort l.holds l.atom i

abbrev pub turned : KoreSignature → Bool → Atom → Literal
turned g true (same s (unknown x) (unknown y)) = record { holds = true; atom = turned_if (is_second_solved g x y) s (unknown x) (unknown y) }
turned g true (same s t (unknown y)) = record { holds = true; atom = turned_if (is_solved_by g y t) s t (unknown y) }
turned g b a = record { holds = b; atom = a }

sides_turned : (g : KoreSignature) (v : Valuation) (sort s : KoreSort) (t u : SymbolicTerm) → IsSaid g v sort (same s t u) → IsTrueUnder g v (written_atom g sort (same s u t)) ↔ IsAtomTrue g v (same s t u)
sides_turned g v sort s t u i = ((λ e. i.0 (sym e)), (λ e. sym (i.1 e)))

by_name : (g : KoreSignature) (v : Valuation) (sort s : KoreSort) (t u : SymbolicTerm) (b : Bool) → IsSaid g v sort (same s t u) → IsTrueUnder g v (written_atom g sort (turned_if b s t u)) ↔ IsAtomTrue g v (same s t u)
by_name g v sort s t u true i = sides_turned g v sort s t u i
by_name g v sort s t u false i = i

turned_said : (g : KoreSignature) (v : Valuation) (sort : KoreSort) (b : Bool) (a : Atom) → IsSaid g v sort a → IsTrueUnder g v (written_literal g sort (turned g b a)) ↔ MatchBool b (IsAtomTrue g v a) (¬ IsAtomTrue g v a)
turned_said g v sort true (same s (unknown x) (unknown y)) i = by_name g v sort s (unknown x) (unknown y) (is_second_solved g x y) i
turned_said g v sort true (same s (offset x c) (unknown y)) i = by_name g v sort s (offset x c) (unknown y) (is_solved_by g y (offset x c)) i
turned_said g v sort true (same s (known u) (unknown y)) i = by_name g v sort s (known u) (unknown y) (is_solved_by g y (known u)) i
turned_said g v sort true (same s (headed f ts) (unknown y)) i = by_name g v sort s (headed f ts) (unknown y) (is_solved_by g y (headed f ts)) i
turned_said g v sort true (same s (unknown x) (offset y c)) i = i
turned_said g v sort true (same s (unknown x) (known u)) i = i
turned_said g v sort true (same s (unknown x) (headed f ts)) i = i
turned_said g v sort true (same s (offset x k) (offset y c)) i = i
turned_said g v sort true (same s (offset x k) (known u)) i = i
turned_said g v sort true (same s (offset x k) (headed f ts)) i = i
turned_said g v sort true (same s (known w) (offset y c)) i = i
turned_said g v sort true (same s (known w) (known u)) i = i
turned_said g v sort true (same s (known w) (headed f ts)) i = i
turned_said g v sort true (same s (headed h us) (offset y c)) i = i
turned_said g v sort true (same s (headed h us) (known u)) i = i
turned_said g v sort true (same s (headed h us) (headed f ts)) i = i
turned_said g v sort true (has_head x test) i = i
turned_said g v sort true (quoted p rs) i = i
turned_said g v sort false a i = signed_said g v sort false a i

none_said : (g : KoreSignature) (v : Valuation) (sort : KoreSort) (c : List Literal) → AllByRecursion (λ l. IsSaid g v sort l.atom) c → NoneTrueUnder g v (written_literals g sort c) ↔ AllByRecursion (λ l. ¬ IsLiteralTrue g v l) c
none_said g v sort [] a = ((λ h. h), (λ h. h))
none_said g v sort (l ∷ c) a =
    let i = literal_said g v sort l a.0 in
    let j = none_said g v sort c a.1 in
    ((λ h. ((λ t. h.0 (i.1 t)), j.0 h.1)), (λ h. ((λ t. h.0 (i.0 t)), j.1 h.1)))

pub clause_said : (g : KoreSignature) (v : Valuation) (sort : KoreSort) (c : List Literal) → AllByRecursion (λ l. IsSaid g v sort l.atom) c → IsTrueUnder g v (written_clause g sort c) ↔ IsClauseTrue g v c
clause_said g v sort [] a = ((λ h. absurd h), (λ n. n tt))
clause_said g v sort (l ∷ []) a =
    let i = turned_said g v sort l.holds l.atom a.0 in
    ((λ h f. f.0 (i.0 h)), (λ n. i.1 (stable_literal g v l (λ m. n (m, tt)))))
clause_said g v sort (l ∷ m ∷ c) a = let i = none_said g v sort (l ∷ m ∷ c) a in ((λ n f. n (i.1 f)), (λ n f. n (i.0 f)))

pub clauses_said : (g : KoreSignature) (v : Valuation) (sort : KoreSort) (cs : List (List Literal)) → AllByRecursion (AllByRecursion (λ l. IsSaid g v sort l.atom)) cs → AllTrueUnder g v (written_clauses g sort cs) ↔ AreTrue g v cs
clauses_said g v sort [] a = ((λ h. h), (λ h. h))
clauses_said g v sort (c ∷ cs) a =
    let i = clause_said g v sort c a.0 in
    let j = clauses_said g v sort cs a.1 in
    ((λ h. (i.0 h.0, j.0 h.1)), (λ h. (i.1 h.0, j.1 h.1)))
