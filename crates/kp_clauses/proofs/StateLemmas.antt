-- A pattern in which nothing is misplaced is one term and predicates without foreign symbols; a verified one is opened.
use Rattle.std.proofs.Common.{◌≡◌, refl, sym, ◌∙◌, ap, subst, Bool, true, false, not, ◌&&◌, ◌||◌, cond, ℕ, ◌≤◌, List, [], ◌∷◌, ◌++◌, length, drop, Bor, Option, Some, None}
use Rattle.std.specs.Prelude.{if◌then◌else◌}
use Rattle.std.specs.List.{AllByRecursion, filter, find, list_all}
use Rattle.std.specs.Option.{option_map}
use Rattle.std.proofs.lemmas.List.{drop_all}
use Rattle.std.proofs.lemmas.List.Folds.{list_all-append}
use Rattle.kp_kore.specs.Syntax.{KoreSort, KorePattern, KorePatterns, variable, application, literal, conjunction, no_patterns, next_pattern}
use Rattle.kp_kore.specs.Parts.{is_term, are_terms, free_variables, all_free_variables, subpatterns, all_subpatterns}
use Rattle.kp_kore.specs.Signature.{KoreSignature, meaning_of}
use Rattle.kp_kore.specs.Sorting.{sort_of_term}
use Rattle.kp_kore.specs.declared.pattern.Pattern.{Pattern}
use Rattle.kp_compile.specs.Parts.{seen}
use Rattle.kp_kore.specs.Foreign.{none_within, has_foreign_head, is_foreign_meaning}
use Rattle.kp_kore.specs.Instance.{is_predicate, conjuncts, all_conjuncts, conjoined_terms, conjoined_predicates}
use Rattle.kp_signature.specs.Places.{earlier, own_sort, the_top, part_at}
use Rattle.kp_signature.specs.Verify.{VerifiesAs}
use Rattle.kp_signature.proofs.FaultLemmas.{nothing_later as nothing_below, term_has_wanted_sort}
use Rattle.kp_signature.proofs.ListLemmas.{all_filtered, all_weaker}
use Rattle.kp_signature.proofs.SortedInstances.{none_among}
use Rattle.kp_signature.proofs.VerifiedMembers.{StandsVerified, all_conjuncts_stand}
use Rattle.kp_symbolic.specs.Solving.{opened_state}
use Rattle.kp_symbolic.specs.States.{SymbolicState, HasInstancesOf}
use Rattle.kp_symbolic.proofs.Distribution.{all_first, all_second}
use Rattle.kp_symbolic.proofs.OpenedState.{opened_as, opened_instances, state_of, state_of_sort}
use Rattle.kp_clauses.specs.Faults.{StateFault, foreign_symbol, other_shape, first_among, symbol_fault, part_fault, members_fault, state_fault}
use Rattle.kp_clauses.specs.Opened.{opened_of}

nothing_earlier : {A : Type 0} (a b : Option A) → earlier a b ≡ None → a ≡ None
nothing_earlier (Some x) b e = absurd (cc)
nothing_earlier None b e = refl

nothing_later : {A : Type 0} (a b : Option A) → earlier a b ≡ None → b ≡ None
nothing_later (Some x) b e = absurd (cc)
nothing_later None b e = e

both_true : (a b : Bool) → a ≡ true → b ≡ true → a && b ≡ true
both_true true true e d = refl
both_true true false e d = d
both_true false b e d = e

-- ---- no foreign symbol

no_symbol : (g : KoreSignature) (p : KorePattern) → symbol_fault g p ≡ None → not (has_foreign_head g p) ≡ true
no_symbol g (application f ss ps) e = by (is_foreign_meaning (meaning_of g f)) e
  where
    by : (b : Bool) → option_map foreign_symbol (if b then Some f else None) ≡ None → not b ≡ true
    by true k = absurd (cc)
    by false k = refl
no_symbol g _ e = refl

among_both : (fault : KorePattern → Option StateFault) (ps qs : List KorePattern) → first_among fault (ps ++ qs) ≡ None → (first_among fault ps ≡ None) × (first_among fault qs ≡ None)
among_both fault [] qs e = (refl, e)
among_both fault (p ∷ ps) qs e =
    let h = among_both fault ps qs (nothing_later (fault p) (first_among fault (ps ++ qs)) e) in
    (ap (λ o. earlier o (first_among fault ps)) (nothing_earlier (fault p) (first_among fault (ps ++ qs)) e) ∙ h.0, h.1)

no_symbols : (g : KoreSignature) (ps : List KorePattern) → first_among (symbol_fault g) ps ≡ None → list_all (λ q. not (has_foreign_head g q)) ps ≡ true
no_symbols g [] e = refl
no_symbols g (p ∷ ps) e =
    both_true (not (has_foreign_head g p)) (list_all (λ q. not (has_foreign_head g q)) ps)
    (no_symbol g p (nothing_earlier (symbol_fault g p) (first_among (symbol_fault g) ps) e))
    (no_symbols g ps (nothing_later (symbol_fault g p) (first_among (symbol_fault g) ps) e))

-- ---- a term

mutual
  clear_term : (g : KoreSignature) (p : KorePattern) → first_among (part_fault g) (subpatterns p) ≡ None → (is_term p ≡ true) × (none_within (has_foreign_head g) p ≡ true)
  clear_term g (variable x s) e = (refl, refl)
  clear_term g (literal s t) e = (refl, refl)
  clear_term g (application f ss ps) e =
      let h = clear_terms g ps (nothing_later (symbol_fault g (application f ss ps)) (first_among (part_fault g) (all_subpatterns ps)) e) in
      (h.0, both_true (not (has_foreign_head g (application f ss ps))) (none_among (has_foreign_head g) ps) (no_symbol g (application f ss ps) (nothing_earlier (symbol_fault g (application f ss ps)) (first_among (part_fault g) (all_subpatterns ps)) e)) h.1)
  clear_term g _ e = absurd (cc)

  clear_terms : (g : KoreSignature) (ps : KorePatterns) → first_among (part_fault g) (all_subpatterns ps) ≡ None → (are_terms ps ≡ true) × (none_among (has_foreign_head g) ps ≡ true)
  clear_terms g no_patterns e = (refl, refl)
  clear_terms g (next_pattern p ps) e =
      let d = among_both (part_fault g) (subpatterns p) (all_subpatterns ps) e in
      let h = clear_term g p d.0 in
      let k = clear_terms g ps d.1 in
      (both_true (is_term p) (are_terms ps) h.0 k.0, list_all-append (λ q. not (has_foreign_head g q)) (subpatterns p) (all_subpatterns ps) ∙ both_true (none_within (has_foreign_head g) p) (none_among (has_foreign_head g) ps) h.1 k.1)

no_term : (p : KorePattern) → is_predicate p ≡ true → is_term p ≡ false
no_term (variable x s) e = absurd (cc)
no_term (literal s t) e = absurd (cc)
no_term (application f ss ps) e = absurd (cc)
no_term _ e = refl

-- ---- the members

filtered_in : (test : KorePattern → Bool) (p : KorePattern) (ps : List KorePattern) → test p ≡ true → filter test (p ∷ ps) ≡ p ∷ filter test ps
filtered_in test p ps e = ap (λ b. cond b (p ∷ filter test ps) (filter test ps)) e

filtered_out : (test : KorePattern → Bool) (p : KorePattern) (ps : List KorePattern) → test p ≡ false → filter test (p ∷ ps) ≡ filter test ps
filtered_out test p ps e = ap (λ b. cond b (p ∷ filter test ps) (filter test ps)) e

-- no further term behind one, else one
abbrev HasTerm : Bool → List KorePattern → Type 0
HasTerm true ts = ts ≡ []
HasTerm false ts = (t : KorePattern) × (ts ≡ t ∷ [])

record IsClear (g : KoreSignature) (seen : Bool) (ps : List KorePattern) : Type 0 where
  predicates : AllByRecursion (λ q. is_predicate q ≡ true) (filter (λ q. not (is_term q)) ps)
  meant : AllByRecursion (λ q. none_within (has_foreign_head g) q ≡ true) ps
  term : HasTerm seen (filter is_term ps)

with_predicate : (g : KoreSignature) (seen : Bool) (p : KorePattern) (ps : List KorePattern) → is_predicate p ≡ true → first_among (symbol_fault g) (subpatterns p) ≡ None → IsClear g seen ps → IsClear g seen (p ∷ ps)
with_predicate g seen p ps b e k = record {
  predicates = subst (AllByRecursion (λ q. is_predicate q ≡ true)) (sym (filtered_in (λ q. not (is_term q)) p ps (ap not (no_term p b)))) (b, k.predicates);
  meant = (no_symbols g (subpatterns p) e, k.meant);
  term = subst (HasTerm seen) (sym (filtered_out is_term p ps (no_term p b))) k.term;
}

with_term : (g : KoreSignature) (p : KorePattern) (ps : List KorePattern) → first_among (part_fault g) (subpatterns p) ≡ None → IsClear g true ps → IsClear g false (p ∷ ps)
with_term g p ps e k =
    let h = clear_term g p e in
    record {
      predicates = subst (AllByRecursion (λ q. is_predicate q ≡ true)) (sym (filtered_out (λ q. not (is_term q)) p ps (ap not h.0))) k.predicates;
      meant = (h.1, k.meant);
      term = (p, filtered_in is_term p ps h.0 ∙ ap (λ ts. p ∷ ts) k.term);
    }

clear_step : (g : KoreSignature) (seen b : Bool) (p : KorePattern) (ps : List KorePattern) → is_predicate p ≡ b →
    earlier (if b then first_among (symbol_fault g) (subpatterns p) else if seen then Some other_shape else first_among (part_fault g) (subpatterns p)) (members_fault g (seen || not b) ps) ≡ None →
    ((s : Bool) → members_fault g s ps ≡ None → IsClear g s ps) → IsClear g seen (p ∷ ps)
clear_step g true true p ps q e k = with_predicate g true p ps q (nothing_earlier (first_among (symbol_fault g) (subpatterns p)) (members_fault g true ps) e) (k true (nothing_later (first_among (symbol_fault g) (subpatterns p)) (members_fault g true ps) e))
clear_step g false true p ps q e k = with_predicate g false p ps q (nothing_earlier (first_among (symbol_fault g) (subpatterns p)) (members_fault g false ps) e) (k false (nothing_later (first_among (symbol_fault g) (subpatterns p)) (members_fault g false ps) e))
clear_step g true false p ps q e k = absurd (cc)
clear_step g false false p ps q e k = with_term g p ps (nothing_earlier (first_among (part_fault g) (subpatterns p)) (members_fault g true ps) e) (k true (nothing_later (first_among (part_fault g) (subpatterns p)) (members_fault g true ps) e))

clear : (g : KoreSignature) (ps : List KorePattern) (seen : Bool) → members_fault g seen ps ≡ None → IsClear g seen ps
clear g [] true e = record { predicates = tt; meant = tt; term = refl }
clear g [] false e = absurd (cc)
clear g (p ∷ ps) seen e = clear_step g seen (is_predicate p) p ps refl e (clear g ps)

-- ---- the whole

mutual
  none_of_all : (g : KoreSignature) (p : KorePattern) → AllByRecursion (λ q. none_within (has_foreign_head g) q ≡ true) (conjuncts p) → none_within (has_foreign_head g) p ≡ true
  none_of_all g (conjunction s ps) h = none_of_each g ps h
  none_of_all g _ h = h.0

  none_of_each : (g : KoreSignature) (ps : KorePatterns) → AllByRecursion (λ q. none_within (has_foreign_head g) q ≡ true) (all_conjuncts ps) → none_among (has_foreign_head g) ps ≡ true
  none_of_each g no_patterns h = refl
  none_of_each g (next_pattern p ps) h =
      list_all-append (λ q. not (has_foreign_head g q)) (subpatterns p) (all_subpatterns ps)
      ∙ both_true (none_within (has_foreign_head g) p) (none_among (has_foreign_head g) ps)
      (none_of_all g p (all_first (λ q. none_within (has_foreign_head g) q ≡ true) (conjuncts p) (all_conjuncts ps) h))
      (none_of_each g ps (all_second (λ q. none_within (has_foreign_head g) q ≡ true) (conjuncts p) (all_conjuncts ps) h))

-- a term among the members has the pattern's sort
abbrev IsSorted : KoreSignature → KoreSort → KorePattern → Type 0
IsSorted g s q = is_term q ≡ true → own_sort g q ≡ Some s

members_sorted : (g : KoreSignature) (p : KorePattern) (s : KoreSort) → VerifiesAs g p s → AllByRecursion (IsSorted g s) (conjuncts p)
members_sorted g (conjunction t ps) s h =
    all_weaker (StandsVerified g s [] (all_free_variables ps)) (IsSorted g s) (all_conjuncts ps)
    (λ q k i. term_has_wanted_sort g k.place q s i k.verified k.wanted)
    (all_conjuncts_stand g (part_at the_top t) s ps (nothing_below _ _ h.0) h.1)
members_sorted g p s h = ((λ i. h.1), tt)

own_of_term : (g : KoreSignature) (t : KorePattern) → is_term t ≡ true → own_sort g t ≡ sort_of_term g t
own_of_term g (variable x s) i = refl
own_of_term g (literal s x) i = refl
own_of_term g (application f ss ps) i = refl
own_of_term g _ i = absurd (cc)

term_sort : (g : KoreSignature) (p t : KorePattern) (s : KoreSort) → VerifiesAs g p s → conjoined_terms p ≡ t ∷ [] → sort_of_term g t ≡ Some s
term_sort g p t s h is =
    let one = (subst (AllByRecursion (λ q. IsSorted g s q × (is_term q ≡ true))) is (all_filtered (IsSorted g s) is_term (conjuncts p) (members_sorted g p s h))).0 in
    sym (own_of_term g t one.1) ∙ one.0 one.1

opened_at : (g : KoreSignature) (p t : KorePattern) (s : KoreSort) → VerifiesAs g p s → conjoined_terms p ≡ t ∷ [] → opened_state g p ≡ Some (opened_of g p s t (conjoined_predicates p))
opened_at g p t s h is = ap (state_of g p) is ∙ ap (state_of_sort g p t) (term_sort g p t s h is)

inside : (p t : KorePattern) (ps : List KorePattern) → p ∷ ps ≡ t ∷ [] → p ≡ t
inside p t ps e = cc

first_found : (test : KorePattern → Bool) (ps : List KorePattern) (t : KorePattern) → filter test ps ≡ t ∷ [] → find test ps ≡ Some t
first_found test [] t e = absurd (cc)
first_found test (p ∷ ps) t e = by (test p) refl (first_found test ps t)
  where
    by : (b : Bool) → test p ≡ b → (filter test ps ≡ t ∷ [] → find test ps ≡ Some t) → find test (p ∷ ps) ≡ Some t
    by true q k = let same : p ≡ t = inside p t (filter test ps) (sym (filtered_in test p ps q) ∙ e) in rw q (ap Some same)
    by false q k = rw q (k (sym (filtered_out test p ps q) ∙ e))

-- the term of a pattern in which nothing is misplaced, which is found among its members
pub found_term : (g : KoreSignature) (p : KorePattern) → state_fault g p ≡ None → (t : KorePattern) × (conjoined_terms p ≡ t ∷ []) × (find is_term (conjuncts p) ≡ Some t)
found_term g p e =
    let c = clear g (conjuncts p) false e in
    (c.term.0, c.term.1, first_found is_term (conjuncts p) c.term.0 c.term.1)

pub is_opened : (g : KoreSignature) (p : KorePattern) (s : KoreSort) (o : SymbolicState) (ms : List KorePattern) → ms ≡ conjuncts p → members_fault g false ms ≡ None → VerifiesAs g p s →
    ((t : KorePattern) → find is_term ms ≡ Some t → o ≡ opened_of g p s t (filter (λ q. not (is_term q)) ms)) → opened_state g p ≡ Some o
is_opened g p s o ms is e h made =
    let f = found_term g p (subst (λ xs. members_fault g false xs ≡ None) is e) in
    opened_at g p f.0 s h f.1 ∙ ap Some (sym (made f.0 (ap (find is_term) is ∙ f.2) ∙ ap (λ xs. opened_of g p s f.0 (filter (λ q. not (is_term q)) xs)) is))

pub has_instances : (g : KoreSignature) (p : KorePattern) (s : KoreSort) (o : SymbolicState) (ms : List KorePattern) → ms ≡ conjuncts p → members_fault g false ms ≡ None → VerifiesAs g p s → opened_state g p ≡ Some o → HasInstancesOf g p o
has_instances g p s o ms same e h is =
    let c = clear g (conjuncts p) false (subst (λ xs. members_fault g false xs ≡ None) same e) in
    record {
      variables = (opened_as g p o is).variables;
      instances = λ v u k. opened_instances g the_top p o v u h.0 (none_of_all g p c.meant) c.predicates is k;
    }

-- where nothing is misplaced, no foreign symbol stands in the pattern, and its other members are predicates
pub nothing_misplaced : (g : KoreSignature) (p : KorePattern) → state_fault g p ≡ None → (none_within (has_foreign_head g) p ≡ true) × AllByRecursion (λ q. is_predicate q ≡ true) (conjoined_predicates p)
nothing_misplaced g p e =
    let c = clear g (conjuncts p) false e in
    (none_of_all g p c.meant, c.predicates)

-- ---- behind the members

pub at_end : (g : KoreSignature) (seen_term : Bool) (ms : List (Bor Pattern)) (i : ℕ) (o : Option StateFault) → length ms ≤ i → o ≡ members_fault g seen_term (seen (drop i ms)) → o ≡ members_fault g seen_term []
at_end g b ms i o past e = e ∙ ap (λ xs. members_fault g b (seen xs)) (drop_all i ms past)
