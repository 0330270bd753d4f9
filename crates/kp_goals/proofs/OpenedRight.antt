-- A clause with good terms in the place of its variables has the sorts of its places, and its terms are in normal form.
use Rattle.std.specs.Prelude.{◌≡◌, Bool, true, false, not, ◌&&◌, is_some, if◌then◌else◌, List, [], ◌∷◌, ◌++◌, Some, None}
use Rattle.std.specs.List.{AllByRecursion, Contains, filter, flat_map}
use Rattle.std.specs.Str.{bytes_eq}
use Rattle.std.proofs.Common.{refl, sym, ◌∙◌, subst}
use Rattle.std.proofs.lemmas.List.{append_assoc}
use Rattle.kp_kore.specs.Syntax.{Text, KoreSort, KorePattern}
use Rattle.kp_kore.specs.Parts.{SortedName, free_variables}
use Rattle.kp_kore.specs.Signature.{KoreSignature, itself}
use Rattle.kp_kore.specs.Instance.{is_named}
use Rattle.kp_symbolic.specs.Terms.{SymbolicTerm, unknown, term_variables, Replaced, replacement_for}
use Rattle.kp_symbolic.specs.States.{Atom, same, has_head, quoted, Literal, variables_for}
use Rattle.kp_symbolic.specs.WellFormed.{AreWellPlaced, AreAtHand}
use Rattle.kp_symbolic.specs.Alike.{literals_same}
use Rattle.kp_symbolic.specs.Folding.{replaced}
use Rattle.kp_symbolic.specs.Opening.{literal_fact, opened_same, opened_test}
use Rattle.kp_symbolic.specs.Clauses.{distributed, is_too_large, without_repeats}
use Rattle.kp_symbolic.specs.Solving.{is_single}
use Rattle.kp_symbolic.proofs.Distribution.{all_both, all_first, all_second, kept_are}
use Rattle.kp_symbolic.proofs.Facts.{AllFacts, AllIn, clauses_have, Good, GoodTerm, opened_same_good}
use Rattle.kp_symbolic.proofs.Leaf.{named_here}
use Rattle.kp_symbolic.proofs.Replacing.{replaced_variables}
use Rattle.kp_symbolic.proofs.SortedFolding.{replaced_sorted}
use Rattle.kp_symbolic.proofs.WellSorted.{sorted_written}
use Rattle.kp_symbolic_laws.specs.Runs.{HasOneSortEach, IsSortedLiteral}
use Rattle.kp_symbolic_laws.specs.Safe.{IsFormed, PutNormal, IsSoundQuote}
use Rattle.kp_symbolic_laws.proofs.FormedFacts.{same_formed, test_formed}
use Rattle.kp_symbolic_laws.proofs.Keeping.{test_good}
use Rattle.kp_symbolic_laws.proofs.NormalTerms.{replaced_normal}
use Rattle.kp_clause_substitution.specs.Replacing.{with_terms, new_for, beside, opened_under, all_opened_under, clause_under}
use Rattle.kp_clause_substitution.proofs.StateLemmas.{filtered_for}
use Rattle.kp_step.proofs.OpenedWith.{Sound, Right, both_facts}
use Rattle.kp_goals.specs.Exact.{IsRightClause}
use Rattle.kp_goals.specs.Goals.{put_in_clause}
use Rattle.kp_goals.proofs.PutTerms.{IsPutBy, IsFor, found, put_placed, put_at_hand, put_normal}

module _ (g : KoreSignature) (hand : List SortedName) (one : HasOneSortEach hand) (qs : List Replaced) (good : AllByRecursion (IsPutBy g hand) qs) where
  -- ---- terms

  replaced_good : (s : KoreSort) (t : SymbolicTerm) → GoodTerm g hand s t → GoodTerm g hand s (replaced g qs t)
  replaced_good s t h = (
    replaced_sorted g qs s t h.0 (put_placed g hand one qs good (term_variables t) h.1),
    replaced_variables g qs (λ x. Contains hand x) t (sorted_written g s t h.0) (put_at_hand g hand one qs good (term_variables t) h.1),
  )

  normal_put : PutNormal g qs
  normal_put = put_normal g hand qs good

  -- ---- quoted predicates

  -- for a variable of the predicate, with what stands for it before
  beside_for : (rs tail : List Replaced) (x : SortedName) → IsFor g hand x (replacement_for rs x.name) → (replacement_for rs x.name ≡ None → IsFor g hand x (replacement_for tail x.name)) → IsFor g hand x (replacement_for (with_terms g qs rs ++ tail) x.name)
  beside_for [] tail x h n = n refl
  beside_for (r ∷ rs) tail x h n = by (bytes_eq r.name x.name) h n (beside_for rs tail x)
    where
      by : (b : Bool) → IsFor g hand x (if b then Some r.term else replacement_for rs x.name) → ((if b then Some r.term else replacement_for rs x.name) ≡ None → IsFor g hand x (replacement_for tail x.name))
          → (IsFor g hand x (replacement_for rs x.name) → (replacement_for rs x.name ≡ None → IsFor g hand x (replacement_for tail x.name)) → IsFor g hand x (replacement_for (with_terms g qs rs ++ tail) x.name))
          → IsFor g hand x (if b then Some (replaced g qs r.term) else replacement_for (with_terms g qs rs ++ tail) x.name)
      by true h n on = let k = replaced_good x.sort r.term (h.sorted, h.at_hand) in record { sorted = k.0; at_hand = k.1 }
      by false h n on = on h n

  -- what is known of a free variable of the predicate
  record IsFree (p : KorePattern) (rs : List Replaced) (x : SortedName) : Type 0 where
    named : is_named x.name (free_variables p) ≡ true
    is_for : IsFor g hand x (replacement_for rs x.name)

  abbrev is_new : KorePattern → List Replaced → Text → Bool
  is_new p rs y = is_named y (free_variables p) && not (is_some (replacement_for rs y))

  free_for : (p : KorePattern) (rs : List Replaced) (x : SortedName) → IsFree p rs x → IsFor g hand x (replacement_for (beside g qs p rs) x.name)
  free_for p rs x h = beside_for rs (new_for (free_variables p) rs qs) x h.is_for (λ q.
      subst (IsFor g hand x) (sym (filtered_for (is_new p rs) qs x.name (rw (h.named, q) refl)))
      (found g hand one x (subst (λ o. AreAtHand (variables_for x o) hand) q h.is_for.at_hand).0 qs good))

  all_free : (p : KorePattern) (rs : List Replaced) (before xs : List SortedName) → before ++ xs ≡ free_variables p → AreWellPlaced g rs xs → AreAtHand (flat_map (λ x. variables_for x (replacement_for rs x.name)) xs) hand → AllByRecursion (IsFree p rs) xs
  all_free p rs before [] e w a = tt
  all_free p rs before (x ∷ xs) e w a =
      let own = variables_for x (replacement_for rs x.name) in
      let others = flat_map (λ x. variables_for x (replacement_for rs x.name)) xs in (
        record { named = subst (λ ys. is_named x.name ys ≡ true) e (named_here x before xs); is_for = record { sorted = w.0; at_hand = all_first (λ y. Contains hand y) own others a } },
        all_free p rs (before ++ x ∷ []) xs (append_assoc before (x ∷ []) xs ∙ e) w.1 (all_second (λ y. Contains hand y) own others a),
      )

  all_placed : (p : KorePattern) (rs : List Replaced) (xs : List SortedName) → AllByRecursion (IsFree p rs) xs → AreWellPlaced g (beside g qs p rs) xs × AreAtHand (flat_map (λ x. variables_for x (replacement_for (beside g qs p rs) x.name)) xs) hand
  all_placed p rs [] h = (tt, tt)
  all_placed p rs (x ∷ xs) h =
      let k = free_for p rs x h.0 in
      let rest = all_placed p rs xs h.1 in
      ((k.sorted, rest.0), all_both (λ y. Contains hand y) (variables_for x (replacement_for (beside g qs p rs) x.name)) (flat_map (λ x. variables_for x (replacement_for (beside g qs p rs) x.name)) xs) k.at_hand rest.1)

  kept_normal : (keep : Replaced → Bool) (rs : List Replaced) → PutNormal g rs → PutNormal g (filter keep rs)
  kept_normal keep [] h = tt
  kept_normal keep (r ∷ rs) h = by (keep r) (kept_normal keep rs h.1)
    where
      by : (b : Bool) → PutNormal g (filter keep rs) → PutNormal g (if b then r ∷ filter keep rs else filter keep rs)
      by true k = (h.0, k)
      by false k = k

  beside_normal : (rs tail : List Replaced) → PutNormal g rs → PutNormal g tail → PutNormal g (with_terms g qs rs ++ tail)
  beside_normal [] tail h k = k
  beside_normal (r ∷ rs) tail h k = (replaced_normal g qs r.term normal_put h.0, beside_normal rs tail h.1 k)

  -- ---- atoms

  atom_right : (alone b : Bool) (a : Atom) → IsSortedLiteral g hand (record { holds = b; atom = a }) → IsFormed g (IsSoundQuote g) a → AllFacts (Right g hand) (opened_under g qs alone b a)
  atom_right alone b (same s t u) h k =
      let At = λ (x : SortedName). Contains hand x in
      let f = opened_same g alone b s (replaced g qs t) (replaced g qs u) in
      both_facts (Good g hand) (Sound g) f
      (opened_same_good g hand alone b s (replaced g qs t) (replaced g qs u) (replaced_good s t (h.0.0, all_first At (term_variables t) (term_variables u) h.1)) (replaced_good s u (h.0.1, all_second At (term_variables t) (term_variables u) h.1)))
      (same_formed g (IsSoundQuote g) alone b s (replaced g qs t) (replaced g qs u) (replaced_normal g qs t normal_put k.0) (replaced_normal g qs u normal_put k.1))
  atom_right alone b (has_head x test) h k =
      let kept = literal_fact b (has_head x test) in
      let t = replaced g qs (unknown x) in
      both_facts (Good g hand) (Sound g) (opened_test g b test kept t)
      (test_good g hand b test kept t h (replaced_good x.sort (unknown x) (itself x.sort, h.1)).1)
      (test_formed g (IsSoundQuote g) b test kept t k k)
  atom_right alone b (quoted p rs) h k =
      let i = all_placed p rs (free_variables p) (all_free p rs [] (free_variables p) refl h.0 h.1) in
      ((i.0, i.1), (k.0, beside_normal rs (new_for (free_variables p) rs qs) k.1 (kept_normal (λ q. is_new p rs q.name) qs normal_put)))

  -- ---- clauses

  literals_right : (alone : Bool) (c : List Literal) → IsRightClause g hand c → AllIn (Right g hand) (all_opened_under g qs alone c)
  literals_right alone [] h = tt
  literals_right alone (l ∷ c) h = (atom_right alone l.holds l.atom h.0.0 h.0.1, literals_right alone c h.1)

  put_in_right : (c : List Literal) → IsRightClause g hand c → AllByRecursion (IsRightClause g hand) (put_in_clause g qs c)
  put_in_right c h = by (is_too_large 0 (clause_under g qs c))
    where
      by : (b : Bool) → AllByRecursion (IsRightClause g hand) (if b then c ∷ [] else distributed (clause_under g qs c))
      by true = (h, tt)
      by false = clauses_have (Right g hand) (clause_under g qs c) (literals_right (is_single c) c h)

  pub all_put_in_right : (cs : List (List Literal)) → AllByRecursion (IsRightClause g hand) cs → AllByRecursion (IsRightClause g hand) (flat_map (put_in_clause g qs) cs)
  all_put_in_right [] h = tt
  all_put_in_right (c ∷ cs) h = all_both (IsRightClause g hand) (put_in_clause g qs c) (flat_map (put_in_clause g qs) cs) (put_in_right c h.0) (all_put_in_right cs h.1)

pub once_right : (g : KoreSignature) (hand : List SortedName) (cs : List (List Literal)) → AllByRecursion (IsRightClause g hand) cs → AllByRecursion (IsRightClause g hand) (without_repeats cs)
once_right g hand cs h = kept_are literals_same (IsRightClause g hand) [] 0 cs h
