-- A constructor that stands neither in a condition nor in the terms of its variables stands in none of its clauses.
use Rattle.std.proofs.Common.{◌≡◌, refl, subst, ℕ, ◌+◌, Bool, true, false, not, List, [], ◌∷◌, Option, Some, None}
use Rattle.std.specs.Prelude.{ℤ, codes, if◌then◌else◌, cond}
use Rattle.std.specs.List.{AllByRecursion, filter}
use Rattle.std.specs.Str.{bytes_eq}
use Rattle.std.specs.Str.Parse.{signed_digits_value}
use Rattle.kp_kore.specs.Syntax.{Text, KoreSort, KorePattern, KorePatterns, variable, application, literal, negation, conjunction, exists, forall, ceil, equals, membership, no_patterns, next_pattern}
use Rattle.kp_kore.specs.Parts.{SortedName, free_variables}
use Rattle.kp_kore.specs.Signature.{KoreSignature, is_integer_sort, is_boolean_sort}
use Rattle.kp_kore.specs.Value.{whole, truth, token}
use Rattle.kp_kore.specs.Instance.{is_named, literal_value}
use Rattle.kp_symbolic.specs.Terms.{SymbolicTerm, Replaced, replacement_for}
use Rattle.kp_symbolic.specs.Alike.{literals_same}
use Rattle.kp_symbolic.specs.Folding.{term_for, folded, all_folded}
use Rattle.kp_symbolic.specs.Opening.{fixed, literal_fact, HeadQuestion, head_question, denied_question, quotation, opened_ceil, opened_leaf, opened_predicate}
use Rattle.kp_symbolic.specs.Clauses.{distributed, is_too_large, quoted_literal, clauses_of_conjunct, literals_of_conjunct, clauses_of_conjuncts}
use Rattle.kp_symbolic.proofs.Distribution.{all_both, kept_are}
use Rattle.kp_symbolic.proofs.Facts.{AllFacts, clauses_have}
use Rattle.kp_symbolic.proofs.Opened.{IsClosed}
use Rattle.kp_symbolic.proofs.Leaf.{asked_formula, denied_formula}
use Rattle.kp_symbolic_laws.proofs.OpenedGood.{LeafHas, opened_has, by_size}
use Rattle.kp_step.specs.Conditions.{condition_clauses}
use Rattle.kp_source_laws.specs.Symbols.{AvoidsValue, AvoidsTerm, AvoidTerms, AvoidsPattern, AvoidPatterns, PutAvoids, AvoidsAtom, ClausesAvoid}
use Rattle.kp_source_laws.proofs.AvoidTerms.{applied_avoids}
use Rattle.kp_source_laws.proofs.AvoidFacts.{Avoids, same_avoids, test_avoids}

-- ---- terms

none_is_some : {A : Type 0} {a : A} → None ≡ Some a → ⊥
none_is_some e = cc

pub found_avoids : (f : Text) (rs : List Replaced) (x : Text) (b : SymbolicTerm) → PutAvoids f rs → replacement_for rs x ≡ Some b → AvoidsTerm f b
found_avoids f [] x b a e = absurd (none_is_some e)
found_avoids f (r ∷ rs) x b a e = by (bytes_eq r.name x) e (λ q. found_avoids f rs x b a.1 q)
  where
    some_inside : Some r.term ≡ Some b → r.term ≡ b
    some_inside q = cc

    by : (c : Bool) → (if c then Some r.term else replacement_for rs x) ≡ Some b → (replacement_for rs x ≡ Some b → AvoidsTerm f b) → AvoidsTerm f b
    by true q k = subst (AvoidsTerm f) (some_inside q) a.0
    by false q k = k q

for_avoids : (f : Text) (x : SortedName) (o : Option SymbolicTerm) → ((b : SymbolicTerm) → o ≡ Some b → AvoidsTerm f b) → AvoidsTerm f (term_for x o)
for_avoids f x (Some b) k = k b refl
for_avoids f x None k = tt

literal_avoids : (g : KoreSignature) (f : Text) (s : KoreSort) (text : Text) → AvoidsValue f (literal_value g s text)
literal_avoids g f s text = by (is_integer_sort g s) (is_boolean_sort g s) (signed_digits_value 10 text) (bytes_eq text (codes "true"))
  where
    by : (a b : Bool) (n : ℤ) (c : Bool) → AvoidsValue f (if a then whole n else if b then truth c else token s text)
    by true b n c = tt
    by false true n c = tt
    by false false n c = tt

mutual
  folded_avoids : (g : KoreSignature) (f : Text) (rs : List Replaced) (p : KorePattern) → PutAvoids f rs → AvoidsPattern f p → AvoidsTerm f (folded g rs p)
  folded_avoids g f rs (variable x s) k a = for_avoids f (record { name = x; sort = s }) (replacement_for rs x) (λ b e. found_avoids f rs x b k e)
  folded_avoids g f rs (literal s text) k a = literal_avoids g f s text
  folded_avoids g f rs (application h ss ps) k a = applied_avoids g f h (all_folded g rs ps) a.0 (all_folded_avoid g f rs ps k a.1)
  folded_avoids g f rs _ k a = tt

  all_folded_avoid : (g : KoreSignature) (f : Text) (rs : List Replaced) (ps : KorePatterns) → PutAvoids f rs → AvoidPatterns f ps → AvoidTerms f (all_folded g rs ps)
  all_folded_avoid g f rs no_patterns k a = tt
  all_folded_avoid g f rs (next_pattern p ps) k a = (folded_avoids g f rs p k a.0, all_folded_avoid g f rs ps k a.1)

-- ---- predicates

pattern_closed : (f : Text) → IsClosed (AvoidsPattern f) (AvoidPatterns f)
pattern_closed f = record {
  denied = λ s p h. h;
  conjoined = λ s ps h. h;
  disjoined = λ s ps h. h;
  implied = λ s p q h. h;
  agreed = λ s p q h. h;
  under_ceil = λ a s p e i h. h;
  under_floor = λ a s p e h. h;
  first = λ p ps h. h.0;
  others = λ p ps h. h.1;
}

fixed_avoid : (f : Text) (b : Bool) → AllFacts (Avoids f) (fixed b)
fixed_avoid f true = tt
fixed_avoid f false = tt

sides_avoid : (g : KoreSignature) (f : Text) (rs : List Replaced) (alone b : Bool) (a : KoreSort) (p q : KorePattern) → PutAvoids f rs → AvoidsPattern f p → AvoidsPattern f q → AllFacts (Avoids f) (opened_ceil g rs alone b a (conjunction a (next_pattern p (next_pattern q no_patterns))))
sides_avoid g f rs alone b a p q k i j = same_avoids g f alone b a (folded g rs p) (folded g rs q) (folded_avoids g f rs p k i) (folded_avoids g f rs q k j)

ceil_avoids : (g : KoreSignature) (f : Text) (rs : List Replaced) (alone b : Bool) (a : KoreSort) (p : KorePattern) → PutAvoids f rs → AvoidsPattern f p → AllFacts (Avoids f) (opened_ceil g rs alone b a p)
ceil_avoids g f rs alone b a (conjunction s (next_pattern p (next_pattern q no_patterns))) k i = sides_avoid g f rs alone b a p q k i.0 i.1.0
ceil_avoids g f rs alone b a p k i = fixed_avoid f b

put_kept : (f : Text) (test : Replaced → Bool) (rs : List Replaced) → PutAvoids f rs → PutAvoids f (filter test rs)
put_kept f test [] k = tt
put_kept f test (r ∷ rs) k = by (test r) (put_kept f test rs k.1)
  where
    by : (b : Bool) → PutAvoids f (filter test rs) → PutAvoids f (cond b (r ∷ filter test rs) (filter test rs))
    by true rest = (k.0, rest)
    by false rest = rest

quotation_avoids : (f : Text) (rs : List Replaced) (p : KorePattern) → PutAvoids f rs → AvoidsAtom f (quotation rs p)
quotation_avoids f rs p k = put_kept f (λ r. is_named r.name (free_variables p)) rs k

question_avoids : (g : KoreSignature) (f : Text) (rs : List Replaced) (b : Bool) (p : KorePattern) (o : Option HeadQuestion) → PutAvoids f rs → AllFacts (Avoids f) (asked_formula g rs b p o)
question_avoids g f rs b p (Some q) k = test_avoids g f b q.test (literal_fact b (quotation rs p)) (folded g rs q.subject) (quotation_avoids f rs p k)
question_avoids g f rs b p None k = quotation_avoids f rs p k

denied_avoids : (g : KoreSignature) (f : Text) (rs : List Replaced) (b : Bool) (p : KorePattern) (o : Option HeadQuestion) → PutAvoids f rs → AllFacts (Avoids f) (denied_formula g rs b p o)
denied_avoids g f rs b p (Some q) k = test_avoids g f (not b) q.test (literal_fact b (quotation rs p)) (folded g rs q.subject) (quotation_avoids f rs p k)
denied_avoids g f rs b p None k = quotation_avoids f rs p k

leaf_avoids : (g : KoreSignature) (f : Text) (rs : List Replaced) → PutAvoids f rs → LeafHas (Avoids f) (AvoidsPattern f) (opened_leaf g rs)
leaf_avoids g f rs k alone b (equals a s p q) l h = sides_avoid g f rs alone b a p q k h.0 h.1
leaf_avoids g f rs k alone b (membership a s p q) l h = sides_avoid g f rs alone b a p q k h.0 h.1
leaf_avoids g f rs k alone b (ceil a s p) l h = ceil_avoids g f rs alone b a p k h
leaf_avoids g f rs k alone b (exists s x t p) l h = question_avoids g f rs b (exists s x t p) (head_question g [] (exists s x t p)) k
leaf_avoids g f rs k alone b (forall s x t p) l h = denied_avoids g f rs b (forall s x t p) (denied_question g [] (forall s x t p)) k
leaf_avoids g f rs k alone b p l h = quotation_avoids f rs p k

-- ---- clauses

quoted_avoids : (f : Text) (rs : List Replaced) (b : Bool) (p : KorePattern) → PutAvoids f rs → Avoids f (quoted_literal rs b p)
quoted_avoids f rs b (negation s p) k = quoted_avoids f rs (not b) p k
quoted_avoids f rs b p k = quotation_avoids f rs p k

conjunct_avoids : (g : KoreSignature) (f : Text) (rs : List Replaced) (n : ℕ) (p : KorePattern) → PutAvoids f rs → AvoidsPattern f p → ClausesAvoid f (clauses_of_conjunct g rs n p)
conjunct_avoids g f rs n p k h = by_size (AllByRecursion (Avoids f)) (is_too_large n (opened_predicate g rs true p)) ((quoted_literal rs true p ∷ []) ∷ []) (distributed (opened_predicate g rs true p))
    ((quoted_avoids f rs true p k, tt), tt)
    (clauses_have (Avoids f) (opened_predicate g rs true p) (opened_has (Avoids f) (AvoidsPattern f) (AvoidPatterns f) (opened_leaf g rs) (pattern_closed f) (leaf_avoids g f rs k) true true p h))

conjuncts_avoid : (g : KoreSignature) (f : Text) (rs : List Replaced) (n : ℕ) (ps : List KorePattern) → PutAvoids f rs → AllByRecursion (AvoidsPattern f) ps → ClausesAvoid f (clauses_of_conjuncts g rs n ps)
conjuncts_avoid g f rs n [] k h = tt
conjuncts_avoid g f rs n (p ∷ ps) k h =
    let m = n + literals_of_conjunct g rs n p in
    all_both (AllByRecursion (Avoids f)) (clauses_of_conjunct g rs n p) (clauses_of_conjuncts g rs m ps) (conjunct_avoids g f rs n p k h.0) (conjuncts_avoid g f rs m ps k h.1)

pub condition_avoids : (g : KoreSignature) (f : Text) (rs : List Replaced) (ps : List KorePattern) → PutAvoids f rs → AllByRecursion (AvoidsPattern f) ps → ClausesAvoid f (condition_clauses g rs ps)
condition_avoids g f rs ps k h = kept_are literals_same (AllByRecursion (Avoids f)) [] 0 (clauses_of_conjuncts g rs 0 ps) (conjuncts_avoid g f rs 0 ps k h)
