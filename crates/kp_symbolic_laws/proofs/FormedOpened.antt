-- Each literal that verified predicates are opened to has normal terms, and asks for the head of a constructor or a sort.
use Rattle.std.proofs.Common.{◌≡◌, refl, subst, ℕ, ◌+◌, Bool, true, false, not, ◌||◌, List, [], ◌∷◌, ◌++◌, Option, Some, None, ◌∙◌}
use Rattle.std.specs.Prelude.{if◌then◌else◌}
use Rattle.std.specs.List.{AllByRecursion}
use Rattle.kp_kore.specs.Syntax.{Text, KoreSort, KoreSorts, no_sorts, next_sort, KorePattern, KorePatterns, variable, application, negation, conjunction, exists, forall, ceil, equals, membership, no_patterns, next_pattern}
use Rattle.kp_kore.specs.Parts.{SortedName, is_term}
use Rattle.kp_kore.specs.Signature.{KoreSignature, SymbolMeaning, injection, construction, interpretation, foreign, meaning_of}
use Rattle.kp_kore.specs.Instance.{is_conjoined_pair}
use Rattle.kp_symbolic.specs.States.{HeadTest, one_head, head_of_sort}
use Rattle.kp_symbolic.specs.Alike.{literals_same}
use Rattle.kp_symbolic.specs.Folding.{folded}
use Rattle.kp_symbolic.specs.Opening.{literal_fact, are_variables, question_if, HeadQuestion, asked_constructor, asked_under_inj, asked_of, asked_variable, asked_side, question_of_sides, first_question, head_question, denied_question, quotation, opened_ceil, opened_leaf, opened_predicate}
use Rattle.kp_symbolic.specs.Clauses.{distributed, without_repeats, is_too_large, quoted_literal, clauses_of_conjunct, literals_of_conjunct, clauses_of_conjuncts}
use Rattle.kp_symbolic.proofs.Distribution.{all_both, kept_are}
use Rattle.kp_symbolic.proofs.Facts.{AllFacts, clauses_have}
use Rattle.kp_symbolic.proofs.Leaf.{asked_formula, denied_formula}
use Rattle.kp_symbolic_laws.specs.Runs.{IsMeantTest}
use Rattle.kp_symbolic_laws.specs.Safe.{Formed}
use Rattle.kp_symbolic_laws.proofs.NormalTerms.{folded_normal}
use Rattle.kp_symbolic_laws.proofs.FormedFacts.{same_formed, test_formed}
use Rattle.kp_symbolic_laws.proofs.OpenedGood.{IsAmong, AreAmong, LeafHas, opened_has, among_closed, by_size, term_ceil}
use Rattle.kp_symbolic.proofs.HeadQuestions.{asked_of_sides, denied_body, denied_asks}

-- ---- which tests are asked

none_is_some : {A : Type 0} {a : A} → None ≡ Some a → ⊥
none_is_some e = cc

if_meant : (g : KoreSignature) (b : Bool) (p : KorePattern) (test : HeadTest) (q : HeadQuestion) → IsMeantTest g test → question_if b p test ≡ Some q → IsMeantTest g q.test
if_meant g true p test q m e = subst (IsMeantTest g) (same_test e) m
  where
    same_test : Some (record { subject = p; test = test }) ≡ Some q → test ≡ q.test
    same_test e = cc
if_meant g false p test q m e = absurd (none_is_some e)

constructor_meant : (g : KoreSignature) (xs : List SortedName) (p : KorePattern) (m : SymbolMeaning) (f : Text) (ps : KorePatterns) (q : HeadQuestion) → meaning_of g f ≡ m → asked_constructor g xs p m f ps ≡ Some q → IsMeantTest g q.test
constructor_meant g xs p construction f ps q m e = if_meant g _ p (one_head f) q m e
constructor_meant g xs p injection f ps q m e = absurd (none_is_some e)
constructor_meant g xs p (interpretation h) f ps q m e = absurd (none_is_some e)
constructor_meant g xs p foreign f ps q m e = absurd (none_is_some e)

variables_meant : (g : KoreSignature) (xs : List SortedName) (p : KorePattern) (ss : KoreSorts) (ps : KorePatterns) (q : HeadQuestion) → asked_under_inj g xs p ss ps ≡ Some q → IsMeantTest g q.test
variables_meant g xs p ss (next_pattern (application f ts qs) no_patterns) q e = constructor_meant g xs p (meaning_of g f) f qs q refl e
variables_meant g (x ∷ []) p (next_sort t ss) ps q e = if_meant g (are_variables (x ∷ []) (next_sort t no_sorts) ps) p (head_of_sort t) q tt e
variables_meant g xs p ss ps q e = absurd (cc)

of_meant : (g : KoreSignature) (xs : List SortedName) (p : KorePattern) (m : SymbolMeaning) (f : Text) (ss : KoreSorts) (ps : KorePatterns) (q : HeadQuestion) → meaning_of g f ≡ m → asked_of g xs p m f ss ps ≡ Some q → IsMeantTest g q.test
of_meant g xs p injection f ss ps q m e = variables_meant g xs p ss ps q e
of_meant g xs p construction f ss ps q m e = constructor_meant g xs p construction f ps q m e
of_meant g xs p (interpretation h) f ss ps q m e = absurd (none_is_some e)
of_meant g xs p foreign f ss ps q m e = absurd (none_is_some e)

bound_meant : (g : KoreSignature) (xs : List SortedName) (p : KorePattern) (z : Text) (t : KoreSort) (q : HeadQuestion) → asked_variable xs p z t ≡ Some q → IsMeantTest g q.test
bound_meant g (x ∷ []) p z t q e = if_meant g (are_variables (x ∷ []) (next_sort t no_sorts) (next_pattern (variable z t) no_patterns)) p (head_of_sort t) q tt e
bound_meant g [] p z t q e = absurd (none_is_some e)
bound_meant g (x ∷ y ∷ xs) p z t q e = absurd (none_is_some e)

side_meant : (g : KoreSignature) (xs : List SortedName) (p r : KorePattern) (q : HeadQuestion) → asked_side g xs p r ≡ Some q → IsMeantTest g q.test
side_meant g xs p (application f ss ps) q e = of_meant g xs p (meaning_of g f) f ss ps q refl e
side_meant g xs p (variable z t) q e = bound_meant g xs p z t q e
side_meant g xs p r q e = absurd (none_is_some e)

either_meant : (g : KoreSignature) (xs : List SortedName) (p r : KorePattern) (q : HeadQuestion) → first_question (question_of_sides g xs p r) (question_of_sides g xs r p) ≡ Some q → IsMeantTest g q.test
either_meant g xs p r q e = by (question_of_sides g xs p r) refl e
  where
    sided : (a b : KorePattern) → question_of_sides g xs a b ≡ Some q → IsMeantTest g q.test
    sided a b i = let k = asked_of_sides g xs a b q i in side_meant g xs (variable k.asked.name k.asked.sort) b q k.from

    by : (o : Option HeadQuestion) → question_of_sides g xs p r ≡ o → first_question o (question_of_sides g xs r p) ≡ Some q → IsMeantTest g q.test
    by (Some k) i c = sided p r (i ∙ c)
    by None i c = sided r p c

pub question_meant : (g : KoreSignature) (xs : List SortedName) (p : KorePattern) (q : HeadQuestion) → head_question g xs p ≡ Some q → IsMeantTest g q.test
question_meant g xs (exists s x t p) q e = question_meant g (xs ++ record { name = x; sort = t } ∷ []) p q e
question_meant g xs (equals a s p r) q e = either_meant g xs p r q e
question_meant g xs (membership a s p r) q e = either_meant g xs p r q e
question_meant g xs p q e = absurd (none_is_some e)

-- ---- the leaf

quotation_formed : (g : KoreSignature) (V : KorePattern → Type 0) (b : Bool) (p : KorePattern) → V p → AllFacts (Formed g V) (literal_fact b (quotation [] p))
quotation_formed g V b p v = (v, tt)

question_formed : (g : KoreSignature) (V : KorePattern → Type 0) (b : Bool) (p : KorePattern) (o : Option HeadQuestion) → head_question g [] p ≡ o → V p → AllFacts (Formed g V) (asked_formula g [] b p o)
question_formed g V b p None e v = quotation_formed g V b p v
question_formed g V b p (Some q) e v = test_formed g V b q.test (literal_fact b (quotation [] p)) (folded g [] q.subject) (question_meant g [] p q e) (quotation_formed g V b p v)

denied_formed : (g : KoreSignature) (V : KorePattern → Type 0) (b : Bool) (p : KorePattern) (o : Option HeadQuestion) → denied_question g [] p ≡ o → V p → AllFacts (Formed g V) (denied_formula g [] b p o)
denied_formed g V b p None e v = quotation_formed g V b p v
denied_formed g V b p (Some q) e v = test_formed g V (not b) q.test (literal_fact b (quotation [] p)) (folded g [] q.subject) (question_meant g [] (denied_body p) q (denied_asks g [] p q e)) (quotation_formed g V b p v)

sides_formed : (g : KoreSignature) (V : KorePattern → Type 0) (alone b : Bool) (a : KoreSort) (p q : KorePattern) → AllFacts (Formed g V) (opened_ceil g [] alone b a (conjunction a (next_pattern p (next_pattern q no_patterns))))
sides_formed g V alone b a p q = same_formed g V alone b a (folded g [] p) (folded g [] q) (folded_normal g [] p tt) (folded_normal g [] q tt)

pair_formed : (g : KoreSignature) (V : KorePattern → Type 0) (alone b : Bool) (a : KoreSort) (p : KorePattern) → is_conjoined_pair p ≡ true → AllFacts (Formed g V) (opened_ceil g [] alone b a p)
pair_formed g V alone b a (conjunction t (next_pattern p (next_pattern q no_patterns))) e = sides_formed g V alone b a p q
pair_formed g V alone b a _ e = absurd (cc)

ceil_formed : (g : KoreSignature) (V : KorePattern → Type 0) (alone b : Bool) (a : KoreSort) (p : KorePattern) → is_term p || is_conjoined_pair p ≡ true → AllFacts (Formed g V) (opened_ceil g [] alone b a p)
ceil_formed g V alone b a p e = by (is_term p) refl e
  where
    by : (c : Bool) → is_term p ≡ c → c || is_conjoined_pair p ≡ true → AllFacts (Formed g V) (opened_ceil g [] alone b a p)
    by true i k = term_ceil g (Formed g V) alone b a p i
    by false i k = pair_formed g V alone b a p k

-- what holds of verified predicates
abbrev pub OfAmong : KoreSignature → List SortedName → (KorePattern → Type 0) → Type 0
OfAmong g hand V = (p : KorePattern) → IsAmong g hand p → V p

leaf_formed : (g : KoreSignature) (V : KorePattern → Type 0) (hand : List SortedName) → OfAmong g hand V → LeafHas (Formed g V) (IsAmong g hand) (opened_leaf g [])
leaf_formed g V hand v alone b (equals a s p q) l h = same_formed g V alone b a (folded g [] p) (folded g [] q) (folded_normal g [] p tt) (folded_normal g [] q tt)
leaf_formed g V hand v alone b (membership a s p q) l h = same_formed g V alone b a (folded g [] p) (folded g [] q) (folded_normal g [] p tt) (folded_normal g [] q tt)
leaf_formed g V hand v alone b (ceil a s p) l h = ceil_formed g V alone b a p l
leaf_formed g V hand v alone b (exists s x t p) l h = question_formed g V b (exists s x t p) (head_question g [] (exists s x t p)) refl (v (exists s x t p) h)
leaf_formed g V hand v alone b (forall s x t p) l h = denied_formed g V b (forall s x t p) (denied_question g [] (forall s x t p)) refl (v (forall s x t p) h)
leaf_formed g V hand v alone b p l h = quotation_formed g V b p (v p h)

-- ---- clauses

quoted_formed : (g : KoreSignature) (V : KorePattern → Type 0) (hand : List SortedName) (b : Bool) (p : KorePattern) → OfAmong g hand V → IsAmong g hand p → Formed g V (quoted_literal [] b p)
quoted_formed g V hand b (negation s p) v h = quoted_formed g V hand (not b) p v ((among_closed g hand).denied s p h)
quoted_formed g V hand b p v h = quotation_formed g V b p (v p h)

conjunct_formed : (g : KoreSignature) (V : KorePattern → Type 0) (hand : List SortedName) (n : ℕ) (p : KorePattern) → OfAmong g hand V → IsAmong g hand p → AllByRecursion (AllByRecursion (Formed g V)) (clauses_of_conjunct g [] n p)
conjunct_formed g V hand n p v h = by_size (AllByRecursion (Formed g V)) (is_too_large n (opened_predicate g [] true p)) ((quoted_literal [] true p ∷ []) ∷ []) (distributed (opened_predicate g [] true p))
    ((quoted_formed g V hand true p v h, tt), tt)
    (clauses_have (Formed g V) (opened_predicate g [] true p) (opened_has (Formed g V) (IsAmong g hand) (AreAmong g hand) (opened_leaf g []) (among_closed g hand) (leaf_formed g V hand v) true true p h))

conjuncts_formed : (g : KoreSignature) (V : KorePattern → Type 0) (hand : List SortedName) (n : ℕ) (ps : List KorePattern) → OfAmong g hand V → AllByRecursion (IsAmong g hand) ps → AllByRecursion (AllByRecursion (Formed g V)) (clauses_of_conjuncts g [] n ps)
conjuncts_formed g V hand n [] v h = tt
conjuncts_formed g V hand n (p ∷ ps) v h = all_both (AllByRecursion (Formed g V)) (clauses_of_conjunct g [] n p) (clauses_of_conjuncts g [] (n + literals_of_conjunct g [] n p) ps) (conjunct_formed g V hand n p v h.0) (conjuncts_formed g V hand (n + literals_of_conjunct g [] n p) ps v h.1)

pub predicates_formed : (g : KoreSignature) (V : KorePattern → Type 0) (hand : List SortedName) (ps : List KorePattern) → OfAmong g hand V → AllByRecursion (IsAmong g hand) ps → AllByRecursion (AllByRecursion (Formed g V)) (without_repeats (clauses_of_conjuncts g [] 0 ps))
predicates_formed g V hand ps v h = kept_are literals_same (AllByRecursion (Formed g V)) [] 0 (clauses_of_conjuncts g [] 0 ps) (conjuncts_formed g V hand 0 ps v h)
