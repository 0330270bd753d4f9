-- Each literal that a verified predicate is opened to has the sorts of its places, and its variables are the predicate's.
use Rattle.std.proofs.Common.{◌≡◌, refl, sym, ◌∙◌, ap, subst, ℕ, ◌+◌, Bool, true, false, not, ◌&&◌, ◌||◌, List, [], ◌∷◌, ◌++◌, Option, Some, None}
use Rattle.std.specs.Prelude.{if◌then◌else◌}
use Rattle.std.specs.List.{AllByRecursion, Contains, flat_map}
use Rattle.std.specs.Str.{bytes_eq}
use Rattle.std.proofs.lemmas.Slice.Eq.{bytes_eq-Decides}
use Rattle.kp_kore.specs.Syntax.{Text, KoreSort, KoreSorts, no_sorts, next_sort, KorePattern, KorePatterns, variable, set_variable, application, string_literal, literal, top, bottom, negation, next, conjunction, disjunction, implication, equivalence, rewriting, exists, forall, ceil, floor, equals, membership, mu, nu, no_patterns, next_pattern}
use Rattle.kp_kore.specs.Parts.{SortedName, is_term, free_variables, all_free_variables}
use Rattle.kp_kore.specs.Signature.{KoreSignature, SymbolMeaning, injection, construction, interpretation, foreign, meaning_of}
use Rattle.kp_kore.specs.Instance.{is_named, is_predicate, are_predicates, is_conjoined_pair}
use Rattle.kp_kore.specs.Foreign.{has_foreign_head}
use Rattle.kp_kore.proofs.InstanceLemmas.{first_true, second_true}
use Rattle.kp_signature.specs.Places.{part_at, after}
use Rattle.kp_signature.proofs.FaultLemmas.{same_as_wanted, keeps_rules, nothing_earlier, nothing_later, term_has_wanted_sort}
use Rattle.kp_signature.proofs.SortedInstances.{none_in_first, none_in_others}
use Rattle.kp_symbolic.specs.Terms.{replacement_for}
use Rattle.kp_symbolic.specs.Formulas.{Formula}
use Rattle.kp_symbolic.specs.States.{HeadTest, head_of_sort, variables_for, Literal}
use Rattle.kp_symbolic.specs.WellFormed.{AreAtHand}
use Rattle.kp_symbolic.specs.Alike.{literals_same}
use Rattle.kp_symbolic.specs.Folding.{folded}
use Rattle.kp_symbolic.specs.Opening.{all_if, Leaf, literal_fact, opened, all_opened, is_left, are_variables, question_if, HeadQuestion, asked_constructor, asked_under_inj, asked_of, asked_variable, asked_side, question_of_sides, first_question, head_question, denied_question, opened_same, quotation, opened_ceil, opened_test, opened_leaf, opened_predicate}
use Rattle.kp_symbolic.specs.Clauses.{distributed, without_repeats, is_too_large, quoted_literal, clauses_of_conjunct, literals_of_conjunct, clauses_of_conjuncts}
use Rattle.kp_symbolic.proofs.Distribution.{all_both, all_first, all_second, kept_are}
use Rattle.kp_symbolic.proofs.Opened.{IsClosed}
use Rattle.kp_symbolic.proofs.Folded.{folded_variables, OfEach}
use Rattle.kp_symbolic.proofs.SortedFolding.{folded_sorted}
use Rattle.kp_symbolic.proofs.Read.{Stands, StandAll, StandBoth, equals_stand, membership_stands, negation_stands, conjunction_stands, disjunction_stands, implication_stands, equivalence_stands, ceil_stands, floor_stands, first_stands, others_stand, three_tests, two_tests}
use Rattle.kp_symbolic.proofs.OpenedState.{placed_as_they_are}
use Rattle.kp_symbolic.proofs.Facts.{AllFacts, AllIn, clauses_have, Good, GoodTerm, opened_same_good}
use Rattle.kp_symbolic.proofs.Leaf.{asked_formula, denied_formula}
use Rattle.kp_symbolic.proofs.HeadQuestions.{without_all, all_weaker, asked_of_sides, denied_body, denied_asks, denied_variables}
use Rattle.kp_symbolic_laws.proofs.Keeping.{test_good}

-- ---- what holds of each literal of the leaf holds of each of the whole

if_have : (P : Literal → Type 0) (b : Bool) (fs : _) → AllIn P fs → AllFacts P (all_if b fs)
if_have P true fs a = a
if_have P false fs a = a

either_has : (P : Literal → Type 0) (c : Bool) (f h : Formula Literal) → (c ≡ true → AllFacts P f) → (c ≡ false → AllFacts P h) → AllFacts P (if c then f else h)
either_has P true f h i j = i refl
either_has P false f h i j = j refl

either_false : (a b : Bool) → a || b ≡ false → (a ≡ false) × (b ≡ false)
either_false true b e = absurd (cc)
either_false false b e = (refl, e)

abbrev pub LeafHas : (Literal → Type 0) → (KorePattern → Type 0) → Leaf → Type 0
LeafHas P V leaf = (alone b : Bool) (p : KorePattern) → is_left p ≡ true → V p → AllFacts P (leaf alone b p)

mutual
  pub opened_has : (P : Literal → Type 0) (V : KorePattern → Type 0) (W : KorePatterns → Type 0) (leaf : Leaf) → IsClosed V W → LeafHas P V leaf → (alone b : Bool) (p : KorePattern) → V p → AllFacts P (opened leaf alone b p)
  opened_has P V W leaf k l alone b (top s) a = if_have P b _ tt
  opened_has P V W leaf k l alone b (bottom s) a = if_have P (not b) _ tt
  opened_has P V W leaf k l alone b (negation s p) a = opened_has P V W leaf k l alone (not b) p (k.denied s p a)
  opened_has P V W leaf k l alone b (conjunction s ps) a = if_have P b (all_opened leaf (alone && b) b ps) (all_have P V W leaf k l (alone && b) b ps (k.conjoined s ps a))
  opened_has P V W leaf k l alone b (disjunction s ps) a = if_have P (not b) (all_opened leaf (alone && not b) b ps) (all_have P V W leaf k l (alone && not b) b ps (k.disjoined s ps a))
  opened_has P V W leaf k l alone b (implication s p q) a = if_have P (not b) _ (opened_has P V W leaf k l (alone && not b) (not b) p (k.implied s p q a).0, (opened_has P V W leaf k l (alone && not b) b q (k.implied s p q a).1, tt))
  opened_has P V W leaf k l alone b (equivalence s p q) a = (
    (opened_has P V W leaf k l false false p (k.agreed s p q a).0, (opened_has P V W leaf k l false b q (k.agreed s p q a).1, tt)),
    ((opened_has P V W leaf k l false true p (k.agreed s p q a).0, (opened_has P V W leaf k l false (not b) q (k.agreed s p q a).1, tt)), tt),
  )
  opened_has P V W leaf k l alone b (ceil t s p) a = either_has P (is_term p || is_conjoined_pair p) (leaf alone b (ceil t s p)) (opened leaf alone b p) (λ e. l alone b (ceil t s p) e a) (λ e. let n = either_false (is_term p) (is_conjoined_pair p) e in opened_has P V W leaf k l alone b p (k.under_ceil t s p n.0 n.1 a))
  opened_has P V W leaf k l alone b (floor t s p) a = either_has P (is_term p) (leaf alone b (floor t s p)) (opened leaf alone b p) (λ e. l alone b (floor t s p) e a) (λ e. opened_has P V W leaf k l alone b p (k.under_floor t s p e a))
  opened_has P V W leaf k l alone b (variable x s) a = l alone b (variable x s) refl a
  opened_has P V W leaf k l alone b (set_variable x s) a = l alone b (set_variable x s) refl a
  opened_has P V W leaf k l alone b (application f ss ps) a = l alone b (application f ss ps) refl a
  opened_has P V W leaf k l alone b (string_literal x) a = l alone b (string_literal x) refl a
  opened_has P V W leaf k l alone b (literal s x) a = l alone b (literal s x) refl a
  opened_has P V W leaf k l alone b (next s p) a = l alone b (next s p) refl a
  opened_has P V W leaf k l alone b (rewriting s p q) a = l alone b (rewriting s p q) refl a
  opened_has P V W leaf k l alone b (exists s x t p) a = l alone b (exists s x t p) refl a
  opened_has P V W leaf k l alone b (forall s x t p) a = l alone b (forall s x t p) refl a
  opened_has P V W leaf k l alone b (equals t s p q) a = l alone b (equals t s p q) refl a
  opened_has P V W leaf k l alone b (membership t s p q) a = l alone b (membership t s p q) refl a
  opened_has P V W leaf k l alone b (mu x s p) a = l alone b (mu x s p) refl a
  opened_has P V W leaf k l alone b (nu x s p) a = l alone b (nu x s p) refl a

  all_have : (P : Literal → Type 0) (V : KorePattern → Type 0) (W : KorePatterns → Type 0) (leaf : Leaf) → IsClosed V W → LeafHas P V leaf → (alone b : Bool) (ps : KorePatterns) → W ps → AllIn P (all_opened leaf alone b ps)
  all_have P V W leaf k l alone b no_patterns a = tt
  all_have P V W leaf k l alone b (next_pattern p ps) a = (opened_has P V W leaf k l alone b p (k.first p ps a), all_have P V W leaf k l alone b ps (k.others p ps a))

-- ---- verified predicates whose variables are at hand

pub record IsAmong (g : KoreSignature) (hand : List SortedName) (p : KorePattern) : Type 0 where
  pub stands : Stands g [] p
  pub predicate : is_predicate p ≡ true
  pub at_hand : AreAtHand (free_variables p) hand

pub record AreAmong (g : KoreSignature) (hand : List SortedName) (ps : KorePatterns) : Type 0 where
  pub stand : StandAll g [] ps
  pub predicates : are_predicates ps ≡ true
  pub at_hand : AreAtHand (all_free_variables ps) hand

abbrev At : List SortedName → SortedName → Type 0
At hand x = Contains hand x

pub among_closed : (g : KoreSignature) (hand : List SortedName) → IsClosed (IsAmong g hand) (AreAmong g hand)
among_closed g hand = record {
  denied = λ s p h. record { stands = negation_stands g [] s p h.stands; predicate = h.predicate; at_hand = h.at_hand };
  conjoined = λ s ps h. record { stand = conjunction_stands g [] s ps h.stands; predicates = h.predicate; at_hand = h.at_hand };
  disjoined = λ s ps h. record { stand = disjunction_stands g [] s ps h.stands; predicates = h.predicate; at_hand = h.at_hand };
  implied = λ s p q h. let k = implication_stands g [] s p q h.stands in (
    record { stands = k.first; predicate = first_true (is_predicate p) (is_predicate q) h.predicate; at_hand = all_first (At hand) (free_variables p) (free_variables q) h.at_hand },
    record { stands = k.second; predicate = second_true (is_predicate p) (is_predicate q) h.predicate; at_hand = all_second (At hand) (free_variables p) (free_variables q) h.at_hand },
  );
  agreed = λ s p q h. let k = equivalence_stands g [] s p q h.stands in (
    record { stands = k.first; predicate = first_true (is_predicate p) (is_predicate q) h.predicate; at_hand = all_first (At hand) (free_variables p) (free_variables q) h.at_hand },
    record { stands = k.second; predicate = second_true (is_predicate p) (is_predicate q) h.predicate; at_hand = all_second (At hand) (free_variables p) (free_variables q) h.at_hand },
  );
  under_ceil = λ a s p e f h. record { stands = ceil_stands g [] a s p h.stands; predicate = three_tests (is_term p) (is_predicate p) (is_conjoined_pair p) h.predicate e f; at_hand = h.at_hand };
  under_floor = λ a s p e h. record { stands = floor_stands g [] a s p h.stands; predicate = two_tests (is_term p) (is_predicate p) h.predicate e; at_hand = h.at_hand };
  first = λ p ps h. record { stands = first_stands g [] p ps h.stand; predicate = first_true (is_predicate p) (are_predicates ps) h.predicates; at_hand = all_first (At hand) (free_variables p) (all_free_variables ps) h.at_hand };
  others = λ p ps h. record { stand = others_stand g [] p ps h.stand; predicates = second_true (is_predicate p) (are_predicates ps) h.predicates; at_hand = all_second (At hand) (free_variables p) (all_free_variables ps) h.at_hand };
}

-- ---- the leaf

pub each_itself : (hand xs : List SortedName) → AreAtHand xs hand → OfEach [] (At hand) xs
each_itself hand [] a = tt
each_itself hand (x ∷ xs) a = ((a.0, tt), each_itself hand xs a.1)

pub term_has : (g : KoreSignature) (hand : List SortedName) (a : KoreSort) (p : KorePattern) (h : Stands g [] p) → h.place.wanted ≡ Some a → is_term p ≡ true → AreAtHand (free_variables p) hand → GoodTerm g hand a (folded g [] p)
term_has g hand a p h w t i = (
  folded_sorted g [] h.place p a h.faultless (term_has_wanted_sort g h.place p a t h.faultless w) t h.meant h.placed,
  folded_variables g [] (At hand) p (each_itself hand (free_variables p) i),
)

sides_have : (g : KoreSignature) (hand : List SortedName) (alone b : Bool) (a : KoreSort) (p q : KorePattern) → StandBoth g [] a p q → is_term p && is_term q ≡ true → AreAtHand (free_variables p) hand → AreAtHand (free_variables q) hand → AllFacts (Good g hand) (opened_same g alone b a (folded g [] p) (folded g [] q))
sides_have g hand alone b a p q k t i j = opened_same_good g hand alone b a (folded g [] p) (folded g [] q)
    (term_has g hand a p k.first k.first_wanted (first_true (is_term p) (is_term q) t) i)
    (term_has g hand a q k.second k.second_wanted (second_true (is_term p) (is_term q) t) j)

pub flat_itself : (hand xs : List SortedName) → AreAtHand xs hand → AreAtHand (flat_map (λ x. variables_for x (replacement_for [] x.name)) xs) hand
flat_itself hand [] a = tt
flat_itself hand (x ∷ xs) a = (a.0, flat_itself hand xs a.1)

quotation_has : (g : KoreSignature) (hand : List SortedName) (b : Bool) (p : KorePattern) → AreAtHand (free_variables p) hand → AllFacts (Good g hand) (literal_fact b (quotation [] p))
quotation_has g hand b p a = (placed_as_they_are g (free_variables p), flat_itself hand (free_variables p) a)

-- the members of a conjunction under \ceil have the sort of \ceil
pub pair_stands : (g : KoreSignature) (a s t : KoreSort) (p q : KorePattern) → Stands g [] (ceil a s (conjunction t (next_pattern p (next_pattern q no_patterns)))) → StandBoth g [] a p q
pair_stands g a s t p q h =
    let ps = next_pattern q no_patterns in
    let under = nothing_later _ _ h.faultless in
    let same : a ≡ t = same_as_wanted a t (keeps_rules g (part_at h.place a) (conjunction t (next_pattern p ps)) (nothing_earlier _ _ under)).wanted in
    let members = nothing_later _ _ under in
    record {
      first = record { place = part_at (part_at h.place a) t; faultless = nothing_earlier _ _ members; meant = none_in_first (has_foreign_head g) p ps h.meant; placed = placed_as_they_are g (free_variables p) };
      second = record {
        place = after p (part_at (part_at h.place a) t);
        faultless = nothing_earlier _ _ (nothing_later _ _ members);
        meant = none_in_first (has_foreign_head g) q no_patterns (none_in_others (has_foreign_head g) p ps h.meant);
        placed = placed_as_they_are g (free_variables q);
      };
      first_wanted = ap Some (sym same);
      second_wanted = ap Some (sym same);
    }

pub term_ceil : (g : KoreSignature) (P : Literal → Type 0) (alone b : Bool) (a : KoreSort) (p : KorePattern) → is_term p ≡ true → AllFacts P (opened_ceil g [] alone b a p)
term_ceil g P alone b a (variable x s) e = if_have P b _ tt
term_ceil g P alone b a (literal s x) e = if_have P b _ tt
term_ceil g P alone b a (application f ss ps) e = if_have P b _ tt
term_ceil g P alone b a _ e = absurd (cc)

pair_ceil : (g : KoreSignature) (hand : List SortedName) (alone b : Bool) (a s : KoreSort) (p : KorePattern) → IsAmong g hand (ceil a s p) → is_conjoined_pair p ≡ true → AllFacts (Good g hand) (opened_ceil g [] alone b a p)
pair_ceil g hand alone b a s (conjunction t (next_pattern p (next_pattern q no_patterns))) h e =
    sides_have g hand alone b a p q (pair_stands g a s t p q h.stands) e (all_first (At hand) (free_variables p) (free_variables q ++ []) h.at_hand) (all_first (At hand) (free_variables q) [] (all_second (At hand) (free_variables p) (free_variables q ++ []) h.at_hand))
pair_ceil g hand alone b a s _ h e = absurd (cc)

ceil_has : (g : KoreSignature) (hand : List SortedName) (alone b : Bool) (a s : KoreSort) (p : KorePattern) → IsAmong g hand (ceil a s p) → is_term p || is_conjoined_pair p ≡ true → AllFacts (Good g hand) (opened_ceil g [] alone b a p)
ceil_has g hand alone b a s p h e = by (is_term p) refl e
  where
    by : (c : Bool) → is_term p ≡ c → c || is_conjoined_pair p ≡ true → AllFacts (Good g hand) (opened_ceil g [] alone b a p)
    by true i k = term_ceil g (Good g hand) alone b a p i
    by false i k = pair_ceil g hand alone b a s p h k

-- ---- tests of heads: the variable that is asked isn't bound

none_is_some : {A : Type 0} {a : A} → None ≡ Some a → ⊥
none_is_some e = cc

subject_if : (b : Bool) (p : KorePattern) (test : HeadTest) (q : HeadQuestion) → question_if b p test ≡ Some q → q.subject ≡ p
subject_if true p test q e = cc
subject_if false p test q e = absurd (none_is_some e)

constructor_subject : (g : KoreSignature) (xs : List SortedName) (p : KorePattern) (m : SymbolMeaning) (f : Text) (ps : KorePatterns) (q : HeadQuestion) → asked_constructor g xs p m f ps ≡ Some q → q.subject ≡ p
constructor_subject g xs p construction f ps q e = subject_if _ p _ q e
constructor_subject g xs p injection f ps q e = absurd (none_is_some e)
constructor_subject g xs p (interpretation h) f ps q e = absurd (none_is_some e)
constructor_subject g xs p foreign f ps q e = absurd (none_is_some e)

variables_subject : (g : KoreSignature) (xs : List SortedName) (p : KorePattern) (ss : KoreSorts) (ps : KorePatterns) (q : HeadQuestion) → asked_under_inj g xs p ss ps ≡ Some q → q.subject ≡ p
variables_subject g xs p ss (next_pattern (application f ts qs) no_patterns) q e = constructor_subject g xs p (meaning_of g f) f qs q e
variables_subject g (x ∷ []) p (next_sort t ss) ps q e = subject_if (are_variables (x ∷ []) (next_sort t no_sorts) ps) p (head_of_sort t) q e
variables_subject g xs p ss ps q e = absurd (cc)

of_subject : (g : KoreSignature) (xs : List SortedName) (p : KorePattern) (m : SymbolMeaning) (f : Text) (ss : KoreSorts) (ps : KorePatterns) (q : HeadQuestion) → asked_of g xs p m f ss ps ≡ Some q → q.subject ≡ p
of_subject g xs p injection f ss ps q e = variables_subject g xs p ss ps q e
of_subject g xs p construction f ss ps q e = constructor_subject g xs p construction f ps q e
of_subject g xs p (interpretation h) f ss ps q e = absurd (none_is_some e)
of_subject g xs p foreign f ss ps q e = absurd (none_is_some e)

bound_subject : (g : KoreSignature) (xs : List SortedName) (p : KorePattern) (z : Text) (t : KoreSort) (q : HeadQuestion) → asked_variable xs p z t ≡ Some q → q.subject ≡ p
bound_subject g (x ∷ []) p z t q e = subject_if (are_variables (x ∷ []) (next_sort t no_sorts) (next_pattern (variable z t) no_patterns)) p (head_of_sort t) q e
bound_subject g [] p z t q e = absurd (none_is_some e)
bound_subject g (x ∷ y ∷ xs) p z t q e = absurd (none_is_some e)

side_subject : (g : KoreSignature) (xs : List SortedName) (p r : KorePattern) (q : HeadQuestion) → asked_side g xs p r ≡ Some q → q.subject ≡ p
side_subject g xs p (application f ss ps) q e = of_subject g xs p (meaning_of g f) f ss ps q e
side_subject g xs p (variable z t) q e = bound_subject g xs p z t q e
side_subject g xs p r q e = absurd (none_is_some e)

either_subject : (g : KoreSignature) (Q : SortedName → Type 0) (xs : List SortedName) (p r : KorePattern) (q : HeadQuestion) → first_question (question_of_sides g xs p r) (question_of_sides g xs r p) ≡ Some q → AllByRecursion (λ z. is_named z.name xs ≡ false → Q z) (free_variables p ++ free_variables r) → AllByRecursion Q (free_variables q.subject)
either_subject g Q xs p r q e h = by (question_of_sides g xs p r) refl e
  where
    N : SortedName → Type 0
    N = λ z. is_named z.name xs ≡ false → Q z

    sided : (a b : KorePattern) → question_of_sides g xs a b ≡ Some q → AllByRecursion N (free_variables a) → AllByRecursion Q (free_variables q.subject)
    sided a b i all =
        let k = asked_of_sides g xs a b q i in
        subst (λ c. AllByRecursion Q (free_variables c)) (sym (side_subject g xs (variable k.asked.name k.asked.sort) b q k.from)) ((subst (AllByRecursion N) k.variables all).0 k.unbound, tt)

    by : (o : Option HeadQuestion) → question_of_sides g xs p r ≡ o → first_question o (question_of_sides g xs r p) ≡ Some q → AllByRecursion Q (free_variables q.subject)
    by (Some k) i c = sided p r (i ∙ c) (all_first N (free_variables p) (free_variables r) h)
    by None i c = sided r p c (all_second N (free_variables p) (free_variables r) h)

named_either : (x : SortedName) (before : List SortedName) (y : Text) → is_named y (before ++ x ∷ []) ≡ false → (is_named y before ≡ false) × (bytes_eq x.name y ≡ false)
named_either x [] y e = (refl, (either_false (bytes_eq x.name y) false e).0)
named_either x (z ∷ before) y e =
    let k = either_false (bytes_eq z.name y) (is_named y (before ++ x ∷ [])) e in
    let n = named_either x before y k.1 in
    (both_false (bytes_eq z.name y) (is_named y before) k.0 n.0, n.1)
  where
    both_false : (a b : Bool) → a ≡ false → b ≡ false → a || b ≡ false
    both_false true b e f = absurd (cc)
    both_false false b e f = f

pub turned_test : (x y : Text) → bytes_eq x y ≡ false → bytes_eq y x ≡ false
turned_test x y h = by (bytes_eq y x) refl
  where
    by : (b : Bool) → bytes_eq y x ≡ b → bytes_eq y x ≡ false
    by true e = absurd (cc (sym h ∙ (bytes_eq-Decides x y).1 (sym ((bytes_eq-Decides y x).0 e))))
    by false e = e

pub subject_has : (g : KoreSignature) (Q : SortedName → Type 0) (xs : List SortedName) (p : KorePattern) (q : HeadQuestion) → head_question g xs p ≡ Some q → AllByRecursion (λ z. is_named z.name xs ≡ false → Q z) (free_variables p) → AllByRecursion Q (free_variables q.subject)
subject_has g Q xs (exists s x t p) q e a = subject_has g Q (xs ++ record { name = x; sort = t } ∷ []) p q e
    (all_weaker (λ z. bytes_eq z.name x ≡ false → is_named z.name xs ≡ false → Q z) (λ z. is_named z.name (xs ++ record { name = x; sort = t } ∷ []) ≡ false → Q z) (free_variables p)
    (λ z f n. let k = named_either (record { name = x; sort = t }) xs z.name n in f (turned_test x z.name k.1) k.0)
    (without_all (λ z. is_named z.name xs ≡ false → Q z) x (free_variables p) a))
subject_has g Q xs (equals a s p r) q e h = either_subject g Q xs p r q e h
subject_has g Q xs (membership a s p r) q e h = either_subject g Q xs p r q e h
subject_has g Q xs p q e h = absurd (none_is_some e)

-- what is asked of the variable that a question is for
asked_has : (g : KoreSignature) (hand : List SortedName) (b : Bool) (kept : Formula Literal) (p : KorePattern) (q : HeadQuestion) → head_question g [] p ≡ Some q → AllFacts (Good g hand) kept → AreAtHand (free_variables p) hand → AllFacts (Good g hand) (opened_test g b q.test kept (folded g [] q.subject))
asked_has g hand b kept p q e k a = test_good g hand b q.test kept (folded g [] q.subject) k
    (folded_variables g [] (At hand) q.subject (each_itself hand (free_variables q.subject) (subject_has g (At hand) [] p q e (all_weaker (At hand) (λ z. false ≡ false → At hand z) (free_variables p) (λ z c n. c) a))))

question_has : (g : KoreSignature) (hand : List SortedName) (b : Bool) (p : KorePattern) (o : Option HeadQuestion) → head_question g [] p ≡ o → AreAtHand (free_variables p) hand → AllFacts (Good g hand) (asked_formula g [] b p o)
question_has g hand b p None e a = quotation_has g hand b p a
question_has g hand b p (Some q) e a = asked_has g hand b (literal_fact b (quotation [] p)) p q e (quotation_has g hand b p a) a

denied_has : (g : KoreSignature) (hand : List SortedName) (b : Bool) (p : KorePattern) (o : Option HeadQuestion) → denied_question g [] p ≡ o → AreAtHand (free_variables p) hand → AllFacts (Good g hand) (denied_formula g [] b p o)
denied_has g hand b p None e a = quotation_has g hand b p a
denied_has g hand b p (Some q) e a = asked_has g hand (not b) (literal_fact b (quotation [] p)) (denied_body p) q (denied_asks g [] p q e) (quotation_has g hand b p a) (subst (λ xs. AreAtHand xs hand) (sym (denied_variables p)) a)

leaf_has : (g : KoreSignature) (hand : List SortedName) → LeafHas (Good g hand) (IsAmong g hand) (opened_leaf g [])
leaf_has g hand alone b (equals a s p q) l h = sides_have g hand alone b a p q (equals_stand g [] a s p q h.stands) h.predicate (all_first (At hand) (free_variables p) (free_variables q) h.at_hand) (all_second (At hand) (free_variables p) (free_variables q) h.at_hand)
leaf_has g hand alone b (membership a s p q) l h = sides_have g hand alone b a p q (membership_stands g [] a s p q h.stands) h.predicate (all_first (At hand) (free_variables p) (free_variables q) h.at_hand) (all_second (At hand) (free_variables p) (free_variables q) h.at_hand)
leaf_has g hand alone b (ceil a s p) l h = ceil_has g hand alone b a s p h l
leaf_has g hand alone b (exists s x t p) l h = question_has g hand b (exists s x t p) (head_question g [] (exists s x t p)) refl h.at_hand
leaf_has g hand alone b (forall s x t p) l h = denied_has g hand b (forall s x t p) (denied_question g [] (forall s x t p)) refl h.at_hand
leaf_has g hand alone b p l h = quotation_has g hand b p h.at_hand

-- ---- clauses

quoted_has : (g : KoreSignature) (hand : List SortedName) (b : Bool) (p : KorePattern) → AreAtHand (free_variables p) hand → Good g hand (quoted_literal [] b p)
quoted_has g hand b (negation s p) a = quoted_has g hand (not b) p a
quoted_has g hand b p a = quotation_has g hand b p a

pub by_size : (P : List Literal → Type 0) (b : Bool) (cs ds : List (List Literal)) → AllByRecursion P cs → AllByRecursion P ds → AllByRecursion P (if b then cs else ds)
by_size P true cs ds i j = i
by_size P false cs ds i j = j

conjunct_has : (g : KoreSignature) (hand : List SortedName) (n : ℕ) (p : KorePattern) → IsAmong g hand p → AllByRecursion (AllByRecursion (Good g hand)) (clauses_of_conjunct g [] n p)
conjunct_has g hand n p h = by_size (AllByRecursion (Good g hand)) (is_too_large n (opened_predicate g [] true p)) ((quoted_literal [] true p ∷ []) ∷ []) (distributed (opened_predicate g [] true p))
    ((quoted_has g hand true p h.at_hand, tt), tt)
    (clauses_have (Good g hand) (opened_predicate g [] true p) (opened_has (Good g hand) (IsAmong g hand) (AreAmong g hand) (opened_leaf g []) (among_closed g hand) (leaf_has g hand) true true p h))

conjuncts_have : (g : KoreSignature) (hand : List SortedName) (n : ℕ) (ps : List KorePattern) → AllByRecursion (IsAmong g hand) ps → AllByRecursion (AllByRecursion (Good g hand)) (clauses_of_conjuncts g [] n ps)
conjuncts_have g hand n [] h = tt
conjuncts_have g hand n (p ∷ ps) h = all_both (AllByRecursion (Good g hand)) (clauses_of_conjunct g [] n p) (clauses_of_conjuncts g [] (n + literals_of_conjunct g [] n p) ps) (conjunct_has g hand n p h.0) (conjuncts_have g hand (n + literals_of_conjunct g [] n p) ps h.1)

pub predicates_have : (g : KoreSignature) (hand : List SortedName) (ps : List KorePattern) → AllByRecursion (IsAmong g hand) ps → AllByRecursion (AllByRecursion (Good g hand)) (without_repeats (clauses_of_conjuncts g [] 0 ps))
predicates_have g hand ps h = kept_are literals_same (AllByRecursion (Good g hand)) [] 0 (clauses_of_conjuncts g [] 0 ps) (conjuncts_have g hand 0 ps h)
