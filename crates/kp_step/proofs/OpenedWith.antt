-- Each literal that verified predicates are opened to, with well-sorted terms in the place of their variables, has the sorts of
-- its places, its variables are at hand, its terms are in normal form, and it is written right where there is room for new names.
use Rattle.std.proofs.Common.{◌≡◌, refl, sym, ap, subst, ℕ, ◌+◌, Bool, true, false, not, ◌&&◌, ◌||◌, List, [], ◌∷◌, ◌++◌, Option, Some, None}
use Rattle.std.specs.Prelude.{cond}
use Rattle.std.specs.List.{AllByRecursion, Contains, filter, flat_map}
use Rattle.std.specs.Str.{bytes_eq}
use Rattle.std.proofs.lemmas.List.{append_assoc}
use Rattle.std.proofs.lemmas.Slice.Eq.{bytes_eq-Decides}
use Rattle.kp_kore.specs.Syntax.{KoreSort, KorePattern, KorePatterns, variable, application, literal, negation, conjunction, exists, forall, ceil, equals, membership, no_patterns, next_pattern}
use Rattle.kp_kore.specs.Parts.{SortedName, is_term, free_variables, all_free_variables}
use Rattle.kp_kore.specs.Signature.{KoreSignature}
use Rattle.kp_kore.specs.Instance.{is_named, is_predicate, are_predicates, is_conjoined_pair}
use Rattle.kp_kore.specs.Foreign.{has_foreign_head}
use Rattle.kp_kore.proofs.InstanceLemmas.{first_true, second_true}
use Rattle.kp_signature.specs.Places.{part_at, after}
use Rattle.kp_signature.proofs.FaultLemmas.{same_as_wanted, keeps_rules, nothing_earlier, nothing_later, term_has_wanted_sort}
use Rattle.kp_signature.proofs.SortedInstances.{none_in_first, none_in_others}
use Rattle.kp_symbolic.specs.Terms.{Replaced, replacement_for}
use Rattle.kp_symbolic.specs.Formulas.{Formula, fact, all_of, one_of, Formulas, no_formulas, next_formula}
use Rattle.kp_symbolic.specs.States.{variables_for, Literal}
use Rattle.kp_symbolic.specs.WellFormed.{IsWellSorted, AreWellPlaced, AreAtHand}
use Rattle.kp_symbolic.specs.Alike.{literals_same}
use Rattle.kp_symbolic.specs.Folding.{term_for, folded}
use Rattle.kp_symbolic.specs.Opening.{fixed, literal_fact, HeadQuestion, head_question, denied_question, opened_same, opened_test, quotation, opened_ceil, opened_leaf, opened_predicate}
use Rattle.kp_symbolic.specs.Clauses.{distributed, without_repeats, is_too_large, quoted_literal, clauses_of_conjunct, literals_of_conjunct, clauses_of_conjuncts}
use Rattle.kp_symbolic.proofs.Distribution.{all_both, all_first, all_second, kept_are}
use Rattle.kp_symbolic.proofs.Opened.{IsClosed}
use Rattle.kp_symbolic.proofs.Folded.{folded_variables}
use Rattle.kp_symbolic.proofs.SortedFolding.{folded_sorted}
use Rattle.kp_symbolic.proofs.Read.{Stands, StandAll, StandBoth, equals_stand, membership_stands, negation_stands, conjunction_stands, disjunction_stands, implication_stands, equivalence_stands, ceil_stands, floor_stands, first_stands, others_stand, three_tests, two_tests}
use Rattle.kp_symbolic.proofs.Facts.{AllFacts, AllIn, clauses_have, Good, GoodTerm, opened_same_good}
use Rattle.kp_symbolic.proofs.Leaf.{filtered_for, named_here, asked_formula, denied_formula}
use Rattle.kp_symbolic.proofs.HeadQuestions.{all_weaker, denied_body, denied_asks, denied_variables}
use Rattle.kp_symbolic_laws.specs.Safe.{PutNormal, Formed, IsSoundQuote}
use Rattle.kp_symbolic_laws.proofs.FormedFacts.{same_formed, test_formed}
use Rattle.kp_symbolic_laws.proofs.Keeping.{test_good}
use Rattle.kp_symbolic_laws.proofs.NormalTerms.{folded_normal}
use Rattle.kp_symbolic_laws.proofs.OpenedGood.{LeafHas, opened_has, by_size, subject_has}
use Rattle.kp_symbolic_laws.proofs.Sound.{place_sound}
use Rattle.kp_symbolic_laws.proofs.FormedOpened.{question_meant}

-- in normal form, and written right where there is room for new names
abbrev pub Sound : KoreSignature → Literal → Type 0
Sound g l = Formed g (IsSoundQuote g) l

-- well-sorted, of variables at hand, and so
abbrev pub Right : KoreSignature → List SortedName → Literal → Type 0
Right g hand l = Good g hand l × Sound g l

-- ---- what holds of each literal of a formula

mutual
  pub both_facts : (P Q : Literal → Type 0) (f : Formula Literal) → AllFacts P f → AllFacts Q f → AllFacts (λ l. P l × Q l) f
  both_facts P Q (fact l) a b = (a, b)
  both_facts P Q (all_of fs) a b = both_in P Q fs a b
  both_facts P Q (one_of fs) a b = both_in P Q fs a b

  both_in : (P Q : Literal → Type 0) (fs : Formulas Literal) → AllIn P fs → AllIn Q fs → AllIn (λ l. P l × Q l) fs
  both_in P Q no_formulas a b = tt
  both_in P Q (next_formula f fs) a b = (both_facts P Q f a.0 b.0, both_in P Q fs a.1 b.1)

fixed_has : (P : Literal → Type 0) (b : Bool) → AllFacts P (fixed b)
fixed_has P true = tt
fixed_has P false = tt

-- ---- verified predicates, the variables of whose terms are at hand

abbrev At : List SortedName → SortedName → Type 0
At hand x = Contains hand x

abbrev Each : List Replaced → List SortedName → SortedName → Type 0
Each rs hand x = AllByRecursion (At hand) (variables_for x (replacement_for rs x.name))

abbrev Placed : KoreSignature → List Replaced → SortedName → Type 0
Placed g rs x = IsWellSorted g x.sort (term_for x (replacement_for rs x.name))

pub record IsAmong (g : KoreSignature) (rs : List Replaced) (hand : List SortedName) (p : KorePattern) : Type 0 where
  pub stands : Stands g rs p
  pub predicate : is_predicate p ≡ true
  pub at_hand : AllByRecursion (Each rs hand) (free_variables p)

pub record AreAmong (g : KoreSignature) (rs : List Replaced) (hand : List SortedName) (ps : KorePatterns) : Type 0 where
  pub stand : StandAll g rs ps
  pub predicates : are_predicates ps ≡ true
  pub at_hand : AllByRecursion (Each rs hand) (all_free_variables ps)

among_closed : (g : KoreSignature) (rs : List Replaced) (hand : List SortedName) → IsClosed (IsAmong g rs hand) (AreAmong g rs hand)
among_closed g rs hand = record {
  denied = λ s p h. record { stands = negation_stands g rs s p h.stands; predicate = h.predicate; at_hand = h.at_hand };
  conjoined = λ s ps h. record { stand = conjunction_stands g rs s ps h.stands; predicates = h.predicate; at_hand = h.at_hand };
  disjoined = λ s ps h. record { stand = disjunction_stands g rs s ps h.stands; predicates = h.predicate; at_hand = h.at_hand };
  implied = λ s p q h. let k = implication_stands g rs s p q h.stands in (
    record { stands = k.first; predicate = first_true (is_predicate p) (is_predicate q) h.predicate; at_hand = all_first (Each rs hand) (free_variables p) (free_variables q) h.at_hand },
    record { stands = k.second; predicate = second_true (is_predicate p) (is_predicate q) h.predicate; at_hand = all_second (Each rs hand) (free_variables p) (free_variables q) h.at_hand },
  );
  agreed = λ s p q h. let k = equivalence_stands g rs s p q h.stands in (
    record { stands = k.first; predicate = first_true (is_predicate p) (is_predicate q) h.predicate; at_hand = all_first (Each rs hand) (free_variables p) (free_variables q) h.at_hand },
    record { stands = k.second; predicate = second_true (is_predicate p) (is_predicate q) h.predicate; at_hand = all_second (Each rs hand) (free_variables p) (free_variables q) h.at_hand },
  );
  under_ceil = λ a s p e f h. record { stands = ceil_stands g rs a s p h.stands; predicate = three_tests (is_term p) (is_predicate p) (is_conjoined_pair p) h.predicate e f; at_hand = h.at_hand };
  under_floor = λ a s p e h. record { stands = floor_stands g rs a s p h.stands; predicate = two_tests (is_term p) (is_predicate p) h.predicate e; at_hand = h.at_hand };
  first = λ p ps h. record { stands = first_stands g rs p ps h.stand; predicate = first_true (is_predicate p) (are_predicates ps) h.predicates; at_hand = all_first (Each rs hand) (free_variables p) (all_free_variables ps) h.at_hand };
  others = λ p ps h. record { stand = others_stand g rs p ps h.stand; predicates = second_true (is_predicate p) (are_predicates ps) h.predicates; at_hand = all_second (Each rs hand) (free_variables p) (all_free_variables ps) h.at_hand };
}

-- ---- equalities of its terms

term_has : (g : KoreSignature) (rs : List Replaced) (hand : List SortedName) (a : KoreSort) (p : KorePattern) (h : Stands g rs p) → h.place.wanted ≡ Some a → is_term p ≡ true → AllByRecursion (Each rs hand) (free_variables p) → GoodTerm g hand a (folded g rs p)
term_has g rs hand a p h w t i = (
  folded_sorted g rs h.place p a h.faultless (term_has_wanted_sort g h.place p a t h.faultless w) t h.meant h.placed,
  folded_variables g rs (At hand) p i,
)

sides_have : (g : KoreSignature) (rs : List Replaced) (hand : List SortedName) (alone b : Bool) (a : KoreSort) (p q : KorePattern) → PutNormal g rs → StandBoth g rs a p q → is_term p && is_term q ≡ true → AllByRecursion (Each rs hand) (free_variables p) → AllByRecursion (Each rs hand) (free_variables q) →
    AllFacts (Right g hand) (opened_same g alone b a (folded g rs p) (folded g rs q))
sides_have g rs hand alone b a p q n k t i j =
    let f = opened_same g alone b a (folded g rs p) (folded g rs q) in
    both_facts (Good g hand) (Sound g) f
    (opened_same_good g hand alone b a (folded g rs p) (folded g rs q)
    (term_has g rs hand a p k.first k.first_wanted (first_true (is_term p) (is_term q) t) i)
    (term_has g rs hand a q k.second k.second_wanted (second_true (is_term p) (is_term q) t) j))
    (same_formed g (IsSoundQuote g) alone b a (folded g rs p) (folded g rs q) (folded_normal g rs p n) (folded_normal g rs q n))

-- the members of a conjunction under \ceil have the sort of \ceil
pair_stands : (g : KoreSignature) (rs : List Replaced) (a s t : KoreSort) (p q : KorePattern) → Stands g rs (ceil a s (conjunction t (next_pattern p (next_pattern q no_patterns)))) → StandBoth g rs a p q
pair_stands g rs a s t p q h =
    let ps = next_pattern q no_patterns in
    let under = nothing_later _ _ h.faultless in
    let same : a ≡ t = same_as_wanted a t (keeps_rules g (part_at h.place a) (conjunction t (next_pattern p ps)) (nothing_earlier _ _ under)).wanted in
    let members = nothing_later _ _ under in
    record {
      first = record { place = part_at (part_at h.place a) t; faultless = nothing_earlier _ _ members; meant = none_in_first (has_foreign_head g) p ps h.meant; placed = all_first (Placed g rs) (free_variables p) (free_variables q ++ []) h.placed };
      second = record {
        place = after p (part_at (part_at h.place a) t);
        faultless = nothing_earlier _ _ (nothing_later _ _ members);
        meant = none_in_first (has_foreign_head g) q no_patterns (none_in_others (has_foreign_head g) p ps h.meant);
        placed = all_first (Placed g rs) (free_variables q) [] (all_second (Placed g rs) (free_variables p) (free_variables q ++ []) h.placed);
      };
      first_wanted = ap Some (sym same);
      second_wanted = ap Some (sym same);
    }

term_ceil : (g : KoreSignature) (rs : List Replaced) (P : Literal → Type 0) (alone b : Bool) (a : KoreSort) (p : KorePattern) → is_term p ≡ true → AllFacts P (opened_ceil g rs alone b a p)
term_ceil g rs P alone b a (variable x s) e = fixed_has P b
term_ceil g rs P alone b a (literal s x) e = fixed_has P b
term_ceil g rs P alone b a (application f ss ps) e = fixed_has P b
term_ceil g rs P alone b a _ e = absurd (cc)

pair_ceil : (g : KoreSignature) (rs : List Replaced) (hand : List SortedName) (alone b : Bool) (a s : KoreSort) (p : KorePattern) → PutNormal g rs → IsAmong g rs hand (ceil a s p) → is_conjoined_pair p ≡ true → AllFacts (Right g hand) (opened_ceil g rs alone b a p)
pair_ceil g rs hand alone b a s (conjunction t (next_pattern p (next_pattern q no_patterns))) n h e =
    sides_have g rs hand alone b a p q n (pair_stands g rs a s t p q h.stands) e (all_first (Each rs hand) (free_variables p) (free_variables q ++ []) h.at_hand) (all_first (Each rs hand) (free_variables q) [] (all_second (Each rs hand) (free_variables p) (free_variables q ++ []) h.at_hand))
pair_ceil g rs hand alone b a s _ n h e = absurd (cc)

ceil_has : (g : KoreSignature) (rs : List Replaced) (hand : List SortedName) (alone b : Bool) (a s : KoreSort) (p : KorePattern) → PutNormal g rs → IsAmong g rs hand (ceil a s p) → is_term p || is_conjoined_pair p ≡ true → AllFacts (Right g hand) (opened_ceil g rs alone b a p)
ceil_has g rs hand alone b a s p n h e = by (is_term p) refl e
  where
    by : (c : Bool) → is_term p ≡ c → c || is_conjoined_pair p ≡ true → AllFacts (Right g hand) (opened_ceil g rs alone b a p)
    by true i k = term_ceil g rs (Right g hand) alone b a p i
    by false i k = pair_ceil g rs hand alone b a s p n h k

-- ---- predicates that aren't opened

abbrev StandFor : List Replaced → List Replaced → SortedName → Type 0
StandFor rs qs x = replacement_for qs x.name ≡ replacement_for rs x.name

kept_each : (rs : List Replaced) (before xs : List SortedName) → AllByRecursion (StandFor rs (filter (λ r. is_named r.name (before ++ xs)) rs)) xs
kept_each rs before [] = tt
kept_each rs before (x ∷ xs) = (
  filtered_for (λ r. is_named r.name (before ++ x ∷ xs)) rs x.name (λ r e. subst (λ n. is_named n (before ++ x ∷ xs) ≡ true) (sym ((bytes_eq-Decides r.name x.name).0 e)) (named_here x before xs)),
  subst (λ ys. AllByRecursion (StandFor rs (filter (λ r. is_named r.name ys) rs)) xs) (append_assoc before (x ∷ []) xs) (kept_each rs (before ++ x ∷ []) xs),
)

placed_still : (g : KoreSignature) (rs qs : List Replaced) (xs : List SortedName) → AllByRecursion (StandFor rs qs) xs → AreWellPlaced g rs xs → AreWellPlaced g qs xs
placed_still g rs qs [] k a = tt
placed_still g rs qs (x ∷ xs) k a = (rw k.0 a.0, placed_still g rs qs xs k.1 a.1)

hand_still : (hand : List SortedName) (rs qs : List Replaced) (xs : List SortedName) → AllByRecursion (StandFor rs qs) xs → AllByRecursion (Each rs hand) xs → AreAtHand (flat_map (λ x. variables_for x (replacement_for qs x.name)) xs) hand
hand_still hand rs qs [] k a = tt
hand_still hand rs qs (x ∷ xs) k a =
    all_both (At hand) (variables_for x (replacement_for qs x.name)) (flat_map (λ z. variables_for z (replacement_for qs z.name)) xs)
    (subst (λ o. AllByRecursion (At hand) (variables_for x o)) (sym k.0) a.0) (hand_still hand rs qs xs k.1 a.1)

put_kept : (g : KoreSignature) (test : Replaced → Bool) (rs : List Replaced) → PutNormal g rs → PutNormal g (filter test rs)
put_kept g test [] n = tt
put_kept g test (r ∷ rs) n = by (test r) (put_kept g test rs n.1)
  where
    by : (b : Bool) → PutNormal g (filter test rs) → PutNormal g (cond b (r ∷ filter test rs) (filter test rs))
    by true rest = (n.0, rest)
    by false rest = rest

quotation_has : (g : KoreSignature) (rs : List Replaced) (hand : List SortedName) (b : Bool) (p : KorePattern) → PutNormal g rs → IsAmong g rs hand p → Right g hand (record { holds = b; atom = quotation rs p })
quotation_has g rs hand b p n h =
    let qs = filter (λ r. is_named r.name (free_variables p)) rs in
    let k = kept_each rs [] (free_variables p) in (
      (placed_still g rs qs (free_variables p) k h.stands.placed, hand_still hand rs qs (free_variables p) k h.at_hand),
      ((h.predicate, place_sound g h.stands.place p h.stands.faultless h.stands.meant h.predicate), put_kept g (λ r. is_named r.name (free_variables p)) rs n),
    )

-- ---- tests of heads

asked_has : (g : KoreSignature) (rs : List Replaced) (hand : List SortedName) (c b : Bool) (p r : KorePattern) (q : HeadQuestion) → head_question g [] r ≡ Some q → AllByRecursion (Each rs hand) (free_variables r) → Right g hand (record { holds = b; atom = quotation rs p }) → AllFacts (Right g hand) (opened_test g c q.test (literal_fact b (quotation rs p)) (folded g rs q.subject))
asked_has g rs hand c b p r q e a kept =
    let f = opened_test g c q.test (literal_fact b (quotation rs p)) (folded g rs q.subject) in
    both_facts (Good g hand) (Sound g) f
    (test_good g hand c q.test (literal_fact b (quotation rs p)) (folded g rs q.subject) kept.0
    (folded_variables g rs (At hand) q.subject (subject_has g (Each rs hand) [] r q e (all_weaker (Each rs hand) (λ z. false ≡ false → Each rs hand z) (free_variables r) (λ z k n. k) a))))
    (test_formed g (IsSoundQuote g) c q.test (literal_fact b (quotation rs p)) (folded g rs q.subject) (question_meant g [] r q e) kept.1)

question_has : (g : KoreSignature) (rs : List Replaced) (hand : List SortedName) (b : Bool) (p : KorePattern) (o : Option HeadQuestion) → PutNormal g rs → head_question g [] p ≡ o → IsAmong g rs hand p → AllFacts (Right g hand) (asked_formula g rs b p o)
question_has g rs hand b p None n e h = quotation_has g rs hand b p n h
question_has g rs hand b p (Some q) n e h = asked_has g rs hand b b p p q e h.at_hand (quotation_has g rs hand b p n h)

denied_has : (g : KoreSignature) (rs : List Replaced) (hand : List SortedName) (b : Bool) (p : KorePattern) (o : Option HeadQuestion) → PutNormal g rs → denied_question g [] p ≡ o → IsAmong g rs hand p → AllFacts (Right g hand) (denied_formula g rs b p o)
denied_has g rs hand b p None n e h = quotation_has g rs hand b p n h
denied_has g rs hand b p (Some q) n e h = asked_has g rs hand (not b) b p (denied_body p) q (denied_asks g [] p q e) (subst (AllByRecursion (Each rs hand)) (sym (denied_variables p)) h.at_hand) (quotation_has g rs hand b p n h)

-- ---- the leaf

leaf_has : (g : KoreSignature) (rs : List Replaced) (hand : List SortedName) → PutNormal g rs → LeafHas (Right g hand) (IsAmong g rs hand) (opened_leaf g rs)
leaf_has g rs hand n alone b (equals a s p q) l h = sides_have g rs hand alone b a p q n (equals_stand g rs a s p q h.stands) h.predicate (all_first (Each rs hand) (free_variables p) (free_variables q) h.at_hand) (all_second (Each rs hand) (free_variables p) (free_variables q) h.at_hand)
leaf_has g rs hand n alone b (membership a s p q) l h = sides_have g rs hand alone b a p q n (membership_stands g rs a s p q h.stands) h.predicate (all_first (Each rs hand) (free_variables p) (free_variables q) h.at_hand) (all_second (Each rs hand) (free_variables p) (free_variables q) h.at_hand)
leaf_has g rs hand n alone b (ceil a s p) l h = ceil_has g rs hand alone b a s p n h l
leaf_has g rs hand n alone b (exists s x t p) l h = question_has g rs hand b (exists s x t p) (head_question g [] (exists s x t p)) n refl h
leaf_has g rs hand n alone b (forall s x t p) l h = denied_has g rs hand b (forall s x t p) (denied_question g [] (forall s x t p)) n refl h
leaf_has g rs hand n alone b p l h = quotation_has g rs hand b p n h

-- ---- clauses

quoted_has : (g : KoreSignature) (rs : List Replaced) (hand : List SortedName) (b : Bool) (p : KorePattern) → PutNormal g rs → IsAmong g rs hand p → Right g hand (quoted_literal rs b p)
quoted_has g rs hand b (negation s p) n h = quoted_has g rs hand (not b) p n ((among_closed g rs hand).denied s p h)
quoted_has g rs hand b p n h = quotation_has g rs hand b p n h

conjunct_has : (g : KoreSignature) (rs : List Replaced) (hand : List SortedName) (n : ℕ) (p : KorePattern) → PutNormal g rs → IsAmong g rs hand p → AllByRecursion (AllByRecursion (Right g hand)) (clauses_of_conjunct g rs n p)
conjunct_has g rs hand n p k h = by_size (AllByRecursion (Right g hand)) (is_too_large n (opened_predicate g rs true p)) ((quoted_literal rs true p ∷ []) ∷ []) (distributed (opened_predicate g rs true p))
    ((quoted_has g rs hand true p k h, tt), tt)
    (clauses_have (Right g hand) (opened_predicate g rs true p) (opened_has (Right g hand) (IsAmong g rs hand) (AreAmong g rs hand) (opened_leaf g rs) (among_closed g rs hand) (leaf_has g rs hand k) true true p h))

conjuncts_have : (g : KoreSignature) (rs : List Replaced) (hand : List SortedName) (n : ℕ) (ps : List KorePattern) → PutNormal g rs → AllByRecursion (IsAmong g rs hand) ps → AllByRecursion (AllByRecursion (Right g hand)) (clauses_of_conjuncts g rs n ps)
conjuncts_have g rs hand n [] k h = tt
conjuncts_have g rs hand n (p ∷ ps) k h = all_both (AllByRecursion (Right g hand)) (clauses_of_conjunct g rs n p) (clauses_of_conjuncts g rs (n + literals_of_conjunct g rs n p) ps) (conjunct_has g rs hand n p k h.0) (conjuncts_have g rs hand (n + literals_of_conjunct g rs n p) ps k h.1)

pub predicates_have : (g : KoreSignature) (rs : List Replaced) (hand : List SortedName) (ps : List KorePattern) → PutNormal g rs → AllByRecursion (IsAmong g rs hand) ps → AllByRecursion (AllByRecursion (Right g hand)) (without_repeats (clauses_of_conjuncts g rs 0 ps))
predicates_have g rs hand ps k h = kept_are literals_same (AllByRecursion (Right g hand)) [] 0 (clauses_of_conjuncts g rs 0 ps) (conjuncts_have g rs hand 0 ps k h)
