-- An opened predicate says what it said, by its sign, where what has no connective does.
use Rattle.std.proofs.Common.{◌≡◌, refl, Bool, true, false, not, ◌&&◌, ◌||◌, ◌↔◌}
use Rattle.std.specs.Prelude.{⊤, MatchBool, if◌then◌else◌}
use Rattle.std.specs.List.{AllByRecursion}
use Rattle.kp_kore.specs.Syntax.{KoreSort, KorePattern, KorePatterns, variable, set_variable, application, string_literal, literal, top, bottom, negation, next, conjunction, disjunction, implication, equivalence, rewriting, exists, forall, ceil, floor, equals, membership, mu, nu, no_patterns, next_pattern}
use Rattle.kp_kore.specs.Parts.{SortedName, is_term, free_variables, all_free_variables}
use Rattle.kp_kore.specs.Signature.{KoreSignature}
use Rattle.kp_kore.specs.Instance.{Valuation, IsTrueUnder, AllTrueUnder, NoneTrueUnder, PairSame, is_conjoined_pair}
use Rattle.kp_kore.proofs.TruthLemmas.{stable_truth}
use Rattle.kp_symbolic.specs.Formulas.{Formula, all_of, one_of, Holds, AllHold, NoneHold}
use Rattle.kp_symbolic.specs.States.{Literal}
use Rattle.kp_symbolic.specs.Opening.{is_left, Leaf, signed, fixed, pair, agreeing, opened, all_opened}
use Rattle.kp_symbolic.proofs.Distribution.{all_first, all_second}

-- ---- formulas, of any kind of facts

-- twice turned is itself
pub flip : (b : Bool) (A : Type 0) → (¬ ¬ A → A) → signed (not b) A ↔ signed b (¬ A)
flip true A s = ((λ h. h), (λ h. h))
flip false A s = ((λ h k. k h), (λ h. s h))

pub fixed_says : (P : Literal → Type 0) (b : Bool) (A : Type 0) → A → Holds P (fixed b) ↔ signed b A
fixed_says P true A a = ((λ h. a), (λ h. tt))
fixed_says P false A a = ((λ h k. h tt), (λ h k. h a))

pub never_says : (P : Literal → Type 0) (b : Bool) (A : Type 0) → ¬ A → Holds P (fixed (not b)) ↔ signed b A
never_says P true A n = ((λ h. absurd (h tt)), (λ h. absurd (n h)))
never_says P false A n = ((λ h. n), (λ h. tt))

-- an implication's two facts, an equivalence's four
pub implied_says : (P : Literal → Type 0) (A B : Type 0) (not_a f : Formula Literal) → (¬ ¬ A → A) → (¬ ¬ B → B) → Holds P not_a ↔ (¬ A) → Holds P f ↔ B → Holds P (one_of (pair not_a f)) ↔ (A → B)
implied_says P A B not_a f sa sb i j = (
  (λ h t. sb (λ n. h ((λ k. i.0 k t), ((λ k. n (j.0 k)), tt)))),
  (λ h k. k.0 (i.1 (λ t. k.1.0 (j.1 (h t))))),
)

pub unimplied_says : (P : Literal → Type 0) (A B : Type 0) (a not_f : Formula Literal) → (¬ ¬ A → A) → Holds P a ↔ A → Holds P not_f ↔ (¬ B) → Holds P (all_of (pair a not_f)) ↔ (¬ (A → B))
unimplied_says P A B a not_f sa i j = (
  (λ h f. j.0 h.1.0 (f (i.0 h.0))),
  (λ n. (i.1 (sa (λ k. n (λ t. absurd (k t)))), (j.1 (λ t. n (λ z. t)), tt))),
)

pub agreeing_says : (P : Literal → Type 0) (b : Bool) (A B : Type 0) (p not_p q not_q : Formula Literal) → (¬ ¬ A → A) → (¬ ¬ B → B) → Holds P p ↔ A → Holds P not_p ↔ (¬ A) → Holds P q ↔ signed b B → Holds P not_q ↔ signed (not b) B → Holds P (agreeing p not_p q not_q) ↔ signed b (A ↔ B)
agreeing_says P true A B p not_p q not_q sa sb i i' j j' = (
  (λ h. ((λ t. sb (λ n. h.0 ((λ k. i'.0 k t), ((λ k. n (j.0 k)), tt)))), (λ t. sa (λ n. h.1.0 ((λ k. n (i.0 k)), ((λ k. j'.0 k t), tt)))))),
  (λ e. ((λ k. k.0 (i'.1 (λ t. k.1.0 (j.1 (e.0 t))))), ((λ k. k.1.0 (j'.1 (λ t. k.0 (i.1 (e.1 t))))), tt))),
)
agreeing_says P false A B p not_p q not_q sa sb i i' j j' = (
  (λ h e. h.0 ((λ k. h.1.0 ((λ m. i'.0 k (i.0 m)), ((λ m. i'.0 k (e.1 (j'.0 m))), tt))), ((λ k. h.1.0 ((λ m. j.0 k (e.0 (i.0 m))), ((λ m. j.0 k (j'.0 m)), tt))), tt))),
  (λ n. (
    (λ k. n ((λ t. absurd (k.0 (i'.1 (λ u. k.1.0 (j.1 (λ w. n ((λ a. w), (λ a. u)))))))), (λ t. absurd (k.0 (i'.1 (λ u. k.1.0 (j.1 (λ w. n ((λ a. w), (λ a. u)))))))))),
    ((λ k. n ((λ t. absurd (k.0 (i.1 t))), (λ t. absurd (k.1.0 (j'.1 t))))), tt),
  )),
)

-- ---- predicates

-- what holds of a predicate holds of the parts that are opened
pub record IsClosed (V : KorePattern → Type 0) (W : KorePatterns → Type 0) : Type 0 where
  pub denied : (s : KoreSort) (p : KorePattern) → V (negation s p) → V p
  pub conjoined : (s : KoreSort) (ps : KorePatterns) → V (conjunction s ps) → W ps
  pub disjoined : (s : KoreSort) (ps : KorePatterns) → V (disjunction s ps) → W ps
  pub implied : (s : KoreSort) (p q : KorePattern) → V (implication s p q) → V p × V q
  pub agreed : (s : KoreSort) (p q : KorePattern) → V (equivalence s p q) → V p × V q
  pub under_ceil : (a s : KoreSort) (p : KorePattern) → is_term p ≡ false → is_conjoined_pair p ≡ false → V (ceil a s p) → V p
  pub under_floor : (a s : KoreSort) (p : KorePattern) → is_term p ≡ false → V (floor a s p) → V p
  pub first : (p : KorePattern) (ps : KorePatterns) → W (next_pattern p ps) → V p
  pub others : (p : KorePattern) (ps : KorePatterns) → W (next_pattern p ps) → W ps

pub variables_closed : (Q : SortedName → Type 0) → IsClosed (λ p. AllByRecursion Q (free_variables p)) (λ ps. AllByRecursion Q (all_free_variables ps))
variables_closed Q = record {
  denied = λ s p a. a;
  conjoined = λ s ps a. a;
  disjoined = λ s ps a. a;
  implied = λ s p q a. (all_first Q (free_variables p) (free_variables q) a, all_second Q (free_variables p) (free_variables q) a);
  agreed = λ s p q a. (all_first Q (free_variables p) (free_variables q) a, all_second Q (free_variables p) (free_variables q) a);
  under_ceil = λ a s p e f h. h;
  under_floor = λ a s p e h. h;
  first = λ p ps a. all_first Q (free_variables p) (all_free_variables ps) a;
  others = λ p ps a. all_second Q (free_variables p) (all_free_variables ps) a;
}

-- how the leaf is to say: of each predicate that is left to it and of which V holds
abbrev pub LeafSays : KoreSignature → Valuation → (Literal → Type 0) → (KorePattern → Type 0) → Leaf → Type 0
LeafSays g w P V leaf = (alone b : Bool) (p : KorePattern) → is_left p ≡ true → V p → Holds P (leaf alone b p) ↔ signed b (IsTrueUnder g w p)

-- \ceil and \floor: by two tests, by one
by_two_tests : (P : Literal → Type 0) (b c d : Bool) (leaf inner : Formula Literal) (S T : Type 0) → (c || d ≡ true → Holds P leaf ↔ signed b (MatchBool c ⊤ (MatchBool d S T))) → (c ≡ false → d ≡ false → Holds P inner ↔ signed b T) → Holds P (if c || d then leaf else inner) ↔ signed b (MatchBool c ⊤ (MatchBool d S T))
by_two_tests P b true d leaf inner S T l i = l refl
by_two_tests P b false true leaf inner S T l i = l refl
by_two_tests P b false false leaf inner S T l i = i refl refl

by_one_test : (P : Literal → Type 0) (b c : Bool) (leaf inner : Formula Literal) (S T : Type 0) → (c ≡ true → Holds P leaf ↔ signed b (MatchBool c S T)) → (c ≡ false → Holds P inner ↔ signed b T) → Holds P (if c then leaf else inner) ↔ signed b (MatchBool c S T)
by_one_test P b true leaf inner S T l i = l refl
by_one_test P b false leaf inner S T l i = i refl

-- what can't be refuted of a list of refutations
absurd_none : (P : Literal → Type 0) (leaf : Leaf) (alone : Bool) (ps : KorePatterns) → ¬ ¬ NoneHold P (all_opened leaf alone false ps) → NoneHold P (all_opened leaf alone false ps)
absurd_none P leaf alone no_patterns n = tt
absurd_none P leaf alone (next_pattern p ps) n = ((λ h. n (λ k. k.0 h)), absurd_none P leaf alone ps (λ m. n (λ k. m k.1)))

-- what isn't some is none
none_of : (g : KoreSignature) (w : Valuation) (ps : KorePatterns) → ¬ ¬ NoneTrueUnder g w ps → NoneTrueUnder g w ps
none_of g w no_patterns n = tt
none_of g w (next_pattern p ps) n = ((λ h. n (λ k. k.0 h)), none_of g w ps (λ m. n (λ k. m k.1)))

mutual
  pub opened_says : (g : KoreSignature) (w : Valuation) (P : Literal → Type 0) (V : KorePattern → Type 0) (W : KorePatterns → Type 0) (leaf : Leaf) → IsClosed V W → LeafSays g w P V leaf → (alone b : Bool) (p : KorePattern) → V p → Holds P (opened leaf alone b p) ↔ signed b (IsTrueUnder g w p)
  opened_says g w P V W leaf k l alone b (top s) a = fixed_says P b ⊤ tt
  opened_says g w P V W leaf k l alone b (bottom s) a = never_says P b ⊥ (λ h. h)
  opened_says g w P V W leaf k l alone b (negation s p) a =
      let i = opened_says g w P V W leaf k l alone (not b) p (k.denied s p a) in
      let f = flip b (IsTrueUnder g w p) (stable_truth g p w) in
      ((λ h. f.0 (i.0 h)), (λ h. i.1 (f.1 h)))
  opened_says g w P V W leaf k l alone true (conjunction s ps) a = all_say g w P V W leaf k l (alone && true) ps (k.conjoined s ps a)
  opened_says g w P V W leaf k l alone false (conjunction s ps) a = none_deny g w P V W leaf k l (alone && false) ps (k.conjoined s ps a)
  opened_says g w P V W leaf k l alone true (disjunction s ps) a = let i = none_say g w P V W leaf k l (alone && false) ps (k.disjoined s ps a) in ((λ h n. h (i.1 n)), (λ h n. h (i.0 n)))
  opened_says g w P V W leaf k l alone false (disjunction s ps) a = let i = all_deny g w P V W leaf k l (alone && true) ps (k.disjoined s ps a) in ((λ h n. n (i.0 h)), (λ h. i.1 (none_of g w ps h)))
  opened_says g w P V W leaf k l alone true (implication s p q) a =
      implied_says P (IsTrueUnder g w p) (IsTrueUnder g w q) (opened leaf (alone && false) false p) (opened leaf (alone && false) true q) (stable_truth g p w) (stable_truth g q w)
      (opened_says g w P V W leaf k l (alone && false) false p (k.implied s p q a).0) (opened_says g w P V W leaf k l (alone && false) true q (k.implied s p q a).1)
  opened_says g w P V W leaf k l alone false (implication s p q) a =
      unimplied_says P (IsTrueUnder g w p) (IsTrueUnder g w q) (opened leaf (alone && true) true p) (opened leaf (alone && true) false q) (stable_truth g p w)
      (opened_says g w P V W leaf k l (alone && true) true p (k.implied s p q a).0) (opened_says g w P V W leaf k l (alone && true) false q (k.implied s p q a).1)
  opened_says g w P V W leaf k l alone b (equivalence s p q) a =
      agreeing_says P b (IsTrueUnder g w p) (IsTrueUnder g w q) (opened leaf false true p) (opened leaf false false p) (opened leaf false b q) (opened leaf false (not b) q) (stable_truth g p w) (stable_truth g q w)
      (opened_says g w P V W leaf k l false true p (k.agreed s p q a).0) (opened_says g w P V W leaf k l false false p (k.agreed s p q a).0)
      (opened_says g w P V W leaf k l false b q (k.agreed s p q a).1) (opened_says g w P V W leaf k l false (not b) q (k.agreed s p q a).1)
  opened_says g w P V W leaf k l alone b (ceil t s p) a = by_two_tests P b (is_term p) (is_conjoined_pair p) (leaf alone b (ceil t s p)) (opened leaf alone b p) (PairSame g w p) (IsTrueUnder g w p) (λ e. l alone b (ceil t s p) e a) (λ e f. opened_says g w P V W leaf k l alone b p (k.under_ceil t s p e f a))
  opened_says g w P V W leaf k l alone b (floor t s p) a = by_one_test P b (is_term p) (leaf alone b (floor t s p)) (opened leaf alone b p) _ (IsTrueUnder g w p) (λ e. l alone b (floor t s p) e a) (λ e. opened_says g w P V W leaf k l alone b p (k.under_floor t s p e a))
  opened_says g w P V W leaf k l alone b (variable x s) a = l alone b (variable x s) refl a
  opened_says g w P V W leaf k l alone b (set_variable x s) a = l alone b (set_variable x s) refl a
  opened_says g w P V W leaf k l alone b (application f ss ps) a = l alone b (application f ss ps) refl a
  opened_says g w P V W leaf k l alone b (string_literal x) a = l alone b (string_literal x) refl a
  opened_says g w P V W leaf k l alone b (literal s x) a = l alone b (literal s x) refl a
  opened_says g w P V W leaf k l alone b (next s p) a = l alone b (next s p) refl a
  opened_says g w P V W leaf k l alone b (rewriting s p q) a = l alone b (rewriting s p q) refl a
  opened_says g w P V W leaf k l alone b (exists s x t p) a = l alone b (exists s x t p) refl a
  opened_says g w P V W leaf k l alone b (forall s x t p) a = l alone b (forall s x t p) refl a
  opened_says g w P V W leaf k l alone b (equals t s p q) a = l alone b (equals t s p q) refl a
  opened_says g w P V W leaf k l alone b (membership t s p q) a = l alone b (membership t s p q) refl a
  opened_says g w P V W leaf k l alone b (mu x s p) a = l alone b (mu x s p) refl a
  opened_says g w P V W leaf k l alone b (nu x s p) a = l alone b (nu x s p) refl a

  all_say : (g : KoreSignature) (w : Valuation) (P : Literal → Type 0) (V : KorePattern → Type 0) (W : KorePatterns → Type 0) (leaf : Leaf) → IsClosed V W → LeafSays g w P V leaf → (alone : Bool) (ps : KorePatterns) → W ps → AllHold P (all_opened leaf alone true ps) ↔ AllTrueUnder g w ps
  all_say g w P V W leaf k l alone no_patterns a = ((λ h. h), (λ h. h))
  all_say g w P V W leaf k l alone (next_pattern p ps) a = let i = opened_says g w P V W leaf k l alone true p (k.first p ps a) in let j = all_say g w P V W leaf k l alone ps (k.others p ps a) in ((λ h. (i.0 h.0, j.0 h.1)), (λ h. (i.1 h.0, j.1 h.1)))

  none_say : (g : KoreSignature) (w : Valuation) (P : Literal → Type 0) (V : KorePattern → Type 0) (W : KorePatterns → Type 0) (leaf : Leaf) → IsClosed V W → LeafSays g w P V leaf → (alone : Bool) (ps : KorePatterns) → W ps → NoneHold P (all_opened leaf alone true ps) ↔ NoneTrueUnder g w ps
  none_say g w P V W leaf k l alone no_patterns a = ((λ h. h), (λ h. h))
  none_say g w P V W leaf k l alone (next_pattern p ps) a = let i = opened_says g w P V W leaf k l alone true p (k.first p ps a) in let j = none_say g w P V W leaf k l alone ps (k.others p ps a) in ((λ h. ((λ t. h.0 (i.1 t)), j.0 h.1)), (λ h. ((λ t. h.0 (i.0 t)), j.1 h.1)))

  all_deny : (g : KoreSignature) (w : Valuation) (P : Literal → Type 0) (V : KorePattern → Type 0) (W : KorePatterns → Type 0) (leaf : Leaf) → IsClosed V W → LeafSays g w P V leaf → (alone : Bool) (ps : KorePatterns) → W ps → AllHold P (all_opened leaf alone false ps) ↔ NoneTrueUnder g w ps
  all_deny g w P V W leaf k l alone no_patterns a = ((λ h. h), (λ h. h))
  all_deny g w P V W leaf k l alone (next_pattern p ps) a = let i = opened_says g w P V W leaf k l alone false p (k.first p ps a) in let j = all_deny g w P V W leaf k l alone ps (k.others p ps a) in ((λ h. (i.0 h.0, j.0 h.1)), (λ h. (i.1 h.0, j.1 h.1)))

  none_deny : (g : KoreSignature) (w : Valuation) (P : Literal → Type 0) (V : KorePattern → Type 0) (W : KorePatterns → Type 0) (leaf : Leaf) → IsClosed V W → LeafSays g w P V leaf → (alone : Bool) (ps : KorePatterns) → W ps → (¬ NoneHold P (all_opened leaf alone false ps)) ↔ (¬ AllTrueUnder g w ps)
  none_deny g w P V W leaf k l alone no_patterns a = ((λ h n. h tt), (λ h n. h tt))
  none_deny g w P V W leaf k l alone (next_pattern p ps) a =
      let i = opened_says g w P V W leaf k l alone false p (k.first p ps a) in
      let j = none_deny g w P V W leaf k l alone ps (k.others p ps a) in (
        (λ h t. h ((λ z. i.0 z t.0), absurd_none P leaf alone ps (λ m. j.0 m t.1))),
        (λ n z. z.0 (i.1 (λ t. j.1 (λ u. n (t, u)) z.1))),
      )
