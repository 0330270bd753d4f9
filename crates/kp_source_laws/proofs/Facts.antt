-- What holds of each atom that stands in a formula or in clauses holds of each literal's.
use Rattle.std.proofs.Common.{◌≡◌, refl, subst, inl, inr, List, [], ◌∷◌, ◌++◌}
use Rattle.std.specs.List.{AllByRecursion, flat_map}
use Rattle.kp_kore.specs.Steps.{AnyByRecursion}
use Rattle.kp_symbolic.specs.Formulas.{Formula, fact, all_of, one_of, Formulas, no_formulas, next_formula}
use Rattle.kp_symbolic.specs.States.{Atom, Literal}
use Rattle.kp_symbolic.specs.Sources.{facts_of, all_facts_of, StandsIn}
use Rattle.kp_symbolic.proofs.Distribution.{all_both}
use Rattle.kp_symbolic.proofs.Facts.{AllFacts, AllIn}
use Rattle.kp_source_laws.specs.Sourced.{HasFact}

abbrev HasAtom : List Literal → Atom → Type 0
HasAtom c a = AnyByRecursion (λ (l : Literal). l.atom ≡ a) c

any_first : (c d : List Literal) (a : Atom) → HasAtom c a → HasAtom (c ++ d) a
any_first [] d a k = absurd k
any_first (l ∷ c) d a (inl e) = inl e
any_first (l ∷ c) d a (inr k) = inr (any_first c d a k)

any_second : (c d : List Literal) (a : Atom) → HasAtom d a → HasAtom (c ++ d) a
any_second [] d a k = k
any_second (l ∷ c) d a k = inr (any_second c d a k)

mutual
  pub facts_have : (P : Atom → Type 0) (f : Formula Literal) → ((a : Atom) → HasFact f a → P a) → AllFacts (λ l. P l.atom) f
  facts_have P (fact l) h = h l.atom (inl refl)
  facts_have P (all_of fs) h = all_facts_have P fs h
  facts_have P (one_of fs) h = all_facts_have P fs h

  all_facts_have : (P : Atom → Type 0) (fs : Formulas Literal) → ((a : Atom) → HasAtom (all_facts_of fs) a → P a) → AllIn (λ l. P l.atom) fs
  all_facts_have P no_formulas h = tt
  all_facts_have P (next_formula f fs) h = (facts_have P f (λ a k. h a (any_first (facts_of f) (all_facts_of fs) a k)), all_facts_have P fs (λ a k. h a (any_second (facts_of f) (all_facts_of fs) a k)))

clause_has : (P : Atom → Type 0) (c : List Literal) → ((a : Atom) → HasAtom c a → P a) → AllByRecursion (λ l. P l.atom) c
clause_has P [] h = tt
clause_has P (l ∷ c) h = (h l.atom (inl refl), clause_has P c (λ a k. h a (inr k)))

pub each_has : (P : Atom → Type 0) (cs : List (List Literal)) → ((a : Atom) → StandsIn cs a → P a) → AllByRecursion (AllByRecursion (λ l. P l.atom)) cs
each_has P [] h = tt
each_has P (c ∷ cs) h = (clause_has P c (λ a k. h a (inl k)), each_has P cs (λ a k. h a (inr k)))

in_clause : (P : Atom → Type 0) (c : List Literal) (a : Atom) → AllByRecursion (λ l. P l.atom) c → HasAtom c a → P a
in_clause P [] a h k = absurd k
in_clause P (l ∷ c) a h (inl e) = subst P e h.0
in_clause P (l ∷ c) a h (inr k) = in_clause P c a h.1 k

pub in_clauses : (P : Atom → Type 0) (cs : List (List Literal)) (a : Atom) → AllByRecursion (AllByRecursion (λ l. P l.atom)) cs → StandsIn cs a → P a
in_clauses P [] a h k = absurd k
in_clauses P (c ∷ cs) a h (inl k) = in_clause P c a h.0 k
in_clauses P (c ∷ cs) a h (inr k) = in_clauses P cs a h.1 k

pub all_flat : {X Y : Type 0} (P : X → Type 0) (Q : Y → Type 0) (f : X → List Y) (xs : List X) → ((x : X) → P x → AllByRecursion Q (f x)) → AllByRecursion P xs → AllByRecursion Q (flat_map f xs)
all_flat P Q f [] k h = tt
all_flat P Q f (x ∷ xs) k h = all_both Q (f x) (flat_map f xs) (k x h.0) (all_flat P Q f xs k h.1)
