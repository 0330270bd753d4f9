-- Rules after which one configuration follows.
use Rattle.std.proofs.Common.{◌≡◌, refl, sym, ap, ◌∙◌, Bool, true, false, ◌&&◌, not, cond, List, [], ◌∷◌, ◌++◌}
use Rattle.std.specs.Prelude.{MatchBool}
use Rattle.std.specs.List.{list_all, filter, AllByRecursion}
use Rattle.kp_kore.specs.Syntax.{KorePattern, variable, set_variable, application, string_literal, literal, top, bottom, negation, next, conjunction, disjunction, implication, equivalence, rewriting, exists, forall, ceil, floor, equals, membership, mu, nu}
use Rattle.kp_kore.specs.Parts.{SortedName, free_variables}
use Rattle.kp_kore.specs.Instance.{is_named}
use Rattle.kp_kore.specs.Rules.{Rewrite, top_binders, new_variables_of}
use Rattle.kp_rules.specs.Bodies.{IsTop, IsPlain}
use Rattle.kp_rule_reading.specs.ReadRules.{is_binder, is_top_pattern, is_plain_by}
use Rattle.kp_rule_reading.proofs.ReadParts.{both_true, and_true}

binders : (p : KorePattern) → MatchBool (is_binder p) (top_binders p ≡ [] → ⊥) (top_binders p ≡ [])
binders (variable x s) = refl
binders (set_variable x s) = refl
binders (application f ss ps) = refl
binders (string_literal t) = refl
binders (literal s t) = refl
binders (top s) = refl
binders (bottom s) = refl
binders (negation s p) = refl
binders (next s p) = refl
binders (conjunction s ps) = refl
binders (disjunction s ps) = refl
binders (implication s p q) = refl
binders (equivalence s p q) = refl
binders (rewriting s p q) = refl
binders (exists s x t p) = λ h. absurd (cc)
binders (forall s x t p) = refl
binders (ceil a s p) = refl
binders (floor a s p) = refl
binders (equals a s p q) = refl
binders (membership a s p q) = refl
binders (mu x s p) = refl
binders (nu x s p) = refl

tops : (p : KorePattern) → is_top_pattern p ≡ true → IsTop p
tops (variable x s) h = absurd (cc)
tops (set_variable x s) h = absurd (cc)
tops (application f ss ps) h = absurd (cc)
tops (string_literal t) h = absurd (cc)
tops (literal s t) h = absurd (cc)
tops (top s) h = (s, refl)
tops (bottom s) h = absurd (cc)
tops (negation s p) h = absurd (cc)
tops (next s p) h = absurd (cc)
tops (conjunction s ps) h = absurd (cc)
tops (disjunction s ps) h = absurd (cc)
tops (implication s p q) h = absurd (cc)
tops (equivalence s p q) h = absurd (cc)
tops (rewriting s p q) h = absurd (cc)
tops (exists s x t p) h = absurd (cc)
tops (forall s x t p) h = absurd (cc)
tops (ceil a s p) h = absurd (cc)
tops (floor a s p) h = absurd (cc)
tops (equals a s p q) h = absurd (cc)
tops (membership a s p q) h = absurd (cc)
tops (mu x s p) h = absurd (cc)
tops (nu x s p) h = absurd (cc)

all_tops : (ps : List KorePattern) → list_all is_top_pattern ps ≡ true → AllByRecursion IsTop ps
all_tops [] h = tt
all_tops (p ∷ ps) h = let k = both_true (is_top_pattern p) (list_all is_top_pattern ps) h in (tops p k.0, all_tops ps k.1)

all_are_tops : (ps : List KorePattern) → AllByRecursion IsTop ps → list_all is_top_pattern ps ≡ true
all_are_tops [] h = refl
all_are_tops (p ∷ ps) h = and_true (is_top_pattern p) (list_all is_top_pattern ps) (ap is_top_pattern h.0.1) (all_are_tops ps h.1)

none_left : (f : SortedName → Bool) (xs : List SortedName) → list_all f xs ≡ true → filter (λ x. not (f x)) xs ≡ []
none_left f [] h = refl
none_left f (x ∷ xs) h = let k = both_true (f x) (list_all f xs) h in ap (λ b. cond (not b) (x ∷ filter (λ y. not (f y)) xs) (filter (λ y. not (f y)) xs)) k.0 ∙ none_left f xs k.1

all_pass : (f : SortedName → Bool) (xs : List SortedName) → filter (λ x. not (f x)) xs ≡ [] → list_all f xs ≡ true
all_pass f [] h = refl
all_pass f (x ∷ xs) h = by (f x) (λ k. all_pass f xs k) h
  where
    by : (b : Bool) → (filter (λ y. not (f y)) xs ≡ [] → list_all f xs ≡ true) → cond (not b) (x ∷ filter (λ y. not (f y)) xs) (filter (λ y. not (f y)) xs) ≡ [] → b && list_all f xs ≡ true
    by true rest k = rest k
    by false rest k = absurd (cc)

first_empty : (xs ys : List SortedName) → xs ++ ys ≡ [] → xs ≡ []
first_empty [] ys h = refl
first_empty (x ∷ xs) ys h = absurd (cc)

second_empty : (xs ys : List SortedName) → xs ++ ys ≡ [] → ys ≡ []
second_empty [] ys h = h
second_empty (x ∷ xs) ys h = absurd (cc)

named : KorePattern → SortedName → Bool
named left x = is_named x.name (free_variables left)

pub no_binder : (p : KorePattern) → not (is_binder p) ≡ true → top_binders p ≡ []
no_binder p h = by (is_binder p) h (binders p)
  where
    by : (b : Bool) → not b ≡ true → MatchBool b (top_binders p ≡ [] → ⊥) (top_binders p ≡ []) → top_binders p ≡ []
    by true k m = absurd (cc)
    by false k m = m

not_binder : (p : KorePattern) → top_binders p ≡ [] → not (is_binder p) ≡ true
not_binder p h = by (is_binder p) (binders p)
  where
    by : (b : Bool) → MatchBool b (top_binders p ≡ [] → ⊥) (top_binders p ≡ []) → not b ≡ true
    by true m = absurd (m h)
    by false m = refl

pub plain : (m : Rewrite) (r : KorePattern) → m.new_variables ≡ new_variables_of m.left r → is_plain_by (λ y. is_named y (free_variables m.left)) r m.ensured ≡ true → IsPlain m
unfolding named
plain m r e h =
    let k = both_true (not (is_binder r)) (list_all is_top_pattern m.ensured && list_all (named m.left) (free_variables r)) h in
    let n = both_true (list_all is_top_pattern m.ensured) (list_all (named m.left) (free_variables r)) k.1 in
    record {
      new_variables = e ∙ ap (λ xs. xs ++ filter (λ x. not (named m.left x)) (free_variables r)) (no_binder r k.0) ∙ none_left (named m.left) (free_variables r) n.1;
      ensured = all_tops m.ensured n.0;
    }

pub is_plain : (m : Rewrite) (r : KorePattern) → m.new_variables ≡ new_variables_of m.left r → IsPlain m → is_plain_by (λ y. is_named y (free_variables m.left)) r m.ensured ≡ true
unfolding named
is_plain m r e h =
    let none : new_variables_of m.left r ≡ [] = sym e ∙ h.new_variables in
    and_true (not (is_binder r)) (list_all is_top_pattern m.ensured && list_all (named m.left) (free_variables r))
    (not_binder r (first_empty (top_binders r) (filter (λ x. not (named m.left x)) (free_variables r)) none))
    (and_true (list_all is_top_pattern m.ensured) (list_all (named m.left) (free_variables r)) (all_are_tops m.ensured h.ensured)
    (all_pass (named m.left) (free_variables r) (second_empty (top_binders r) (filter (λ x. not (named m.left x)) (free_variables r)) none)))
