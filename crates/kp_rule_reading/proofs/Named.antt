-- Variables of the sides of a rule that are its left term's.
use Rattle.std.proofs.Common.{◌≡◌, refl, sym, ◌∙◌, ap, subst, Bool, true, false, ◌&&◌, ◌||◌, not, List, [], ◌∷◌, ◌++◌}
use Rattle.std.specs.Prelude.{Some}
use Rattle.std.specs.List.{list_all, AllByRecursion}
use Rattle.std.specs.Str.{bytes_eq}
use Rattle.std.proofs.lemmas.Slice.Eq.{bytes_eq-Decides}
use Rattle.std.proofs.lemmas.List.Folds.{list_all-append}
use Rattle.kp_kore.specs.Syntax.{Text, KoreSort, KorePattern, KorePatterns, variable, set_variable, application, string_literal, literal, top, bottom, negation, next, conjunction, disjunction, implication, equivalence, rewriting, exists, forall, ceil, floor, equals, membership, mu, nu, no_patterns, next_pattern}
use Rattle.kp_kore.specs.Parts.{SortedName, free_variables, all_free_variables}
use Rattle.kp_kore.specs.Instance.{is_named, conjuncts, all_conjuncts}
use Rattle.kp_kore.specs.Rules.{Rewrite, rewrite_of, constrained_term}
use Rattle.kp_signature.proofs.RuleSides.{sides_of, no_binders, holds_of_term}
use Rattle.kp_ground.specs.Slots.{is_one_of}
use Rattle.kp_compile.specs.Exact.{are_named}
use Rattle.kp_compile.proofs.Reading.{both_so}
use Rattle.kp_rule_reading.specs.ReadRules.{is_binder, is_predicate_read, RightPasses}
use Rattle.kp_rule_reading.proofs.PlainRules.{no_binder}
use Rattle.kp_rule_reading.proofs.ReadParts.{both_true}

-- ---- the one term of a right side

all_joined : (P : KorePattern → Type 0) (ps qs : List KorePattern) → AllByRecursion P ps → AllByRecursion P qs → AllByRecursion P (ps ++ qs)
all_joined P [] qs h k = k
all_joined P (p ∷ ps) qs h k = (h.0, all_joined P ps qs h.1 k)

mutual
  pub conjuncts_pass : (f : SortedName → Bool) (p : KorePattern) → list_all f (free_variables p) ≡ true → AllByRecursion (λ q. list_all f (free_variables q) ≡ true) (conjuncts p)
  conjuncts_pass f (conjunction s ps) h = all_conjuncts_pass f ps h
  conjuncts_pass f (variable x s) h = (h, tt)
  conjuncts_pass f (set_variable x s) h = (h, tt)
  conjuncts_pass f (application c ss ps) h = (h, tt)
  conjuncts_pass f (string_literal t) h = (h, tt)
  conjuncts_pass f (literal s t) h = (h, tt)
  conjuncts_pass f (top s) h = (h, tt)
  conjuncts_pass f (bottom s) h = (h, tt)
  conjuncts_pass f (negation s p) h = (h, tt)
  conjuncts_pass f (next s p) h = (h, tt)
  conjuncts_pass f (disjunction s ps) h = (h, tt)
  conjuncts_pass f (implication s p q) h = (h, tt)
  conjuncts_pass f (equivalence s p q) h = (h, tt)
  conjuncts_pass f (rewriting s p q) h = (h, tt)
  conjuncts_pass f (exists s x t p) h = (h, tt)
  conjuncts_pass f (forall s x t p) h = (h, tt)
  conjuncts_pass f (ceil a s p) h = (h, tt)
  conjuncts_pass f (floor a s p) h = (h, tt)
  conjuncts_pass f (equals a s p q) h = (h, tt)
  conjuncts_pass f (membership a s p q) h = (h, tt)
  conjuncts_pass f (mu x s p) h = (h, tt)
  conjuncts_pass f (nu x s p) h = (h, tt)

  all_conjuncts_pass : (f : SortedName → Bool) (ps : KorePatterns) → list_all f (all_free_variables ps) ≡ true → AllByRecursion (λ q. list_all f (free_variables q) ≡ true) (all_conjuncts ps)
  all_conjuncts_pass f no_patterns h = tt
  all_conjuncts_pass f (next_pattern p ps) h =
      let both = both_true (list_all f (free_variables p)) (list_all f (all_free_variables ps)) (sym (list_all-append f (free_variables p) (all_free_variables ps)) ∙ h) in
      all_joined (λ q. list_all f (free_variables q) ≡ true) (conjuncts p) (all_conjuncts ps) (conjuncts_pass f p both.0) (all_conjuncts_pass f ps both.1)

not_so : (b : Bool) → b ≡ false → not b ≡ true
not_so true e = absurd (cc)
not_so false e = refl

pub right_passes : (s : KoreSort) (l r : KorePattern) (m : Rewrite) → rewrite_of (rewriting s l r) ≡ Some m → RightPasses m.left r m.right
right_passes s l r m h plain named =
    let f : SortedName → Bool = λ x. is_named x.name (free_variables m.left) in
    (holds_of_term (λ q. list_all f (free_variables q) ≡ true) r m.right (sym (ap constrained_term (no_binders r (no_binder r (not_so (is_binder r) plain)))) ∙ (sides_of s l r m h).right) (conjuncts_pass f r named)).0

-- ---- conditions

pub conditions_named : (f : Text → Bool) (cs : List KorePattern) → list_all (is_predicate_read f) cs ≡ true → AllByRecursion (λ c. list_all (λ x. f x.name) (free_variables c) ≡ true) cs
conditions_named f [] h = tt
conditions_named f (c ∷ cs) h =
    let both = both_true (is_predicate_read f c) (list_all (is_predicate_read f) cs) h in
    ((both_true _ (list_all (λ x. f x.name) (free_variables c)) both.0).1, conditions_named f cs both.1)

-- ---- names

pub either_so : (b c : Bool) (P : Type 0) → (b ≡ true → P) → (c ≡ true → P) → b || c ≡ true → P
either_so true c P f g h = f refl
either_so false c P f g h = g h

pub named_among : (xs : List Text) (vs : List SortedName) (y : Text) → are_named xs vs ≡ true → is_named y vs ≡ true → is_one_of y xs ≡ true
named_among xs [] y h k = absurd (cc)
named_among xs (v ∷ vs) y h k =
    let both = both_true (is_one_of v.name xs) (are_named xs vs) h in
    either_so (bytes_eq v.name y) (is_named y vs) (is_one_of y xs ≡ true) (λ e. subst (λ z. is_one_of z xs ≡ true) ((bytes_eq-Decides v.name y).0 e) both.0) (λ there. named_among xs vs y both.1 there) k

-- variables that are named by others are among the names that these have
pub all_among : (xs : List Text) (vs ws : List SortedName) → are_named xs vs ≡ true → list_all (λ x. is_named x.name vs) ws ≡ true → are_named xs ws ≡ true
all_among xs vs [] h k = refl
all_among xs vs (w ∷ ws) h k =
    let both = both_true (is_named w.name vs) (list_all (λ x. is_named x.name vs) ws) k in
    both_so _ _ (named_among xs vs w.name h both.0) (all_among xs vs ws h both.1)

pub each_among : (xs : List Text) (vs : List SortedName) (cs : List KorePattern) → are_named xs vs ≡ true → AllByRecursion (λ c. list_all (λ x. is_named x.name vs) (free_variables c) ≡ true) cs → AllByRecursion (λ c. are_named xs (free_variables c) ≡ true) cs
each_among xs vs [] h k = tt
each_among xs vs (c ∷ cs) h k = (all_among xs vs (free_variables c) h k.0, each_among xs vs cs h k.1)

-- what a plain right side is
pub plain_parts : (plain binder tops named : Bool) → plain ≡ (not binder && (tops && named)) → not plain ≡ false → (binder ≡ false) × (named ≡ true)
plain_parts true true tops named e h = absurd (cc)
plain_parts true false true named e h = (refl, sym e)
plain_parts true false false named e h = absurd (cc)
plain_parts false binder tops named e h = absurd (cc)
