-- The free variables and the conjuncts of a substituted pattern.
use Rattle.std.proofs.Common.{◌≡◌, refl, sym, ap, ap₂, ◌∙◌, Bool, true, false, not, cond, ◌||◌, List, [], ◌∷◌, ◌++◌}
use Rattle.std.specs.List.{filter}
use Rattle.std.specs.Str.{bytes_eq}
use Rattle.std.proofs.lemmas.Slice.Eq.{bytes_eq-Decides}
use Rattle.std.proofs.lemmas.List.Elements.{filter-append}
use Rattle.kp_kore.specs.Syntax.{Text, KoreSort, KorePattern, KorePatterns, variable, set_variable, application, string_literal, literal, top, bottom, negation, next, conjunction, disjunction, implication, equivalence, rewriting, exists, forall, ceil, floor, equals, membership, mu, nu, no_patterns, next_pattern}
use Rattle.kp_kore.specs.Parts.{SortedName, is_term, free_variables, all_free_variables, without_name}
use Rattle.kp_kore.specs.Instance.{conjuncts}
use Rattle.kp_pattern_substitution.specs.Substitution.{ReplacedName, put_for, is_replaced, hiding, substituted, all_substituted, AreClosed}
use Rattle.kp_pattern_substitution.proofs.Substituted.{closed_hiding}

-- the variables that stay
abbrev pub staying : List ReplacedName → List SortedName → List SortedName
staying rs = filter (λ x. not (is_replaced rs x.name))

staying_both : (rs : List ReplacedName) (xs ys : List SortedName) → staying rs (xs ++ ys) ≡ staying rs xs ++ staying rs ys
staying_both rs xs ys = filter-append (λ x. not (is_replaced rs x.name)) xs ys

-- one variable
put_free : (rs : List ReplacedName) (x : Text) (s : KoreSort) → AreClosed rs → free_variables (put_for rs x s) ≡ cond (not (is_replaced rs x)) (record { name = x; sort = s } ∷ []) []
put_free [] x s h = refl
put_free (r ∷ rs) x s h = by (bytes_eq r.name x) (put_free rs x s h.1)
  where
    by : (b : Bool) → free_variables (put_for rs x s) ≡ cond (not (is_replaced rs x)) (record { name = x; sort = s } ∷ []) [] →
        free_variables (cond b r.term (put_for rs x s)) ≡ cond (not (b || is_replaced rs x)) (record { name = x; sort = s } ∷ []) []
    by true e = h.0.closed
    by false e = e

-- under a binder
hidden_names : (rs : List ReplacedName) (x y : Text) → bytes_eq y x ≡ false → is_replaced (hiding x rs) y ≡ is_replaced rs y
hidden_names [] x y n = refl
hidden_names (r ∷ rs) x y n = by (bytes_eq r.name x) refl (hidden_names rs x y n)
  where
    other : bytes_eq r.name x ≡ true → (b : Bool) → bytes_eq r.name y ≡ b → b ≡ false
    other e true f =
        let there : bytes_eq y x ≡ true = (bytes_eq-Decides y x).1 (sym ((bytes_eq-Decides r.name y).0 f) ∙ (bytes_eq-Decides r.name x).0 e) in
        absurd (cc)
    other e false f = refl

    by : (b : Bool) → bytes_eq r.name x ≡ b → is_replaced (hiding x rs) y ≡ is_replaced rs y → is_replaced (cond (not b) (r ∷ hiding x rs) (hiding x rs)) y ≡ bytes_eq r.name y || is_replaced rs y
    by true e k = k ∙ sym (ap (λ b. b || is_replaced rs y) (other e (bytes_eq r.name y) refl))
    by false e k = ap (λ b. bytes_eq r.name y || b) k

hidden_stay : (rs : List ReplacedName) (x : Text) (ys : List SortedName) → without_name x (staying (hiding x rs) ys) ≡ staying rs (without_name x ys)
hidden_stay rs x [] = refl
hidden_stay rs x (y ∷ ys) = by (bytes_eq y.name x) refl (hidden_stay rs x ys)
  where
    kept : bytes_eq y.name x ≡ true → (c : Bool) → without_name x (cond c (y ∷ staying (hiding x rs) ys) (staying (hiding x rs) ys)) ≡ without_name x (staying (hiding x rs) ys)
    kept e true = ap (λ b. cond (not b) (y ∷ without_name x (staying (hiding x rs) ys)) (without_name x (staying (hiding x rs) ys))) e
    kept e false = refl

    other : bytes_eq y.name x ≡ false → (c : Bool) → without_name x (cond c (y ∷ staying (hiding x rs) ys) (staying (hiding x rs) ys)) ≡ cond c (y ∷ without_name x (staying (hiding x rs) ys)) (without_name x (staying (hiding x rs) ys))
    other e true = ap (λ b. cond (not b) (y ∷ without_name x (staying (hiding x rs) ys)) (without_name x (staying (hiding x rs) ys))) e
    other e false = refl

    by : (b : Bool) → bytes_eq y.name x ≡ b → without_name x (staying (hiding x rs) ys) ≡ staying rs (without_name x ys) →
        without_name x (cond (not (is_replaced (hiding x rs) y.name)) (y ∷ staying (hiding x rs) ys) (staying (hiding x rs) ys)) ≡ staying rs (cond (not b) (y ∷ without_name x ys) (without_name x ys))
    by true e k = kept e (not (is_replaced (hiding x rs) y.name)) ∙ k
    by false e k =
        other e (not (is_replaced (hiding x rs) y.name))
        ∙ ap (λ c. cond c (y ∷ without_name x (staying (hiding x rs) ys)) (without_name x (staying (hiding x rs) ys))) (ap not (hidden_names rs x y.name e))
        ∙ ap (λ l. cond (not (is_replaced rs y.name)) (y ∷ l) l) k

abbrev Stay : List ReplacedName → KorePattern → Type 0
Stay rs p = free_variables (substituted rs p) ≡ staying rs (free_variables p)

both_stay : (rs : List ReplacedName) (p q : KorePattern) → Stay rs p → Stay rs q → free_variables (substituted rs p) ++ free_variables (substituted rs q) ≡ staying rs (free_variables p ++ free_variables q)
both_stay rs p q e f = ap₂ (λ a b. a ++ b) e f ∙ sym (staying_both rs (free_variables p) (free_variables q))

bound_stay : (rs : List ReplacedName) (x : Text) (p : KorePattern) → Stay (hiding x rs) p → without_name x (free_variables (substituted (hiding x rs) p)) ≡ staying rs (without_name x (free_variables p))
bound_stay rs x p e = ap (without_name x) e ∙ hidden_stay rs x (free_variables p)

mutual
  pub substituted_free : (rs : List ReplacedName) (p : KorePattern) → AreClosed rs → free_variables (substituted rs p) ≡ staying rs (free_variables p)
  substituted_free rs (variable x s) h = put_free rs x s h
  substituted_free rs (set_variable x s) h = refl
  substituted_free rs (application f ss ps) h = all_substituted_free rs ps h
  substituted_free rs (string_literal t) h = refl
  substituted_free rs (literal s t) h = refl
  substituted_free rs (top s) h = refl
  substituted_free rs (bottom s) h = refl
  substituted_free rs (negation s p) h = substituted_free rs p h
  substituted_free rs (next s p) h = substituted_free rs p h
  substituted_free rs (conjunction s ps) h = all_substituted_free rs ps h
  substituted_free rs (disjunction s ps) h = all_substituted_free rs ps h
  substituted_free rs (implication s p q) h = both_stay rs p q (substituted_free rs p h) (substituted_free rs q h)
  substituted_free rs (equivalence s p q) h = both_stay rs p q (substituted_free rs p h) (substituted_free rs q h)
  substituted_free rs (rewriting s p q) h = both_stay rs p q (substituted_free rs p h) (substituted_free rs q h)
  substituted_free rs (exists s x t p) h = bound_stay rs x p (substituted_free (hiding x rs) p (closed_hiding x rs h))
  substituted_free rs (forall s x t p) h = bound_stay rs x p (substituted_free (hiding x rs) p (closed_hiding x rs h))
  substituted_free rs (ceil a s p) h = substituted_free rs p h
  substituted_free rs (floor a s p) h = substituted_free rs p h
  substituted_free rs (equals a s p q) h = both_stay rs p q (substituted_free rs p h) (substituted_free rs q h)
  substituted_free rs (membership a s p q) h = both_stay rs p q (substituted_free rs p h) (substituted_free rs q h)
  substituted_free rs (mu x s p) h = substituted_free rs p h
  substituted_free rs (nu x s p) h = substituted_free rs p h

  pub all_substituted_free : (rs : List ReplacedName) (ps : KorePatterns) → AreClosed rs → all_free_variables (all_substituted rs ps) ≡ staying rs (all_free_variables ps)
  all_substituted_free rs no_patterns h = refl
  all_substituted_free rs (next_pattern p ps) h =
      ap₂ (λ a b. a ++ b) (substituted_free rs p h) (all_substituted_free rs ps h) ∙ sym (staying_both rs (free_variables p) (all_free_variables ps))

-- ---- conjuncts

-- a pattern that is its own one conjunct stays so
term_alone : (p : KorePattern) → is_term p ≡ true → conjuncts p ≡ p ∷ []
term_alone (variable x s) h = refl
term_alone (literal s t) h = refl
term_alone (application f ss ps) h = refl
term_alone _ h = absurd (cc)
