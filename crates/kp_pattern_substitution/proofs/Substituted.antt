-- Instances and truth of a substituted pattern are those under the valuation that has the terms' instances.
use Rattle.std.proofs.Common.{◌≡◌, refl, sym, ap, ap₂, ◌∙◌, Bool, true, false, not, cond, ◌&&◌, List, [], ◌∷◌, map, inl, inr}
use Rattle.std.specs.Prelude.{MatchBool, ◌↔◌}
use Rattle.std.specs.Str.{bytes_eq}
use Rattle.std.proofs.lemmas.Slice.Eq.{bytes_eq-Decides}
use Rattle.kp_kore.specs.Syntax.{Text, KoreSort, KorePattern, KorePatterns, variable, application, literal, negation, conjunction, disjunction, implication, equivalence, exists, forall, ceil, floor, equals, membership, no_patterns, next_pattern}
use Rattle.kp_kore.specs.Parts.{SortedName, is_term, are_terms, free_variables}
use Rattle.kp_kore.specs.Signature.{KoreSignature, meaning_of}
use Rattle.kp_kore.specs.View.{view, patterns_view}
use Rattle.kp_kore.specs.declared.pattern.Pattern.{Pattern}
use Rattle.kp_kore.specs.Value.{Value, next_value}
use Rattle.kp_kore.specs.Instance.{Valuation, AgreesOn, assigned, instance, instances, applied, IsTrueUnder, AllTrueUnder, NoneTrueUnder, PairSame, is_conjoined_pair}
use Rattle.kp_kore.proofs.InstanceLemmas.{closed_instance}
use Rattle.kp_kore.proofs.TruthLemmas.{same_truth}
use Rattle.kp_pattern_substitution.specs.Substitution.{ReplacedName, put_for, hiding, substituted, all_substituted, AreClosed, with_replaced}

-- ---- names

-- two tests of names
names_differ : (x y z : Text) → bytes_eq x y ≡ true → bytes_eq z x ≡ false → bytes_eq z y ≡ false
names_differ x y z e f = by (bytes_eq z y) refl
  where
    by : (b : Bool) → bytes_eq z y ≡ b → bytes_eq z y ≡ false
    by true h =
        let there : bytes_eq z x ≡ true = (bytes_eq-Decides z x).1 ((bytes_eq-Decides z y).0 h ∙ sym ((bytes_eq-Decides x y).0 e)) in
        absurd (cc)
    by false h = h

pub closed_hiding : (x : Text) (rs : List ReplacedName) → AreClosed rs → AreClosed (hiding x rs)
closed_hiding x [] h = tt
closed_hiding x (r ∷ rs) h = by (bytes_eq r.name x) (closed_hiding x rs h.1)
  where
    by : (b : Bool) → AreClosed (hiding x rs) → AreClosed (cond (not b) (r ∷ hiding x rs) (hiding x rs))
    by true k = k
    by false k = (h.0, k)

-- ---- valuations under a binder

-- where the name is the bound one, nothing stands for it
hidden_here : (g : KoreSignature) (rs : List ReplacedName) (w : Valuation) (x y : Text) → bytes_eq x y ≡ true → with_replaced g (hiding x rs) w y ≡ w y
hidden_here g [] w x y e = refl
hidden_here g (r ∷ rs) w x y e = by (bytes_eq r.name x) refl (hidden_here g rs w x y e)
  where
    by : (b : Bool) → bytes_eq r.name x ≡ b → with_replaced g (hiding x rs) w y ≡ w y → with_replaced g (cond (not b) (r ∷ hiding x rs) (hiding x rs)) w y ≡ w y
    by true f k = k
    by false f k =
        let other : bytes_eq r.name y ≡ false = names_differ x y r.name e f in
        ap (λ b. cond b (instance g w r.term) (with_replaced g (hiding x rs) w y)) other ∙ k

-- at another name the bound value doesn't count
other_name : (g : KoreSignature) (rs : List ReplacedName) (v : Valuation) (x : Text) (u : Value) (y : Text) → AreClosed rs → bytes_eq x y ≡ false → with_replaced g (hiding x rs) (assigned v x u) y ≡ with_replaced g rs v y
other_name g [] v x u y h e = ap (λ b. cond b u (v y)) e
other_name g (r ∷ rs) v x u y h e = by (bytes_eq r.name x) refl (other_name g rs v x u y h.1 e)
  where
    by : (b : Bool) → bytes_eq r.name x ≡ b → with_replaced g (hiding x rs) (assigned v x u) y ≡ with_replaced g rs v y →
        with_replaced g (cond (not b) (r ∷ hiding x rs) (hiding x rs)) (assigned v x u) y ≡ cond (bytes_eq r.name y) (instance g v r.term) (with_replaced g rs v y)
    by true f k =
        let same : r.name ≡ x = (bytes_eq-Decides r.name x).0 f in
        let other : bytes_eq r.name y ≡ false = ap (λ n. bytes_eq n y) same ∙ e in
        k ∙ sym (ap (λ b. cond b (instance g v r.term) (with_replaced g rs v y)) other)
    by false f k = ap₂ (cond (bytes_eq r.name y)) (closed_instance g v (assigned v x u) r.term h.0.closed) k

under_binder : (g : KoreSignature) (rs : List ReplacedName) (v : Valuation) (x : Text) (u : Value) (y : Text) → AreClosed rs → with_replaced g (hiding x rs) (assigned v x u) y ≡ assigned (with_replaced g rs v) x u y
under_binder g rs v x u y h = by (bytes_eq x y) refl
  where
    by : (b : Bool) → bytes_eq x y ≡ b → with_replaced g (hiding x rs) (assigned v x u) y ≡ cond (bytes_eq x y) u (with_replaced g rs v y)
    by true e = hidden_here g rs (assigned v x u) x y e ∙ ap (λ b. cond b u (v y)) e ∙ sym (ap (λ b. cond b u (with_replaced g rs v y)) e)
    by false e = other_name g rs v x u y h e ∙ sym (ap (λ b. cond b u (with_replaced g rs v y)) e)

agree_at_all : (v w : Valuation) → ((y : Text) → w y ≡ v y) → (xs : List SortedName) → AgreesOn xs v w
agree_at_all v w a [] = tt
agree_at_all v w a (x ∷ xs) = (a x.name, agree_at_all v w a xs)

-- ---- instances

put_instance : (g : KoreSignature) (rs : List ReplacedName) (v : Valuation) (x : Text) (s : KoreSort) → instance g v (put_for rs x s) ≡ with_replaced g rs v x
put_instance g [] v x s = refl
put_instance g (r ∷ rs) v x s = by (bytes_eq r.name x) (put_instance g rs v x s)
  where
    by : (b : Bool) → instance g v (put_for rs x s) ≡ with_replaced g rs v x → instance g v (cond b r.term (put_for rs x s)) ≡ cond b (instance g v r.term) (with_replaced g rs v x)
    by true k = refl
    by false k = k

mutual
  pub substituted_instance : (g : KoreSignature) (rs : List ReplacedName) (v : Valuation) (t : KorePattern) → instance g v (substituted rs t) ≡ instance g (with_replaced g rs v) t
  substituted_instance g rs v (variable x s) = put_instance g rs v x s
  substituted_instance g rs v (application f ss ps) = ap (applied (meaning_of g f) f) (substituted_instances g rs v ps)
  substituted_instance g rs v _ = refl

  pub substituted_instances : (g : KoreSignature) (rs : List ReplacedName) (v : Valuation) (ps : KorePatterns) → instances g v (all_substituted rs ps) ≡ instances g (with_replaced g rs v) ps
  substituted_instances g rs v no_patterns = refl
  substituted_instances g rs v (next_pattern p ps) = ap₂ next_value (substituted_instance g rs v p) (substituted_instances g rs v ps)

-- ---- forms

-- a closed term is a term wherever it stands
pub put_is_term : (rs : List ReplacedName) (x : Text) (s : KoreSort) → AreClosed rs → is_term (put_for rs x s) ≡ true
put_is_term [] x s h = refl
put_is_term (r ∷ rs) x s h = by (bytes_eq r.name x) (put_is_term rs x s h.1)
  where
    by : (b : Bool) → is_term (put_for rs x s) ≡ true → is_term (cond b r.term (put_for rs x s)) ≡ true
    by true k = h.0.term
    by false k = k

mutual
  pub substituted_is_term : (rs : List ReplacedName) (p : KorePattern) → AreClosed rs → is_term (substituted rs p) ≡ is_term p
  substituted_is_term rs (variable x s) h = put_is_term rs x s h
  substituted_is_term rs (application f ss ps) h = substituted_are_terms rs ps h
  substituted_is_term rs _ h = refl

  pub substituted_are_terms : (rs : List ReplacedName) (ps : KorePatterns) → AreClosed rs → are_terms (all_substituted rs ps) ≡ are_terms ps
  substituted_are_terms rs no_patterns h = refl
  substituted_are_terms rs (next_pattern p ps) h = ap₂ (λ a b. a && b) (substituted_is_term rs p h) (substituted_are_terms rs ps h)

-- ---- truth

abbrev SameTruth : KoreSignature → List ReplacedName → Valuation → KorePattern → Type 0
SameTruth g rs v p = IsTrueUnder g v (substituted rs p) ↔ IsTrueUnder g (with_replaced g rs v) p

by_test : (b c : Bool) (P Q P' Q' : Type 0) → b ≡ c → P ↔ P' → Q ↔ Q' → MatchBool b P Q ↔ MatchBool c P' Q'
by_test true true P Q P' Q' e f g = f
by_test false false P Q P' Q' e f g = g
by_test true false P Q P' Q' e f g = absurd (cc)
by_test false true P Q P' Q' e f g = absurd (cc)

equal_sides : (u u' w w' : Value) → u ≡ u' → w ≡ w' → (u ≡ w) ↔ (u' ≡ w')
equal_sides u u' w w' e f = ((λ h. sym e ∙ h ∙ f), (λ h. e ∙ h ∙ sym f))

-- a variable replaced by a closed term is no predicate and no conjunction
put_no_truth : (g : KoreSignature) (v : Valuation) (p : KorePattern) → is_term p ≡ true → ¬ IsTrueUnder g v p
put_no_truth g v (variable x s) h t = t
put_no_truth g v (literal s x) h t = t
put_no_truth g v (application f ss ps) h t = t
put_no_truth g v _ h t = absurd (cc)

no_pair_in_term : (p : KorePattern) → is_term p ≡ true → is_conjoined_pair p ≡ false
no_pair_in_term (variable x s) h = refl
no_pair_in_term (literal s x) h = refl
no_pair_in_term (application f ss ps) h = refl
no_pair_in_term _ h = absurd (cc)

no_pair_same : (g : KoreSignature) (v : Valuation) (p : KorePattern) → is_term p ≡ true → ¬ PairSame g v p
no_pair_same g v (variable x s) h t = t
no_pair_same g v (literal s x) h t = t
no_pair_same g v (application f ss ps) h t = t
no_pair_same g v _ h t = absurd (cc)

pair_kept : (rs : List ReplacedName) (p : KorePattern) → AreClosed rs → is_conjoined_pair (substituted rs p) ≡ is_conjoined_pair p
pair_kept rs (variable x s) h = no_pair_in_term (put_for rs x s) (put_is_term rs x s h)
pair_kept rs (conjunction s no_patterns) h = refl
pair_kept rs (conjunction s (next_pattern p no_patterns)) h = refl
pair_kept rs (conjunction s (next_pattern p (next_pattern q no_patterns))) h = ap₂ (λ a b. a && b) (substituted_is_term rs p h) (substituted_is_term rs q h)
pair_kept rs (conjunction s (next_pattern p (next_pattern q (next_pattern r ps)))) h = refl
pair_kept rs _ h = refl

pair_same : (g : KoreSignature) (rs : List ReplacedName) (v : Valuation) (p : KorePattern) → AreClosed rs → PairSame g v (substituted rs p) ↔ PairSame g (with_replaced g rs v) p
pair_same g rs v (variable x s) h = ((λ t. absurd (no_pair_same g v (put_for rs x s) (put_is_term rs x s h) t)), (λ t. absurd t))
pair_same g rs v (conjunction s no_patterns) h = ((λ t. t), (λ t. t))
pair_same g rs v (conjunction s (next_pattern p no_patterns)) h = ((λ t. t), (λ t. t))
pair_same g rs v (conjunction s (next_pattern p (next_pattern q no_patterns))) h =
    equal_sides _ _ _ _ (substituted_instance g rs v p) (substituted_instance g rs v q)
pair_same g rs v (conjunction s (next_pattern p (next_pattern q (next_pattern r ps)))) h = ((λ t. t), (λ t. t))
pair_same g rs v _ h = ((λ t. t), (λ t. t))

-- under a binder, where the bound name stands for the same value
bound_truth : (g : KoreSignature) (rs : List ReplacedName) (v : Valuation) (x : Text) (u : Value) (p : KorePattern) → AreClosed rs → SameTruth g (hiding x rs) (assigned v x u) p →
    IsTrueUnder g (assigned v x u) (substituted (hiding x rs) p) ↔ IsTrueUnder g (assigned (with_replaced g rs v) x u) p
bound_truth g rs v x u p h ih =
    let same = same_truth g p (with_replaced g (hiding x rs) (assigned v x u)) (assigned (with_replaced g rs v) x u)
    (agree_at_all (with_replaced g (hiding x rs) (assigned v x u)) (assigned (with_replaced g rs v) x u) (λ y. sym (under_binder g rs v x u y h)) (free_variables p)) in
    ((λ t. same.0 (ih.0 t)), (λ t. ih.1 (same.1 t)))

mutual
  pub substituted_truth : (g : KoreSignature) (rs : List ReplacedName) (v : Valuation) (p : KorePattern) → AreClosed rs → SameTruth g rs v p
  substituted_truth g rs v (variable x s) h = ((λ t. absurd (put_no_truth g v (put_for rs x s) (put_is_term rs x s h) t)), (λ t. absurd t))
  substituted_truth g rs v (negation s p) h = let ih = substituted_truth g rs v p h in ((λ n t. n (ih.1 t)), (λ n t. n (ih.0 t)))
  substituted_truth g rs v (conjunction s ps) h = all_substituted_truth g rs v ps h
  substituted_truth g rs v (disjunction s ps) h = let is = none_substituted_truth g rs v ps h in ((λ n t. n (is.1 t)), (λ n t. n (is.0 t)))
  substituted_truth g rs v (implication s p q) h =
      let ip = substituted_truth g rs v p h in
      let iq = substituted_truth g rs v q h in
      ((λ f t. iq.0 (f (ip.1 t))), (λ f t. iq.1 (f (ip.0 t))))
  substituted_truth g rs v (equivalence s p q) h =
      let ip = substituted_truth g rs v p h in
      let iq = substituted_truth g rs v q h in
      ((λ f. ((λ t. iq.0 (f.0 (ip.1 t))), (λ t. ip.0 (f.1 (iq.1 t))))), (λ f. ((λ t. iq.1 (f.0 (ip.0 t))), (λ t. ip.1 (f.1 (iq.0 t))))))
  substituted_truth g rs v (exists s x t p) h = (
    (λ n f. n (λ u k z. f u k ((bound_truth g rs v x u p h (substituted_truth g (hiding x rs) (assigned v x u) p (closed_hiding x rs h))).0 z))),
    (λ n f. n (λ u k z. f u k ((bound_truth g rs v x u p h (substituted_truth g (hiding x rs) (assigned v x u) p (closed_hiding x rs h))).1 z))),
  )
  substituted_truth g rs v (forall s x t p) h = (
    (λ f u k. (bound_truth g rs v x u p h (substituted_truth g (hiding x rs) (assigned v x u) p (closed_hiding x rs h))).0 (f u k)),
    (λ f u k. (bound_truth g rs v x u p h (substituted_truth g (hiding x rs) (assigned v x u) p (closed_hiding x rs h))).1 (f u k)),
  )
  substituted_truth g rs v (equals a s p q) h = equal_sides _ _ _ _ (substituted_instance g rs v p) (substituted_instance g rs v q)
  substituted_truth g rs v (membership a s p q) h = equal_sides _ _ _ _ (substituted_instance g rs v p) (substituted_instance g rs v q)
  substituted_truth g rs v (ceil a s p) h =
      by_test (is_term (substituted rs p)) (is_term p) _ _ _ _ (substituted_is_term rs p h) ((λ t. t), (λ t. t))
      (by_test (is_conjoined_pair (substituted rs p)) (is_conjoined_pair p) _ _ _ _ (pair_kept rs p h) (pair_same g rs v p h) (substituted_truth g rs v p h))
  substituted_truth g rs v (floor a s p) h =
      let e = substituted_instance g rs v p in
      by_test (is_term (substituted rs p)) (is_term p) _ _ _ _ (substituted_is_term rs p h)
      ((λ f u k. f u k ∙ e), (λ f u k. f u k ∙ sym e)) (substituted_truth g rs v p h)
  substituted_truth g rs v _ h = ((λ t. t), (λ t. t))

  pub all_substituted_truth : (g : KoreSignature) (rs : List ReplacedName) (v : Valuation) (ps : KorePatterns) → AreClosed rs → AllTrueUnder g v (all_substituted rs ps) ↔ AllTrueUnder g (with_replaced g rs v) ps
  all_substituted_truth g rs v no_patterns h = ((λ t. t), (λ t. t))
  all_substituted_truth g rs v (next_pattern p ps) h =
      let ip = substituted_truth g rs v p h in
      let is = all_substituted_truth g rs v ps h in
      ((λ t. (ip.0 t.0, is.0 t.1)), (λ t. (ip.1 t.0, is.1 t.1)))

  pub none_substituted_truth : (g : KoreSignature) (rs : List ReplacedName) (v : Valuation) (ps : KorePatterns) → AreClosed rs → NoneTrueUnder g v (all_substituted rs ps) ↔ NoneTrueUnder g (with_replaced g rs v) ps
  none_substituted_truth g rs v no_patterns h = ((λ t. t), (λ t. t))
  none_substituted_truth g rs v (next_pattern p ps) h =
      let ip = substituted_truth g rs v p h in
      let is = none_substituted_truth g rs v ps h in
      ((λ t. ((λ k. t.0 (ip.1 k)), is.0 t.1)), (λ t. ((λ k. t.0 (ip.0 k)), is.1 t.1)))

-- ---- lists of the code

pub put_list : (rs : List ReplacedName) (qs ps : List Pattern) → map view qs ≡ map (λ p. substituted rs (view p)) ps → patterns_view qs ≡ all_substituted rs (patterns_view ps)
put_list rs [] [] e = refl
put_list rs (q ∷ qs) (p ∷ ps) e = ap₂ next_pattern (cc) (put_list rs qs ps (cc))
put_list rs [] (p ∷ ps) e = absurd (cc)
put_list rs (q ∷ qs) [] e = absurd (cc)
