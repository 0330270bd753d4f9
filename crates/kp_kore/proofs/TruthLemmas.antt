-- Truth depends on the free variables alone; it is classical.
use Rattle.std.proofs.Common.{◌≡◌, refl, sym, ◌∙◌, Bool, true, false, not, cond, List, [], ◌∷◌, ◌++◌, ◌↔◌, ◌||◌}
use Rattle.std.specs.Bool.{Decides}
use Rattle.std.specs.Prelude.{MatchBool}
use Rattle.std.specs.Str.{bytes_eq}
use Rattle.std.proofs.lemmas.Slice.Eq.{bytes_eq-Decides}
use Rattle.kp_kore.specs.Syntax.{Text, KoreSort, KorePattern, KorePatterns, top, bottom, negation, conjunction, disjunction, implication, equivalence, exists, forall, ceil, floor, equals, membership, no_patterns, next_pattern}
use Rattle.kp_kore.specs.Parts.{SortedName, is_term, free_variables, all_free_variables, without_name}
use Rattle.kp_kore.specs.Signature.{KoreSignature}
use Rattle.kp_kore.specs.Value.{Value, values_same}
use Rattle.kp_kore.proofs.SameLemmas.{same_values_decide}
use Rattle.kp_kore.specs.Instance.{Valuation, AgreesOn, assigned, instance, IsTrueUnder, AllTrueUnder, NoneTrueUnder, PairSame, is_conjoined_pair}
use Rattle.kp_kore.proofs.InstanceLemmas.{same_instance, agrees_first, agrees_second}

-- agreement the other way round
pub agrees_back : (xs : List SortedName) (v w : Valuation) → AgreesOn xs v w → AgreesOn xs w v
agrees_back [] v w a = tt
agrees_back (x ∷ xs) v w a = (sym a.0, agrees_back xs v w a.1)

-- under a binder: both have the same value for its name
assigned_same : (x y : Text) (u : Value) (v w : Valuation) (b : Bool) → bytes_eq x y ≡ b → (b ≡ false → w y ≡ v y) → assigned w x u y ≡ assigned v x u y
assigned_same x y u v w true e rest = rw e refl
assigned_same x y u v w false e rest = rw e (rest refl)

true_false : true ≡ false → ⊥
true_false h = cc

bytes_eq_same : (x y : Text) → bytes_eq y x ≡ true → bytes_eq x y ≡ true
bytes_eq_same x y e = (bytes_eq-Decides x y).1 (sym ((bytes_eq-Decides y x).0 e))

bytes_eq_other : (x y : Text) → bytes_eq y x ≡ false → bytes_eq x y ≡ false
bytes_eq_other x y e = by_test (bytes_eq x y) refl
  where
    by_test : (b : Bool) → bytes_eq x y ≡ b → bytes_eq x y ≡ false
    by_test true f = absurd (true_false (sym (bytes_eq_same y x f) ∙ e))
    by_test false f = f

-- one variable, and those after it
agrees_at : (x : Text) (u : Value) (v w : Valuation) (y : SortedName) (ys : List SortedName) (b : Bool) → bytes_eq y.name x ≡ b → (AgreesOn (without_name x ys) v w → AgreesOn ys (assigned v x u) (assigned w x u)) → AgreesOn (cond (not b) (y ∷ without_name x ys) (without_name x ys)) v w → AgreesOn (y ∷ ys) (assigned v x u) (assigned w x u)
agrees_at x u v w y ys true e rest a = (assigned_same x y.name u v w true (bytes_eq_same x y.name e) (λ f. absurd (true_false f)), rest a)
agrees_at x u v w y ys false e rest a = (assigned_same x y.name u v w false (bytes_eq_other x y.name e) (λ f. a.0), rest a.1)

pub agrees_under : (x : Text) (u : Value) (v w : Valuation) (ys : List SortedName) → AgreesOn (without_name x ys) v w → AgreesOn ys (assigned v x u) (assigned w x u)
agrees_under x u v w [] a = tt
agrees_under x u v w (y ∷ ys) a = agrees_at x u v w y ys (bytes_eq y.name x) refl (agrees_under x u v w ys) a

-- ---- truth

pair_same : (g : KoreSignature) (v w : Valuation) (p : KorePattern) → AgreesOn (free_variables p) v w → PairSame g v p → PairSame g w p
pair_same g v w (conjunction s (next_pattern p (next_pattern q no_patterns))) a e =
    let rest : AgreesOn (all_free_variables (next_pattern q no_patterns)) v w = agrees_second (free_variables p) (all_free_variables (next_pattern q no_patterns)) v w a in
    same_instance g v w p (agrees_first (free_variables p) (all_free_variables (next_pattern q no_patterns)) v w a) ∙ e ∙ sym (same_instance g v w q (agrees_first (free_variables q) [] v w rest))
pair_same g v w _ a e = absurd e

-- a fact that a test chooses
by_test : (b : Bool) (P Q P' Q' : Type 0) → (P → P') → (Q → Q') → MatchBool b P Q → MatchBool b P' Q'
by_test true P Q P' Q' f g h = f h
by_test false P Q P' Q' f g h = g h

equal_sides : (g : KoreSignature) (p q : KorePattern) (v w : Valuation) → AgreesOn (free_variables p ++ free_variables q) v w → (instance g v p ≡ instance g v q → instance g w p ≡ instance g w q) × (instance g w p ≡ instance g w q → instance g v p ≡ instance g v q)
equal_sides g p q v w a =
    let ep : instance g w p ≡ instance g v p = same_instance g v w p (agrees_first (free_variables p) (free_variables q) v w a) in
    let eq : instance g w q ≡ instance g v q = same_instance g v w q (agrees_second (free_variables p) (free_variables q) v w a) in
    ((λ h. ep ∙ h ∙ sym eq), (λ h. sym ep ∙ h ∙ eq))

mutual
  -- what is true under one valuation is true under another that agrees on the free variables
  pub same_truth : (g : KoreSignature) (p : KorePattern) (v w : Valuation) → AgreesOn (free_variables p) v w → (IsTrueUnder g v p → IsTrueUnder g w p) × (IsTrueUnder g w p → IsTrueUnder g v p)
  same_truth g (top s) v w a = ((λ h. h), (λ h. h))
  same_truth g (bottom s) v w a = ((λ h. h), (λ h. h))
  same_truth g (negation s p) v w a = let ih : (IsTrueUnder g v p → IsTrueUnder g w p) × (IsTrueUnder g w p → IsTrueUnder g v p) = same_truth g p v w a in ((λ n h. n (ih.1 h)), (λ n h. n (ih.0 h)))
  same_truth g (conjunction s ps) v w a = all_same_truth g ps v w a
  same_truth g (disjunction s ps) v w a =
      let is : (NoneTrueUnder g v ps → NoneTrueUnder g w ps) × (NoneTrueUnder g w ps → NoneTrueUnder g v ps) = none_same_truth g ps v w a in
      ((λ n h. n (is.1 h)), (λ n h. n (is.0 h)))
  same_truth g (implication s p q) v w a =
      let ip : (IsTrueUnder g v p → IsTrueUnder g w p) × (IsTrueUnder g w p → IsTrueUnder g v p) = same_truth g p v w (agrees_first (free_variables p) (free_variables q) v w a) in
      let iq : (IsTrueUnder g v q → IsTrueUnder g w q) × (IsTrueUnder g w q → IsTrueUnder g v q) = same_truth g q v w (agrees_second (free_variables p) (free_variables q) v w a) in
      ((λ f h. iq.0 (f (ip.1 h))), (λ f h. iq.1 (f (ip.0 h))))
  same_truth g (equivalence s p q) v w a =
      let ip : (IsTrueUnder g v p → IsTrueUnder g w p) × (IsTrueUnder g w p → IsTrueUnder g v p) = same_truth g p v w (agrees_first (free_variables p) (free_variables q) v w a) in
      let iq : (IsTrueUnder g v q → IsTrueUnder g w q) × (IsTrueUnder g w q → IsTrueUnder g v q) = same_truth g q v w (agrees_second (free_variables p) (free_variables q) v w a) in
      ((λ f. ((λ h. iq.0 (f.0 (ip.1 h))), (λ h. ip.0 (f.1 (iq.1 h))))), (λ f. ((λ h. iq.1 (f.0 (ip.0 h))), (λ h. ip.1 (f.1 (iq.0 h))))))
  same_truth g (exists s x t p) v w a = (
    (λ n h. n (λ u k z. h u k ((same_truth g p (assigned v x u) (assigned w x u) (agrees_under x u v w (free_variables p) a)).0 z))),
    (λ n h. n (λ u k z. h u k ((same_truth g p (assigned v x u) (assigned w x u) (agrees_under x u v w (free_variables p) a)).1 z))),
  )
  same_truth g (forall s x t p) v w a = (
    (λ h u k. (same_truth g p (assigned v x u) (assigned w x u) (agrees_under x u v w (free_variables p) a)).0 (h u k)),
    (λ h u k. (same_truth g p (assigned v x u) (assigned w x u) (agrees_under x u v w (free_variables p) a)).1 (h u k)),
  )
  same_truth g (equals b s p q) v w a = equal_sides g p q v w a
  same_truth g (membership b s p q) v w a = equal_sides g p q v w a
  same_truth g (ceil b s p) v w a =
      let ih : (IsTrueUnder g v p → IsTrueUnder g w p) × (IsTrueUnder g w p → IsTrueUnder g v p) = same_truth g p v w a in (
        by_test (is_term p) _ _ _ _ (λ h. h) (by_test (is_conjoined_pair p) _ _ _ _ (pair_same g v w p a) ih.0),
        by_test (is_term p) _ _ _ _ (λ h. h) (by_test (is_conjoined_pair p) _ _ _ _ (pair_same g w v p (agrees_back (free_variables p) v w a)) ih.1),
      )
  same_truth g (floor b s p) v w a =
      let ih : (IsTrueUnder g v p → IsTrueUnder g w p) × (IsTrueUnder g w p → IsTrueUnder g v p) = same_truth g p v w a in (
        by_test (is_term p) _ _ _ _ (λ h u k. h u k ∙ sym (same_instance g v w p a)) ih.0,
        by_test (is_term p) _ _ _ _ (λ h u k. h u k ∙ same_instance g v w p a) ih.1,
      )
  same_truth g _ v w a = ((λ h. h), (λ h. h))

  pub all_same_truth : (g : KoreSignature) (ps : KorePatterns) (v w : Valuation) → AgreesOn (all_free_variables ps) v w → (AllTrueUnder g v ps → AllTrueUnder g w ps) × (AllTrueUnder g w ps → AllTrueUnder g v ps)
  all_same_truth g no_patterns v w a = ((λ h. h), (λ h. h))
  all_same_truth g (next_pattern p ps) v w a =
      let ip : (IsTrueUnder g v p → IsTrueUnder g w p) × (IsTrueUnder g w p → IsTrueUnder g v p) = same_truth g p v w (agrees_first (free_variables p) (all_free_variables ps) v w a) in
      let is : (AllTrueUnder g v ps → AllTrueUnder g w ps) × (AllTrueUnder g w ps → AllTrueUnder g v ps) = all_same_truth g ps v w (agrees_second (free_variables p) (all_free_variables ps) v w a) in
      ((λ h. (ip.0 h.0, is.0 h.1)), (λ h. (ip.1 h.0, is.1 h.1)))

  pub none_same_truth : (g : KoreSignature) (ps : KorePatterns) (v w : Valuation) → AgreesOn (all_free_variables ps) v w → (NoneTrueUnder g v ps → NoneTrueUnder g w ps) × (NoneTrueUnder g w ps → NoneTrueUnder g v ps)
  none_same_truth g no_patterns v w a = ((λ h. h), (λ h. h))
  none_same_truth g (next_pattern p ps) v w a =
      let ip : (IsTrueUnder g v p → IsTrueUnder g w p) × (IsTrueUnder g w p → IsTrueUnder g v p) = same_truth g p v w (agrees_first (free_variables p) (all_free_variables ps) v w a) in
      let is : (NoneTrueUnder g v ps → NoneTrueUnder g w ps) × (NoneTrueUnder g w ps → NoneTrueUnder g v ps) = none_same_truth g ps v w (agrees_second (free_variables p) (all_free_variables ps) v w a) in
      ((λ h. ((λ z. h.0 (ip.1 z)), is.0 h.1)), (λ h. ((λ z. h.0 (ip.0 z)), is.1 h.1)))

-- ---- truth that isn't refuted is truth

-- equality of values is decided, so it holds where it can't fail
stable_same : (u w : Value) → ¬ ¬ (u ≡ w) → u ≡ w
stable_same u w n = by_same (values_same u w) (same_values_decide u w)
  where
    by_same : (b : Bool) → Decides b (u ≡ w) → u ≡ w
    by_same true d = d.0 refl
    by_same false d = absurd (n (λ e. true_false (sym (d.1 e))))

stable_pair : (g : KoreSignature) (v : Valuation) (p : KorePattern) → ¬ ¬ PairSame g v p → PairSame g v p
stable_pair g v (conjunction s (next_pattern p (next_pattern q no_patterns))) n = stable_same _ _ n
stable_pair g v _ n = absurd (n (λ h. h))

stable_test : (b : Bool) (P Q : Type 0) → (¬ ¬ P → P) → (¬ ¬ Q → Q) → ¬ ¬ MatchBool b P Q → MatchBool b P Q
stable_test true P Q f g n = f n
stable_test false P Q f g n = g n

mutual
  pub stable_truth : (g : KoreSignature) (p : KorePattern) (v : Valuation) → ¬ ¬ IsTrueUnder g v p → IsTrueUnder g v p
  stable_truth g (top s) v n = tt
  stable_truth g (bottom s) v n = n (λ h. h)
  stable_truth g (negation s p) v n = λ h. n (λ k. k h)
  stable_truth g (conjunction s ps) v n = all_stable g ps v n
  stable_truth g (disjunction s ps) v n = λ h. n (λ k. k h)
  stable_truth g (implication s p q) v n = λ h. stable_truth g q v (λ k. n (λ f. k (f h)))
  stable_truth g (equivalence s p q) v n = ((λ h. stable_truth g q v (λ k. n (λ f. k (f.0 h)))), (λ h. stable_truth g p v (λ k. n (λ f. k (f.1 h)))))
  stable_truth g (exists s x t p) v n = λ h. n (λ k. k h)
  stable_truth g (forall s x t p) v n = λ u k. stable_truth g p (assigned v x u) (λ z. n (λ f. z (f u k)))
  stable_truth g (equals b s p q) v n = stable_same _ _ n
  stable_truth g (membership b s p q) v n = stable_same _ _ n
  stable_truth g (ceil b s p) v n = stable_test (is_term p) _ _ (λ _. tt) (stable_test (is_conjoined_pair p) _ _ (stable_pair g v p) (stable_truth g p v)) n
  stable_truth g (floor b s p) v n = stable_test (is_term p) _ _ (λ m u k. stable_same _ _ (λ z. m (λ f. z (f u k)))) (stable_truth g p v) n
  stable_truth g _ v n = absurd (n (λ h. h))

  pub all_stable : (g : KoreSignature) (ps : KorePatterns) (v : Valuation) → ¬ ¬ AllTrueUnder g v ps → AllTrueUnder g v ps
  all_stable g no_patterns v n = tt
  all_stable g (next_pattern p ps) v n = (stable_truth g p v (λ k. n (λ h. k h.0)), all_stable g ps v (λ k. n (λ h. k h.1)))

-- ---- the classical equivalences that clauses need

-- not both is one of the opposites
pub not_both : (g : KoreSignature) (v : Valuation) (s : KoreSort) (p q : KorePattern) → IsTrueUnder g v (negation s (conjunction s (next_pattern p (next_pattern q no_patterns)))) ↔ IsTrueUnder g v (disjunction s (next_pattern (negation s p) (next_pattern (negation s q) no_patterns)))
not_both g v s p q = (
  (λ n h. n (stable_truth g p v h.0, (stable_truth g q v h.1.0, tt))),
  (λ n h. n ((λ k. k h.0), ((λ k. k h.1.0), tt))),
)

-- p implies q where p is false or q is true
pub implied_either : (g : KoreSignature) (v : Valuation) (s : KoreSort) (p q : KorePattern) → IsTrueUnder g v (implication s p q) ↔ IsTrueUnder g v (disjunction s (next_pattern (negation s p) (next_pattern q no_patterns)))
implied_either g v s p q = (
  (λ f h. h.0 (λ k. h.1.0 (f k))),
  (λ n h. stable_truth g q v (λ z. n ((λ k. k h), (z, tt)))),
)

-- one disjoined is itself; twice denied is itself
pub one_disjoined : (g : KoreSignature) (v : Valuation) (s : KoreSort) (p : KorePattern) → IsTrueUnder g v (disjunction s (next_pattern p no_patterns)) ↔ IsTrueUnder g v p
one_disjoined g v s p = ((λ n. stable_truth g p v (λ z. n (z, tt))), (λ h k. k.0 h))

pub twice_denied : (g : KoreSignature) (v : Valuation) (s : KoreSort) (p : KorePattern) → IsTrueUnder g v (negation s (negation s p)) ↔ IsTrueUnder g v p
twice_denied g v s p = (stable_truth g p v, (λ h k. k h))

-- what not every value refutes exists, and the reverse of \forall
pub not_all : (g : KoreSignature) (v : Valuation) (s t : KoreSort) (x : Text) (p : KorePattern) → IsTrueUnder g v (negation s (forall s x t p)) ↔ IsTrueUnder g v (exists s x t (negation s p))
not_all g v s t x p = (
  (λ n h. n (λ u k. stable_truth g p (assigned v x u) (h u k))),
  (λ n h. n (λ u k z. z (h u k))),
)

-- a test of the first member of \or, and one of the others
pub decides_some : (b c : Bool) (P N : Type 0) → Decides b P → Decides c (¬ N) → Decides (b || c) (¬ ((¬ P) × N))
decides_some true c P N d e = ((λ h k. k.0 (d.0 refl)), (λ n. refl))
decides_some false c P N d e = ((λ h k. e.0 h k.1), (λ n. e.1 (λ m. n ((λ p. true_false (sym (d.1 p))), m))))
