-- Compiled lists, and truth tests that decide predicates.
use Rattle.std.proofs.Common.{◌≡◌, refl, sym, ◌∙◌, ap₂, subst, ℕ, zero, suc, ◌+◌, ◌<◌, ◌≤◌, Bool, true, false, not, ◌&&◌, ◌||◌, ◌↔◌, ◌⊎◌, inl, inr, List, [], ◌∷◌, ◌++◌, map, take, length, get_or, add-one, arith}
use Rattle.std.specs.Bool.{Decides, beq}
use Rattle.std.specs.List.{AllZip, AllByRecursion}
use Rattle.std.specs.Borrow.{Bor}
use Rattle.std.specs.Prelude.{Result, Ok, Err, IfOk, MatchBool, ⊤}
use Rattle.kp_kore.specs.Parts.{is_term}
use Rattle.kp_kore.specs.Syntax.{KoreSort, KorePattern, ceil, floor}
use Rattle.kp_kore.specs.View.{view, patterns_view}
use Rattle.kp_kore.specs.Signature.{KoreSignature}
use Rattle.kp_kore.specs.declared.pattern.Pattern.{Pattern}
use Rattle.kp_kore.specs.Value.{Value, next_value, values_same}
use Rattle.kp_kore.proofs.SameLemmas.{same_values_decide}
use Rattle.kp_kore.proofs.TruthLemmas.{decides_some}
use Rattle.kp_kore.specs.Instance.{Valuation, instances, is_conjoined_pair, PairSame, IsTrueUnder, AllTrueUnder, NoneTrueUnder}
use Rattle.kp_ground.specs.Terms.{term_values, left_values}
use Rattle.kp_ground.specs.TermView.{term_view, terms_of}
use Rattle.kp_ground.specs.LeftView.{left_view, lefts_of}
use Rattle.kp_ground.specs.Conditions.{all_hold, any_holds}
use Rattle.kp_ground.specs.ConditionView.{condition_view, conditions_of}
use Rattle.kp_ground.specs.declared.term.CompiledTerm.{CompiledTerm}
use Rattle.kp_ground.specs.declared.left_side.CompiledLeft.{CompiledLeft}
use Rattle.kp_ground.specs.declared.condition.Condition.{Condition}
use Rattle.kp_compile.specs.Exact.{IsConditionOf, AreTermsOf, AreLeftsOf, AreConditionsOf}

-- ---- one more of two lists

zip_more : {A B : Type 0} (R : A → B → Type 0) (i : ℕ) (xs : List A) (ys : List B) (x : A) (y : B) → i < length xs → x ≡ get_or xs i x → AllZip R (take i xs) ys → R x y → AllZip R (take (suc i) xs) (ys ++ y ∷ [])
zip_more R i [] ys x y h is z r = absurd (omega arith)
zip_more R zero (a ∷ xs) [] x y h is z r = (subst (λ w. R w y) is r, tt)
zip_more R zero (a ∷ xs) (b ∷ ys) x y h is z r = absurd z
zip_more R (suc i) (a ∷ xs) [] x y h is z r = absurd z
zip_more R (suc i) (a ∷ xs) (b ∷ ys) x y h is z r = (z.0, zip_more R i xs ys x y (omega arith) is z.1 r)

pub zip_whole : {A B : Type 0} (R : A → B → Type 0) (i : ℕ) (xs : List A) (ys : List B) → length xs ≤ i → AllZip R (take i xs) ys → AllZip R xs ys
zip_whole R zero [] ys h z = z
zip_whole R zero (a ∷ xs) ys h z = absurd (omega arith)
zip_whole R (suc i) [] ys h z = z
zip_whole R (suc i) (a ∷ xs) [] h z = absurd z
zip_whole R (suc i) (a ∷ xs) (b ∷ ys) h z = (z.0, zip_whole R i xs ys (omega arith) z.1)

pub zip_push : {A B : Type 0} (R : A → B → Type 0) (i : ℕ) (xs : List A) (ys : List B) (x : A) (y : B) → i < length xs → x ≡ get_or xs i x → AllZip R (take i xs) ys → R x y → AllZip R (take (i + 1) xs) (ys ++ y ∷ [])
zip_push R i xs ys x y h is z r = rw add-one (zip_more R i xs ys x y h is z r)

-- ---- lists of arguments

pub each_term : (g : KoreSignature) (v : Valuation) (ps : List Pattern) (ts : List CompiledTerm) → AreTermsOf g ps ts → term_values v (terms_of (map term_view ts)) ≡ instances g v (patterns_view ps)
each_term g v [] [] z = refl
each_term g v [] (t ∷ ts) z = absurd z
each_term g v (p ∷ ps) [] z = absurd z
each_term g v (p ∷ ps) (t ∷ ts) z = ap₂ next_value (z.0 v) (each_term g v ps ts z.1)

pub each_left : (g : KoreSignature) (v : Valuation) (ps : List Pattern) (ts : List CompiledLeft) → AreLeftsOf g ps ts → left_values v (lefts_of (map left_view ts)) ≡ instances g v (patterns_view ps)
each_left g v [] [] z = refl
each_left g v [] (t ∷ ts) z = absurd z
each_left g v (p ∷ ps) [] z = absurd z
each_left g v (p ∷ ps) (t ∷ ts) z = ap₂ next_value (z.0 v) (each_left g v ps ts z.1)

-- ---- tests that decide

pub decides_not : (a : Bool) (P : Type 0) → Decides a P → Decides (not a) (¬ P)
decides_not true P d = ((λ h. absurd (cc)), (λ n. absurd (n (d.0 refl))))
decides_not false P d = ((λ h p. let e : false ≡ true = d.1 p in absurd (cc)), (λ n. refl))

pub decides_both : (a b : Bool) (P Q : Type 0) → Decides a P → Decides b Q → Decides (a && b) (P × Q)
decides_both true b P Q d e = ((λ h. (d.0 refl, e.0 h)), (λ p. e.1 p.1))
decides_both false b P Q d e = ((λ h. absurd (cc)), (λ p. d.1 p.0))

pub decides_either : (a b : Bool) (P Q : Type 0) → Decides a P → Decides b Q → Decides (a || b) (P ⊎ Q)
decides_either true b P Q d e = ((λ h. inl (d.0 refl)), (λ p. refl))
decides_either false b P Q d e = ((λ h. inr (e.0 h)), (λ s. elim s [ inl p ↦ (let f : false ≡ true = d.1 p in absurd (cc)) | inr q ↦ e.1 q ]))

pub decides_implies : (a b : Bool) (P Q : Type 0) → Decides a P → Decides b Q → Decides (not a || b) (P → Q)
decides_implies true b P Q d e = ((λ h p. e.0 h), (λ f. e.1 (f (d.0 refl))))
decides_implies false b P Q d e = ((λ h p. let f : false ≡ true = d.1 p in absurd (cc)), (λ f. refl))

pub decides_iff : (a b : Bool) (P Q : Type 0) → Decides a P → Decides b Q → Decides (beq a b) (P ↔ Q)
decides_iff true true P Q d e = ((λ h. ((λ p. e.0 refl), (λ q. d.0 refl))), (λ i. refl))
decides_iff true false P Q d e = ((λ h. absurd (cc)), (λ i. e.1 (i.0 (d.0 refl))))
decides_iff false true P Q d e = ((λ h. absurd (cc)), (λ i. d.1 (i.1 (e.0 refl))))
decides_iff false false P Q d e = ((λ h. ((λ p. let f : false ≡ true = d.1 p in absurd (cc)), (λ q. let f : false ≡ true = e.1 q in absurd (cc)))), (λ i. refl))

-- ---- lists of conditions

pub each_true : (g : KoreSignature) (v : Valuation) (ps : List Pattern) (cs : List Condition) → AreConditionsOf g ps cs → Decides (all_hold v (conditions_of (map condition_view cs))) (AllTrueUnder g v (patterns_view ps))
each_true g v [] [] z = ((λ h. tt), (λ h. refl))
each_true g v [] (c ∷ cs) z = absurd z
each_true g v (p ∷ ps) [] z = absurd z
each_true g v (p ∷ ps) (c ∷ cs) z = decides_both _ _ _ _ (z.0 v) (each_true g v ps cs z.1)

pub some_true : (g : KoreSignature) (v : Valuation) (ps : List Pattern) (cs : List Condition) → AreConditionsOf g ps cs → Decides (any_holds v (conditions_of (map condition_view cs))) (¬ NoneTrueUnder g v (patterns_view ps))
some_true g v [] [] z = ((λ h. absurd (cc)), (λ n. absurd (n tt)))
some_true g v [] (c ∷ cs) z = absurd z
some_true g v (p ∷ ps) [] z = absurd z
some_true g v (p ∷ ps) (c ∷ cs) z = decides_some _ _ _ _ (z.0 v) (some_true g v ps cs z.1)

pub each_holds : (g : KoreSignature) (v : Valuation) (ps : List (Bor Pattern)) (cs : List Condition) → AllZip (λ p c. IsConditionOf g (view p.now) c) ps cs → Decides (all_hold v (conditions_of (map condition_view cs))) (AllByRecursion (λ p. IsTrueUnder g v (view p.now)) ps)
each_holds g v [] [] z = ((λ h. tt), (λ h. refl))
each_holds g v [] (c ∷ cs) z = absurd z
each_holds g v (p ∷ ps) [] z = absurd z
each_holds g v (p ∷ ps) (c ∷ cs) z = decides_both _ _ _ _ (z.0 v) (each_holds g v ps cs z.1)

-- ---- the other forms

pub decides_same : (u w a b : Value) → u ≡ a → w ≡ b → Decides (values_same u w) (a ≡ b)
decides_same u w a b e f = ((λ h. sym e ∙ (same_values_decide u w).0 h ∙ f), (λ k. (same_values_decide u w).1 (e ∙ k ∙ sym f)))

pub ceil_ok : {E : Type 0} (r : Result Condition E) (g : KoreSignature) (p q : KorePattern) (a s : KoreSort) → p ≡ ceil a s q → IfOk r (λ c. (a s : KoreSort) → IsConditionOf g (ceil a s q) c) → IfOk r (IsConditionOf g p)
ceil_ok (Ok c) g p q a s e h = subst (λ x. IsConditionOf g x c) (sym e) (h a s)
ceil_ok (Err x) g p q a s e h = tt

pub floor_ok : {E : Type 0} (r : Result Condition E) (g : KoreSignature) (p q : KorePattern) (a s : KoreSort) → p ≡ floor a s q → IfOk r (λ c. (a s : KoreSort) → IsConditionOf g (floor a s q) c) → IfOk r (IsConditionOf g p)
floor_ok (Ok c) g p q a s e h = subst (λ x. IsConditionOf g x c) (sym e) (h a s)
floor_ok (Err x) g p q a s e h = tt

-- a term has an instance: it is equal to itself
pub defined_holds : (g : KoreSignature) (v : Valuation) (a s : KoreSort) (p : KorePattern) (b : Bool) → is_term p ≡ true → b ≡ true → Decides b (IsTrueUnder g v (ceil a s p))
defined_holds g v a s p b t e = (
  (λ h. subst (λ x. MatchBool x ⊤ (MatchBool (is_conjoined_pair p) (PairSame g v p) (IsTrueUnder g v p))) (sym t) tt),
  (λ h. e),
)
