-- Ground states: their sorts, their only instance, their foreign symbols.
use Rattle.std.proofs.Common.{◌≡◌, refl, sym, ap, subst, ◌∙◌, ℕ, ◌+◌, ◌<◌, Bool, true, false, not, ◌&&◌, List, [], ◌∷◌, length, get_or, drop, map, nat_eq, Option, Some, None, Bor}
use Rattle.std.specs.Prelude.{IsTrue, if◌then◌else◌, string_bytes, String, Result, Ok, Err, IfOk, IfErr, OnOk}
use Rattle.std.specs.Option.{option_map}
use Rattle.std.specs.declared.alloc.Global.{Global}
use Rattle.kp_ground.specs.Terms.{stays_narrow, term_value}
use Rattle.kp_ground.specs.TermView.{term_view}
use Rattle.kp_ground.specs.View.{value_view}
use Rattle.kp_ground.specs.declared.value.Value.{Value as Ground}
use Rattle.kp_ground.specs.declared.term.CompiledTerm.{CompiledTerm}
use Rattle.kp_compile.specs.Exact.{IsTermOf, IsNarrowAs}
use Rattle.std.specs.List.{list_all, filter_map, cons_option}
use Rattle.std.proofs.lemmas.Bool.Decides.{Decides-eqb}
use Rattle.std.proofs.lemmas.List.{drop_more}
use Rattle.kp_kore.specs.Syntax.{Text, KoreSort, KorePattern, variable, set_variable, application, string_literal, literal, top, bottom, negation, next, conjunction, disjunction, implication, equivalence, rewriting, exists, forall, ceil, floor, equals, membership, mu, nu}
use Rattle.kp_kore.specs.Parts.{is_term, free_variables, subpatterns}
use Rattle.kp_kore.specs.Signature.{KoreSignature, meaning_of}
use Rattle.kp_kore.specs.View.{view, sorted_variable_view}
use Rattle.kp_kore.specs.declared.pattern_free.SortedVariable.{SortedVariable}
use Rattle.kp_kore.specs.declared.pattern.Pattern.{Pattern}
use Rattle.kp_signature.specs.Places.{the_top}
use Rattle.kp_signature.specs.Verify.{VerifiesAs}
use Rattle.kp_kore.specs.Value.{Value, truth, HasSort}
use Rattle.kp_kore.specs.Instance.{Valuation, instance, GivesSorts}
use Rattle.kp_kore.specs.Foreign.{none_within, has_foreign_head, is_foreign_meaning}
use Rattle.kp_kore.specs.Numbers.{computes_wide}
use Rattle.kp_compile.specs.Parts.{seen}
use Rattle.kp_signature.proofs.SortedInstances.{term_is_sorted}
use Rattle.kp_compile.proofs.SpelledForms.{both_true}
use Rattle.kp_compile.specs.Spelled.{foreign_name, first_member, first_foreign, IsGroundState, IsOtherShape, no_term, not_closed, wide}
use Rattle.kp_compile.specs.declared.state_error.StateError.{StateError}
use Rattle.kp_compile.specs.declared.state_error.StateError.TheVariants.{OtherShape}

-- ---- foreign symbols

by_test : (b : Bool) (f : Text) → (if b then Some f else None) ≡ None → not b ≡ true
by_test true f e = absurd (cc)
by_test false f e = refl

no_head : (g : KoreSignature) (p : KorePattern) → foreign_name g p ≡ None → not (has_foreign_head g p) ≡ true
no_head g (application f ss ps) e = by_test (is_foreign_meaning (meaning_of g f)) f e
no_head g (variable x s) e = refl
no_head g (set_variable x s) e = refl
no_head g (string_literal t) e = refl
no_head g (literal s t) e = refl
no_head g (top s) e = refl
no_head g (bottom s) e = refl
no_head g (negation s q) e = refl
no_head g (next s q) e = refl
no_head g (conjunction s qs) e = refl
no_head g (disjunction s qs) e = refl
no_head g (implication s q r) e = refl
no_head g (equivalence s q r) e = refl
no_head g (rewriting s q r) e = refl
no_head g (exists s x t q) e = refl
no_head g (forall s x t q) e = refl
no_head g (ceil a s q) e = refl
no_head g (floor a s q) e = refl
no_head g (equals a s q r) e = refl
no_head g (membership a s q r) e = refl
no_head g (mu x s q) e = refl
no_head g (nu x s q) e = refl

none_first : (g : KoreSignature) (ps : List KorePattern) → first_member (filter_map (foreign_name g) ps) ≡ None → IsTrue (list_all (λ q. not (has_foreign_head g q)) ps)
none_first g [] e = refl
none_first g (p ∷ ps) e = by (foreign_name g p) refl e (λ k. none_first g ps k)
  where
    by : (o : Option Text) → foreign_name g p ≡ o → first_member (cons_option o (filter_map (foreign_name g) ps)) ≡ None →
        (first_member (filter_map (foreign_name g) ps) ≡ None → IsTrue (list_all (λ q. not (has_foreign_head g q)) ps)) → (not (has_foreign_head g p) && list_all (λ q. not (has_foreign_head g q)) ps) ≡ true
    by (Some n) i h rest = absurd (cc)
    by None i h rest = both_true _ _ (no_head g p i) (rest h)

pub no_foreign : (g : KoreSignature) (p : KorePattern) → first_foreign g p ≡ None → IsTrue (none_within (has_foreign_head g) p)
no_foreign g p e = none_first g (subpatterns p) e

-- ---- the state

pub ground_state : (g : KoreSignature) (p : KorePattern) (s : KoreSort) (u : Value) → VerifiesAs g p s → first_foreign g p ≡ None → IsTrue (is_term p) → free_variables p ≡ [] → ((v : Valuation) → instance g v p ≡ u) → IsGroundState g p s u
ground_state g p s u h f t c m =
    let v : Valuation = λ x. truth true in
    record {
      term = t;
      closed = c;
      meant = m;
      sorted = subst (HasSort g s) (m v) (term_is_sorted g the_top p s v h.0 h.1 t (no_foreign g p f) (subst (GivesSorts g v) (sym c) tt));
    }

-- ---- the walk over the parts

abbrev pub first_among : KoreSignature → List (Bor Pattern) → Option Text
first_among g ps = first_member (filter_map (foreign_name g) (seen ps))

open_at : (g : KoreSignature) (i : ℕ) (ps : List (Bor Pattern)) (p : Bor Pattern) → i < length ps → p ≡ get_or ps i p → first_among g (drop i ps) ≡ first_member (cons_option (foreign_name g (view p.now)) (filter_map (foreign_name g) (seen (drop (i + 1) ps))))
open_at g i ps p h e = ap (first_among g) (drop_more ps i p h) ∙ ap (λ x. first_among g (x ∷ drop (i + 1) ps)) (sym e)

pub passed : (g : KoreSignature) (i : ℕ) (ps : List (Bor Pattern)) (p : Bor Pattern) → i < length ps → p ≡ get_or ps i p → None ≡ foreign_name g (view p.now) → first_among g ps ≡ first_among g (drop i ps) → first_among g ps ≡ first_among g (drop (i + 1) ps)
passed g i ps p h e n k = k ∙ open_at g i ps p h e ∙ ap (λ o. first_member (cons_option o (filter_map (foreign_name g) (seen (drop (i + 1) ps))))) (sym n)

pub found : (g : KoreSignature) (i : ℕ) (ps : List (Bor Pattern)) (p : Bor Pattern) (x : Text) → i < length ps → p ≡ get_or ps i p → Some x ≡ foreign_name g (view p.now) → first_among g ps ≡ first_among g (drop i ps) → Some x ≡ first_among g ps
found g i ps p x h e n k = sym (k ∙ open_at g i ps p h e ∙ ap (λ o. first_member (cons_option o (filter_map (foreign_name g) (seen (drop (i + 1) ps))))) (sym n))

-- ---- the value of a compiled term

pub value_meant : {E : Type 0} (r : Result Ground E) (g : KoreSignature) (p : KorePattern) (t : CompiledTerm) → IsTermOf g p t → IfOk r (λ u. (v : Valuation) → value_view u ≡ term_value v (term_view t)) → IfOk r (λ u. (v : Valuation) → instance g v p ≡ value_view u)
value_meant (Ok u) g p t h k = λ v. sym (h v) ∙ sym (k v)
value_meant (Err e) g p t h k = tt

pub none_told : (o : Option (String Global)) (x : Option Text) → option_map string_bytes o ≡ x → o ≡ None → x ≡ None
none_told o x e f = sym e ∙ ap (option_map string_bytes) f

-- ---- other shapes

narrow_is_not_wide : (narrow wide : Bool) → narrow ≡ not wide → narrow ≡ true → wide ≡ false
narrow_is_not_wide narrow true e f = absurd (cc)
narrow_is_not_wide narrow false e f = refl

wide_is_not_narrow : (narrow wide : Bool) → narrow ≡ not wide → narrow ≡ false → wide ≡ true
wide_is_not_narrow narrow true e f = refl
wide_is_not_narrow narrow false e f = absurd (cc)

pub value_narrow : {E : Type 0} (r : Result Ground E) (g : KoreSignature) (p : KorePattern) (t : CompiledTerm) → IsNarrowAs g p t → OnOk r ((v : Valuation) → stays_narrow v (term_view t) ≡ true) → OnOk r ((v : Valuation) → computes_wide g v p ≡ false)
value_narrow (Ok u) g p t h k = λ v. narrow_is_not_wide _ _ (h v) (k v)
value_narrow (Err e) g p t h k = tt

pub value_wide : (r : Result Ground StateError) (g : KoreSignature) (p : KorePattern) (t : CompiledTerm) → IsNarrowAs g p t → IfErr r (λ e. e ≡ OtherShape → (v : Valuation) → stays_narrow v (term_view t) ≡ false) → IfErr r (λ e. e ≡ OtherShape → IsOtherShape g p)
value_wide (Ok u) g p t h k = tt
value_wide (Err e) g p t h k = λ is. wide (λ v. wide_is_not_narrow _ _ (h v) (k is v))

pub is_ground : (g : KoreSignature) (p : KorePattern) → IsTrue (is_term p) → free_variables p ≡ [] → ((v : Valuation) → computes_wide g v p ≡ false) → ¬ IsOtherShape g p
is_ground g p t c n (no_term e) = absurd (cc)
is_ground g p t c n (not_closed e) = e c
is_ground g p t c n (wide w) =
    let v : Valuation = λ x. truth true in
    let narrow : computes_wide g v p ≡ false = n v in
    let is : computes_wide g v p ≡ true = w v in
    absurd (cc)

-- a list that is empty
pub no_variables : (b : Bool) (xs : List SortedVariable) → b ≡ nat_eq (length xs) 0 → b ≡ true → map sorted_variable_view xs ≡ []
no_variables b [] e f = refl
no_variables b (x ∷ xs) e f = let none : length (x ∷ xs) ≡ 0 = (Decides-eqb (length (x ∷ xs)) 0).0 (sym e ∙ f) in absurd (cc)
