-- Which rules of the example definition meet sq(X), and what is shown of it.
use Rattle.std.proofs.Common.{◌≡◌, refl, sym, ◌∙◌, subst, ◌⊎◌, inl, inr, ℕ, ◌<◌, true, false, [], ◌∷◌, arith}
use Rattle.std.specs.Prelude.{pos, codes, ⊤}
use Rattle.std.specs.Str.{bytes_eq}
use Rattle.std.proofs.lemmas.Bool.{ltb-true}
use Rattle.std.proofs.lemmas.List.Elements.{Contains-get_or}
use Rattle.std.proofs.lemmas.Slice.Eq.{bytes_eq-Decides}
use Rattle.kp_kore.specs.Syntax.{Text, no_sorts}
use Rattle.kp_kore.specs.Parts.{subpatterns}
use Rattle.kp_kore.specs.Signature.{construction, meaning_of}
use Rattle.kp_kore.specs.Sorting.{result_sort}
use Rattle.kp_kore.specs.Value.{Value, whole, truth, token, constructed, Values, no_values, next_value}
use Rattle.kp_kore.specs.Rules.{RewriteRule}
use Rattle.kp_kore.specs.Foreign.{IsConstructedBy, by_meaning, IsAnyOfMaybe}
use Rattle.kp_toys.specs.ToysTheory.{toys_signature, toys, sq_rule, dec_rule, stop_rule, pick_rule, num_rule, up_rule, odd_rule, spin_rule, van_rule, back_rule}
use Rattle.kp_toys.proofs.AtOnce.{at_once_leads, at_once_passes, never}
use Rattle.kp_toys.proofs.Firing.{computed_by_test}
use Rattle.kp_symbolic.specs.Terms.{unknown, known, headed, SymbolicTerms}
use Rattle.kp_symbolic.specs.Solving.{finished}
use Rattle.kp_symbolic.specs.Sources.{AllMayMean, TermsMeet, all_parts}
use Rattle.kp_symbolic.specs.Shown.{unknown_clauses, weight_passed}
use Rattle.kp_symbolic.specs.Weights.{product}
use Rattle.kp_symbolic.specs.Endings.{AreShapes, no_more, meets, passes, shape_of, IsShownOfRun, IsRightEnded}
use Rattle.kp_examples.specs.Clauses.{x_name, x, above}
use Rattle.kp_examples.specs.Weights.{square_predicate, sq_beside, sq_put}
use Rattle.kp_examples.proofs.ShownExamples.{none_contained, zero_is_a_number}
use Rattle.kp_examples.specs.Causes.{sq_x, sq_x_state, sq_use, ten_thousand, undecided_at_once}

-- ---- terms of different constructors don't meet

false_true : false ≡ true → ⊥
false_true e = cc

one_name : (f h : Text) → bytes_eq f h ≡ false → f ≡ h → ⊥
one_name f h e q = false_true (sym e ∙ (bytes_eq-Decides f h).1 q)

two_heads : (f h : Text) (A B : Values → Type 0) (u : Value) → bytes_eq f h ≡ false → IsConstructedBy f A u → IsConstructedBy h B u → ⊥
two_heads f h A B (constructed c us) e i j = one_name f h e (sym i.0 ∙ j.0)
two_heads f h A B (whole n) e i j = absurd i
two_heads f h A B (truth b) e i j = absurd i
two_heads f h A B (token s t) e i j = absurd i

apart_calls : (h : Text) (us : SymbolicTerms) → meaning_of toys_signature h ≡ construction → bytes_eq (codes "Lblsq") h ≡ false → TermsMeet toys_signature sq_x_state.term (headed h us) → ⊥
apart_calls h us m e t =
    let args : Values → Type 0 = AllMayMean toys_signature t.of_rule us in
    two_heads (codes "Lblsq") h _ args t.value e t.first (subst (λ k. by_meaning k (IsConstructedBy h args t.value) ⊥ (IsAnyOfMaybe toys_signature (result_sort toys_signature h no_sorts) t.value)) m t.second)

apart_value : (h : Text) (us : Values) → bytes_eq (codes "Lblsq") h ≡ false → TermsMeet toys_signature sq_x_state.term (known (constructed h us)) → ⊥
apart_value h us e t = two_heads (codes "Lblsq") h _ (λ ws. ⊤) t.value e t.first (subst (IsConstructedBy h (λ ws. ⊤)) (sym t.second) (refl, tt))

-- a rule that is read doesn't meet it where its left term doesn't
alone_apart : {A : Type 0} → (A → ⊥) → A ⊎ ⊥ → ⊥
alone_apart n (inl a) = n a
alone_apart n (inr e) = e

-- ---- what stands beside it

sq_meets : TermsMeet toys_signature sq_x_state.term sq_beside.left
sq_meets = record {
  value = constructed (codes "Lblsq") (next_value (whole (pos 0)) no_values);
  of_state = λ y. whole (pos 0);
  of_rule = λ y. whole (pos 0);
  first = (refl, ((refl, zero_is_a_number), tt));
  second = (refl, ((refl, zero_is_a_number), tt));
}

shapes_of_sq : AreShapes toys_signature sq_x_state toys.rules (shape_of toys_signature sq_rule.body)
unfolding sq_meets
shapes_of_sq =
    passes dec_rule _ _ (alone_apart (apart_calls (codes "Lblcount") _ refl refl))
    (passes stop_rule _ _ (alone_apart (apart_calls (codes "Lblcount") _ refl refl))
    (passes pick_rule _ _ (alone_apart (apart_value (codes "Lblpick") _ refl))
    (passes num_rule _ _ (alone_apart (apart_calls (codes "Lblnum") _ refl refl))
    (meets sq_rule _ [] (inl (record { value = sq_meets.value; of_state = sq_meets.of_state; of_rule = sq_meets.of_rule; first = sq_meets.first; second = (refl, ((refl, zero_is_a_number), tt)) }))
    (passes up_rule _ _ (alone_apart (apart_calls (codes "Lblup") _ refl refl))
    (passes odd_rule _ _ (λ e. e)
    (passes spin_rule _ _ (alone_apart (apart_value (codes "Lblloop") _ refl))
    (passes van_rule _ _ (alone_apart (apart_calls (codes "Lblvf") _ refl refl))
    (passes back_rule _ _ (alone_apart (apart_value (codes "Lblvg") _ refl))
    no_more)))))))))

-- all rules have one priority
not_before : (r : RewriteRule) {A : Type 0} → r.priority ≡ 50 → r.priority < 50 → A
not_before r e l = absurd (omega (arith, e, l))

-- ---- shown

pub sq_shown : IsShownOfRun toys sq_x sq_x (unknown_clauses square_predicate)
sq_shown = record {
  state = sq_x_state;
  read = record { opened = _; is_opened = refl; solving = finished _ refl };
  uses = sq_use ∷ [];
  are_uses = (record { among = Contains-get_or toys.rules 4 sq_rule (ltb-true 4 10 refl); reads = refl; meets = sq_meets }, tt);
  put = sq_put;
  match = record { made = (inr (record { part = unknown x_name; among = Contains-get_or (all_parts sq_x_state (sq_beside ∷ [])) 1 (unknown x_name) (ltb-true 1 11 refl); is = refl }), tt); solved = ((refl, tt), tt) };
  replaced = (((λ e. cc), tt), tt);
  shapes = _;
  are_shapes = shapes_of_sq;
  shown = (
    record { some = λ e. cc; once = (none_contained _, tt); rough = (refl, tt); sourced = ((inr (inr (inl (inl (inl (inl (inl (inl refl))))))), tt), tt) },
    record {
      valuation = λ y. whole (pos 0);
      sorts = (zero_is_a_number, tt);
      plain = tt;
      asked = λ e. inl (record {
        is_read = tt;
        met = record { sorts = (zero_is_a_number, tt); match = (refl, tt); some = inl refl; others = (inl refl, tt) };
        none_before = (not_before dec_rule refl, (not_before stop_rule refl, (not_before pick_rule refl, (not_before num_rule refl, (not_before sq_rule refl, (not_before up_rule refl, (not_before odd_rule refl, (not_before spin_rule refl, (not_before van_rule refl, (not_before back_rule refl, tt))))))))));
      });
    },
  );
}

pub sq_reply : IsRightEnded toys ten_thousand sq_x (undecided_at_once (unknown_clauses square_predicate))
sq_reply = record {
  within_bound = omega arith;
  ending = (at_once_leads toys sq_x refl, at_once_passes toys [] sq_x, ltb-true 0 10000 refl, sq_shown);
  reached = λ n e. absurd (never n e);
  computed = computed_by_test toys_signature (subpatterns sq_x) refl;
}

pub plain_not_shown : ¬ IsShownOfRun toys sq_x sq_x (unknown_clauses (above x (codes "0")))
plain_not_shown s = false_true s.shown.0.rough.0

-- one is no number above the limit
pub no_weight : ¬ IsRightEnded toys ten_thousand sq_x (undecided_at_once (weight_passed square_predicate product 1))
no_weight r =
    let h = r.ending.3.shown in
    not_over h.number h.over.weighs h.over.above
  where
    not_over : (n : ℕ) → n ≡ 1 → 4096 < n → ⊥
    not_over n e l = omega (arith, e, l)
