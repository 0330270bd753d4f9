-- Numbers beyond 128 bits: from the code's rules to those of the theory.
use Rattle.std.proofs.Common.{◌≡◌, refl, sym, ap, ap₂, subst, ◌∙◌, Bool, true, false, not, ◌&&◌, ◌||◌, ◌↔◌, List, [], ◌∷◌, ◌++◌, Option, Some, None}
use Rattle.std.specs.List.{list_all, list_any}
use Rattle.std.proofs.lemmas.List.Folds.{list_any-append}
use Rattle.kp_kore.specs.Syntax.{KorePattern, KorePatterns, variable, set_variable, application, string_literal, literal, top, bottom, negation, next, conjunction, disjunction, implication, equivalence, rewriting, exists, forall, ceil, floor, equals, membership, mu, nu, no_patterns, next_pattern}
use Rattle.kp_kore.specs.Parts.{SortedName, subpatterns, all_subpatterns, free_variables}
use Rattle.kp_kore.specs.Signature.{KoreSignature}
use Rattle.kp_kore.specs.Value.{Value}
use Rattle.kp_kore.specs.Sorted.{IsSorted}
use Rattle.kp_kore.specs.Instance.{Valuation, instance, is_named}
use Rattle.kp_kore.specs.Numbers.{is_wide_call, computes_wide}
use Rattle.kp_kore.specs.Rules as model
use Rattle.kp_ground.specs.Conditions.{condition_narrow}
use Rattle.kp_ground.specs.ConditionView.{condition_view}
use Rattle.kp_rules.specs.Bodies.{IsRewriteOf, IsBodyOf, IsChoiceOf}
use Rattle.kp_rules.specs.declared.rule.RuleBody.{RuleBody}
use Rattle.kp_rules.specs.declared.rule.RuleBody.TheVariants.{Rewrite, Foreign}
use Rattle.kp_rules.specs.declared.rule.Rewrite as code
use Rattle.kp_rules.specs.declared.right_side.RightSide.{RightSide}
use Rattle.kp_rules.proofs.Fired.{fired_under}
use Rattle.kp_run.specs.Causes.{HasWideCondition}
use Rattle.kp_run.specs.Turns.{BodyIsWide}
use Rattle.kp_rules.specs.WideParts.{holds_none, part_computes_wide}
use Rattle.kp_successors.specs.Nexts.{is_right_narrow, is_right_narrow_by}
use Rattle.kp_successors.specs.Successors.{HasWidePart}
use Rattle.kp_successors.specs.Turns.{RightIsWide}

-- ---- conditions

opposite_of : (a b : Bool) → a ≡ not b → a ≡ false → b ≡ true
opposite_of a true e f = refl
opposite_of a false e f = cc

opposite_back : (a b : Bool) → a ≡ not b → b ≡ true → a ≡ false
opposite_back a true e f = e
opposite_back a false e f = absurd (cc)

pub wide_condition : (g : KoreSignature) (m : model.RuleBody) (b : RuleBody) (u : Value) → IsSorted g u → IsBodyOf g m b → BodyIsWide g u b ↔ HasWideCondition g u m
wide_condition g (model.rewrite w) (Rewrite r) u s is = (
  (λ h. let v = h.valuation in
      let same : instance g v w.left ≡ u = sym (is.left v) ∙ h.meets.matches in
      record {
        valuation = v;
        sorts = (is.tests v (subst (IsSorted g) (sym same) s)).0 h.meets.tests;
        matches = same;
        wide = opposite_of (condition_narrow v (condition_view r.condition)) (list_any (computes_wide g v) w.condition) (is.condition_narrow v) h.wide;
      }),
  (λ h. let v = h.valuation in
      record {
        valuation = v;
        meets = record { matches = is.left v ∙ h.matches; tests = (is.tests v (subst (IsSorted g) (sym h.matches) s)).1 h.sorts };
        wide = opposite_back (condition_narrow v (condition_view r.condition)) (list_any (computes_wide g v) w.condition) (is.condition_narrow v) h.wide;
      }),
)
wide_condition g (model.foreign_rule l) (Foreign k) u s is = ((λ h. h), (λ h. h))
wide_condition g (model.rewrite w) (Foreign k) u s is = absurd is
wide_condition g (model.foreign_rule l) (Rewrite r) u s is = absurd is

-- ---- parts of parts

absorbed : (a b : Bool) → (a || b) || b ≡ a || b
absorbed true b = refl
absorbed false true = refl
absorbed false false = refl

-- whether some part of some part passes is whether some part does
abbrev Within : (KorePattern → Bool) → KorePattern → Bool
Within f p = list_any f (subpatterns p)

one_level : (f : KorePattern → Bool) (p : KorePattern) (rest : List KorePattern) → list_any (Within f) rest ≡ list_any f rest → (f p || list_any f rest) || list_any (Within f) rest ≡ f p || list_any f rest
one_level f p rest e = ap (λ b. (f p || list_any f rest) || b) e ∙ absorbed (f p) (list_any f rest)

both_levels : (f : KorePattern → Bool) (xs ys : List KorePattern) → list_any (Within f) xs ≡ list_any f xs → list_any (Within f) ys ≡ list_any f ys → list_any (Within f) (xs ++ ys) ≡ list_any f (xs ++ ys)
both_levels f xs ys e k = list_any-append (Within f) xs ys ∙ ap₂ (λ a b. a || b) e k ∙ sym (list_any-append f xs ys)

mutual
  parts_of_parts : (f : KorePattern → Bool) (p : KorePattern) → list_any (Within f) (subpatterns p) ≡ list_any f (subpatterns p)
  parts_of_parts f (variable x s) = one_level f (variable x s) [] refl
  parts_of_parts f (set_variable x s) = one_level f (set_variable x s) [] refl
  parts_of_parts f (string_literal t) = one_level f (string_literal t) [] refl
  parts_of_parts f (literal s t) = one_level f (literal s t) [] refl
  parts_of_parts f (top s) = one_level f (top s) [] refl
  parts_of_parts f (bottom s) = one_level f (bottom s) [] refl
  parts_of_parts f (application f' ss ps) = one_level f (application f' ss ps) (all_subpatterns ps) (parts_of_all f ps)
  parts_of_parts f (conjunction s ps) = one_level f (conjunction s ps) (all_subpatterns ps) (parts_of_all f ps)
  parts_of_parts f (disjunction s ps) = one_level f (disjunction s ps) (all_subpatterns ps) (parts_of_all f ps)
  parts_of_parts f (negation s p) = one_level f (negation s p) (subpatterns p) (parts_of_parts f p)
  parts_of_parts f (next s p) = one_level f (next s p) (subpatterns p) (parts_of_parts f p)
  parts_of_parts f (exists s x t p) = one_level f (exists s x t p) (subpatterns p) (parts_of_parts f p)
  parts_of_parts f (forall s x t p) = one_level f (forall s x t p) (subpatterns p) (parts_of_parts f p)
  parts_of_parts f (ceil a s p) = one_level f (ceil a s p) (subpatterns p) (parts_of_parts f p)
  parts_of_parts f (floor a s p) = one_level f (floor a s p) (subpatterns p) (parts_of_parts f p)
  parts_of_parts f (mu x s p) = one_level f (mu x s p) (subpatterns p) (parts_of_parts f p)
  parts_of_parts f (nu x s p) = one_level f (nu x s p) (subpatterns p) (parts_of_parts f p)
  parts_of_parts f (implication s p q) = one_level f (implication s p q) (subpatterns p ++ subpatterns q) (both_levels f (subpatterns p) (subpatterns q) (parts_of_parts f p) (parts_of_parts f q))
  parts_of_parts f (equivalence s p q) = one_level f (equivalence s p q) (subpatterns p ++ subpatterns q) (both_levels f (subpatterns p) (subpatterns q) (parts_of_parts f p) (parts_of_parts f q))
  parts_of_parts f (rewriting s p q) = one_level f (rewriting s p q) (subpatterns p ++ subpatterns q) (both_levels f (subpatterns p) (subpatterns q) (parts_of_parts f p) (parts_of_parts f q))
  parts_of_parts f (equals a s p q) = one_level f (equals a s p q) (subpatterns p ++ subpatterns q) (both_levels f (subpatterns p) (subpatterns q) (parts_of_parts f p) (parts_of_parts f q))
  parts_of_parts f (membership a s p q) = one_level f (membership a s p q) (subpatterns p ++ subpatterns q) (both_levels f (subpatterns p) (subpatterns q) (parts_of_parts f p) (parts_of_parts f q))

  parts_of_all : (f : KorePattern → Bool) (ps : KorePatterns) → list_any (Within f) (all_subpatterns ps) ≡ list_any f (all_subpatterns ps)
  parts_of_all f no_patterns = refl
  parts_of_all f (next_pattern p ps) = both_levels f (subpatterns p) (all_subpatterns ps) (parts_of_parts f p) (parts_of_all f ps)

all_old : (xs : List SortedName) → list_all (λ x. not (is_named x.name [])) xs ≡ true
all_old [] = refl
all_old (x ∷ xs) = all_old xs

same_any : (f h : KorePattern → Bool) (ps : List KorePattern) → ((p : KorePattern) → f p ≡ h p) → list_any f ps ≡ list_any h ps
same_any f h [] e = refl
same_any f h (p ∷ ps) e = ap₂ (λ a b. a || b) (e p) (same_any f h ps e)

-- without new variables each part counts
pub plain_parts : (g : KoreSignature) (v : Valuation) (p : KorePattern) → part_computes_wide g v [] p ≡ computes_wide g v p
plain_parts g v p =
    same_any (λ q. holds_none [] q && computes_wide g v q) (computes_wide g v) (subpatterns p) (λ q. ap (λ b. b && computes_wide g v q) (all_old (free_variables q)))
    ∙ parts_of_parts (is_wide_call g v) p

-- ---- right terms

right_by : (g : KoreSignature) (w : model.Rewrite) (r : code.Rewrite) (b : Bool) (o : Option RightSide) → IsRewriteOf g w r → r.chooses ≡ b → IsChoiceOf g w b o → (v : Valuation) → is_right_narrow_by r o v ≡ not (part_computes_wide g v w.new_variables w.right)
right_by g w r true (Some side) is e choice v = choice.parts v
right_by g w r false None is e choice v =
    is.right_narrow v ∙ ap not (sym (plain_parts g v w.right)) ∙ sym (ap (λ xs. not (part_computes_wide g v xs w.right)) ((is.plain e).new_variables))
right_by g w r true None is e choice v = absurd choice
right_by g w r false (Some side) is e choice v = absurd choice

pub wide_right : (g : KoreSignature) (m : model.RuleBody) (b : RuleBody) (u : Value) → IsSorted g u → IsBodyOf g m b → RightIsWide g u b ↔ HasWidePart g u m
wide_right g (model.rewrite w) (Rewrite r) u s is = (
  (λ h. record {
    valuation = h.0;
    fires = (fired_under g w r is u s h.0).0 h.1;
    wide = opposite_of (is_right_narrow r h.0) (part_computes_wide g h.0 w.new_variables w.right) (right_by g w r r.chooses r.choice is refl is.choice h.0) h.2;
  }),
  (λ h. (
    h.valuation,
    (fired_under g w r is u s h.valuation).1 h.fires,
    opposite_back (is_right_narrow r h.valuation) (part_computes_wide g h.valuation w.new_variables w.right) (right_by g w r r.chooses r.choice is refl is.choice h.valuation) h.wide,
  )),
)
wide_right g (model.foreign_rule l) (Foreign k) u s is = ((λ h. h), (λ h. h))
wide_right g (model.rewrite w) (Foreign k) u s is = absurd is
wide_right g (model.foreign_rule l) (Rewrite r) u s is = absurd is
