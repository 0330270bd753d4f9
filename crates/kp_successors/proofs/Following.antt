-- From what follows one of the code's rules to the successors by its rule of the theory.
use Rattle.std.proofs.Common.{◌≡◌, refl, sym, ap, subst, ◌∙◌, Bool, true, false, not, ◌&&◌, ◌↔◌, Option, Some, None, inl, inr}
use Rattle.std.specs.List.{AllByRecursion}
use Rattle.kp_kore.specs.Syntax.{Text, KorePattern}
use Rattle.kp_kore.specs.Parts.{free_variables}
use Rattle.kp_kore.specs.Signature.{KoreSignature}
use Rattle.kp_kore.specs.View.{sort_view}
use Rattle.kp_kore.specs.Value.{Value, HasSort}
use Rattle.kp_kore.specs.Sorted.{IsSorted}
use Rattle.kp_kore.specs.Instance.{Valuation, instance, GivesSorts, is_named}
use Rattle.kp_kore.specs.Rules as model
use Rattle.kp_kore.specs.Steps.{FiresUnder, Rewrites}
use Rattle.kp_kore.proofs.InstanceLemmas.{one_instance}
use Rattle.kp_rules.specs.Heads.{FiresAs}
use Rattle.kp_rules.specs.Bodies.{IsPlain, IsRewriteOf, IsBodyOf, IsSideOf, IsChoiceOf}
use Rattle.kp_rules.specs.declared.rule.RuleBody.{RuleBody}
use Rattle.kp_rules.specs.declared.rule.RuleBody.TheVariants.{Rewrite, Foreign}
use Rattle.kp_rules.specs.declared.rule.Rewrite as code
use Rattle.kp_rules.specs.declared.right_side.RightSide.{RightSide}
use Rattle.kp_rules.proofs.Fired.{fired_under}
use Rattle.kp_compile.specs.Spelled.{IsSpellingOf}
use Rattle.kp_run.specs.Turns.{BodyFires}
use Rattle.kp_run.proofs.Theories.{leads_to, leads_only_to}
use Rattle.kp_pattern_substitution.specs.Substitution.{is_replaced}
use Rattle.kp_rules.specs.Known.{are_known}
use Rattle.kp_successors.specs.Choices.{chosen_pattern, IsPutIn}
use Rattle.kp_successors.specs.Nexts.{left_of, new_of, ensured_of, PlainBy, ChosenBy, IsNextBy}
use Rattle.kp_successors.specs.Successors.{IsWrittenNext}
use Rattle.kp_successors.specs.Instances.{IsSomeInstance}
use Rattle.kp_successors.specs.Turns.{Follows}
use Rattle.kp_successors.proofs.ChosenSteps.{led_is_instance, instance_is_led}

-- what follows a rewrite is what the theory says
pub record IsExact (g : KoreSignature) (m : model.RuleBody) (u : Value) (p : KorePattern) : Type 0 where
  pub exact : (next : Value) → Rewrites g m u next ↔ IsSomeInstance g p next
  pub written : IsWrittenNext g m u p

-- ---- without a choice

spelled_instance : (g : KoreSignature) (value : Value) (p : KorePattern) (next : Value) → IsSpellingOf g value p → (next ≡ value) ↔ IsSomeInstance g p next
spelled_instance g value p next h = (
  (λ e. ((λ y. next), subst (GivesSorts g (λ y. next)) (sym h.closed) tt, (one_instance g (λ y. next) p next h.term).1 (e ∙ sym (h.meant (λ y. next))))),
  (λ i. (one_instance g i.0 p next h.term).0 i.2 ∙ h.meant i.0),
)

plain_is_exact : (g : KoreSignature) (w : model.Rewrite) (r : code.Rewrite) (u : Value) (p : KorePattern) → IsRewriteOf g w r → IsPlain w → IsSorted g u → (v : Valuation) → FiresAs g r u v → PlainBy g r (FiresAs g r u) p →
    IsExact g (model.rewrite w) u p
plain_is_exact g w r u p is plain s v f by =
    let fires = (fired_under g w r is u s v).0 f in
    let here : (v : Valuation) → FiresUnder g w v u → by.value ≡ instance g v w.right = λ v k. by.meant v ((fired_under g w r is u s v).1 k) ∙ is.right v in
    let spelling : IsSpellingOf g by.value p = by.spelled (subst (HasSort g (sort_view r.right_sort)) (sym (here v fires)) (is.sorted v fires.sorts plain.new_variables)) in
    record {
      exact = λ next. (
        (λ k. (spelled_instance g by.value p next spelling).0 (leads_only_to g w k.0 next plain k.2 ∙ sym (here k.0 k.1))),
        (λ i. (v, fires, leads_to g w v next plain ((spelled_instance g by.value p next spelling).1 i ∙ here v fires))),
      );
      written = inl (record { plain = plain; value = by.value; spelling = spelling });
    }

-- ---- with a choice

known_there : (g : KoreSignature) (w : model.Rewrite) (s : RightSide) → IsSideOf g w s → are_known (free_variables w.left) w.new_variables w.right w.ensured ≡ true
known_there g w s is =
    subst (λ xs. are_known xs w.new_variables w.right w.ensured ≡ true) is.left_variables
    (subst (λ xs. are_known (left_of s) xs w.right w.ensured ≡ true) is.new_variables
    (subst (λ qs. are_known (left_of s) (new_of s) w.right qs ≡ true) is.ensured
    (subst (λ t. are_known (left_of s) (new_of s) t (ensured_of s) ≡ true) is.term s.known)))

chosen_is_exact : (g : KoreSignature) (w : model.Rewrite) (r : code.Rewrite) (side : RightSide) (u : Value) (p : KorePattern) → IsRewriteOf g w r → ¬ IsPlain w → IsSideOf g w side → IsSorted g u → (v : Valuation) → FiresAs g r u v →
    ChosenBy g (sort_view r.right_sort) side (FiresAs g r u) p → IsExact g (model.rewrite w) u p
chosen_is_exact g w r side u p is chooses of s v f by =
    let sort = sort_view r.right_sort in
    let names : (x : Text) → is_replaced by.terms x ≡ (is_named x (free_variables w.left) && not (is_named x w.new_variables)) = λ x. by.names x ∙ ap (λ xs. is_named x xs && not (is_named x (new_of side))) of.left_variables ∙ ap (λ xs. is_named x (free_variables w.left) && not (is_named x xs)) of.new_variables in
    let choosing : IsPutIn w by.terms = record { constrained = is.constrained; names = names; known = known_there g w side of } in
    let spell : (v : Valuation) → FiresUnder g w v u → AllByRecursion (λ r. IsSpellingOf g (v r.name) r.term) by.terms =
    λ v k. by.spelled v ((fired_under g w r is u s v).1 k) (subst (GivesSorts g v) (sym of.left_variables) k.sorts) in
    let pattern : p ≡ chosen_pattern sort by.terms w.right w.ensured w.new_variables =
    by.pattern
    ∙ ap (λ t. chosen_pattern sort by.terms t (ensured_of side) (new_of side)) of.term
    ∙ ap (λ qs. chosen_pattern sort by.terms w.right qs (new_of side)) of.ensured
    ∙ ap (λ xs. chosen_pattern sort by.terms w.right w.ensured xs) of.new_variables in
    let fires = (fired_under g w r is u s v).0 f in
    record {
      exact = λ next. (
        (λ k. subst (λ q. IsSomeInstance g q next) (sym pattern) (led_is_instance g sort w by.terms k.0 next choosing (spell k.0 k.1) k.2)),
        (λ i. (v, fires, instance_is_led g sort w by.terms v next choosing (spell v fires) (subst (λ q. IsSomeInstance g q next) pattern i))),
      );
      written = inr (record { chooses = chooses; terms = by.terms; names = names; spelled = spell; sort = sort; is_sort = is.right_sort; pattern = pattern });
    }

-- ---- either

follows_by : (g : KoreSignature) (w : model.Rewrite) (r : code.Rewrite) (u : Value) (p : KorePattern) (b : Bool) (o : Option RightSide) → IsRewriteOf g w r → r.chooses ≡ b → IsChoiceOf g w b o → IsSorted g u → (v : Valuation) → FiresAs g r u v →
    IsNextBy g r o (FiresAs g r u) p → IsExact g (model.rewrite w) u p
follows_by g w r u p true (Some side) is e choice s v f by = chosen_is_exact g w r side u p is (is.chooses e) choice s v f by
follows_by g w r u p false None is e choice s v f by = plain_is_exact g w r u p is (is.plain e) s v f by
follows_by g w r u p true None is e choice s v f by = absurd choice
follows_by g w r u p false (Some side) is e choice s v f by = absurd choice

pub follows : (g : KoreSignature) (m : model.RuleBody) (b : RuleBody) (u : Value) (p : KorePattern) → IsBodyOf g m b → IsSorted g u → BodyFires g u b → Follows g u b p → IsExact g m u p
follows g (model.rewrite w) (Rewrite r) u p is s f by = follows_by g w r u p r.chooses r.choice is refl is.choice s f.0 f.1 by
follows g (model.foreign_rule l) (Foreign k) u p is s f by = absurd f
follows g (model.rewrite w) (Foreign k) u p is s f by = absurd is
follows g (model.foreign_rule l) (Rewrite r) u p is s f by = absurd is
