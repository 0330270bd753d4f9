-- A new variable that is chosen for one of a rule's.
use Rattle.std.proofs.Common.{◌≡◌, sym, ap, subst, ◌∙◌, false, List, [], ◌∷◌, ◌++◌}
use Rattle.std.specs.Prelude.{is_some, MatchBool}
use Rattle.kp_kore.specs.Syntax.{Text}
use Rattle.kp_kore.specs.Parts.{SortedName}
use Rattle.kp_symbolic.specs.Terms.{unknown, replacement_for}
use Rattle.kp_unify.specs.Names.{IsNextName}
use Rattle.kp_step.specs.RightSides.{ChosenNew, IsChosenNext, IsChosenOne}

pub is_chosen : (used : List Text) (y v : SortedName) (before after : ChosenNew) → is_some (replacement_for before.bindings y.name) ≡ false → IsNextName used before.next v.name after.next → v.sort ≡ y.sort →
    after.bindings ≡ before.bindings ++ record { name = y.name; term = unknown v } ∷ [] → after.new ≡ before.new ++ v ∷ [] → IsChosenOne used y before after
is_chosen used y v before after none named sort bound made = subst (λ b. MatchBool b (after ≡ before) (IsChosenNext used y before after)) (sym none) chosen
  where
    same : v ≡ record { name = v.name; sort = y.sort }
    same = ap (λ s. record { name = v.name; sort = s }) sort

    chosen : IsChosenNext used y before after
    chosen = record {
      name = v.name;
      named = named;
      bindings = bound ∙ ap (λ x. before.bindings ++ record { name = y.name; term = unknown x } ∷ []) same;
      new = made ∙ ap (λ x. before.new ++ x ∷ []) same;
    }
