use Rattle.std.proofs.Common.{◌≡◌, ◌↔◌, ◌∙◌, List, [], ap, sym, subst, true, false}
use Rattle.kp_kore.specs.Value as model
use Rattle.kp_kore.specs.Value.{truth}
use Rattle.kp_kore.specs.Instance.{Valuation}
use Rattle.kp_ground.specs.Matches.{IsSolvable}
use Rattle.kp_ground.specs.Slots.{is_numbered, left_places, names_after}
use Rattle.kp_ground.specs.Solves.{Solves, bound_names}
use Rattle.kp_ground.specs.Terms.{left_value}
use Rattle.kp_ground.specs.LeftView.{left_view}
use Rattle.kp_ground.specs.View.{value_view}
use Rattle.kp_ground.specs.declared.binding.Binding.{Binding}
use Rattle.kp_ground.proofs.SlotLemmas.{first_so}
use Rattle.kp_rules.specs.Heads.{Binds}
use Rattle.kp_rules.specs.declared.rule.Rewrite.{Rewrite}
use Rattle.kp_rules.proofs.rule.Rewrite.fires.Goals as goal

-- a match from no bindings
first_bound : (r : Rewrite) (old new : List Binding) (u : model.Value) → old ≡ [] →
    ((v : Valuation) → Solves v new ↔ (Solves v old × (left_value v (left_view r.left) ≡ u))) → Binds r new u
first_bound r old new u none found = λ v. (
  (λ s. ((found v).0 s).1),
  (λ same. (found v).1 (subst (Solves v) (sym none) tt, same)),
)

-- any valuation solves no bindings
pub returns-in-Some-clause-solvable : goal.returns-in-Some-clause-solvable
returns-in-Some-clause-solvable c =
    let kept = rw c.in-Some.is at c.in_ok-bindings.ensures.solvable in
    c.fires_with.ensures.solvable (kept (subst IsSolvable (sym c.new.ensures.items) ((λ x. truth false), tt)))

pub returns-in-Some-clause-number : goal.returns-in-Some-clause-number
returns-in-Some-clause-number c =
    let u = value_view c.args.value.now in
    let found = rw c.in-Some.is at c.in_ok-bindings.ensures.matches in
    let kept = rw c.in-Some.is at c.in_ok-bindings.ensures.solvable in
    c.fires_with.ensures.number u (first_bound c.args.self.now c.new.result.items c.in-Some.bindings.items u c.new.ensures.items found)
    (kept (subst IsSolvable (sym c.new.ensures.items) ((λ x. truth false), tt)))

pub returns-in-Some-clause-narrow : goal.returns-in-Some-clause-narrow
returns-in-Some-clause-narrow c =
    let u = value_view c.args.value.now in
    let found = rw c.in-Some.is at c.in_ok-bindings.ensures.matches in
    c.fires_with.ensures.narrow u (first_bound c.args.self.now c.new.result.items c.in-Some.bindings.items u c.new.ensures.items found)

pub returns-in-Some-clause-firing : goal.returns-in-Some-clause-firing
returns-in-Some-clause-firing c =
    let u = value_view c.args.value.now in
    let found = rw c.in-Some.is at c.in_ok-bindings.ensures.matches in
    let kept = rw c.in-Some.is at c.in_ok-bindings.ensures.solvable in
    c.fires_with.ensures.firing u (first_bound c.args.self.now c.new.result.items c.in-Some.bindings.items u c.new.ensures.items found)
    (kept (subst IsSolvable (sym c.new.ensures.items) ((λ x. truth false), tt)))

-- the left term numbers its variables, and a match binds them all
pub match_value-requires : goal.match_value-requires
match_value-requires c =
    let left = c.args.self.now.left in
    subst (λ bs. is_numbered (bound_names bs) (left_places left) ≡ true) (sym c.new.ensures.items) (first_so (is_numbered [] (left_places left)) _ c.args.self.now.left_bound)

pub fires_with-requires : goal.fires_with-requires
fires_with-requires c =
    let named = rw c.in-Some.is at c.in_ok-bindings.ensures.names in
    named ∙ ap (λ bs. names_after (bound_names bs) (left_places c.args.self.now.left)) c.new.ensures.items
