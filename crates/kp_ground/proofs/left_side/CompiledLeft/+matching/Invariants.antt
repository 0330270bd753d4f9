use Rattle.std.proofs.Common.{◌≡◌, ◌↔◌, map, take, drop, true}
use Rattle.kp_kore.specs.Instance.{Valuation}
use Rattle.kp_ground.specs.Slots.{names_after, is_numbered, joined, left_places}
use Rattle.kp_ground.specs.Solves.{Solves, bound_names}
use Rattle.kp_ground.specs.Matches.{IsSolvable}
use Rattle.kp_ground.specs.Terms.{left_value}
use Rattle.kp_ground.specs.LeftView.{left_view}
use Rattle.kp_ground.specs.View.{value_view}
use Rattle.kp_ground.proofs.left_side.CompiledLeft.+matching.Given as goal

abbrev pub invariant-match_all-loop-i : goal.invariant-match_all-loop-i
invariant-match_all-loop-i l = record {
  matches : (v : Valuation) → Solves v l.bindings.items ↔ (Solves v l.initial.bindings.items × (map (λ t. left_value v (left_view t)) (take l.i l.lefts) ≡ map value_view (take l.i l.values)));
  names : names_after (bound_names l.bindings.items) (joined (map left_places (drop l.i l.lefts))) ≡ names_after (bound_names l.initial.bindings.items) (joined (map left_places l.lefts));
  numbered : is_numbered (bound_names l.bindings.items) (joined (map left_places (drop l.i l.lefts))) ≡ true;
  solvable : IsSolvable l.initial.bindings.items → IsSolvable l.bindings.items;
}
