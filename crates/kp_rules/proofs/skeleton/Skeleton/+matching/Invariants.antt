use Rattle.std.proofs.Common.{◌↔◌}
use Rattle.kp_kore.specs.Instance.{Valuation}
use Rattle.kp_signature.specs.View.{signature_view}
use Rattle.kp_ground.specs.Solves.{Solves}
use Rattle.kp_rules.specs.Skeletons.{IsSolvable}
use Rattle.kp_rules.proofs.Showing.{Left}
use Rattle.kp_rules.proofs.skeleton.Skeleton.+matching.Given as goal

abbrev pub invariant-match_all-loop-i : goal.invariant-match_all-loop-i
invariant-match_all-loop-i l = record {
  same : (v : Valuation) → (Solves v l.bindings.items × Left (signature_view l.signature) l.skeletons l.values l.i v) ↔ (Solves v l.initial.bindings.items × Left (signature_view l.signature) l.skeletons l.values 0 v);
  solvable : IsSolvable l.initial.bindings.items → IsSolvable l.bindings.items;
}
