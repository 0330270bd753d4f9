use Rattle.std.proofs.Common.{◌≡◌, string_bytes}
use Rattle.kp_kore.specs.Signature.{IsHeadOf}
use Rattle.kp_kore.specs.View.{sort_view}
use Rattle.kp_signature.specs.View.{signature_view}
use Rattle.kp_kore.specs.Value.{head_of}
use Rattle.kp_ground.specs.View.{value_view}
use Rattle.kp_rules.proofs.Showing.{matches_with}
use Rattle.kp_rules.proofs.foreign_left_sides.match_one.Goals as goal

pub returns-in_ok-match_variable-clause-same : goal.returns-in_ok-match_variable-clause-same
returns-in_ok-match_variable-clause-same c =
    matches_with c.in_ok-match_variable.field-0 c.args.bindings.items (λ v. v (string_bytes c.args.name.now.value) ≡ value_view c.args.value.now)
    (IsHeadOf (signature_view c.args.signature.now) (sort_view c.args.sort.now) (head_of (value_view c.args.value.now)))
    (c.in_ok-has_sort.ensures.0 c.if-branch.true) c.in_ok-match_variable.ensures.same
