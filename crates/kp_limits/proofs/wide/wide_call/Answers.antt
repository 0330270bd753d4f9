use Rattle.std.proofs.Common.{rules, ◌≡◌, length, string_bytes}
use Rattle.kp_signature.specs.View.{signature_view}
use Rattle.kp_limits.proofs.WideLemmas.{not_two}
use Rattle.kp_limits.proofs.wide.wide_call.Goals as goal
use Rattle.kp_limits.proofs.wide.wide_call.Goals.{in_default-via-then-arguments-lt2, in_default-via-else-arguments-lt2+else-arguments-lt3}

pub returns-in_default : goal.returns-in_default
returns-in_default c =
    let other : length c.args.arguments.now ≡ 2 → ⊥ = λ e. elim c.in_default.branch [ in_default-via-then-arguments-lt2 w ↦ search rules | in_default-via-else-arguments-lt2+else-arguments-lt3 w ↦ search rules ] in
    not_two (signature_view c.args.signature.now) (string_bytes c.args.symbol.now.value) c.args.arguments.now other
