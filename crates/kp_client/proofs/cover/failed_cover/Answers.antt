use Rattle.std.proofs.Common.{sym, ap, subst, [], ◌∷◌, ◌≢◌}
use Rattle.std.proofs.lemmas.Int.{to_z-of_z}
use mir.Syntax.{w64}
use mir.Val.{of_z}
use Rattle.kp_replies.specs.Read.{implies}
use Rattle.kp_client.specs.Rounds.{cover_question, undecided_code, Refuses, by_error}
use Rattle.kp_client.proofs.cover.failed_cover.Goals as goal

pub returns : goal.returns
returns c claim s e same h =
    subst (λ z. Refuses (cover_question claim s) implies (e ∷ []) z × (z ≢ undecided_code)) (sym (to_z-of_z w64 c.args.code c.ranges.code))
    (by_error e c.args.code h, λ is. c.if-code-eq-UNDECIDED.false (ap (of_z w64) is))
