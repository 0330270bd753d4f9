use Rattle.std.proofs.Common.{refl}
use Rattle.std.proofs.lemmas.Result.{on_ok_weaker}
use Rattle.kp_signature.proofs.SpanLemmas.{either_of, one_number}
use Rattle.kp_signature.proofs.spans.add_number.Goals as goal

pub returns : goal.returns
returns c = on_ok_weaker c.add_span.result (λ h j. either_of (h j) (one_number c.args.number j _ refl refl)) c.add_span.ensures
