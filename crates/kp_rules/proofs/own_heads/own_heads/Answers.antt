use Rattle.std.proofs.Common.{subst, [], map}
use Rattle.kp_kore.specs.View.{sort_view}
use Rattle.kp_signature.specs.View.{signature_view}
use Rattle.kp_rules.specs.Index.{AreMarked}
use Rattle.kp_rules.proofs.own_heads.own_heads.Goals as goal

pub returns : goal.returns
returns c order =
    let g = signature_view c.args.signature.now in
    c.mark_results.ensures order (subst (λ l. AreMarked g [] (map sort_view l) c.in_ok-marks.marks.items) c.deref.ensures.value c.in_ok-marks.ensures)
