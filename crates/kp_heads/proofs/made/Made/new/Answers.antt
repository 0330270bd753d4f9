use Rattle.std.proofs.Common.{map}
use Rattle.kp_signature.specs.View.{signature_view}
use Rattle.kp_heads.specs.Steps.{pair_step}
use Rattle.kp_heads.proofs.made.Made.new.Goals as goal

pub returns : goal.returns
returns c =
    let g = signature_view c.args.signature.now in
    c.in_ok-add_symbols.ensures (map pair_step g.subsorts) (c.in_ok-add_pairs.ensures c.empty-made.ensures)
