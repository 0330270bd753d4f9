use Rattle.std.proofs.Common.{rules, ◌≡◌, ◌∙◌, sym, ◌≤◌, length}
use Rattle.kp_signature.specs.View.{signature_view}
use Rattle.kp_clauses.proofs.StateLemmas.{at_end}
use Rattle.kp_clauses.proofs.fault.members_fault.Goals as goal

pub returns : goal.returns
returns c =
    let past : length c.args.members.now ≤ c.loop-i.i = search rules in
    let g = signature_view c.args.signature.now in
    c.end_fault.ensures g ∙ sym (at_end g c.loop-i.seen c.args.members.now c.loop-i.i _ past c.loop-i.invariant)
