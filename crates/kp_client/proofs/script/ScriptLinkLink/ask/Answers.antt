use Rattle.std.proofs.Common.{◌≡◌, sym, ap, ap₂, ◌∙◌, Some, [], ◌∷◌, ◌++◌, map, length, slice_get, arith}
use Rattle.kp_client.specs.View.{exchanges_view}
use Rattle.kp_client.proofs.Made.{asked_next, none_left}
use Rattle.kp_client.proofs.script.ScriptLinkLink.ask.Goals as goal

pub returns-in-Ok-clause-asked : goal.returns-in-Ok-clause-asked
returns-in-Ok-clause-asked c =
    let next : slice_get (map (λ l. l.items) c.args.self.now.script.items) (length c.args.self.now.spoken.items) ≡ Some c.in_ok-reply-in-Some.reply.items =
    sym c.in-Some.ensures ∙ ap Some (sym c.in_ok-reply-in-Some.ensures) in
    asked_next c.args.self.now c.note.new.self c.args.frame.now c.in_ok-reply-in-Some.reply.items c.in-Ok.ensures.script
    (c.in-Ok.ensures.noted
    ∙ ap₂ (λ f r. exchanges_view c.args.self.now.spoken.items ++ record { frame = f; reply = r } ∷ []) c.in_ok-asked-in-Some.ensures (c.in_ok-noted-in-Some.ensures ∙ sym c.in_ok-reply-in-Some.ensures))
    next (omega (arith, c.in-Ok.ensures.faults))

pub returns-in-None-clause-at_end : goal.returns-in-None-clause-at_end
returns-in-None-clause-at_end c = λ later same failed. none_left c.args.self.now later same (sym c.in-None.ensures)
