use Rattle.std.proofs.Common.{rules, ◌≡◌, refl, sym, subst, ◌∙◌, ℕ, length, Vec, Global}
use Rattle.std.specs.Vec.{vec_len}
use Rattle.std.proofs.lemmas.List.{length-map}
use Rattle.std.proofs.KnownBytes.{Appends-nil}
use Rattle.kp_frames.specs.Held.{frames_of}
use Rattle.kp_conn.specs.Turns.{AreAnswered, Ends, uncut, unanswered}
use Rattle.kp_conn.proofs.Conversing.{at_err, sees_more, sees_same}
use Rattle.kp_conn.proofs.turn.take_turn.Goals as goal

pub returns-in_err-answer_all-clause-broken : goal.returns-in_err-answer_all-clause-broken
returns-in_err-answer_all-clause-broken g c = at_err c.from_residual-in_err-answer_all.result _ (λ o before seen. sees_more _ before _ _ (λ after now. unanswered (frames_of c.deref.result.now) (subst (λ x. Ends c.args.cutter.now c.feed.new.self c.args.piece.now (frames_of x)) (sym c.deref.ensures.value) c.in_ok-ended.ensures.cut) now)
    (c.in_err-answer_all.ensures.broken o before seen))

pub returns-in_err-ended-clause-broken : goal.returns-in_err-ended-clause-broken
returns-in_err-ended-clause-broken g c = at_err c.from_residual.result _ (λ o before seen. sees_same (g.A.Answerer.has_seen c.args.answerer.now c.args.pass.now o) _ before seen (uncut refl (Appends-nil (g.K.Sink.held c.args.sink.now))))

items_len : (v : Vec (Vec ℕ Global) Global) → vec_len v ≡ length v.items
items_len v = search rules

pub returns-clause-many : goal.returns-clause-many
returns-clause-many g c = record { ended = frames_of c.in_ok-ended.ended.items; ends = c.in_ok-ended.ensures.cut; number = c.len.ensures ∙ items_len c.in_ok-ended.ended ∙ sym (length-map c.in_ok-ended.ended.items (λ v. v.items)) }

pub returns-clause-whole : goal.returns-clause-whole
returns-clause-whole g c = λ o before seen. sees_more _ before _ _ (λ after now. record {
  ended = frames_of c.in_ok-ended.ended.items;
  ends = c.in_ok-ended.ensures.cut;
  number = c.len.ensures ∙ items_len c.in_ok-ended.ended ∙ sym (length-map c.in_ok-ended.ended.items (λ v. v.items));
  answered = subst (λ x. AreAnswered (g.A.Answerer.answers c.args.answerer.now o) before (frames_of x) (g.K.Sink.held c.args.sink.now) (g.K.Sink.held c.answer_all.new.sink) after) c.deref.ensures.value now;
}) (c.in_ok-answer_all.ensures.whole o before seen)
