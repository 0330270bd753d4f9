use Rattle.std.proofs.Common.{rules, refl, sym, ap, subst, arith, ◌≡◌, ◌==◌, ◌<◌, ◌≤◌, ◌⊎◌, inl, inr, [], length, drop, append-nil, length-drop}
use Rattle.std.proofs.lemmas.List.{take_rest}
use Rattle.kp_frames.specs.Frames.{Cuts}
use Rattle.kp_frames.specs.Held.{frames_of, Takes}
use Rattle.kp_frames.proofs.Cutting.{unended_cuts, turn, piece_cut, fed}
use Rattle.kp_frames.proofs.held.Held.take_piece.Goals as goal
use Rattle.kp_frames.proofs.held.Held.take_piece.Goals.{then-loop-at-test+else-len-limit, else-loop-at-test}

pub loop-at-init : goal.loop-at-init
loop-at-init c =
    let none : frames_of c.new-frames.result.items ≡ [] = ap frames_of c.new-frames.ensures.items in
    record {
      within = omega arith;
      held = c.requires;
      cut = subst (λ x. Cuts c.args.limit x (frames_of c.new-frames.result.items) c.args.self.now.rest.items (length c.args.self.now.rest.items == c.args.limit)) (sym (append-nil c.args.self.now.rest.items))
          (subst (λ g. Cuts c.args.limit c.args.self.now.rest.items g c.args.self.now.rest.items (length c.args.self.now.rest.items == c.args.limit)) (sym none) (unended_cuts c.args.limit c.args.self.now.rest.items c.requires.unended c.requires.within));
      same = λ e. (refl, none);
    }

pub loop-at-preserved : goal.loop-at-preserved
loop-at-preserved c =
    let room : length c.loop-at.self.rest.items < c.args.limit = search rules in
    let taken : Takes c.args.limit c.loop-at.self.rest.items (drop c.loop-at.at c.args.piece.now) c.in_ok-at.field-0 (frames_of c.loop-at.frames.items) (frames_of c.take_next.new.frames.items) c.take_next.new.self.rest.items =
    subst (λ x. Takes c.args.limit c.loop-at.self.rest.items x c.in_ok-at.field-0 (frames_of c.loop-at.frames.items) (frames_of c.take_next.new.frames.items) c.take_next.new.self.rest.items) (take_rest c.args.piece.now c.loop-at.at) c.in_ok-at.ensures.takes in
    record {
      within = omega (arith, taken.within, length-drop c.loop-at.at c.args.piece.now, c.loop-at.invariant.within);
      held = c.in_ok-at.ensures.held;
      cut = turn c.args.limit c.args.self.now.rest.items c.loop-at.self.rest.items c.args.piece.now c.loop-at.at c.in_ok-at.field-0 (frames_of c.loop-at.frames.items) (frames_of c.take_next.new.frames.items) c.take_next.new.self.rest.items room c.loop-at.invariant.cut taken;
      same = λ e. absurd (omega (arith, room, e, ap length (c.loop-at.invariant.same e).0));
    }

pub returns-clause-cut : goal.returns-clause-cut
returns-clause-cut c =
    let done : (length c.args.piece.now ≤ c.loop-at.at) ⊎ (length c.loop-at.self.rest.items ≡ c.args.limit) =
    elim c.loop-at-test.branch [ then-loop-at-test+else-len-limit w ↦ inr (omega (arith, w.if-len-limit.false, w.len.ensures, c.loop-at.invariant.held.within)) | else-loop-at-test w ↦ inl w.loop-at-test.false ] in
    fed c.args.limit c.args.self.now.rest.items c.loop-at.self.rest.items c.args.piece.now (frames_of c.loop-at.frames.items) c.requires.within
    (piece_cut c.args.limit c.args.self.now.rest.items c.loop-at.self.rest.items c.args.piece.now c.loop-at.at (frames_of c.loop-at.frames.items) c.loop-at.invariant.cut done) c.loop-at.invariant.same
