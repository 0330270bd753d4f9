use Rattle.std.proofs.Common.{sym, subst, length}
use Rattle.kp_frames.specs.Held.{frames_of, IsHeld, Takes}
use Rattle.kp_frames.proofs.Cutting.{whole_taken, frame_taken}
use Rattle.kp_frames.proofs.Rests.{stays_held, held_level, closes_frame}
use Rattle.kp_frames.proofs.held.Held.take_bracketed.Goals as goal

pub first_close-requires : goal.first_close-requires
first_close-requires c = held_level c.args.limit c.args.self.now.rest.items c.args.window.now c.args.self.now.nest 18446744073709551616 c.requires.held c.requires.within c.ranges.limit.fits

pub returns-in_ok-extend_from_slice-in-None-clause-held : goal.returns-in_ok-extend_from_slice-in-None-clause-held
returns-in_ok-extend_from_slice-in-None-clause-held c =
    subst (λ x. IsHeld c.args.limit x c.first_close.new.nest) (sym c.in_ok-extend_from_slice-in-None.ensures.items)
    (stays_held c.args.limit c.args.self.now.rest.items c.args.window.now c.args.self.now.nest c.first_close.new.nest c.requires.held c.requires.begins c.requires.within (c.first_close.ensures.open c.in-None.is) (c.first_close.ensures.nest c.in-None.is))

pub returns-in_ok-extend_from_slice-in-None-clause-takes : goal.returns-in_ok-extend_from_slice-in-None-clause-takes
returns-in_ok-extend_from_slice-in-None-clause-takes c =
    subst (λ x. Takes c.args.limit c.args.self.now.rest.items c.args.window.now (length c.args.window.now) (frames_of c.args.frames.now.items) (frames_of c.args.frames.now.items) x) (sym c.in_ok-extend_from_slice-in-None.ensures.items)
    (whole_taken c.args.limit c.args.self.now.rest.items c.args.window.now (frames_of c.args.frames.now.items) c.first_close.new.nest
    (stays_held c.args.limit c.args.self.now.rest.items c.args.window.now c.args.self.now.nest c.first_close.new.nest c.requires.held c.requires.begins c.requires.within (c.first_close.ensures.open c.in-None.is) (c.first_close.ensures.nest c.in-None.is)) c.requires.some)

pub returns-in_ok-end_frame-in-Some-clause-takes : goal.returns-in_ok-end_frame-in-Some-clause-takes
returns-in_ok-end_frame-in-Some-clause-takes c =
    subst (λ x. Takes c.args.limit c.args.self.now.rest.items c.args.window.now c.in-Some.count (frames_of c.args.frames.now.items) (frames_of c.end_frame.new.frames.items) x) (sym c.in_ok-end_frame-in-Some.ensures.rest)
    (frame_taken c.args.limit c.args.self.now.rest.items c.args.window.now c.in-Some.count (frames_of c.args.frames.now.items) (frames_of c.end_frame.new.frames.items)
    (closes_frame c.args.limit c.args.self.now.rest.items c.args.window.now c.args.self.now.nest c.in-Some.count c.requires.held c.requires.begins c.in-Some.ensures.closed)
    c.in-Some.ensures.closed.positive c.in-Some.ensures.closed.within c.requires.within c.in_ok-end_frame-in-Some.ensures.frames)
