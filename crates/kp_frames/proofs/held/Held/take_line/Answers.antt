use Rattle.std.proofs.Common.{◌+◌, sym, subst, length, take}
use Rattle.kp_frames.specs.Held.{frames_of, IsHeld, Takes}
use Rattle.kp_frames.proofs.Cutting.{whole_taken, line_taken, line_held, line_front, is_line}
use Rattle.kp_frames.proofs.held.Held.take_line.Goals as goal

pub returns-in_ok-extend_from_slice-in-None-clause-held : goal.returns-in_ok-extend_from_slice-in-None-clause-held
returns-in_ok-extend_from_slice-in-None-clause-held c =
    subst (λ x. IsHeld c.args.limit x c.args.self.now.nest) (sym c.in_ok-extend_from_slice-in-None.ensures.items)
    (line_held c.args.limit c.args.self.now.rest.items c.args.window.now c.args.self.now.nest c.requires.held c.requires.begins c.requires.within (c.line_length.ensures.none c.in-None.is))

pub returns-in_ok-extend_from_slice-in-None-clause-takes : goal.returns-in_ok-extend_from_slice-in-None-clause-takes
returns-in_ok-extend_from_slice-in-None-clause-takes c =
    subst (λ x. Takes c.args.limit c.args.self.now.rest.items c.args.window.now (length c.args.window.now) (frames_of c.args.frames.now.items) (frames_of c.args.frames.now.items) x) (sym c.in_ok-extend_from_slice-in-None.ensures.items)
    (whole_taken c.args.limit c.args.self.now.rest.items c.args.window.now (frames_of c.args.frames.now.items) c.args.self.now.nest
    (line_held c.args.limit c.args.self.now.rest.items c.args.window.now c.args.self.now.nest c.requires.held c.requires.begins c.requires.within (c.line_length.ensures.none c.in-None.is)) c.requires.some)

pub returns-in_ok-end_frame-in-Some-clause-takes : goal.returns-in_ok-end_frame-in-Some-clause-takes
returns-in_ok-end_frame-in-Some-clause-takes c =
    subst (λ x. Takes c.args.limit c.args.self.now.rest.items c.args.window.now (c.in-Some.count + 1) (frames_of c.args.frames.now.items) (frames_of c.end_frame.new.frames.items) x) (sym c.in_ok-end_frame-in-Some.ensures.rest)
    (line_taken c.args.limit c.args.self.now.rest.items c.args.window.now c.in-Some.count (frames_of c.args.frames.now.items) (frames_of c.end_frame.new.frames.items)
    (is_line c.args.limit c.args.self.now.rest.items c.args.window.now (take c.in-Some.count c.args.window.now) c.args.self.now.nest c.requires.held c.requires.begins
    (line_front c.args.self.now.rest.items c.args.window.now c.in-Some.count c.requires.begins c.in-Some.ensures.at.1 c.in-Some.ensures.at.0) c.in-Some.ensures.before)
    c.in-Some.ensures.at.0 c.in-Some.ensures.at.1 c.requires.within c.in_ok-end_frame-in-Some.ensures.frames)
