use Rattle.std.proofs.Common.{rules, ◌≡◌, true, [], get_or}
use Rattle.kp_frames.specs.Frames.{is_white}
use Rattle.kp_frames.specs.Held.{frames_of}
use Rattle.kp_frames.proofs.Cutting.{white_taken}
use Rattle.kp_frames.proofs.held.Held.take_next.Goals as goal

pub returns-then-is_white_byte-clause-takes : goal.returns-then-is_white_byte-clause-takes
returns-then-is_white_byte-clause-takes c =
    let nothing : c.args.self.now.rest.items ≡ [] = search rules in
    let first : is_white (get_or c.args.piece.now 0 0) ≡ true = search rules in
    white_taken c.args.limit c.args.self.now.rest.items c.args.piece.now c.white_length.result (frames_of c.args.frames.now.items) nothing (c.white_length.ensures.some c.requires.some first) c.white_length.ensures.within c.white_length.ensures.white
