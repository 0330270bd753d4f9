use Rattle.std.proofs.Common.{◌≡◌, true, take}
use Rattle.std.specs.List.{list_all}
use Rattle.kp_frames.specs.Frames.{is_white}
use Rattle.kp_frames.proofs.held.white_length.Given as goal

abbrev pub invariant-loop-at : goal.invariant-loop-at
invariant-loop-at l = list_all is_white (take l.at l.bytes) ≡ true
