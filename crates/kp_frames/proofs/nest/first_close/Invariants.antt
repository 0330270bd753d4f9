use Rattle.std.proofs.Common.{◌≡◌, suc, take}
use Rattle.kp_frames.specs.Frames.{nest_from}
use Rattle.kp_frames.specs.Held.{StaysOpen}
use Rattle.kp_frames.proofs.nest.first_close.Given as goal

abbrev pub invariant-loop-at : goal.invariant-loop-at
invariant-loop-at l = record {
  nest : l.nest ≡ nest_from l.fn.nest (take l.at l.bytes);
  open_so_far : StaysOpen l.fn.nest (suc l.at) l.bytes;
}
