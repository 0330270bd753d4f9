use Rattle.std.proofs.Common.{◌≡◌, ◌==◌, ◌-◌, ◌≤◌, ◌++◌, [], length, take}
use Rattle.kp_frames.specs.Frames.{Cuts}
use Rattle.kp_frames.specs.Held.{frames_of, IsHeld}
use Rattle.kp_frames.proofs.held.Held.take_piece.Given as goal

abbrev pub invariant-loop-at : goal.invariant-loop-at
invariant-loop-at l = record {
  within : l.at ≤ length l.piece;
  held : IsHeld l.limit l.self.rest.items l.self.nest;
  cut : Cuts l.limit (l.fn.self.rest.items ++ take l.at l.piece) (frames_of l.frames.items) l.self.rest.items (length l.self.rest.items == l.limit);
  same : length l.fn.self.rest.items ≡ l.limit → (l.self.rest.items ≡ l.fn.self.rest.items) × (frames_of l.frames.items ≡ []);
}

abbrev pub decreases-loop-at : goal.decreases-loop-at
decreases-loop-at l = length l.piece - l.at
