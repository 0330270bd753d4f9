use Rattle.std.proofs.Common.{rules, ◌<◌, suc}
use Rattle.kp_diff.specs.Rows.{bounds_of}
use Rattle.kp_demands.proofs.Tightening.{small_enough, room_for_one, room_left, more_bits, bits_at_size}
use Rattle.kp_demands.proofs.known_bounds.take_bound.Goals as goal

pub tighten-requires-clause-bits : goal.tighten-requires-clause-bits
tighten-requires-clause-bits c =
    let some : 0 < c.args.known.now.room = search rules in
    let room = c.requires.room some in
    (room.0, room_for_one room.0 c.args.known.now.room some room.2, small_enough room.0 _ room.1 (c.is_small.ensures (search rules)), room.3)

pub returns-clause-room : goal.returns-clause-room
returns-clause-room c = λ yes _.
    let some : 0 < c.args.known.now.room = search rules in
    let room = c.requires.room some in (
      suc (suc room.0),
      more_bits room.0 room.1,
      room_left room.0 c.args.known.now.room _ some (search rules) room.2,
      bits_at_size (suc (suc room.0)) c.args.known.now.matrix.size c.tighten.new.matrix.size (bounds_of c.tighten.new.matrix) c.tighten.ensures.size
          (c.tighten.ensures.bits yes room.0 (small_enough room.0 _ room.1 (c.is_small.ensures (search rules))) room.3),
    )
