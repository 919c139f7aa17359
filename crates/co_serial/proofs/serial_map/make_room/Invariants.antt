use Rattle.std.proofs.Common.{◌≡◌, ◌-◌, ◌+◌, vec_len}
use Rattle.co_serial.specs.Family.{family_of}
use Rattle.co_serial.proofs.serial_map.make_room.Given as goal

abbrev pub invariant-room : goal.invariant-room
invariant-room l = family_of l.members.items ≡ family_of l.initial.members.items

abbrev pub decreases-room : goal.decreases-room
decreases-room l = (l.member + 1) - vec_len l.members
