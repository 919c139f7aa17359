use Rattle.std.proofs.Common.{◌∷◌, ◌++◌, [], ap, ◌∙◌}
use Rattle.co_serial.specs.Family.{family_of}
use Rattle.co_serial.proofs.Families.{family-push}
use Rattle.co_serial.proofs.serial_map.make_room.Goals as goal

pub room-preserved : goal.room-preserved
room-preserved c = ap family_of (c.in_ok-push.ensures.items) ∙ ap (λ r. family_of (c.room.members.items ++ r ∷ [])) c.new.ensures ∙ family-push _ ∙ c.room.invariant
