-- The numbers that the logs of members and coordinators tell, one log after another.
use Rattle.std.specs.Prelude.{List, [], ◌∷◌, map}
use Rattle.co_plain.specs.MemberView.{Numbers, with_numbers}
use Rattle.co_recover.specs.declared.past.CoordPast.{CoordPast}
use Rattle.co_recover.specs.declared.past.MemberPast.{MemberPast}

abbrev pub with_member : Numbers → MemberPast → Numbers
with_member used past = with_numbers (with_numbers used (map (λ vote. vote.txn) past.voted)) past.committed

abbrev pub with_members : Numbers → List MemberPast → Numbers
with_members used [] = used
with_members used (past ∷ pasts) = with_members (with_member used past) pasts

abbrev pub with_coords : Numbers → List CoordPast → Numbers
with_coords used [] = used
with_coords used (past ∷ pasts) = with_coords (with_numbers used past.seen) pasts
