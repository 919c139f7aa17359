-- The clients' side: what was answered, how often at which member, and who may still act.
use Rattle.std.specs.Prelude.{Bool, true, false, ◌+◌, ◌==◌, List, [], ◌∷◌, if◌then◌else◌, Option, None, Some}
use Rattle.co_base.specs.declared.node.Node.{Node}
use Rattle.co_base.specs.declared.node.Node.TheVariants as node
use Rattle.co_base.specs.declared.part.Part.{Part}
use Rattle.co_base.specs.Parts.{with_part}
use Rattle.co_message.specs.declared.answer.Answer.{Answer}
use Rattle.co_message.specs.declared.answer.Answer.TheVariants as answer
use Rattle.co_plain.specs.declared.session.Session.{Session}
use Rattle.co_plain.specs.declared.session.Told.{Told}
use Rattle.co_plain.specs.Numbers.{MemberNumber, Count}

-- the operations that were answered at one member, newest first
abbrev pub told_at : List Told → MemberNumber → List Told
told_at [] m = []
told_at (o ∷ os) m = if o.site.member == m then o ∷ told_at os m else told_at os m

-- how many they are: the count that a client carries
abbrev pub count_at : List Told → MemberNumber → Count
count_at [] m = 0
count_at (o ∷ os) m = if o.site.member == m then count_at os m + 1 else count_at os m

-- the participants, ascending by member, each with its count
abbrev pub parts_of : List Told → List Part
parts_of [] = []
parts_of (o ∷ os) = with_part o.site.member (parts_of os)

-- whether operations of the transaction may be done at the member: a local one stays at its own
abbrev pub may_visit : Node → MemberNumber → Bool
may_visit (node.Member own) m = own == m
may_visit (node.Coord c) m = true

-- what the session says to a client that wants to act: its session, or a refusal
pub data Leave : Type 0 where
  Refuses : Answer → Leave
  Grants : Session → Leave

abbrev pub unless_asked : Session → Leave
unless_asked session = if session.asked then Refuses answer.Asked else Grants session

-- to do an operation at a member
abbrev pub leave_to_visit : Option Session → MemberNumber → Leave
leave_to_visit None m = Refuses answer.NotBegun
leave_to_visit (Some session) m = if may_visit session.by m then unless_asked session else Refuses answer.NotBegun

-- to ask for the end
abbrev pub leave_to_end : Option Session → Leave
leave_to_end None = Refuses answer.NotBegun
leave_to_end (Some session) = unless_asked session

abbrev pub begun_by : Node → Session
begun_by by = record { by = by; told = []; asked = false }

abbrev pub with_told : Session → Told → Session
with_told session o = record session { told = o ∷ session.told }

abbrev pub asked_to_end : Session → Session
asked_to_end session = record session { asked = true }
