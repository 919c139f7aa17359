-- Cooperative termination: a member in doubt asks another one, and what that tells is handed to it.
use Rattle.std.specs.Prelude.{Bool, true, false, ◌&&◌, ◌==◌, suc, List, [], ◌∷◌, ◌++◌, if◌then◌else◌, Option, None, Some}
use Rattle.co_base.specs.declared.node.Node.TheVariants as node
use Rattle.co_message.specs.declared.event.Event.{Event}
use Rattle.co_message.specs.declared.event.Event.TheVariants as event
use Rattle.co_message.specs.declared.item.Item.{Item}
use Rattle.co_message.specs.declared.item.ItemKind.TheVariants as item
use Rattle.co_message.specs.declared.message.Message.TheVariants as message
use Rattle.co_state.specs.Table.{holds}
use Rattle.co_plain.specs.declared.happening.Happening.{Happening}
use Rattle.co_plain.specs.declared.happening.Happening.TheVariants as happening
use Rattle.co_plain.specs.declared.member_state.MemberState.{MemberState}
use Rattle.co_plain.specs.declared.standing.Standing.{Standing}
use Rattle.co_plain.specs.declared.standing.Standing.TheVariants.{IsActive, IsVoted, IsInstalled, IsAbsent}
use Rattle.co_plain.specs.Numbers.{TxnNumber, MemberNumber, CoordNumber, Count, LineNumber}
use Rattle.co_plain.specs.Decisions.{told_of}
use Rattle.co_plain.specs.Federation.{Federation, Stepped}
use Rattle.co_plain.specs.Member.{coord_of}
use Rattle.co_plain.specs.MemberStep.{standing_of}
use Rattle.co_plain.specs.Runs.{numbered}
use Rattle.co_plain.specs.Sessions.{count_at}
use Rattle.co_plain.specs.Step.{step}
use Rattle.co_law_coop.specs.declared.told.Told.{Told}
use Rattle.co_law_coop.specs.declared.told.Told.TheVariants as told

-- ---- What is told

-- the transaction is voted at a member that is up
abbrev pub is_in_doubt : Federation → TxnNumber → MemberNumber → Bool
is_in_doubt s t m = (s.member m).up && holds (s.member m).engine.voted t

-- by a member at which it was not prepared, whose client was told of so many operations there
abbrev pub told_unvoted : Count → Bool → Told
told_unvoted carried coord_up = if carried == 0 then told.Stranger else (if coord_up then told.Reachable else told.Abort)

-- by a member that is up, by where the transaction stands there
abbrev pub told_standing : Standing → Count → Bool → Told
told_standing IsInstalled carried coord_up = told.Commit
told_standing IsVoted carried coord_up = told.InDoubt
told_standing IsActive carried coord_up = told_unvoted carried coord_up
told_standing IsAbsent carried coord_up = told_unvoted carried coord_up

-- what a member is told about a transaction of a coordinator, which it asks another one about
abbrev pub told_at_turn : Federation → TxnNumber → MemberNumber → CoordNumber → MemberNumber → Told
told_at_turn s t m c other =
    if is_in_doubt s t m
    then (if (s.member other).up then told_standing (standing_of (s.member other) t) (count_at (told_of s t) other) (s.coord c).up else told.Down)
    else told.Settled

-- ---- What is done

-- where it is active, the other member lets go of it first
abbrev pub letting_go : Standing → TxnNumber → MemberNumber → List Happening
letting_go IsActive t other = happening.Line (event.Timer t (node.Member other)) ∷ []
letting_go IsVoted t other = []
letting_go IsInstalled t other = []
letting_go IsAbsent t other = []

abbrev pub done_for : Told → MemberState → TxnNumber → MemberNumber → MemberNumber → List Happening
done_for told.Commit y t m other = happening.Hand t m true ∷ []
done_for told.Abort y t m other = letting_go (standing_of y t) t other ++ happening.Hand t m false ∷ []
done_for told.Settled y t m other = []
done_for told.Down y t m other = []
done_for told.InDoubt y t m other = []
done_for told.Stranger y t m other = []
done_for told.Reachable y t m other = []

-- what happens where a member asks another one
abbrev pub consultation : Federation → TxnNumber → MemberNumber → CoordNumber → MemberNumber → List Happening
consultation s t m c other = done_for (told_at_turn s t m c other) (s.member other) t m other

-- ---- How it is told

-- The event by which a happening is told: a verdict that is handed as the decision that its coordinator would have sent. To take all
-- armed stops away is no event.
abbrev pub told_event : Federation → Happening → Option Event
told_event s (happening.Line e) = Some e
told_event s (happening.Hand t m commit) = Some (event.Deliver (message.Decide t (coord_of (s.member m) t) m commit))
told_event s happening.Disarm = None

abbrev pub number_after : LineNumber → Option Event → LineNumber
number_after number None = number
number_after number (Some e) = suc number

abbrev pub items_told : LineNumber → Option Event → Stepped → List Item
items_told number None did = numbered number did.items
items_told number (Some e) did = numbered number (item.Event e ∷ did.items)

-- the items of happenings, the first event of which has this number
abbrev pub transcript_along : LineNumber → List Happening → Federation → List Item
transcript_along number [] s = []
transcript_along number (h ∷ hs) s = items_told number (told_event s h) (step s h) ++ transcript_along (number_after number (told_event s h)) hs (step s h).state
