-- Blocking: where the last yes arrives, a stop of the coordinator leaves one of two states that nobody but it can tell apart.
use Rattle.std.specs.Prelude.{ℕ, true, false, ◌≡◌, ◌≢◌, [], ◌∷◌}
use Rattle.co_base.specs.declared.leaves.Leaves.{Leaves}
use Rattle.co_base.specs.declared.node.Node.TheVariants as node
use Rattle.co_message.specs.declared.event.Event.TheVariants as event
use Rattle.co_message.specs.declared.message.Message.TheVariants as message
use Rattle.co_plain.specs.Numbers.{TxnNumber, MemberNumber, CoordNumber}
use Rattle.co_plain.specs.Decisions.{IsSettled, IsPresumedAborted}
use Rattle.co_plain.specs.Federation.{Federation}
use Rattle.co_plain.specs.Runs.{run, lines}
use Rattle.co_plain.specs.Wire.{was_sent}
use Rattle.co_law_node.specs.Causes.{IsLastYes}

-- the last yes on a transaction was sent to its coordinator, which is up
pub record AwaitsLastYes (s : Federation) (t c m : ℕ) : Type 0 where
  pub up : (s.coord c).up ≡ true
  pub sent : was_sent s.sent (message.Vote t m c true) ≡ true
  pub last : IsLastYes (s.coord c) t m

-- it arrives, and the coordinator is stopped in the last device call of its log write, with this image left
abbrev pub stopped_with : Leaves → Federation → TxnNumber → CoordNumber → MemberNumber → Federation
stopped_with leaves s t c m = run (lines (event.Arm (node.Coord c) 4 leaves ∷ event.Deliver (message.Vote t m c true) ∷ [])) s

-- Two states that differ in one coordinator and in what was decided alone: members, clients, messages and the other coordinators are the same.
pub record AreAlikeBut (c : ℕ) (s z : Federation) : Type 0 where
  pub members : s.member ≡ z.member
  pub sessions : s.sessions ≡ z.sessions
  pub messages : s.sent ≡ z.sent
  pub coords : (d : ℕ) → c ≢ d → s.coord d ≡ z.coord d

-- The coordinator is down in both; in one the transaction is settled, and in the other it is presumed aborted.
pub record GoesEitherWay (s z : Federation) (t c : ℕ) : Type 0 where
  pub alike : AreAlikeBut c s z
  pub down : (s.coord c).up ≡ false
  pub down_too : (z.coord c).up ≡ false
  pub settled : IsSettled s t
  pub aborted : IsPresumedAborted z t
