-- Which events decide a transaction.
use Rattle.std.specs.Prelude.{ℕ, true, false, ◌≡◌, ◌≤◌, Some}
use Rattle.co_base.specs.declared.node.Node.{Node}
use Rattle.co_base.specs.declared.node.Node.TheVariants as node
use Rattle.co_message.specs.declared.event.Event.{Event}
use Rattle.co_message.specs.declared.event.Event.TheVariants as event
use Rattle.co_message.specs.declared.message.Message.TheVariants as message
use Rattle.co_state.specs.declared.verdict.Verdict.TheVariants.{VoteYes}
use Rattle.co_state.specs.Table.{look}
use Rattle.co_state.specs.VotingRule.{vote_of}
use Rattle.co_plain.specs.declared.log_state.LogState.{LogState}
use Rattle.co_plain.specs.declared.session.Session.{Session}
use Rattle.co_plain.specs.LogWrite.{outcome_of}
use Rattle.co_plain.specs.Sessions.{count_at, parts_of}
use Rattle.co_plain.specs.Wire.{was_sent}
use Rattle.co_plain.specs.Federation.{Federation}
use Rattle.co_law_node.specs.Causes.{is_stable_after, IsAlone, IsLastYes}

-- The next forced write leaves its records stable: it completes, or it is stopped and its gate is open.
abbrev pub WritesStably : LogState → Type 0
WritesStably l = is_stable_after (outcome_of l.armed 4) ≡ true

-- Its client asks for the commit: at a coordinator a transaction without participants, at its own member a local one that carries
-- operations and to which the voting rule says yes.
abbrev pub DecidesAlone : Federation → ℕ → Session → Node → Type 0
DecidesAlone s t session (node.Coord c) = ((s.coord c).up ≡ true) × IsAlone (s.coord c) t (parts_of session.told) × WritesStably (s.coord c).log
DecidesAlone s t session (node.Member m) =
    ((s.member m).up ≡ true) × (1 ≤ count_at session.told m) × (vote_of (s.member m).engine t (count_at session.told m) ≡ VoteYes) × WritesStably (s.member m).log

-- The last yes that lacks is delivered. No other event decides.
abbrev pub IsDecidedBy : Federation → ℕ → Event → Type 0
IsDecidedBy s t (event.Commit u) =
    (u ≡ t) × ((session : Session) × (look s.sessions u ≡ Some session) × (session.asked ≡ false) × DecidesAlone s u session session.by)
IsDecidedBy s t (event.Deliver (message.Vote u m c true)) =
    (u ≡ t) × (was_sent s.sent (message.Vote u m c true) ≡ true) × ((s.coord c).up ≡ true) × IsLastYes (s.coord c) u m × WritesStably (s.coord c).log
IsDecidedBy s t _ = ⊥

-- the same opened numbers, and the same members and coordinators
pub record HasNodesOf (s z : Federation) : Type 0 where
  pub used : z.used ≡ s.used
  pub kinds : z.kinds ≡ s.kinds
  pub coordinators : z.coordinators ≡ s.coordinators
