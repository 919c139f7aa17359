-- Who may act, and what a client is told of it.
use Rattle.std.specs.Prelude.{ℕ, Bool, true, false, ◌≡◌, Option, None, Some, Result, Ok, Err}
use Rattle.co_base.specs.declared.node.Node.{Node}
use Rattle.co_message.specs.declared.answer.Answer.{Answer}
use Rattle.co_message.specs.declared.answer.Answer.TheVariants as answer
use Rattle.co_state.specs.Table.{look}
use Rattle.co_plain.specs.declared.session.Session.{Session}
use Rattle.co_plain.specs.Sessions.{Leave, Refuses, Grants, may_visit, leave_to_visit, leave_to_end}
use Rattle.co_session.specs.Clients.{Clients, is_used, is_full}
use Rattle.co_session.specs.declared.fault.SessionFault.{SessionFault}
use Rattle.co_session.specs.declared.fault.SessionFault.TheVariants.{Used, NotBegun, Asked, Count}

-- a local transaction stays at its own member; any may end
abbrev pub may_be_at : Node → Option ℕ → Bool
may_be_at by None = true
may_be_at by (Some m) = may_visit by m

-- the leave to act at a member, or to ask for the end
abbrev pub leave_by : Option Session → Option ℕ → Leave
leave_by session None = leave_to_end session
leave_by session (Some m) = leave_to_visit session m

abbrev pub leave_of : Session → Option ℕ → Leave
leave_of session at = leave_by (Some session) at

abbrev pub leave_in : Clients → ℕ → Option ℕ → Leave
leave_in x t at = leave_by (look x.sessions t) at

-- the answer that a refusal is told by; the limit on numbers is no answer of a session
abbrev pub refusal_of : SessionFault → Option Answer
refusal_of Used = Some answer.Used
refusal_of NotBegun = Some answer.NotBegun
refusal_of Asked = Some answer.Asked
refusal_of Count = None

-- a client that may act is told which node decides; another one why it may not
abbrev pub IsLeave : Leave → Result Node SessionFault → Type 0
IsLeave (Grants session) (Ok by) = by ≡ session.by
IsLeave (Grants session) (Err fault) = ⊥
IsLeave (Refuses a) (Ok by) = ⊥
IsLeave (Refuses a) (Err fault) = refusal_of fault ≡ Some a

-- A client may begin the transaction; or its number is used; or it is not, and as many numbers are begun or used as there may be. A begin is refused for nothing else.
abbrev pub IsLeaveToBegin : Clients → ℕ → Result (Unit {0}) SessionFault → Type 0
IsLeaveToBegin x t (Ok u) = (is_used x t ≡ false) × (is_full x ≡ false)
IsLeaveToBegin x t (Err Used) = is_used x t ≡ true
IsLeaveToBegin x t (Err NotBegun) = ⊥
IsLeaveToBegin x t (Err Asked) = ⊥
IsLeaveToBegin x t (Err Count) = (is_used x t ≡ false) × (is_full x ≡ true)
