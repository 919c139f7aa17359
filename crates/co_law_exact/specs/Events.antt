-- Which events send a vote, and which give an answer of the voting rule or to an operation: the rule, with what sessions, the wire and
-- nodes that are down let through.
use Rattle.std.specs.Prelude.{ℕ, true, false, ◌≡◌, ◌≢◌, ◌≤◌, ◌⊎◌, List, [], ◌∷◌, Option, None, Some}
use Rattle.co_base.specs.declared.node.Node.{Node}
use Rattle.co_base.specs.declared.node.Node.TheVariants as node
use Rattle.co_base.specs.declared.op.Op.{Op}
use Rattle.co_base.specs.declared.op.Op.TheVariants as op
use Rattle.co_base.specs.declared.reply.Reply.{Reply}
use Rattle.co_base.specs.Limits.{most_operations}
use Rattle.co_message.specs.declared.answer.Answer.{Answer}
use Rattle.co_message.specs.declared.answer.Answer.TheVariants as answer
use Rattle.co_message.specs.declared.event.Event.{Event}
use Rattle.co_message.specs.declared.event.Event.TheVariants as event
use Rattle.co_message.specs.declared.item.ItemKind.{ItemKind}
use Rattle.co_message.specs.declared.item.ItemKind.TheVariants as item
use Rattle.co_message.specs.declared.message.Message.{Message}
use Rattle.co_message.specs.declared.message.Message.TheVariants as message
use Rattle.co_state.specs.declared.verdict.Verdict.{Verdict}
use Rattle.co_state.specs.declared.verdict.Verdict.TheVariants.{LostOperations, StaleRead, HeldBy, VoteYes}
use Rattle.co_state.specs.LockRule.{lock_blocker}
use Rattle.co_state.specs.ReadRule.{operation_reply}
use Rattle.co_state.specs.Table.{look}
use Rattle.co_state.specs.VotingRule.{kept_count, vote_of}
use Rattle.co_plain.specs.declared.member_state.AskedMark.{AskedMark}
use Rattle.co_plain.specs.declared.member_state.MemberState.{MemberState}
use Rattle.co_plain.specs.declared.session.Session.{Session}
use Rattle.co_plain.specs.declared.standing.Standing.TheVariants.{IsVoted}
use Rattle.co_plain.specs.Federation.{Federation, Stepped}
use Rattle.co_plain.specs.Member.{coord_of}
use Rattle.co_plain.specs.MemberStep.{standing_of}
use Rattle.co_plain.specs.Numbers.{TxnNumber, MemberNumber, CoordNumber, Count, counted}
use Rattle.co_plain.specs.Sessions.{count_at, may_visit}
use Rattle.co_plain.specs.Step.{step_line}
use Rattle.co_plain.specs.Wire.{was_sent}
use Rattle.co_law_moves.specs.MoveTraces.{messages_in}
use Rattle.co_law_node.specs.Causes.{Exactly, is_completed}
use Rattle.co_law_exact.specs.Votes.{MayVote, MayVoteAgain, RefusesVote}

-- what a step tells: that it sends the message, and its answer
abbrev pub SendsMessage : Stepped → Message → Type 0
SendsMessage z note = was_sent (messages_in z.items) note ≡ true

abbrev pub answer_in : List ItemKind → Option Answer
answer_in [] = None
answer_in (item.Answered a ∷ items) = Some a
answer_in (item.Log mark ∷ items) = answer_in items
answer_in (item.Sent note ∷ items) = answer_in items
answer_in (item.Head head ∷ items) = answer_in items
answer_in (item.Event e ∷ items) = answer_in items

abbrev pub AnswersWith : Stepped → Answer → Type 0
AnswersWith z a = answer_in z.items ≡ Some a

-- The message was sent, and the member that it goes to is up.
abbrev pub Arrives : Federation → Message → MemberNumber → Type 0
Arrives s note m = (was_sent s.sent note ≡ true) × ((s.member m).up ≡ true)

-- A yes to this coordinator: the transaction is voted already, and for it; or the rule grants the vote, and the write completes.
abbrev pub GrantsPrepare : MemberState → TxnNumber → CoordNumber → Count → CoordNumber → Type 0
GrantsPrepare x t coord count c =
    ((standing_of x t ≡ IsVoted) × (coord_of x t ≡ c)) ⊎ (MayVote x t × ((coord ≡ c) × (vote_of x.engine t count ≡ VoteYes) × is_completed x.log))

abbrev pub GrantsAgain : MemberState → TxnNumber → CoordNumber → Type 0
GrantsAgain x t c = (mark : AskedMark) × MayVoteAgain x t mark × ((mark.coord ≡ c) × (vote_of x.engine t mark.count ≡ VoteYes) × is_completed x.log)

-- Which events send the yes of the transaction by the member to the coordinator: its prepare, and its vote that is tried again.
abbrev pub SendsYes : Federation → TxnNumber → MemberNumber → CoordNumber → Event → Type 0
SendsYes s t m c (event.Deliver (message.Prepare u d k n)) =
    (u ≡ t) × (k ≡ m) × Arrives s (message.Prepare u d k n) k × GrantsPrepare (s.member k) u d n c
SendsYes s t m c (event.Vote u k) = (u ≡ t) × (k ≡ m) × ((s.member k).up ≡ true) × GrantsAgain (s.member k) u c
SendsYes s t m c _ = ⊥

-- A no: the rule refuses the vote of who is active or nowhere.
abbrev pub RefusesPrepare : MemberState → TxnNumber → CoordNumber → Count → CoordNumber → Type 0
RefusesPrepare x t coord count c = MayVote x t × ((coord ≡ c) × RefusesVote (vote_of x.engine t count))

abbrev pub RefusesAgain : MemberState → TxnNumber → CoordNumber → Type 0
RefusesAgain x t c = (mark : AskedMark) × MayVoteAgain x t mark × ((mark.coord ≡ c) × RefusesVote (vote_of x.engine t mark.count))

abbrev pub SendsNo : Federation → TxnNumber → MemberNumber → CoordNumber → Event → Type 0
SendsNo s t m c (event.Deliver (message.Prepare u d k n)) =
    (u ≡ t) × (k ≡ m) × Arrives s (message.Prepare u d k n) k × RefusesPrepare (s.member k) u d n c
SendsNo s t m c (event.Vote u k) = (u ≡ t) × (k ≡ m) × ((s.member k).up ≡ true) × RefusesAgain (s.member k) u c
SendsNo s t m c _ = ⊥

-- Which events ask the voting rule: a prepare, a vote that is tried again, and the commit that the client of a local transaction asks for.
-- The row says what the rule finds at the member, of how many operations that are carried, and of the count that the answer may name.
abbrev pub AsksAtHome : (MemberState → TxnNumber → Count → Count → Type 0) → Federation → TxnNumber → Session → Node → Type 0
AsksAtHome row s t session (node.Coord c) = ⊥
AsksAtHome row s t session (node.Member m) =
    ((s.member m).up ≡ true) × (1 ≤ count_at session.told m) × row (s.member m) t (count_at session.told m) (counted (count_at session.told m))

abbrev pub AsksTheRule : (MemberState → TxnNumber → Count → Count → Type 0) → Federation → Event → Type 0
AsksTheRule row s (event.Deliver (message.Prepare t d m n)) = Arrives s (message.Prepare t d m n) m × MayVote (s.member m) t × row (s.member m) t n n
AsksTheRule row s (event.Vote t m) = ((s.member m).up ≡ true) × ((mark : AskedMark) × MayVoteAgain (s.member m) t mark × row (s.member m) t mark.count mark.count)
AsksTheRule row s (event.Commit t) = (session : Session) × (look s.sessions t ≡ Some session) × (session.asked ≡ false) × AsksAtHome row s t session session.by
AsksTheRule row s _ = ⊥

-- the rule finds this; and it finds operations lost, and keeps so many
abbrev pub Finds : Verdict → MemberState → TxnNumber → Count → Count → Type 0
Finds v x t carried named = vote_of x.engine t carried ≡ v

abbrev pub FindsLost : Count → Count → MemberState → TxnNumber → Count → Count → Type 0
FindsLost kept count x t carried named = (vote_of x.engine t carried ≡ LostOperations) × (counted (kept_count x.engine t) ≡ kept) × (named ≡ count)

-- a step tells of its answer alone: it sends nothing, and no record becomes stable
abbrev pub TellsAlone : Stepped → Answer → Type 0
TellsAlone z a = z.items ≡ item.Answered a ∷ []

-- The rule's answers: someone is in the way, a read is stale, or operations were lost. What is held tells nothing else.
pub record VoteAnswersAreExact (s : Federation) (e : Event) : Type 0 where
  pub held : (u : ℕ) → Exactly (AnswersWith (step_line s e) (answer.Held u)) (AsksTheRule (Finds (HeldBy u)) s e)
  pub held_alone : (u : ℕ) → AnswersWith (step_line s e) (answer.Held u) → TellsAlone (step_line s e) (answer.Held u)
  pub stale : (key : List ℕ) → Exactly (AnswersWith (step_line s e) (answer.NoStale key)) (AsksTheRule (Finds (StaleRead key)) s e)
  pub lost : (kept count : ℕ) → Exactly (AnswersWith (step_line s e) (answer.NoLost kept count)) (AsksTheRule (FindsLost kept count) s e)

-- The session lets its client operate at the member, and the member is up.
abbrev pub MayOperate : Federation → TxnNumber → MemberNumber → Session → Type 0
MayOperate s t m session =
    (look s.sessions t ≡ Some session) × (may_visit session.by m ≡ true) × (session.asked ≡ false) × ((s.member m).up ≡ true)

-- Which operations come to a member; the row says what they find there, of how many that the client was told of.
abbrev pub ComesToRow : (MemberState → TxnNumber → Count → Op → Type 0) → Federation → TxnNumber → MemberNumber → Op → Type 0
ComesToRow row s t m o = (session : Session) × MayOperate s t m session × row (s.member m) t (count_at session.told m) o

abbrev pub Operates : (MemberState → TxnNumber → Count → Op → Type 0) → Federation → Event → Type 0
Operates row s (event.Read t m key) = ComesToRow row s t m (op.Read key)
Operates row s (event.Write t m key value) = ComesToRow row s t m (op.Write key value)
Operates row s (event.Erase t m key) = ComesToRow row s t m (op.Erase key)
Operates row s (event.Scan t m span) = ComesToRow row s t m (op.Scan span)
Operates row s _ = ⊥

-- the rows of an operation: its operations here were lost, it has as many as it may, a lock is in its way, or it is done
abbrev pub IsGone : Count → Count → MemberState → TxnNumber → Count → Op → Type 0
IsGone kept count x t carried o = (kept_count x.engine t ≢ carried) × (counted (kept_count x.engine t) ≡ kept) × (counted carried ≡ count)

abbrev pub IsFull : MemberState → TxnNumber → Count → Op → Type 0
IsFull x t carried o = (kept_count x.engine t ≡ carried) × (carried ≡ most_operations)

abbrev pub IsBlocked : TxnNumber → MemberState → TxnNumber → Count → Op → Type 0
IsBlocked u x t carried o = (kept_count x.engine t ≡ carried) × (carried ≢ most_operations) × (lock_blocker x.engine t o ≡ Some u)

abbrev pub IsDone : Reply → MemberState → TxnNumber → Count → Op → Type 0
IsDone reply x t carried o =
    (kept_count x.engine t ≡ carried) × (carried ≢ most_operations) × (lock_blocker x.engine t o ≡ None) × (operation_reply x.engine t o ≡ reply)

-- The answers to an operation. What is blocked tells nothing else.
pub record OperationAnswersAreExact (s : Federation) (e : Event) : Type 0 where
  pub gone : (kept count : ℕ) → Exactly (AnswersWith (step_line s e) (answer.Gone kept count)) (Operates (IsGone kept count) s e)
  pub full : Exactly (AnswersWith (step_line s e) answer.TooMany) (Operates IsFull s e)
  pub blocked : (u : ℕ) → Exactly (AnswersWith (step_line s e) (answer.Blocked u)) (Operates (IsBlocked u) s e)
  pub blocked_alone : (u : ℕ) → AnswersWith (step_line s e) (answer.Blocked u) → TellsAlone (step_line s e) (answer.Blocked u)
  pub replied : (reply : Reply) → Exactly (AnswersWith (step_line s e) (answer.Replied reply)) (Operates (IsDone reply) s e)
