-- What a call of a member asks for: what it would force can be written, and what a checkpoint has.
use Rattle.std.specs.Prelude.{ℕ, ◌≡◌, ◌≤◌, ◌∷◌, [], Some}
use Rattle.std.specs.List.{AllByRecursion}
use Rattle.co_message.specs.declared.message.Message.{Message}
use Rattle.co_message.specs.declared.message.Message.TheVariants as message
use Rattle.co_record.specs.Spelling.{IsWritable}
use Rattle.co_record.specs.declared.record.Record.TheVariants as log
use Rattle.co_plain.specs.LocalCommit.{local_coord}
use Rattle.co_plain.specs.Member.{prepare_record}
use Rattle.co_plain.specs.MemberStep.{standing_of}
use Rattle.co_plain.specs.Numbers.{counted}
use Rattle.co_plain.specs.declared.member_state.AskedMark.{AskedMark}
use Rattle.co_plain.specs.declared.member_state.MemberState.{MemberState}
use Rattle.co_plain.specs.declared.standing.Standing.TheVariants.{IsActive}
use Rattle.co_state.specs.Changes.{sets_of}
use Rattle.co_state.specs.EngineState.{operations_of}
use Rattle.co_state.specs.Table.{look}
use Rattle.co_state.specs.VotingRule.{vote_of}
use Rattle.co_state.specs.declared.verdict.Verdict.TheVariants.{VoteYes}

-- the record of a vote that this coordinator asks for can be written, where the rule says yes
abbrev pub MayCast : MemberState → ℕ → ℕ → ℕ → Type 0
MayCast x t coord count = vote_of x.engine t count ≡ VoteYes → IsWritable (prepare_record t coord count (sets_of (operations_of x.engine t)))

-- a prepare is about some operations
abbrev pub IsAboutSome : Message → Type 0
IsAboutSome (message.Prepare t coord member count) = 1 ≤ count
IsAboutSome (message.Decide t coord member commit) = Unit {0}
IsAboutSome (message.Vote t member coord granted) = Unit {0}
IsAboutSome (message.Ask t member coord) = Unit {0}
IsAboutSome (message.Ack t member coord) = Unit {0}

-- what a message makes a member force can be written
abbrev pub MayTake : MemberState → Message → Type 0
MayTake x (message.Prepare t coord member count) = MayCast x t coord count
MayTake x (message.Decide t coord member commit) = Unit {0}
MayTake x (message.Vote t member coord granted) = Unit {0}
MayTake x (message.Ask t member coord) = Unit {0}
MayTake x (message.Ack t member coord) = Unit {0}

-- the record of a held vote that is tried again
abbrev pub MayVote : MemberState → ℕ → Type 0
MayVote x t = (mark : AskedMark) → look x.asked t ≡ Some mark → MayCast x t mark.coord mark.count

-- who is voted yes is active
abbrev pub IsCastable : MemberState → ℕ → ℕ → Type 0
IsCastable x t count = vote_of x.engine t count ≡ VoteYes → standing_of x t ≡ IsActive

-- the two records of a local commit
abbrev pub MayCommit : MemberState → ℕ → ℕ → Type 0
MayCommit x t carried =
    1 ≤ carried → vote_of x.engine t carried ≡ VoteYes →
    AllByRecursion IsWritable (log.Commit t [] ∷ prepare_record t local_coord (counted carried) (sets_of (operations_of x.engine t)) ∷ [])

-- who is asked about is one that the plain rule votes on by itself
abbrev pub IsCastableFor : MemberState → Message → Type 0
IsCastableFor x (message.Prepare t coord member count) = IsCastable x t count
IsCastableFor x (message.Decide t coord member commit) = Unit {0}
IsCastableFor x (message.Vote t member coord granted) = Unit {0}
IsCastableFor x (message.Ask t member coord) = Unit {0}
IsCastableFor x (message.Ack t member coord) = Unit {0}
