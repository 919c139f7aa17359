-- Sound logs: those that a run over the same numbers of members and coordinators leaves. Fresh logs are sound.
use Rattle.std.specs.Prelude.{ℕ, Bool, true, false, ◌||◌, ◌≡◌, List, Option, Some}
use Rattle.co_record.specs.declared.record.Record.{Record}
use Rattle.co_state.specs.Table.{look, holds}
use Rattle.co_plain.specs.Numbers.{TxnNumber, CoordNumber, has_number}
use Rattle.co_plain.specs.MemberView.{recovered_view}
use Rattle.co_plain.specs.CoordView.{recovered_commits, has_commit_of}
use Rattle.co_plain.specs.Decisions.{votes_for}

-- the log has the transaction voted for the coordinator; has it voted; has it committed
abbrev pub log_votes_for : List Record → TxnNumber → CoordNumber → Bool
log_votes_for records t c = votes_for (look (recovered_view records).voted t) c

abbrev pub log_has_voted : List Record → TxnNumber → Bool
log_has_voted records t = holds (recovered_view records).voted t

abbrev pub log_has_committed : List Record → TxnNumber → Bool
log_has_committed records t = holds (recovered_view records).committed t

-- a commit without end, with its participants
abbrev pub unended_in : List Record → TxnNumber → Option (List ℕ)
unended_in records t = look (recovered_commits records).unended t

abbrev pub has_unended : List Record → TxnNumber → Bool
has_unended records t = holds (recovered_commits records).unended t

-- the logs name the coordinator of a transaction: by a vote, or by its commit without end
pub data LogsName (member_log coord_log : ℕ → List Record) (t c : ℕ) : Type 0 where
  ByVote : (m : ℕ) → log_votes_for (member_log m) t c ≡ true → LogsName member_log coord_log t c
  ByCommit : has_unended (coord_log c) t ≡ true → LogsName member_log coord_log t c

-- no member committed it, and no coordinator decided it
pub record IsNowhereDecided (member_log coord_log : ℕ → List Record) (t : ℕ) : Type 0 where
  pub uncommitted : (m : ℕ) → log_has_committed (member_log m) t ≡ false
  pub undecided : (c : ℕ) → has_commit_of (coord_log c) t ≡ false

pub record AreSound (member_log coord_log : ℕ → List Record) : Type 0 where
  -- a transaction has one coordinator
  pub one_coordinator : (t c d : ℕ) → LogsName member_log coord_log t c → LogsName member_log coord_log t d → c ≡ d
  -- each participant of a commit without end voted or committed, and each member that voted for it takes part
  pub participants : (t c m : ℕ) (members : List ℕ) → unended_in (coord_log c) t ≡ Some members → has_number members m ≡ true →
      (log_has_voted (member_log m) t || log_has_committed (member_log m) t) ≡ true
  pub voters : (t c m : ℕ) (members : List ℕ) → unended_in (coord_log c) t ≡ Some members → log_votes_for (member_log m) t c ≡ true →
      has_number members m ≡ true
  -- where a transaction is voted and its coordinator has no commit of it without end, nobody decided commit
  pub undecided : (t m c : ℕ) → log_votes_for (member_log m) t c ≡ true → has_unended (coord_log c) t ≡ false →
      IsNowhereDecided member_log coord_log t
