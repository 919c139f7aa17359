-- The decision order, presumed abort, and what was acknowledged and decided.
use Rattle.std.specs.Prelude.{ℕ, Bool, true, false, not, ◌||◌, ◌==◌, ◌≡◌, List, [], ◌∷◌, map, reverse, Option, None, Some}
use Rattle.co_base.specs.declared.node.Node.TheVariants as node
use Rattle.co_base.specs.declared.reply.Reply.{Reply}
use Rattle.co_serial.specs.declared.site.Site.{Site}
use Rattle.co_state.specs.declared.engine_state.Vote.{Vote}
use Rattle.co_state.specs.Table.{look}
use Rattle.co_state.specs.VotingRule.{kept_count}
use Rattle.co_plain.specs.declared.session.Decided.{Decided}
use Rattle.co_plain.specs.declared.session.Session.{Session}
use Rattle.co_plain.specs.declared.session.Told.{Told}
use Rattle.co_plain.specs.Numbers.{TxnNumber, MemberNumber, CoordNumber}
use Rattle.co_plain.specs.MemberView.{recovered_view}
use Rattle.co_plain.specs.CoordView.{has_commit_of}
use Rattle.co_plain.specs.Sessions.{count_at}
use Rattle.co_plain.specs.Federation.{Federation}

-- the operations of a transaction and the replies to them, oldest first
abbrev pub sites_of : List Told → List Site
sites_of told = reverse (map (λ o. o.site) told)

abbrev pub replies_of : List Told → List Reply
replies_of told = reverse (map (λ o. o.reply) told)

abbrev pub is_decided : List Decided → TxnNumber → Bool
is_decided [] t = false
is_decided (d ∷ ds) t = (d.txn == t) || is_decided ds t

-- the numbers of transactions in the order of their decisions
abbrev pub decided_numbers : List Decided → List ℕ
decided_numbers decided = reverse (map (λ d. d.txn) decided)

-- the operations that a client was told of, and whether it asked to end
abbrev pub told_in : Option Session → List Told
told_in None = []
told_in (Some session) = session.told

abbrev pub told_of : Federation → TxnNumber → List Told
told_of s t = told_in (look s.sessions t)

abbrev pub asked_in : Option Session → Bool
asked_in None = false
asked_in (Some session) = session.asked

abbrev pub is_asked : Federation → TxnNumber → Bool
is_asked s t = asked_in (look s.sessions t)

-- whether a vote names the coordinator
abbrev pub votes_for : Option Vote → CoordNumber → Bool
votes_for None c = false
votes_for (Some vote) c = vote.coord == c

-- the transaction belongs to the coordinator: it was begun there in this run, or an opened member's log has
-- it voted with that coordinator
pub data BelongsTo (s : Federation) (t c : ℕ) : Type 0 where
  BegunThere : (session : Session) → look s.sessions t ≡ Some session → session.by ≡ node.Coord c → BelongsTo s t c
  VotedBefore : (m : ℕ) → votes_for (look (recovered_view (s.opened_member m)).voted t) c ≡ true → BelongsTo s t c

-- Presumed aborted: a transaction of a coordinator that is not in its table and has no commit, in this run or
-- in the file that was opened; or a local one that is not decided and whose end was asked, or that lost
-- operations. It stays so.
abbrev pub lost_operations : Federation → TxnNumber → MemberNumber → Bool
lost_operations s t m = not (kept_count (s.member m).engine t == count_at (told_of s t) m)

pub data IsPresumedAborted (s : Federation) (t : ℕ) : Type 0 where
  AtCoordinator : (c : ℕ) → BelongsTo s t c → look (s.coord c).table t ≡ None → is_decided s.decided t ≡ false →
      has_commit_of (s.opened_coord c) t ≡ false → IsPresumedAborted s t
  AtMember : (session : Session) (m : ℕ) → look s.sessions t ≡ Some session → session.by ≡ node.Member m → is_decided s.decided t ≡ false →
      (session.asked || lost_operations s t m) ≡ true → IsPresumedAborted s t

-- decided, in this run or by the opened file of some coordinator
pub data IsSettled (s : Federation) (t : ℕ) : Type 0 where
  InThisRun : is_decided s.decided t ≡ true → IsSettled s t
  InOpenedFile : (c : ℕ) → has_commit_of (s.opened_coord c) t ≡ true → IsSettled s t
