-- A change of one member is carried over to all facts.
use Rattle.std.proofs.Common.{◌≡◌, ◌⊎◌, inl, inr, ℕ, true, ◌&&◌, List, Some}
use Rattle.std.proofs.lemmas.Bool.{or_cases, and_parts}
use Rattle.co_serial.specs.SerialRun.{with_at}
use Rattle.co_state.specs.Table.{look}
use Rattle.co_plain.specs.declared.member_state.MemberState.{MemberState}
use Rattle.co_plain.specs.CoordView.{has_commit_of}
use Rattle.co_plain.specs.Federation.{Federation, with_member}
use Rattle.co_plain.specs.Decisions.{is_decided}
use Rattle.co_plain.specs.SoundLogs.{unended_in}
use Rattle.co_law_base.proofs.Commits.{unended_seen}
use Rattle.co_law_base.proofs.Facts.{rest_of, by_coord, Here, Before, settled, MemberFacts, Facts}
use Rattle.co_law_base.proofs.Carrying.{at_each, StandsOn, stands_same, sent_on, records_on}

pub unended_settled : (s : Federation) → Facts s → (c t : ℕ) (members : List ℕ) → unended_in (s.coord c).log.stable t ≡ Some members → settled (rest_of s) t
unended_settled s f c t members h = by (or_cases (by_coord (look s.sessions t) c && is_decided s.decided t) (has_commit_of (s.opened_coord c) t) ((f.coords c).known t (unended_seen (s.coord c).log.stable t members h)))
  where
    by : ((by_coord (look s.sessions t) c && is_decided s.decided t) ≡ true) ⊎ (has_commit_of (s.opened_coord c) t ≡ true) → settled (rest_of s) t
    by (inl p) = Here (and_parts (by_coord (look s.sessions t) c) (is_decided s.decided t) p).1
    by (inr k) = Before c k

pub member_change : (s : Federation) → Facts s → (m : ℕ) (x : MemberState) → MemberFacts (rest_of s) m x → StandsOn (rest_of s) (s.member m) x → Facts (with_member s m x)
member_change s f m x new on =
    record {
      numbers = f.numbers;
      members = at_each (λ k z. MemberFacts (rest_of s) k z) s.member m x new f.members;
      coords = f.coords;
      sent = sent_on (rest_of s) f.numbers s.member (with_at s.member m x) all f.sent;
      records = records_on (rest_of s) f.numbers s.member (with_at s.member m x) all (unended_settled s f) (λ c t ms h. Before c (unended_seen (s.opened_coord c) t ms h)) f.records;
      serially = f.serially;
    }
  where
    all : (k : ℕ) → StandsOn (rest_of s) (s.member k) (with_at s.member m x k)
    all = at_each (λ k z. StandsOn (rest_of s) (s.member k) z) s.member m x on (λ k. stands_same (rest_of s) (s.member k))
