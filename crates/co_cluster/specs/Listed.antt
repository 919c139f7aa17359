-- What a federation lists: its open transactions, who is in doubt, and who waits for whom.
use Rattle.std.specs.Prelude.{ℕ, zero, suc, Bool, true, false, ◌||◌, ◌&&◌, ◌≡◌, ◌<◌, ◌⊎◌, List, [], ◌++◌, Option, None, Some, option_map, option_and_then, option_to_list}
use Rattle.co_state.specs.declared.engine_state.EngineState.{EngineState}
use Rattle.co_state.specs.declared.verdict.Verdict.{Verdict}
use Rattle.co_state.specs.declared.verdict.Verdict.TheVariants.{LostOperations, StaleRead, HeldBy, VoteYes}
use Rattle.co_state.specs.Table.{look, holds}
use Rattle.co_plain.specs.declared.member_state.MemberState.{MemberState}
use Rattle.co_plain.specs.Federation.{Federation}
use Rattle.co_plain.specs.MemberView.{Numbers}
use Rattle.co_plain.specs.Quiet.{IsMember}
use Rattle.co_undecided.specs.Kept.{coord_asked}
use Rattle.co_member.specs.Reading.{verdict_where}
use Rattle.co_cluster.specs.declared.doubting.Doubt.{Doubt}
use Rattle.co_wait.specs.declared.wait.Wait.{Wait}

-- active or voted
abbrev pub is_undecided : EngineState → ℕ → Bool
is_undecided b t = holds b.active t || holds b.voted t

-- undecided at a member that is up
abbrev pub is_undecided_up : MemberState → ℕ → Bool
is_undecided_up x t = x.up && is_undecided x.engine t

-- whether one of so many nodes passes
abbrev pub any_to : ℕ → (ℕ → Bool) → Bool
any_to zero test = false
any_to (suc n) test = any_to n test || test (suc n)

-- those that pass were added to a set of numbers
abbrev pub AreNoted : (ℕ → Bool) → Numbers → Numbers → Type 0
AreNoted test old new = (t : ℕ) → holds new t ≡ (holds old t || test t)

-- what so many nodes give, in their order
abbrev pub found_to : {A : Type 0} → ℕ → (ℕ → Option A) → List A
found_to zero f = []
found_to (suc n) f = found_to n f ++ option_to_list (f (suc n))

-- something, where this is so
abbrev pub where_so : {A : Type 0} → Bool → Option A → Option A
where_so true o = o
where_so false o = None

-- the doubt of a member that is up, where the transaction is voted there
abbrev pub doubt_of : ℕ → ℕ → Option ℕ → Option Doubt
doubt_of t m coord = option_map (λ c. record { txn = t; member = m; coord = c }) coord

abbrev pub doubt_at : Federation → ℕ → ℕ → Option Doubt
doubt_at s t m = where_so (s.member m).up (doubt_of t m (coord_asked (look (s.member m).engine.voted t)))

-- The transaction is voted at this member, which is up, and this coordinator asked for the vote.
pub record IsDoubt (s : Federation) (d : Doubt) : Type 0 where
  pub own : IsMember s d.member
  pub up : (s.member d.member).up ≡ true
  pub voted : coord_asked (look (s.member d.member).engine.voted d.txn) ≡ Some d.coord

-- by its transaction, and then by its member
abbrev pub IsDoubtBefore : Doubt → Doubt → Type 0
IsDoubtBefore d e = (d.txn < e.txn) ⊎ ((d.txn ≡ e.txn) × (d.member < e.member))

-- the transaction in the way of a vote
abbrev pub holder : Verdict → Option ℕ
holder LostOperations = None
holder (StaleRead key) = None
holder (HeldBy u) = Some u
holder VoteYes = None

-- of an active transaction whose vote was asked for, at a member that is up
abbrev pub held_where : Bool → Bool → Option Verdict → Option ℕ
held_where up active verdict = where_so up (where_so active (option_and_then holder verdict))

abbrev pub held_at : Federation → ℕ → ℕ → Option ℕ
held_at s t m = held_where (s.member m).up (holds (s.member m).engine.active t) (verdict_where (s.member m).engine t (look (s.member m).asked t))

abbrev pub wait_of : ℕ → ℕ → Option ℕ → Option Wait
wait_of t m by = option_map (λ u. record { member = m; held = t; by = u }) by

abbrev pub wait_at : Federation → ℕ → ℕ → Option Wait
wait_at s t m = wait_of t m (held_at s t m)

-- The transaction is active at this member, which is up; its vote was asked for, and the voting rule now holds it for this one.
pub record IsWait (s : Federation) (w : Wait) : Type 0 where
  pub own : IsMember s w.member
  pub up : (s.member w.member).up ≡ true
  pub active : holds (s.member w.member).engine.active w.held ≡ true
  pub held : verdict_where (s.member w.member).engine w.held (look (s.member w.member).asked w.held) ≡ Some (HeldBy w.by)
