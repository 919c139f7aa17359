-- Whole members, as they are told.
use Rattle.std.proofs.Common.{◌≡◌, ◌≢◌, ℕ, true, false, ◌≤◌, List, [], ◌∷◌, ◌++◌, length, reverse, None, Some, refl, arith}
use Rattle.co_record.specs.declared.record.Record.{Record}
use Rattle.co_state.specs.declared.engine_state.Vote.{Vote}
use Rattle.co_state.specs.Table.{look, holds}
use Rattle.co_plain.specs.declared.member_state.MemberState.{MemberState}
use Rattle.co_plain.specs.MemberView.{first_refused_at_member}
use Rattle.co_plain.specs.Invariants.{Side, Memory, Stable, view, VotedAreConflictFree}
use Rattle.co_law_node.specs.WholeMembers.{IsWholeMember, MemberStays, MemberStaysWhole, records_of}
use Rattle.co_plain.specs.Numbers.{IsAmong}
use Rattle.co_law_node.proofs.Allowed.{tells, allowed_from, none_from}
use Rattle.co_law_node.proofs.WholeMoves.{Whole, memory_tells, stable_allowed}
use Rattle.co_law_node.proofs.WholeFilling.{checkpoints}
use Rattle.co_law_node.proofs.MemberEvents.{whole_operation, whole_local_commit, whole_local_abort, whole_prepare, whole_decision, whole_vote, whole_timer, whole_question, whole_crash, whole_restart, whole_arming, whole_disarmed}

pub some_head : (rs : List Record) → rs ≢ [] → 1 ≤ length rs
some_head [] n = absurd (n refl)
some_head (r ∷ rs) n = omega arith

pub no_head : (rs : List Record) → 1 ≤ length rs → rs ≢ []
no_head [] h e = absurd (omega (arith, h))
no_head (r ∷ rs) h e = absurd (let z : r ∷ rs ≡ [] = e in cc)

pub as_told : (coords : ℕ) (x : MemberState) → Whole coords x → IsWholeMember coords x
as_told coords x w =
    record {
      conflict_free = free;
      apart = apart;
      voted = voted;
      active = w.keeps.active;
      installed = w.keeps.installed;
      marked = w.keeps.marked;
      logged = w.logged;
      waiting = w.aborts;
      readable = readable;
      headed = no_head x.log.stable w.headed;
      down = w.down;
    }
  where
    free : (side : Side) → VotedAreConflictFree (view side x)
    free Memory = (memory_tells coords x w).free
    free Stable = (tells coords x.log.stable (stable_allowed coords x w)).free

    apart : (side : Side) (t : ℕ) → holds (view side x).committed t ≡ true → holds (view side x).voted t ≡ false
    apart Memory = (memory_tells coords x w).apart
    apart Stable = (tells coords x.log.stable (stable_allowed coords x w)).apart

    voted : (side : Side) (t : ℕ) (vote : Vote) → look (view side x).voted t ≡ Some vote → IsAmong vote.coord coords
    voted Memory = (memory_tells coords x w).among
    voted Stable = (tells coords x.log.stable (stable_allowed coords x w)).among

    readable : (side : Side) → first_refused_at_member coords (reverse (records_of side x)) ≡ None
    readable Memory = none_from coords (x.log.waiting ++ x.log.stable) w.allowed
    readable Stable = none_from coords x.log.stable (stable_allowed coords x w)

pub as_kept : (coords : ℕ) (x : MemberState) → IsWholeMember coords x → Whole coords x
as_kept coords x f =
    record {
      allowed = allowed_from coords (x.log.waiting ++ x.log.stable) (f.readable Memory);
      headed = some_head x.log.stable f.headed;
      aborts = f.waiting;
      logged = f.logged;
      keeps = record { active = f.active; installed = f.installed; marked = f.marked };
      down = f.down;
    }

-- what every event keeps, where one thing follows from another
pub stays_as : (coords m : ℕ) (x : MemberState) (P Q : MemberState → Type 0) → ((y : MemberState) → P y → Q y) → MemberStays P coords m x → MemberStays Q coords m x
stays_as coords m x P Q gives s =
    record {
      operation = λ t carried op u n. gives _ (s.operation t carried op u n);
      local_commit = λ t carried some u n. gives _ (s.local_commit t carried some u n);
      local_abort = λ t u. gives _ (s.local_abort t u);
      prepare = λ t coord count own some u. gives _ (s.prepare t coord count own some u);
      decision = λ t coord commit u. gives _ (s.decision t coord commit u);
      vote = λ t u. gives _ (s.vote t u);
      timer = λ t u. gives _ (s.timer t u);
      question = λ t. gives _ (s.question t);
      checkpoint = λ u. gives _ (s.checkpoint u);
      crash = gives _ s.crash;
      restart = gives _ s.restart;
      armed = λ call leaves u. gives _ (s.armed call leaves u);
      disarmed = gives _ s.disarmed;
    }

-- and two things at once, the second one where it is asked for
pub stays_both : (coords m : ℕ) (x : MemberState) (P Q : MemberState → Type 0) (A : Type 0) → MemberStays P coords m x → (A → MemberStays Q coords m x) →
    MemberStays (λ y. P y × (A → Q y)) coords m x
stays_both coords m x P Q A s q =
    record {
      operation = λ t carried op u n. (s.operation t carried op u n, λ a. (q a).operation t carried op u n);
      local_commit = λ t carried some u n. (s.local_commit t carried some u n, λ a. (q a).local_commit t carried some u n);
      local_abort = λ t u. (s.local_abort t u, λ a. (q a).local_abort t u);
      prepare = λ t coord count own some u. (s.prepare t coord count own some u, λ a. (q a).prepare t coord count own some u);
      decision = λ t coord commit u. (s.decision t coord commit u, λ a. (q a).decision t coord commit u);
      vote = λ t u. (s.vote t u, λ a. (q a).vote t u);
      timer = λ t u. (s.timer t u, λ a. (q a).timer t u);
      question = λ t. (s.question t, λ a. (q a).question t);
      checkpoint = λ u. (s.checkpoint u, λ a. (q a).checkpoint u);
      crash = (s.crash, λ a. (q a).crash);
      restart = (s.restart, λ a. (q a).restart);
      armed = λ call leaves u. (s.armed call leaves u, λ a. (q a).armed call leaves u);
      disarmed = (s.disarmed, λ a. (q a).disarmed);
    }

pub keeps_whole : (coords m : ℕ) (x : MemberState) → Whole coords x → MemberStays (Whole coords) coords m x
keeps_whole coords m x w =
    record {
      operation = λ t carried op u n. whole_operation coords x w t carried op u n;
      local_commit = λ t carried some u n. whole_local_commit coords x w m t carried some u n;
      local_abort = λ t u. whole_local_abort coords x w t u;
      prepare = λ t coord count own some u. whole_prepare coords x w m t coord count own some u;
      decision = λ t coord commit u. whole_decision coords x w m t coord commit u;
      vote = λ t u. whole_vote coords x w m t u;
      timer = λ t u. whole_timer coords x w t u;
      question = λ t. whole_question coords x w m t;
      checkpoint = λ u. checkpoints coords m x w u;
      crash = whole_crash coords x w;
      restart = whole_restart coords x w;
      armed = λ call leaves u. whole_arming coords x w call leaves u;
      disarmed = whole_disarmed coords x w;
    }

pub stays_whole : (coords m : ℕ) (x : MemberState) → IsWholeMember coords x → MemberStaysWhole coords m x
stays_whole coords m x f = stays_as coords m x (Whole coords) (IsWholeMember coords) (as_told coords) (keeps_whole coords m x (as_kept coords x f))
