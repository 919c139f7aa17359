-- Whole coordinators, as they are told.
use Rattle.std.proofs.Common.{◌≡◌, ℕ, true, false, List, [], ◌++◌, reverse, None, Some, sym, ap, ◌∙◌}
use Rattle.co_base.specs.declared.part.Part.{Part}
use Rattle.co_state.specs.Table.{look}
use Rattle.co_plain.specs.declared.coord_state.CoordState.{CoordState}
use Rattle.co_plain.specs.declared.coord_state.Entry.TheVariants as entry
use Rattle.co_plain.specs.CoordView.{recovered_commits, all_up_to, first_refused_at_coord}
use Rattle.co_plain.specs.CoordStep.{members_of}
use Rattle.co_plain.specs.Invariants.{Side, Memory, Stable}
use Rattle.co_law_base.proofs.Commits.{from_cases}
use Rattle.co_law_node.specs.WholeCoords.{commits_of, HasCommitsAlone, IsWholeCoord, CoordStays, CoordStaysWhole}
use Rattle.co_law_node.proofs.AllowedCommits.{commits_from, no_refused}
use Rattle.co_law_node.proofs.MemberLaws.{some_head, no_head}
use Rattle.co_law_node.proofs.WholeTables.{WholeTable, stable_commits, coord_checkpoints}
use Rattle.co_law_node.proofs.CoordEvents.{whole_begin, whole_commit, whole_abort, whole_coord_vote, whole_coord_question, whole_acknowledgement, whole_coord_timer, whole_resending, whole_coord_crash, whole_coord_restart, whole_coord_arming, whole_coord_disarmed}

pub coord_as_told : (members : ℕ) (y : CoordState) → WholeTable members y → IsWholeCoord members y
coord_as_told members y w =
    record {
      fits = w.table.fits;
      tabled = w.table.tabled;
      waiting = w.ends;
      readable = readable;
      headed = no_head y.log.stable w.headed;
      down = w.down;
    }
  where
    readable : (side : Side) → first_refused_at_coord members (reverse (commits_of side y)) ≡ None
    readable Memory = no_refused members (y.log.waiting ++ y.log.stable) w.allowed
    readable Stable = no_refused members y.log.stable (stable_commits members y w)

pub coord_as_kept : (members : ℕ) (y : CoordState) → IsWholeCoord members y → WholeTable members y
coord_as_kept members y f =
    record {
      allowed = commits_from members (y.log.waiting ++ y.log.stable) (f.readable Memory);
      headed = some_head y.log.stable f.headed;
      ends = f.waiting;
      table = record { fits = f.fits; tabled = f.tabled };
      down = f.down;
    }

-- what every event keeps, where one thing follows from another, and of participants less is asked
pub coord_stays_as : (c : ℕ) (y : CoordState) (P Q : CoordState → Type 0) (M N : List Part → Type 0) → ((z : CoordState) → P z → Q z) → ((parts : List Part) → N parts → M parts) →
    CoordStays P M c y → CoordStays Q N c y
coord_stays_as c y P Q M N gives may s =
    record {
      begin = λ t u new. gives _ (s.begin t u new);
      commit = λ t parts u n. gives _ (s.commit t parts u (may parts n));
      abort = λ t parts u. gives _ (s.abort t parts u);
      vote = λ t m granted u. gives _ (s.vote t m granted u);
      question = λ t m. gives _ (s.question t m);
      acknowledgement = λ t m u. gives _ (s.acknowledgement t m u);
      timer = λ t u. gives _ (s.timer t u);
      resending = λ t. gives _ (s.resending t);
      checkpoint = λ u. gives _ (s.checkpoint u);
      crash = gives _ s.crash;
      restart = gives _ s.restart;
      armed = λ call leaves u. gives _ (s.armed call leaves u);
      disarmed = gives _ s.disarmed;
    }

-- and two things at once, the second one where it is asked for
pub coord_stays_both : (c : ℕ) (y : CoordState) (P Q : CoordState → Type 0) (M : List Part → Type 0) (A : Type 0) → CoordStays P M c y → (A → CoordStays Q M c y) →
    CoordStays (λ z. P z × (A → Q z)) M c y
coord_stays_both c y P Q M A s q =
    record {
      begin = λ t u new. (s.begin t u new, λ a. (q a).begin t u new);
      commit = λ t parts u n. (s.commit t parts u n, λ a. (q a).commit t parts u n);
      abort = λ t parts u. (s.abort t parts u, λ a. (q a).abort t parts u);
      vote = λ t m granted u. (s.vote t m granted u, λ a. (q a).vote t m granted u);
      question = λ t m. (s.question t m, λ a. (q a).question t m);
      acknowledgement = λ t m u. (s.acknowledgement t m u, λ a. (q a).acknowledgement t m u);
      timer = λ t u. (s.timer t u, λ a. (q a).timer t u);
      resending = λ t. (s.resending t, λ a. (q a).resending t);
      checkpoint = λ u. (s.checkpoint u, λ a. (q a).checkpoint u);
      crash = (s.crash, λ a. (q a).crash);
      restart = (s.restart, λ a. (q a).restart);
      armed = λ call leaves u. (s.armed call leaves u, λ a. (q a).armed call leaves u);
      disarmed = (s.disarmed, λ a. (q a).disarmed);
    }

pub coord_keeps_whole : (members c : ℕ) (y : CoordState) → WholeTable members y → CoordStays (WholeTable members) (λ parts. all_up_to members (members_of parts) ≡ true) c y
coord_keeps_whole members c y w =
    record {
      begin = λ t u new. whole_begin members y w t u new;
      commit = λ t parts u up. whole_commit members y w c t parts u up;
      abort = λ t parts u. whole_abort members y w c t parts u;
      vote = λ t m granted u. whole_coord_vote members y w c t m granted u;
      question = λ t m. whole_coord_question members y w c t m;
      acknowledgement = λ t m u. whole_acknowledgement members y w t m u;
      timer = λ t u. whole_coord_timer members y w c t u;
      resending = λ t. whole_resending members y w c t;
      checkpoint = λ u. coord_checkpoints members c y w u;
      crash = whole_coord_crash members y w;
      restart = whole_coord_restart members y w;
      armed = λ call leaves u. whole_coord_arming members y w call leaves u;
      disarmed = whole_coord_disarmed members y w;
    }

pub coord_stays_whole : (members c : ℕ) (y : CoordState) → IsWholeCoord members y → CoordStaysWhole members c y
coord_stays_whole members c y f =
    coord_stays_as c y (WholeTable members) (IsWholeCoord members) (λ parts. all_up_to members (members_of parts) ≡ true) (λ parts. all_up_to members (members_of parts) ≡ true)
    (coord_as_told members) (λ parts n. n) (coord_keeps_whole members c y (coord_as_kept members y f))

-- what is down has commits alone
pub commits_alone_down : (members : ℕ) (y : CoordState) → IsWholeCoord members y → y.up ≡ false → HasCommitsAlone y
commits_alone_down members y f d t e h = by (from_cases (recovered_commits y.log.stable).unended t e (ap (λ z. look z.table t) (sym (f.down d)) ∙ h))
  where
    by : (ms : List ℕ) × (look (recovered_commits y.log.stable).unended t ≡ Some ms) × (entry.Committed ms [] ≡ e) → (ms : List ℕ) × (acks : List ℕ) × (e ≡ entry.Committed ms acks)
    by p = (p.0, [], sym p.2)
