-- The invariants, from the facts.
use Rattle.std.proofs.Common.{◌≡◌, ◌⊎◌, ℕ, true, ◌≤◌, [], subst}
use Rattle.co_plain.specs.Federation.{Federation}
use Rattle.co_plain.specs.Decisions.{told_of, is_asked}
use Rattle.co_plain.specs.Sessions.{count_at}
use Rattle.co_plain.specs.Invariants.{Memory, view, stands, told_here, is_begun}
use Rattle.co_plain.specs.AllInvariants.{AllInvariants}
use Rattle.co_law_base.proofs.Facts.{rest_of, serial_start, ReadSerially}
use Rattle.co_law_base.proofs.LogMoves.{as_belongs}
use Rattle.co_law_base.proofs.ViewRules.{as_invariant}
use Rattle.co_law_moves.proofs.Derived.{reads_at, files_sound}
use Rattle.co_law_moves.proofs.KeptBySelf.{table_matches, past_idle}
use Rattle.co_law_moves.proofs.KeptFrom.{each_at, belongs_is, living, settled_is, took_is, waiting_is, image, ended, ended_before, committed_alive, aborts_true}
use Rattle.co_law.proofs.AllFacts.{AllFacts}
use Rattle.co_law.proofs.HeldOnes.{asked_held}
use Rattle.co_law.proofs.CommitRecords.{session_parts}

pub all_from : (s : Federation) → AllFacts s → AllInvariants s
all_from s a =
    let f = a.facts in
    record {
      conflict_free = λ m side. ((f.members m).views side).free;
      replays = λ m side. as_invariant (view side (s.member m)) (told_here s m) (is_begun s) ((f.members m).views side).replay;
      said_durable =
          record {
            votes = λ t m c side h apart. f.sent.yeses_stand t m c side h (living s t c (f.sent.votes_named t m c true h) apart);
            acks = λ t m c side h. f.sent.acks_stand t m c side h;
          };
      serial = image s f;
      reads = λ later earlier d q. reads_at (serial_start (rest_of s)) later earlier d (subst (ReadSerially (serial_start (rest_of s))) q f.serially);
      true_decisions =
          record {
            aborts = λ t c m h. aborts_true s f t c m (f.sent.aborts t c m h);
            commits = λ t c m h. let p = f.sent.commits t c m h in (settled_is s t p.0, took_is s t m p.1);
          };
      active =
          record {
            kept = λ t m os e. ((f.members m).active t os e).kept;
            stamped = λ t m os e. ((f.members m).active t os e).stamps;
            begun = λ t m os e. ((f.members m).active t os e).begun;
            apart = λ t m os e. ((f.members m).active t os e).apart;
            prepared = λ t c m n h. f.sent.prepares_count t c m n h;
            collecting = λ t c parts yeses e. ((f.coords c).collecting t parts yeses e).parts_told;
          };
      asked =
          record {
            standing = λ t m side h. ((f.members m).views side).over t h;
            in_table = λ t c. past_idle s c (f.coords c) (f.numbers.commit_used c) (a.own.ends c) t;
            named = λ note h. f.sent.over note h;
            begun_is_new = f.numbers.new;
            marked = λ t m mark e. (f.members m).marked t mark e;
          };
      logged = λ m.
          record {
            tells = record { same = (f.members m).logged; waiting = (a.own.members m).waiting };
            presumed = waiting_is s (s.member m).log.waiting (f.members m).waiting;
          };
      tables = λ c. table_matches s c (f.coords c) (f.numbers.commit_used c) (a.own.ends c);
      views = λ m side.
          let v = (f.members m).views side in
          record {
            named = λ t c h. belongs_is s t c (v.named t c h);
            held = λ t c h apart. v.held t c h (living s t c (v.named t c h) apart);
            apart = v.apart;
            decided = v.known;
            settled = λ t c h b. v.homed t c h (as_belongs s t c b);
            alive = λ t h. committed_alive s f t m side h;
          };
      commits =
          record {
            unended = λ t c m members side h k. f.records.unended t c m members side h k;
            taking = λ t c m members h k. took_is s t m (f.records.taking t c m members h k);
            recorded = a.records;
            parts = session_parts s f a.records;
            opened = λ t c m members side h k. f.records.opened_stand t c m members side h k;
            ended = ended s f;
            ended_before = ended_before s f;
          };
      named =
          record {
            prepares = λ t c m n h. belongs_is s t c (f.sent.prepares_named t c m n h);
            votes = λ t c m granted h. belongs_is s t c (f.sent.votes_named t m c granted h);
            questions = λ t m c h. belongs_is s t c (f.sent.asks_named t m c h);
          };
      held = asked_held s f a.working a.records;
      sound = files_sound s f;
      decided_once = f.numbers.once;
      decided_begun = f.numbers.decided_begun;
      sessions =
          record {
            local_home = f.numbers.local;
            local_asked = f.numbers.local_asked;
            decided_kept = λ d later earlier q.
                each_at (λ e. (e.told ≡ []) ⊎ ((told_of s e.txn ≡ e.told) × (is_asked s e.txn ≡ true))) s.decided later earlier d f.numbers.kept q;
          };
      standers_told =
          record {
            active = a.working.active;
            decided = λ d later earlier q.
                each_at (λ e. (m : ℕ) → stands (view Memory (s.member m)) e.txn ≡ true → 1 ≤ count_at e.told m) s.decided later earlier d a.working.works q;
          };
      opened_sound = a.opened;
      opened_used = f.numbers.voted_used;
    }
