-- What is promised over any opened logs, from the facts; and what is said of one coordinator, over any opened logs.
use Rattle.std.proofs.Common.{◌≡◌, ◌≢◌, ◌⊎◌, inl, inr, ℕ, true, false, ◌&&◌, List, Option, None, Some, refl, ap, ◌∙◌}
use Rattle.std.proofs.lemmas.Bool.{or_cases, or_left, and_parts, eqb-true}
use Rattle.co_base.specs.declared.node.Node.{Node}
use Rattle.co_base.specs.declared.node.Node.TheVariants as node
use Rattle.co_state.specs.Table.{look, holds}
use Rattle.co_plain.specs.declared.coord_state.Entry.{Entry}
use Rattle.co_plain.specs.declared.coord_state.Entry.TheVariants as entry
use Rattle.co_plain.specs.declared.session.Session.{Session}
use Rattle.co_plain.specs.CoordView.{has_commit_of}
use Rattle.co_base.specs.Nodes.{same_node}
use Rattle.co_plain.specs.Federation.{Federation}
use Rattle.co_plain.specs.Decisions.{is_decided, is_asked}
use Rattle.co_plain.specs.SoundLogs.{unended_in}
use Rattle.co_plain.specs.Invariants.{is_asked_or_used}
use Rattle.co_plain.specs.CoordInvariants.{BegunAt, IsOpenEntry, OwnEnds, TableMatchesLog}
use Rattle.co_law_base.proofs.Facts.{rest_of, by_coord, OpenEntry, CoordHas}
use Rattle.co_law_base.proofs.Commits.{unended_some}
use Rattle.co_law_moves.specs.OwnFacts.{KeptByEach}
use Rattle.co_law_moves.proofs.Own.{OwnFacts}

begun_at : (o : Option Session) (c : ℕ) → by_coord o c ≡ true → BegunAt o c
begun_at None c h = absurd (let z : false ≡ true = h in cc)
begun_at (Some session) c h = by session.by refl h
  where
    by : (at : Node) → session.by ≡ at → same_node at (node.Coord c) ≡ true → session.by ≡ node.Coord c
    by (node.Member m) e k = absurd (let z : false ≡ true = k in cc)
    by (node.Coord d) e k = e ∙ ap node.Coord (eqb-true d c k)

-- What is said of one coordinator, from its facts.
module _ (s : Federation) (c : ℕ) (y : CoordHas (rest_of s) c (s.coord c)) (used : (t : ℕ) → has_commit_of (s.opened_coord c) t ≡ true → holds s.used t ≡ true)
    (ends : OwnEnds (s.coord c).table (s.coord c).log.stable (s.coord c).log.waiting) where
  open_entry : (t : ℕ) → OpenEntry (rest_of s) c (s.coord c).log.stable t → IsOpenEntry s c t
  open_entry t e = record { begun_there = begun_at (look s.sessions t) c e.begun_there; undecided = e.undecided; unrecorded = e.unrecorded }

  decided_here : (t : ℕ) → (by_coord (look s.sessions t) c && is_decided s.decided t) ≡ true → BegunAt (look s.sessions t) c × (is_decided s.decided t ≡ true)
  decided_here t p = let q = and_parts (by_coord (look s.sessions t) c) (is_decided s.decided t) p in (begun_at (look s.sessions t) c q.0, q.1)

  recorded : (t : ℕ) → ((by_coord (look s.sessions t) c && is_decided s.decided t) ≡ true) ⊎ (has_commit_of (s.opened_coord c) t ≡ true) →
      (BegunAt (look s.sessions t) c × (is_decided s.decided t ≡ true)) ⊎ (has_commit_of (s.opened_coord c) t ≡ true)
  recorded t (inl p) = inl (decided_here t p)
  recorded t (inr h) = inr h

  unended : (t : ℕ) (members : List ℕ) → ((by_coord (look s.sessions t) c && is_decided s.decided t) ≡ true) ⊎ (unended_in (s.opened_coord c) t ≡ Some members) →
      (BegunAt (look s.sessions t) c × (is_decided s.decided t ≡ true)) ⊎ (unended_in (s.opened_coord c) t ≡ Some members)
  unended t members (inl p) = inl (decided_here t p)
  unended t members (inr h) = inr h

  pub table_matches : TableMatchesLog s c
  table_matches =
      record {
        idle = λ t h. open_entry t (y.idle t h);
        collecting = λ t parts yeses h.
            let e = y.collecting t parts yeses h in
            record { still = open_entry t e.still; asked = e.asked; parts_told = e.parts_told; lacks = e.lacks; yeses_sent = e.yeses_sent };
        committed = λ t members acks h.
            let e = y.committed t members acks h in
            record { recorded = e.recorded; logged = e.logged; some = unended_some (s.coord c).log.stable t members e.recorded; lacks = e.lacks; acks_sent = e.acks_sent };
        recorded = λ t h. recorded t (or_cases (by_coord (look s.sessions t) c && is_decided s.decided t) (has_commit_of (s.opened_coord c) t) (y.known t h));
        unended = λ t members h. unended t members (y.unended_known t members h);
        asked = y.unended_over;
        opened = used;
        waiting = ends;
      }

  -- who is in the table past its first entry was asked to end, or stands in an opened log
  pub past_idle : (t : ℕ) (e : Entry) → look (s.coord c).table t ≡ Some e → e ≢ entry.Idle → is_asked_or_used s t ≡ true
  past_idle t entry.Idle h n = absurd (n refl)
  past_idle t (entry.Collecting parts yeses) h n = or_left (is_asked s t) (holds s.used t) (y.collecting t parts yeses h).asked
  past_idle t (entry.Committed members acks) h n = y.unended_over t members (y.committed t members acks h).recorded

module _ (s : Federation) (f : OwnFacts s) where
  pub kept_by_each : KeptByEach s
  kept_by_each =
      record {
        conflict_free = λ m side. ((f.members m).views side).free;
        active =
            record {
              kept = λ t m os h. ((f.members m).active t os h).kept;
              stamped = λ t m os h. ((f.members m).active t os h).stamps;
              begun = λ t m os h. ((f.members m).active t os h).begun;
              apart = λ t m os h. ((f.members m).active t os h).apart;
              prepared = λ t c m n h. let p = f.sent.prepares t c m n h in (p.1, p.2);
              collecting = λ t c parts yeses h. ((f.coords c).collecting t parts yeses h).parts_told;
            };
        asked =
            record {
              standing = λ t m side h. ((f.members m).views side).over t h;
              in_table = λ t c. past_idle s c (f.coords c) (f.numbers.commit_used c) (f.ends c) t;
              named = f.sent.over;
              begun_is_new = f.numbers.new;
              marked = λ t m mark h. (f.members m).marked t mark h;
            };
        logged = λ m. record { same = (f.members m).logged; waiting = (f.members m).waiting };
        tables = λ c. table_matches s c (f.coords c) (f.numbers.commit_used c) (f.ends c);
        decided_once = f.numbers.once;
        decided_begun = f.numbers.decided_begun;
      }
