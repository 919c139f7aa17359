-- A transaction is begun: its number is new, so nothing speaks of it.
use Rattle.std.proofs.Common.{◌≡◌, ◌≢◌, ◌⊎◌, inl, inr, ℕ, true, false, ◌||◌, ◌&&◌, ◌≤◌, List, [], Option, None, Some, refl, sym, ap, ◌∙◌, subst}
use Rattle.std.specs.Option.{is_some}
use Rattle.std.proofs.lemmas.Bool.{or_cases, or_left, or_parts, and_parts, eq-eqb, false_from_ne_true}
use Rattle.co_base.specs.declared.node.Node.{Node}
use Rattle.co_base.specs.declared.node.Node.TheVariants as node
use Rattle.co_serial.specs.SerialRun.{with_at}
use Rattle.co_state.specs.Table.{Table, look, holds, put}
use Rattle.co_plain.specs.declared.coord_state.CoordState.{CoordState}
use Rattle.co_plain.specs.declared.coord_state.Entry.TheVariants as entry
use Rattle.co_plain.specs.declared.session.Decided.{Decided}
use Rattle.co_plain.specs.declared.session.Session.{Session}
use Rattle.co_plain.specs.CoordView.{has_commit_of}
use Rattle.co_plain.specs.CoordStep.{with_table}
use Rattle.co_plain.specs.Sessions.{told_at, count_at, begun_by}
use Rattle.co_plain.specs.Federation.{Federation}
use Rattle.co_plain.specs.Decisions.{is_decided, told_in, asked_in}
use Rattle.co_plain.specs.SoundLogs.{unended_in}
use Rattle.co_plain.specs.Invariants.{takes_part_in}
use Rattle.co_plain.specs.Moves.{Begin, BeginLocal, effect, Guard}
use Rattle.co_law_base.proofs.Lookups.{put_here, put_there, put_cases}
use Rattle.co_law_base.proofs.Facts.{Rest, rest_of, changed, told, begun, asked, seen, entry_of, settled_at, alive, by_coord, OpenEntry, CoordHas, NumberFacts, Facts}
use Rattle.co_law_base.proofs.Carrying.{at_each, over_seen, belongs_seen, by_coord_begun, Later, later_member, later_coord, later_records, later_sent}
use Rattle.co_law_base.proofs.ViewMoves.{each_map, each_both, each_decided, holds_put}
use Rattle.co_law_base.proofs.SessionPut.{unused_put, asked_put}
use Rattle.co_law_base.proofs.Tabled.{coord_put}
use Rattle.co_law_base.proofs.KeptTold.{told_begun}

-- a number that was not seen is none that was
pub other_than : (r : Rest) (t u : ℕ) → seen r t ≡ false → seen r u ≡ true → t ≢ u
other_than r t u new old e = let z : true ≡ false = sym old ∙ ap (seen r) (sym e) ∙ new in cc

asked_begun : (o : Option Session) → asked_in o ≡ true → is_some o ≡ true
asked_begun None h = h
asked_begun (Some session) h = refl

module _ (s : Federation) (f : Facts s) (t : ℕ) (by' : Node) (new : seen (rest_of s) t ≡ false) (coord : ℕ → CoordState) where
  -- sessions with the new one
  abbrev pub with_new : Table Session
  with_new = put s.sessions t (begun_by by')

  unmoved : (u : ℕ) → seen (rest_of s) u ≡ true → look (put s.sessions t (begun_by by')) u ≡ look s.sessions u
  unmoved u h = put_there s.sessions t (begun_by by') u (other_than (rest_of s) t u new h)

  begun_seen : (u : ℕ) → begun (rest_of s) u ≡ true → seen (rest_of s) u ≡ true
  begun_seen u h = or_left (begun (rest_of s) u) (holds s.used u) h

  begin_later : ((u d : ℕ) → t ≢ u → alive (changed (rest_of s) coord with_new s.sent) d u ≡ true → alive (rest_of s) d u ≡ true) →
      ((u d m : ℕ) → t ≢ u → takes_part_in (entry_of (rest_of s) d u) m ≡ true → takes_part_in (look (coord d).table u) m ≡ true) →
      Later (rest_of s) coord with_new s.sent s.member
  begin_later lives part =
      record {
        told_same = λ u o. ap told_in (unmoved u (over_seen (rest_of s) u o));
        counts = λ u m h. subst (λ o. 1 ≤ count_at (told_in o) m) (sym (unmoved u (begun_seen u (told_begun (look s.sessions u) m h)))) h;
        begun_on = λ u h. holds_put s.sessions t (begun_by by') u h;
        begun_back = λ u o h. ap is_some (sym (unmoved u o)) ∙ h;
        asked_on = λ u h. ap asked_in (unmoved u (begun_seen u (asked_begun (look s.sessions u) h))) ∙ h;
        by_on = λ u c h. ap (λ o. by_coord o c) (unmoved u (begun_seen u (by_coord_begun (look s.sessions u) c h))) ∙ h;
        by_back = λ u c o h. ap (λ o. by_coord o c) (sym (unmoved u o)) ∙ h;
        alive_back = λ u d o. lives u d (other_than (rest_of s) t u new o);
        part = λ u d m b a h. inl (part u d m (other_than (rest_of s) t u new (belongs_seen (rest_of s) f.numbers u d b)) h);
        sent_on = λ note h. h;
      }

  begin_numbers : NumberFacts (changed (rest_of s) coord with_new s.sent)
  begin_numbers =
      record {
        new = unused_put s.sessions t (begun_by by') s.used f.numbers.new (or_parts (begun (rest_of s) t) (holds s.used t) new).1;
        decided_begun = λ u h. holds_put s.sessions t (begun_by by') u (f.numbers.decided_begun u h);
        once = f.numbers.once;
        local = λ u m k session h. local u m k session (put_cases s.sessions t (begun_by by') u session h);
        local_asked = asked_put s.sessions t (begun_by by') s.decided f.numbers.local_asked
            (λ m b d. absurd (let z : true ≡ false = sym (f.numbers.decided_begun t d) ∙ (or_parts (begun (rest_of s) t) (holds s.used t) new).0 in cc));
        kept = each_map (λ d. ((d.told ≡ []) ⊎ ((told (rest_of s) d.txn ≡ d.told) × (asked (rest_of s) d.txn ≡ true))) × (is_decided s.decided d.txn ≡ true))
            (λ d. (d.told ≡ []) ⊎ ((told_in (look with_new d.txn) ≡ d.told) × (asked_in (look with_new d.txn) ≡ true))) s.decided
            (λ d p. kept d (f.numbers.decided_begun d.txn p.1) p.0)
            (each_both (λ d. (d.told ≡ []) ⊎ ((told (rest_of s) d.txn ≡ d.told) × (asked (rest_of s) d.txn ≡ true))) (λ d. is_decided s.decided d.txn ≡ true) s.decided f.numbers.kept (each_decided s.decided));
        voted_used = f.numbers.voted_used;
        commit_used = f.numbers.commit_used;
        one_vote = f.numbers.one_vote;
        vote_commit = f.numbers.vote_commit;
        one_home = f.numbers.one_home;
        one_commit = f.numbers.one_commit;
      }
    where
      local : (u m k : ℕ) (session : Session) → ((t ≡ u) × (begun_by by' ≡ session)) ⊎ ((t ≢ u) × (look s.sessions u ≡ Some session)) → session.by ≡ node.Member m → k ≢ m → count_at session.told k ≡ 0
      local u m k session (inl p) b n = ap (λ z. count_at z.told k) (sym p.1)
      local u m k session (inr p) b n = f.numbers.local u m k session p.1 b n

      kept : (d : Decided) → begun (rest_of s) d.txn ≡ true → (d.told ≡ []) ⊎ ((told (rest_of s) d.txn ≡ d.told) × (asked (rest_of s) d.txn ≡ true)) →
          (d.told ≡ []) ⊎ ((told_in (look with_new d.txn) ≡ d.told) × (asked_in (look with_new d.txn) ≡ true))
      kept d b (inl e) = inl e
      kept d b (inr p) = inr (ap told_in (unmoved d.txn (begun_seen d.txn b)) ∙ p.0, ap asked_in (unmoved d.txn (begun_seen d.txn b)) ∙ p.1)

  begin_facts : (l : Later (rest_of s) coord with_new s.sent s.member) → ((d : ℕ) → CoordHas (changed (rest_of s) coord with_new s.sent) d (coord d)) →
      ((d u : ℕ) (members : List ℕ) → unended_in (coord d).log.stable u ≡ Some members → unended_in (s.coord d).log.stable u ≡ Some members) →
      Facts (record s { coord = coord; sessions = with_new })
  begin_facts l coords back =
      record {
        numbers = begin_numbers;
        members = λ m. later_member (rest_of s) f.numbers coord with_new s.sent s.member l m
            (λ u os h. ap (λ o. told_at (told_in o) m) (unmoved u (begun_seen u ((f.members m).active u os h).begun))) (f.members m);
        coords = coords;
        sent = later_sent (rest_of s) f.numbers coord with_new s.member l f.sent;
        records = later_records (rest_of s) f.numbers coord with_new s.sent s.member l f.records back;
        serially = f.serially;
      }

pub keeps_begin_local : (s : Federation) → Facts s → (t m : ℕ) → Guard s (BeginLocal t m) → Facts (effect s (BeginLocal t m))
keeps_begin_local s f t m g =
    let l = begin_later s f t (node.Member m) g s.coord (λ u d n h. h) (λ u d k n h. h) in
    begin_facts s f t (node.Member m) g s.coord l
    (λ d. later_coord (rest_of s) f.numbers s.coord (put s.sessions t (begun_by (node.Member m))) s.sent s.member l d (s.coord d).table (s.coord d).log.stable (s.coord d).log.waiting (f.coords d))
    (λ d u ms h. h)

pub keeps_begin : (s : Federation) → Facts s → (t c : ℕ) → Guard s (Begin t c) → Facts (effect s (Begin t c))
keeps_begin s f t c g =
    begin_facts s f t (node.Coord c) g coord l coords
    (λ d u ms. at_each (λ d z. unended_in z.log.stable u ≡ Some ms → unended_in (s.coord d).log.stable u ≡ Some ms) s.coord c y (λ h. h) (λ d h. h) d)
  where
    y : CoordState
    y = with_table (s.coord c) (put (s.coord c).table t entry.Idle)

    coord : ℕ → CoordState
    coord = with_at s.coord c y

    sessions : Table Session
    sessions = put s.sessions t (begun_by (node.Coord c))

    moved : (u : ℕ) → t ≢ u → look y.table u ≡ look (s.coord c).table u
    moved u n = put_there (s.coord c).table t entry.Idle u n

    l : Later (rest_of s) coord sessions s.sent s.member
    l = begin_later s f t (node.Coord c) g coord
        (λ u d n. at_each (λ d z. (holds z.table u || settled_at (rest_of s) d u) ≡ true → alive (rest_of s) d u ≡ true) s.coord c y (λ h. ap (λ o. is_some o || settled_at (rest_of s) c u) (sym (moved u n)) ∙ h) (λ d h. h) d)
        (λ u d m n. at_each (λ d z. takes_part_in (entry_of (rest_of s) d u) m ≡ true → takes_part_in (look z.table u) m ≡ true) s.coord c y (λ h. ap (λ o. takes_part_in o m) (moved u n) ∙ h) (λ d h. h) d)

    unrecorded : has_commit_of (s.coord c).log.stable t ≡ false
    unrecorded = false_from_ne_true (has_commit_of (s.coord c).log.stable t) (λ h. known (or_cases (by_coord (look s.sessions t) c && is_decided s.decided t) (has_commit_of (s.opened_coord c) t) ((f.coords c).known t h)))
      where
        known : ((by_coord (look s.sessions t) c && is_decided s.decided t) ≡ true) ⊎ (has_commit_of (s.opened_coord c) t ≡ true) → ⊥
        known (inl p) =
            let z : true ≡ false = sym (by_coord_begun (look s.sessions t) c (and_parts (by_coord (look s.sessions t) c) (is_decided s.decided t) p).0) ∙ (or_parts (begun (rest_of s) t) (holds s.used t) g).0 in cc
        known (inr k) = let z : true ≡ false = sym (f.numbers.commit_used c t k) ∙ (or_parts (begun (rest_of s) t) (holds s.used t) g).1 in cc

    fits : OpenEntry (changed (rest_of s) coord sessions s.sent) c (s.coord c).log.stable t
    fits =
        record {
          begun_there = ap (λ o. by_coord o c) (put_here s.sessions t (begun_by (node.Coord c))) ∙ eq-eqb c c refl;
          undecided = false_from_ne_true (is_decided s.decided t) (λ h. let z : true ≡ false = sym (f.numbers.decided_begun t h) ∙ (or_parts (begun (rest_of s) t) (holds s.used t) g).0 in cc);
          unrecorded = unrecorded;
        }

    coords : (d : ℕ) → CoordHas (changed (rest_of s) coord sessions s.sent) d (coord d)
    coords = at_each (λ d z. CoordHas (changed (rest_of s) coord sessions s.sent) d z) s.coord c y
        (coord_put (changed (rest_of s) coord sessions s.sent) c (s.coord c).log.stable (s.coord c).log.waiting (s.coord c).table t entry.Idle
        (later_coord (rest_of s) f.numbers coord sessions s.sent s.member l c (s.coord c).table (s.coord c).log.stable (s.coord c).log.waiting (f.coords c)) fits)
        (λ d. later_coord (rest_of s) f.numbers coord sessions s.sent s.member l d (s.coord d).table (s.coord d).log.stable (s.coord d).log.waiting (f.coords d))
