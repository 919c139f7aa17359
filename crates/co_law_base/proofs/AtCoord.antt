-- A coordinator decides: its commit record is forced.
use Rattle.std.proofs.Common.{◌≡◌, ◌≢◌, ◌⊎◌, inl, inr, ℕ, Bool, true, false, ◌||◌, ◌&&◌, ◌≤◌, ◌==◌, ◌+◌, if◌then◌else◌, List, [], ◌∷◌, ◌++◌, Some, refl, sym, ap, ◌∙◌, subst, arith}
use Rattle.std.specs.Option.{is_some}
use Rattle.std.proofs.lemmas.Bool.{or_cases, or_left, or_right, or_from, and_from, and_parts, eqb-true, eqb-false, eq-eqb, ne_eqb, false_from_ne_true}
use Rattle.co_base.specs.declared.part.Part.{Part}
use Rattle.co_base.specs.declared.node.Node.TheVariants as node
use Rattle.co_message.specs.declared.message.Message.TheVariants as message
use Rattle.co_record.specs.declared.record.Record.{Record}
use Rattle.co_record.specs.declared.record.Record.TheVariants as log
use Rattle.co_serial.specs.SerialRun.{with_at}
use Rattle.co_state.specs.Table.{look, holds}
use Rattle.co_plain.specs.declared.coord_state.CoordState.{CoordState}
use Rattle.co_plain.specs.declared.coord_state.Entry.{Entry}
use Rattle.co_plain.specs.declared.coord_state.Entry.TheVariants as entry
use Rattle.co_plain.specs.Numbers.{has_number}
use Rattle.co_plain.specs.CoordView.{recovered_commits, has_commit_of}
use Rattle.co_plain.specs.CoordStep.{members_of, has_part}
use Rattle.co_plain.specs.Sessions.{parts_of, count_at}
use Rattle.co_base.specs.Nodes.{same_node}
use Rattle.co_plain.specs.Wire.{was_sent}
use Rattle.co_plain.specs.Federation.{Federation, with_coord}
use Rattle.co_plain.specs.Decisions.{is_decided}
use Rattle.co_plain.specs.SoundLogs.{unended_in}
use Rattle.co_plain.specs.Invariants.{Side, Memory, view, stands, takes_part_in, ends_only}
use Rattle.co_plain.specs.Moves.{Decide, effect, Guard, with_decision, decide_entry, decide_members}
use Rattle.co_plain.specs.declared.session.Told.{Told}
use Rattle.co_law_engine.proofs.YesTells.{in_some}
use Rattle.co_law_base.proofs.Lookups.{put_here, put_there, without_here, without_there, without_cases, found_holds, is_nothing}
use Rattle.co_law_base.proofs.Commits.{lacks_none, lacks_at_first, commit_cases, commit_here, commit_there, holds_cases}
use Rattle.co_law_base.proofs.Facts.{rest_of, told, asked, over, entry_of, alive, by_coord, Begun, took, AtDecision, OpenEntry, CollectingEntry, CommittedEntry, CoordFacts, CoordHas, RecordFacts, Facts}
use Rattle.co_law_base.proofs.Carrying.{at_each, at_here, one_belongs, by_coord_begun, same_coord}
use Rattle.co_law_base.proofs.CoordMoves.{one_yes}
use Rattle.co_law_base.proofs.Sending.{told_parts, parts_told, part_member}
use Rattle.co_law_base.proofs.Deciding.{Decides, decided_rest, member_decide, sent_decide, numbers_decide, reads_serially}
use Rattle.co_law_base.proofs.Taking.{took_here, took_more}

-- end records take commits out, and tell of none
pub ends_back : (w stable : List Record) (t : ℕ) (members : List ℕ) → ends_only w ≡ true → unended_in (w ++ stable) t ≡ Some members → unended_in stable t ≡ Some members
ends_back [] stable t ms e h = h
ends_back (log.End u ∷ rs) stable t ms e h = ends_back rs stable t ms e (without_cases (recovered_commits (rs ++ stable)).unended u t ms h).1
ends_back (log.Header a b ∷ rs) stable t ms e h = absurd (let z : false ≡ true = e in cc)
ends_back (log.Prepare a b c d x ∷ rs) stable t ms e h = absurd (let z : false ≡ true = e in cc)
ends_back (log.Commit a b ∷ rs) stable t ms e h = absurd (let z : false ≡ true = e in cc)
ends_back (log.Abort a ∷ rs) stable t ms e h = absurd (let z : false ≡ true = e in cc)
ends_back (log.Checkpoint a b c ∷ rs) stable t ms e h = absurd (let z : false ≡ true = e in cc)

pub ends_seen : (w stable : List Record) (t : ℕ) → ends_only w ≡ true → has_commit_of (w ++ stable) t ≡ has_commit_of stable t
ends_seen [] stable t e = refl
ends_seen (log.End u ∷ rs) stable t e = ends_seen rs stable t e
ends_seen (log.Header a b ∷ rs) stable t e = absurd (let z : false ≡ true = e in cc)
ends_seen (log.Prepare a b c d x ∷ rs) stable t e = absurd (let z : false ≡ true = e in cc)
ends_seen (log.Commit a b ∷ rs) stable t e = absurd (let z : false ≡ true = e in cc)
ends_seen (log.Abort a ∷ rs) stable t e = absurd (let z : false ≡ true = e in cc)
ends_seen (log.Checkpoint a b c ∷ rs) stable t e = absurd (let z : false ≡ true = e in cc)

-- its records after it
abbrev records_after : Federation → ℕ → ℕ → List ℕ → List Record
records_after s t c members = log.Commit t members ∷ ((s.coord c).log.waiting ++ (s.coord c).log.stable)

-- the coordinators after it
abbrev after_it : Federation → ℕ → ℕ → List ℕ → ℕ → CoordState
after_it s t c members = with_at s.coord c (decide_members (s.coord c) t members)

-- The coordinators after it, whatever the members are.
module _ (s : Federation) (coords : (d : ℕ) → CoordHas (rest_of s) d (s.coord d)) (t c : ℕ) (members : List ℕ) (there : OpenEntry (rest_of s) c (s.coord c).log.stable t) (over_them : members ≢ [] → over (rest_of s) t ≡ true) where
  pub table_other : (u : ℕ) → t ≢ u → look (decide_members (s.coord c) t members).table u ≡ look (s.coord c).table u
  table_other u n = by members
    where
      by : (ms : List ℕ) → look (decide_members (s.coord c) t ms).table u ≡ look (s.coord c).table u
      by [] = without_there (s.coord c).table t u n
      by (m ∷ ms) = put_there (s.coord c).table t (entry.Committed (m ∷ ms) []) u n

  pub table_here : (x : Entry) → look (decide_members (s.coord c) t members).table t ≡ Some x → (entry.Committed members [] ≡ x) × (members ≢ [])
  table_here x = by members
    where
      by : (ms : List ℕ) → look (decide_members (s.coord c) t ms).table t ≡ Some x → (entry.Committed ms [] ≡ x) × (ms ≢ [])
      by [] h = is_nothing (sym (without_here (s.coord c).table t) ∙ h)
      by (m ∷ ms) h = (in_some (sym (put_here (s.coord c).table t (entry.Committed (m ∷ ms) [])) ∙ h), λ e. absurd (let z : m ∷ ms ≡ [] = e in cc))

  -- the facts of an entry of another transaction
  other_open : (d : ℕ) (stable next : List Record) (u : ℕ) → t ≢ u → has_commit_of next u ≡ has_commit_of stable u → OpenEntry (rest_of s) d stable u → OpenEntry (decided_rest (rest_of s) (after_it s t c members) t) d next u
  other_open d stable next u n same e =
      record {
        begun_there = e.begun_there;
        undecided = or_from (t == u) (is_decided s.decided u) (ne_eqb t u n) e.undecided;
        unrecorded = same ∙ e.unrecorded;
      }

  seen_same : (u : ℕ) → t ≢ u → has_commit_of (records_after s t c members) u ≡ has_commit_of (s.coord c).log.stable u
  seen_same u n = ap is_some (put_there (recovered_commits ((s.coord c).log.waiting ++ (s.coord c).log.stable)).seen t tt u n) ∙ ends_seen (s.coord c).log.waiting (s.coord c).log.stable u (coords c).ends

  known_more : (d u : ℕ) → ((by_coord (look s.sessions u) d && is_decided s.decided u) || has_commit_of (s.opened_coord d) u) ≡ true →
      ((by_coord (look s.sessions u) d && ((t == u) || is_decided s.decided u)) || has_commit_of (s.opened_coord d) u) ≡ true
  known_more d u h = by (or_cases (by_coord (look s.sessions u) d && is_decided s.decided u) (has_commit_of (s.opened_coord d) u) h)
    where
      by : ((by_coord (look s.sessions u) d && is_decided s.decided u) ≡ true) ⊎ (has_commit_of (s.opened_coord d) u ≡ true) →
          ((by_coord (look s.sessions u) d && ((t == u) || is_decided s.decided u)) || has_commit_of (s.opened_coord d) u) ≡ true
      by (inl p) =
          let q = and_parts (by_coord (look s.sessions u) d) (is_decided s.decided u) p in
          or_left (by_coord (look s.sessions u) d && ((t == u) || is_decided s.decided u)) (has_commit_of (s.opened_coord d) u)
          (and_from (by_coord (look s.sessions u) d) ((t == u) || is_decided s.decided u) q.0 (or_right (t == u) (is_decided s.decided u) q.1))
      by (inr k) = or_right (by_coord (look s.sessions u) d && ((t == u) || is_decided s.decided u)) (has_commit_of (s.opened_coord d) u) k

  more_known : (d u : ℕ) (ms : List ℕ) → ((by_coord (look s.sessions u) d && is_decided s.decided u) ≡ true) ⊎ (unended_in (s.opened_coord d) u ≡ Some ms) →
      ((by_coord (look s.sessions u) d && ((t == u) || is_decided s.decided u)) ≡ true) ⊎ (unended_in (s.opened_coord d) u ≡ Some ms)
  more_known d u ms (inr h) = inr h
  more_known d u ms (inl p) =
      let q = and_parts (by_coord (look s.sessions u) d) (is_decided s.decided u) p in
      inl (and_from (by_coord (look s.sessions u) d) ((t == u) || is_decided s.decided u) q.0 (or_right (t == u) (is_decided s.decided u) q.1))

  -- the coordinator that decides
  pub coord_here : CoordFacts (decided_rest (rest_of s) (after_it s t c members) t) c (decide_members (s.coord c) t members).table (records_after s t c members) []
  coord_here =
      record {
        idle = λ u h. idle u h (t == u) refl;
        collecting = λ u parts yeses h. collecting u parts yeses h (t == u) refl;
        committed = λ u ms acks h. committed u ms acks h (t == u) refl;
        known = λ u h. known u (holds_cases (recovered_commits ((s.coord c).log.waiting ++ (s.coord c).log.stable)).seen t u h);
        unended_known = λ u ms h. unended_known u ms (commit_cases ((s.coord c).log.waiting ++ (s.coord c).log.stable) t members u ms h);
        unended_over = λ u ms h. overs u ms (commit_cases ((s.coord c).log.waiting ++ (s.coord c).log.stable) t members u ms h);
        ends = refl;
      }
    where
      old : CoordHas (rest_of s) c (s.coord c)
      old = coords c

      at_t : (u : ℕ) (x : Entry) → look (decide_members (s.coord c) t members).table u ≡ Some x → (t == u) ≡ true → (entry.Committed members [] ≡ x) × (members ≢ [])
      at_t u x h e = table_here x (ap (look (decide_members (s.coord c) t members).table) (eqb-true t u e) ∙ h)

      idle : (u : ℕ) → look (decide_members (s.coord c) t members).table u ≡ Some entry.Idle → (b : Bool) → (t == u) ≡ b → OpenEntry (decided_rest (rest_of s) (after_it s t c members) t) c (records_after s t c members) u
      idle u h true e = absurd (let z : entry.Committed members [] ≡ entry.Idle = (at_t u entry.Idle h e).0 in cc)
      idle u h false e = let n = eqb-false t u e in other_open c (s.coord c).log.stable (records_after s t c members) u n (seen_same u n) (old.idle u (sym (table_other u n) ∙ h))

      collecting : (u : ℕ) (parts : List Part) (yeses : List ℕ) → look (decide_members (s.coord c) t members).table u ≡ Some (entry.Collecting parts yeses) → (b : Bool) → (t == u) ≡ b →
          CollectingEntry (decided_rest (rest_of s) (after_it s t c members) t) c (records_after s t c members) u parts yeses
      collecting u parts yeses h true e = absurd (let z : entry.Committed members [] ≡ entry.Collecting parts yeses = (at_t u (entry.Collecting parts yeses) h e).0 in cc)
      collecting u parts yeses h false e =
          let n = eqb-false t u e in
          let x = old.collecting u parts yeses (sym (table_other u n) ∙ h) in
          record {
            still = other_open c (s.coord c).log.stable (records_after s t c members) u n (seen_same u n) x.still;
            asked = x.asked;
            parts_told = x.parts_told;
            lacks = x.lacks;
            yeses_sent = x.yeses_sent;
          }

      fresh : (ms acks : List ℕ) → entry.Committed members [] ≡ entry.Committed ms acks → members ≢ [] → CommittedEntry (decided_rest (rest_of s) (after_it s t c members) t) c (records_after s t c members) [] t ms acks
      fresh ms acks e n =
          subst (λ x. committed_by x) e
          (record {
            recorded = commit_here ((s.coord c).log.waiting ++ (s.coord c).log.stable) t members n;
            logged = commit_here ((s.coord c).log.waiting ++ (s.coord c).log.stable) t members n;
            lacks = lacks_at_first members n;
            acks_sent = λ m h. absurd (let z : false ≡ true = h in cc);
          })
        where
          committed_by : Entry → Type 0
          committed_by entry.Idle = ⊥
          committed_by (entry.Collecting parts yeses) = ⊥
          committed_by (entry.Committed ms acks) = CommittedEntry (decided_rest (rest_of s) (after_it s t c members) t) c (records_after s t c members) [] t ms acks

      committed : (u : ℕ) (ms acks : List ℕ) → look (decide_members (s.coord c) t members).table u ≡ Some (entry.Committed ms acks) → (b : Bool) → (t == u) ≡ b →
          CommittedEntry (decided_rest (rest_of s) (after_it s t c members) t) c (records_after s t c members) [] u ms acks
      committed u ms acks h true e =
          let p = at_t u (entry.Committed ms acks) h e in
          subst (λ k. CommittedEntry (decided_rest (rest_of s) (after_it s t c members) t) c (records_after s t c members) [] k ms acks) (eqb-true t u e) (fresh ms acks p.0 p.1)
      committed u ms acks h false e =
          let n = eqb-false t u e in
          let x = old.committed u ms acks (sym (table_other u n) ∙ h) in
          let is : unended_in (records_after s t c members) u ≡ Some ms = commit_there ((s.coord c).log.waiting ++ (s.coord c).log.stable) t members u n ∙ x.logged in
          record { recorded = is; logged = is; lacks = x.lacks; acks_sent = x.acks_sent }

      known : (u : ℕ) → (t ≡ u) ⊎ (has_commit_of ((s.coord c).log.waiting ++ (s.coord c).log.stable) u ≡ true) →
          ((by_coord (look s.sessions u) c && ((t == u) || is_decided s.decided u)) || has_commit_of (s.opened_coord c) u) ≡ true
      known u (inl e) =
          or_left (by_coord (look s.sessions u) c && ((t == u) || is_decided s.decided u)) (has_commit_of (s.opened_coord c) u)
          (and_from (by_coord (look s.sessions u) c) ((t == u) || is_decided s.decided u)
          (ap (λ k. by_coord (look s.sessions k) c) (sym e) ∙ there.begun_there) (or_left (t == u) (is_decided s.decided u) (eq-eqb t u e)))
      known u (inr h) = known_more c u (old.known u (sym (ends_seen (s.coord c).log.waiting (s.coord c).log.stable u old.ends) ∙ h))

      unended_known : (u : ℕ) (ms : List ℕ) → ((t ≡ u) × (members ≡ ms) × (members ≢ [])) ⊎ (unended_in ((s.coord c).log.waiting ++ (s.coord c).log.stable) u ≡ Some ms) →
          ((by_coord (look s.sessions u) c && ((t == u) || is_decided s.decided u)) ≡ true) ⊎ (unended_in (s.opened_coord c) u ≡ Some ms)
      unended_known u ms (inl p) =
          inl (and_from (by_coord (look s.sessions u) c) ((t == u) || is_decided s.decided u) (ap (λ k. by_coord (look s.sessions k) c) (sym p.0) ∙ there.begun_there) (or_left (t == u) (is_decided s.decided u) (eq-eqb t u p.0)))
      unended_known u ms (inr h) = more_known c u ms (old.unended_known u ms (ends_back (s.coord c).log.waiting (s.coord c).log.stable u ms old.ends h))

      overs : (u : ℕ) (ms : List ℕ) → ((t ≡ u) × (members ≡ ms) × (members ≢ [])) ⊎ (unended_in ((s.coord c).log.waiting ++ (s.coord c).log.stable) u ≡ Some ms) → over (rest_of s) u ≡ true
      overs u ms (inl p) = ap (over (rest_of s)) (sym p.0) ∙ over_them p.2
      overs u ms (inr h) = old.unended_over u ms (ends_back (s.coord c).log.waiting (s.coord c).log.stable u ms old.ends h)

  -- another coordinator
  pub coord_there : (d : ℕ) → c ≢ d → CoordFacts (decided_rest (rest_of s) (after_it s t c members) t) d (s.coord d).table (s.coord d).log.stable (s.coord d).log.waiting
  coord_there d n =
      record {
        idle = λ u h. still u (old.idle u h);
        collecting = λ u parts yeses h. let x = old.collecting u parts yeses h in
            record { still = still u x.still; asked = x.asked; parts_told = x.parts_told; lacks = x.lacks; yeses_sent = x.yeses_sent };
        committed = λ u ms acks h. let x = old.committed u ms acks h in record { recorded = x.recorded; logged = x.logged; lacks = x.lacks; acks_sent = x.acks_sent };
        known = λ u h. known_more d u (old.known u h);
        unended_over = old.unended_over;
        unended_known = λ u ms h. more_known d u ms (old.unended_known u ms h);
        ends = old.ends;
      }
    where
      old : CoordHas (rest_of s) d (s.coord d)
      old = coords d

      still : (u : ℕ) → OpenEntry (rest_of s) d (s.coord d).log.stable u → OpenEntry (decided_rest (rest_of s) (after_it s t c members) t) d (s.coord d).log.stable u
      still u e =
          other_open d (s.coord d).log.stable (s.coord d).log.stable u
          (λ q. n (same_coord (look s.sessions t) c d there.begun_there (ap (λ k. by_coord (look s.sessions k) d) q ∙ e.begun_there))) refl e

  pub coord_each : (d : ℕ) → CoordHas (decided_rest (rest_of s) (after_it s t c members) t) d (with_at s.coord c (decide_members (s.coord c) t members) d)
  coord_each d = each (c == d) refl
    where
      each : (b : Bool) → (c == d) ≡ b → CoordHas (decided_rest (rest_of s) (after_it s t c members) t) d (if c == d then decide_members (s.coord c) t members else s.coord d)
      each true e =
          subst (λ b. CoordHas (decided_rest (rest_of s) (after_it s t c members) t) d (if b then decide_members (s.coord c) t members else s.coord d)) (sym e)
          (subst (λ k. CoordHas (decided_rest (rest_of s) (after_it s t c members) t) k (decide_members (s.coord c) t members)) (eqb-true c d e) coord_here)
      each false e =
          subst (λ b. CoordHas (decided_rest (rest_of s) (after_it s t c members) t) d (if b then decide_members (s.coord c) t members else s.coord d)) (sym e) (coord_there d (eqb-false c d e))

-- What is known of a transaction that is decided with these participants.
record Chosen (s : Federation) (t c : ℕ) (members : List ℕ) : Type 0 where
  there : OpenEntry (rest_of s) c (s.coord c).log.stable t
  tabled : holds (s.coord c).table t ≡ true
  was_asked : (told (rest_of s) t ≡ []) ⊎ (asked (rest_of s) t ≡ true)
  part : (m : ℕ) → takes_part_in (look (s.coord c).table t) m ≡ true → has_number members m ≡ true
  whole : (m : ℕ) → 1 ≤ count_at (told (rest_of s) t) m → has_number members m ≡ true
  over_them : members ≢ [] → over (rest_of s) t ≡ true
  taking : (m : ℕ) → has_number members m ≡ true → 1 ≤ count_at (told (rest_of s) t) m
  standing : (m : ℕ) (side : Side) → has_number members m ≡ true → stands (view side (s.member m)) t ≡ true

module _ (s : Federation) (f : Facts s) (t c : ℕ) (members : List ℕ) (g : Chosen s t c members) where
  takes_here : (m : ℕ) → has_number members m ≡ true → takes_part_in (look (decide_members (s.coord c) t members).table t) m ≡ true
  takes_here m = by members
    where
      by : (ms : List ℕ) → has_number ms m ≡ true → takes_part_in (look (decide_members (s.coord c) t ms).table t) m ≡ true
      by [] h = absurd (let z : false ≡ true = h in cc)
      by (k ∷ ms) h = ap (λ o. takes_part_in o m) (put_here (s.coord c).table t (entry.Committed (k ∷ ms) [])) ∙ h

  unopened : (d : ℕ) → has_commit_of (s.opened_coord d) t ≡ false
  unopened d = false_from_ne_true (has_commit_of (s.opened_coord d) t) (λ h. let z : true ≡ false = sym (f.numbers.commit_used d t h) ∙ f.numbers.new t (by_coord_begun (look s.sessions t) c g.there.begun_there) in cc)

  decides : Decides (rest_of s) (with_at s.coord c (decide_members (s.coord c) t members)) t
  decides =
      record {
        undecided = g.there.undecided;
        unopened = unopened;
        was_begun = by_coord_begun (look s.sessions t) c g.there.begun_there;
        was_asked = g.was_asked;
        local_asked = λ m session h b. absurd (let z : true ≡ false = sym g.there.begun_there ∙ ap (λ o. by_coord o c) h ∙ ap (λ k. same_node k (node.Coord c)) b in cc);
        was_alive = λ d b. subst (λ e. alive (rest_of s) e t ≡ true) (one_belongs (rest_of s) f.numbers t c d (Begun g.there.begun_there) b) (or_left (holds (s.coord c).table t) _ g.tabled);
        part = λ d m b. subst (λ e. takes_part_in (entry_of (rest_of s) e t) m ≡ true → takes_part_in (look (with_at s.coord c (decide_members (s.coord c) t members) e).table t) m ≡ true)
            (one_belongs (rest_of s) f.numbers t c d (Begun g.there.begun_there) b)
            (λ h. ap (λ z. takes_part_in (look z.table t) m) (at_here s.coord c (decide_members (s.coord c) t members)) ∙ takes_here m (g.part m h));
        others = λ u d n. at_each (λ d z. look z.table u ≡ entry_of (rest_of s) d u) s.coord c (decide_members (s.coord c) t members) (table_other s f.coords t c members g.there g.over_them u n) (λ d. refl) d;
      }

  records_decide : RecordFacts (decided_rest (rest_of s) (after_it s t c members) t) s.member
  records_decide =
      record {
        unended = λ u d m ms side. at_each (λ d z. unended_in z.log.stable u ≡ Some ms → has_number ms m ≡ true → stands (view side (s.member m)) u ≡ true) s.coord c (decide_members (s.coord c) t members)
            (λ h k. unended u m ms side k (commit_cases ((s.coord c).log.waiting ++ (s.coord c).log.stable) t members u ms h)) (λ d h k. f.records.unended u d m ms side h k) d;
        taking = λ u d m ms. at_each (λ d z. unended_in z.log.stable u ≡ Some ms → has_number ms m ≡ true → took (decided_rest (rest_of s) (after_it s t c members) t) u m) s.coord c (decide_members (s.coord c) t members)
            (λ h k. taking u m ms k (commit_cases ((s.coord c).log.waiting ++ (s.coord c).log.stable) t members u ms h)) (λ d h k. more u m (f.records.taking u d m ms h k)) d;
        opened_stand = f.records.opened_stand;
      }
    where
      more : (u m : ℕ) → took (rest_of s) u m → took (decided_rest (rest_of s) (after_it s t c members) t) u m
      more u m = took_more (record { txn = t; told = told (rest_of s) t }) s.decided s.opened_coord u m

      unended : (u m : ℕ) (ms : List ℕ) (side : Side) → has_number ms m ≡ true → ((t ≡ u) × (members ≡ ms) × (members ≢ [])) ⊎ (unended_in ((s.coord c).log.waiting ++ (s.coord c).log.stable) u ≡ Some ms) →
          stands (view side (s.member m)) u ≡ true
      unended u m ms side k (inl p) = subst (λ n. stands (view side (s.member m)) n ≡ true) p.0 (g.standing m side (ap (λ l. has_number l m) p.1 ∙ k))
      unended u m ms side k (inr h) = f.records.unended u c m ms side (ends_back (s.coord c).log.waiting (s.coord c).log.stable u ms (f.coords c).ends h) k

      taking : (u m : ℕ) (ms : List ℕ) → has_number ms m ≡ true → ((t ≡ u) × (members ≡ ms) × (members ≢ [])) ⊎ (unended_in ((s.coord c).log.waiting ++ (s.coord c).log.stable) u ≡ Some ms) → took (decided_rest (rest_of s) (after_it s t c members) t) u m
      taking u m ms k (inl p) =
          subst (λ n. took (decided_rest (rest_of s) (after_it s t c members) t) n m) p.0
          (AtDecision (took_here s.decided t m (told (rest_of s) t) (g.taking m (ap (λ l. has_number l m) p.1 ∙ k))))
      taking u m ms k (inr h) = more u m (f.records.taking u c m ms (ends_back (s.coord c).log.waiting (s.coord c).log.stable u ms (f.coords c).ends h) k)

  decide_facts : Facts (with_decision (with_coord s c (decide_members (s.coord c) t members)) t)
  decide_facts =
      record {
        numbers = numbers_decide (rest_of s) (after_it s t c members) t decides f.numbers;
        members = λ m. member_decide (rest_of s) (after_it s t c members) t decides m (s.member m) (f.members m) (λ side h. g.standing m side (g.whole m h));
        coords = coord_each s f.coords t c members g.there g.over_them;
        sent = sent_decide (rest_of s) (after_it s t c members) t decides s.member f.sent;
        records = records_decide;
        serially = (reads_serially (rest_of s) (after_it s t c members) t decides s.member (λ m. (f.members m).views Memory) (λ m h. g.standing m Memory (g.whole m h)), f.serially);
      }

no_parts : (told : List Told) → parts_of told ≡ [] → told ≡ []
no_parts [] e = refl
no_parts (o ∷ os) e =
    absurd (let h : has_part (parts_of (o ∷ os)) o.site.member ≡ true = told_parts (o ∷ os) o.site.member (one_told (o.site.member == o.site.member) (count_at os o.site.member) (eq-eqb o.site.member o.site.member refl)) in
    let z : false ≡ true = ap (λ ps. has_part ps o.site.member) (sym e) ∙ h in cc)
  where
    one_told : (b : Bool) (n : ℕ) → b ≡ true → 1 ≤ (if b then n + 1 else n)
    one_told true n h = omega arith
    one_told false n h = absurd (let z : false ≡ true = h in cc)

pub keeps_decide : (s : Federation) → Facts s → (t c : ℕ) → Guard s (Decide t c) → Facts (effect s (Decide t c))
keeps_decide s f t c (inl p) =
    subst (λ o. Facts (with_decision (with_coord s c (decide_entry (s.coord c) t o)) t)) (sym p.0)
    (decide_facts s f t c []
    (record {
      there = (f.coords c).idle t p.0;
      tabled = found_holds (s.coord c).table t entry.Idle p.0;
      was_asked = inl nothing;
      part = λ m h. absurd (let z : false ≡ true = ap (λ o. takes_part_in o m) (sym p.0) ∙ h in cc);
      whole = λ m h. absurd (let l : 1 ≤ 0 = subst (λ ts. 1 ≤ count_at ts m) nothing h in omega (arith, l));
      over_them = λ n. absurd (n refl);
      taking = λ m h. absurd (let z : false ≡ true = h in cc);
      standing = λ m side h. absurd (let z : false ≡ true = h in cc);
    }))
  where
    nothing : told (rest_of s) t ≡ []
    nothing = no_parts (told (rest_of s) t) p.1
keeps_decide s f t c (inr p) =
    subst (λ o. Facts (with_decision (with_coord s c (decide_entry (s.coord c) t o)) t)) (sym p.3)
    (decide_facts s f t c (members_of p.0)
    (record {
      there = x.still;
      tabled = found_holds (s.coord c).table t (entry.Collecting p.0 p.1) p.3;
      was_asked = inr x.asked;
      part = λ m h. ap (λ o. takes_part_in o m) (sym p.3) ∙ h;
      whole = λ m h. part_member p.0 m ∙ ap (λ ps. has_part ps m) x.parts_told ∙ told_parts (told (rest_of s) t) m h;
      over_them = λ n. or_left (asked (rest_of s) t) (holds s.used t) x.asked;
      taking = λ m h. parts_told (told (rest_of s) t) m (ap (λ ps. has_part ps m) (sym x.parts_told) ∙ sym (part_member p.0 m) ∙ h);
      standing = λ m side h. f.sent.yeses_stand t m c side
          (one_yes (λ k. was_sent s.sent (message.Vote t k c true) ≡ true) p.1 p.2 m p.4 (x.yeses_sent m) (lacks_none (members_of p.0) (p.2 ∷ p.1) m p.5 h))
          (or_left (holds (s.coord c).table t) _ (found_holds (s.coord c).table t (entry.Collecting p.0 p.1) p.3));
    }))
  where
    x : CollectingEntry (rest_of s) c (s.coord c).log.stable t p.0 p.1
    x = (f.coords c).collecting t p.0 p.1 p.3
