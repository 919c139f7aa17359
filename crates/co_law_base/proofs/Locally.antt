-- A member decides a transaction of its own: it is cast, decided and installed at once.
use Rattle.std.proofs.Common.{◌≡◌, ◌≢◌, ◌⊎◌, inl, inr, ℕ, suc, Bool, true, false, ◌||◌, ◌&&◌, ◌≤◌, ◌==◌, if◌then◌else◌, List, [], ◌∷◌, length, Option, None, Some, refl, sym, ap, ◌∙◌, subst, arith}
use Rattle.std.specs.Option.{is_some}
use Rattle.std.proofs.lemmas.Bool.{or_cases, or_left, or_right, or_from, and_parts, and_from, eqb-true, eqb-false, eq-eqb, ne_eqb, false_from_ne_true}
use Rattle.co_base.specs.declared.node.Node.TheVariants as node
use Rattle.co_record.specs.declared.record.Record.TheVariants as log
use Rattle.co_serial.specs.SerialRun.{with_at, run_whole}
use Rattle.co_state.specs.declared.engine_state.Operation.{Operation}
use Rattle.co_state.specs.declared.engine_state.Vote.{Vote}
use Rattle.co_state.specs.Table.{look, holds, put, without}
use Rattle.co_state.specs.Changes.{sets_of}
use Rattle.co_state.specs.EngineState.{operations_of}
use Rattle.co_state.specs.Effects.{cast_as, install_vote}
use Rattle.co_plain.specs.declared.member_state.MemberState.{MemberState}
use Rattle.co_plain.specs.declared.session.Session.{Session}
use Rattle.co_plain.specs.declared.session.Told.{Told}
use Rattle.co_plain.specs.Numbers.{counted}
use Rattle.co_plain.specs.LogWrite.{with_batch}
use Rattle.co_plain.specs.MemberView.{cast_in, install_in, with_number}
use Rattle.co_plain.specs.CoordView.{has_commit_of}
use Rattle.co_plain.specs.Member.{prepare_record}
use Rattle.co_plain.specs.LocalCommit.{local_coord}
use Rattle.co_plain.specs.Sessions.{count_at, asked_to_end}
use Rattle.co_plain.specs.Federation.{Federation, with_member, with_session}
use Rattle.co_plain.specs.Decisions.{is_decided, replies_of, sites_of, told_of, told_in, asked_in, votes_for, is_asked}
use Rattle.co_plain.specs.SoundLogs.{unended_in}
use Rattle.co_plain.specs.Invariants.{Memory, Stable, view, stands, told_changes, Replays, VotedAreConflictFree}
use Rattle.co_plain.specs.Moves.{CommitLocally, effect, Guard, with_decision, marked_over, session_by_member, local_state}
use Rattle.co_law_engine.proofs.YesTells.{SaysYes, yes_parts, yes_apart, yes_sees, in_some}
use Rattle.co_law_base.proofs.Lookups.{put_here, put_there, without_cases, found_holds, is_nothing}
use Rattle.co_law_base.proofs.ToldRuns.{CastReplays, cast_replays, told_serially}
use Rattle.co_law_base.proofs.ViewRules.{AllReplay, cast_free, cast_replay, install_free, install_replay}
use Rattle.co_law_base.proofs.ImageRules.{IsImage, image_cast, image_decide, image_install, replays_serially}
use Rattle.co_law_base.proofs.Commits.{holds_more, holds_new, holds_cases, unended_seen}
use Rattle.co_law_base.proofs.Facts.{rest_of, told, told_here, begun, asked, over, settled_at, settled, Here, Before, by_coord, belongs, Begun, serial, OpenEntry, ActiveFacts, ViewFacts, MemberFacts, CoordHas, RecordFacts, Facts}
use Rattle.co_law_base.proofs.Carrying.{at_each, StandsOn, stands_same, sent_on, records_on}
use Rattle.co_law_base.proofs.TwoViews.{both_sides, forced}
use Rattle.co_law_base.proofs.ViewMoves.{each_map, neither_stands, holds_put, still_holds, votes_without, cast_stands, install_stands, cast_leaves, install_leaves, cast_apart, install_apart}
use Rattle.co_law_base.proofs.MemberFrame.{unended_settled}
use Rattle.co_law_base.proofs.KeptTold.{kept_install, stamps_more, count_told}
use Rattle.co_law_base.proofs.LogMoves.{local_apart}
use Rattle.co_law_base.proofs.VoteMoves.{active_found}
use Rattle.co_law_base.proofs.Asking.{keeps_ask}
use Rattle.co_law_base.proofs.Deciding.{Decides, decided_rest, decided_now, settled_more, settled_others, home_more, still_open, same_alive, serial_grows, member_decide, sent_decide, numbers_decide}
use Rattle.co_law_base.proofs.Taking.{took_more}

-- what the move needs, where the client asked
record Alone (s : Federation) (t m : ℕ) (old : Session) : Type 0 where
  here : look s.sessions t ≡ Some old
  by' : old.by ≡ node.Member m
  asks : old.asked ≡ true
  undecided : is_decided s.decided t ≡ false
  some' : 1 ≤ count_at (told (rest_of s) t) m
  says : SaysYes (s.member m).engine t (count_at (told (rest_of s) t) m)

-- the vote of the transaction, and the member after it
abbrev pub local_vote : Federation → ℕ → ℕ → Vote
local_vote s t m = record { coord = local_coord; count = counted (count_at (told (rest_of s) t) m); sets = sets_of (operations_of (s.member m).engine t) }

abbrev pub member_after : Federation → ℕ → ℕ → Option Vote → MemberState
member_after s t m o =
    record {
      up = (s.member m).up;
      engine = install_vote (cast_as (s.member m).engine t local_coord (counted (count_at (told (rest_of s) t) m)) (operations_of (s.member m).engine t)) t o;
      committed = with_number (s.member m).committed t;
      asked = without (s.member m).asked t;
      log = with_batch (s.member m).log
          (log.Commit t [] ∷ prepare_record t local_coord (counted (count_at (told (rest_of s) t) m)) (sets_of (operations_of (s.member m).engine t)) ∷ []);
    }

-- The coordinators after a decision that is none of theirs.
module _ (s : Federation) (coords : (d : ℕ) → CoordHas (rest_of s) d (s.coord d)) (t : ℕ) (foreign : (d : ℕ) → by_coord (look s.sessions t) d ≡ true → ⊥) where
  pub coord_still : (d : ℕ) → CoordHas (decided_rest (rest_of s) s.coord t) d (s.coord d)
  coord_still d =
      record {
        idle = λ u h. still u (x.idle u h);
        collecting = λ u parts yeses h. let e = x.collecting u parts yeses h in
            record { still = still u e.still; asked = e.asked; parts_told = e.parts_told; lacks = e.lacks; yeses_sent = e.yeses_sent };
        committed = λ u ms acks h. let e = x.committed u ms acks h in record { recorded = e.recorded; logged = e.logged; lacks = e.lacks; acks_sent = e.acks_sent };
        known = λ u h. known u (or_cases (by_coord (look s.sessions u) d && is_decided s.decided u) (has_commit_of (s.opened_coord d) u) (x.known u h));
        unended_over = x.unended_over;
        unended_known = λ u ms h. unended_known u ms (x.unended_known u ms h);
        ends = x.ends;
      }
    where
      x : CoordHas (rest_of s) d (s.coord d)
      x = coords d

      still : (u : ℕ) → OpenEntry (rest_of s) d (s.coord d).log.stable u → OpenEntry (decided_rest (rest_of s) s.coord t) d (s.coord d).log.stable u
      still u e =
          record {
            begun_there = e.begun_there;
            undecided = or_from (t == u) (is_decided s.decided u) (ne_eqb t u (λ q. foreign d (ap (λ k. by_coord (look s.sessions k) d) q ∙ e.begun_there))) e.undecided;
            unrecorded = e.unrecorded;
          }

      unended_known : (u : ℕ) (ms : List ℕ) → ((by_coord (look s.sessions u) d && is_decided s.decided u) ≡ true) ⊎ (unended_in (s.opened_coord d) u ≡ Some ms) →
          ((by_coord (look s.sessions u) d && ((t == u) || is_decided s.decided u)) ≡ true) ⊎ (unended_in (s.opened_coord d) u ≡ Some ms)
      unended_known u ms (inr h) = inr h
      unended_known u ms (inl p) =
          let q = and_parts (by_coord (look s.sessions u) d) (is_decided s.decided u) p in
          inl (and_from (by_coord (look s.sessions u) d) ((t == u) || is_decided s.decided u) q.0 (or_right (t == u) (is_decided s.decided u) q.1))

      known : (u : ℕ) → ((by_coord (look s.sessions u) d && is_decided s.decided u) ≡ true) ⊎ (has_commit_of (s.opened_coord d) u ≡ true) →
          ((by_coord (look s.sessions u) d && ((t == u) || is_decided s.decided u)) || has_commit_of (s.opened_coord d) u) ≡ true
      known u (inr k) = or_right (by_coord (look s.sessions u) d && ((t == u) || is_decided s.decided u)) (has_commit_of (s.opened_coord d) u) k
      known u (inl p) =
          let q = and_parts (by_coord (look s.sessions u) d) (is_decided s.decided u) p in
          or_left (by_coord (look s.sessions u) d && ((t == u) || is_decided s.decided u)) (has_commit_of (s.opened_coord d) u)
          (and_from (by_coord (look s.sessions u) d) ((t == u) || is_decided s.decided u) q.0 (or_right (t == u) (is_decided s.decided u) q.1))

module _ (s : Federation) (f : Facts s) (t m : ℕ) (old : Session) (g : Alone s t m old) where
  foreign : (c : ℕ) → belongs (rest_of s) t c → ⊥
  foreign c b = local_apart s f.numbers t c m old b g.here g.by'

  decides : Decides (rest_of s) s.coord t
  decides =
      record {
        undecided = g.undecided;
        unopened = λ c. false_from_ne_true (has_commit_of (s.opened_coord c) t) (λ h. let z : true ≡ false = sym (f.numbers.commit_used c t h) ∙ f.numbers.new t (found_holds s.sessions t old g.here) in cc);
        was_begun = found_holds s.sessions t old g.here;
        was_asked = inr (ap asked_in g.here ∙ g.asks);
        local_asked = λ n session h b. ap (λ z. z.asked) (in_some (sym h ∙ g.here)) ∙ g.asks;
        was_alive = λ c b. absurd (foreign c b);
        part = λ c k b h. absurd (foreign c b);
        others = λ u c n. refl;
      }

  -- nothing was told elsewhere
  told_elsewhere : (k : ℕ) → m ≢ k → count_at (told (rest_of s) t) k ≡ 0
  told_elsewhere k n = ap (λ z. count_at (told_in z) k) g.here ∙ f.numbers.local t m k old g.here g.by' (λ e. n (sym e))

  here_none : (k : ℕ) → m ≢ k → told_here (rest_of s) k t ≡ []
  here_none k n = by (told_here (rest_of s) k t) refl
    where
      by : (ts : List Told) → told_here (rest_of s) k t ≡ ts → told_here (rest_of s) k t ≡ []
      by [] e = e
      by (x ∷ xs) e = absurd (let l : 0 ≡ suc (length xs) = sym (told_elsewhere k n) ∙ count_told (told (rest_of s) t) k ∙ ap length e in omega (arith, l))

  is_active : ActiveFacts (rest_of s) m (s.member m) t (operations_of (s.member m).engine t)
  is_active = (f.members m).active t (operations_of (s.member m).engine t) (active_found (s.member m).engine t (subst (λ k. 1 ≤ k) (sym g.says.count) g.some'))

  replayed : CastReplays (view Memory (s.member m)).records (operations_of (s.member m).engine t) (told_here (rest_of s) m t)
  replayed = cast_replays (s.member m).engine (operations_of (s.member m).engine t) (told_here (rest_of s) m t) is_active.kept (yes_sees (s.member m).engine t (count_at (told (rest_of s) t) m) g.says)

  -- the middle view, with the vote
  middle_free : VotedAreConflictFree (cast_in (view Memory (s.member m)) t (local_vote s t m))
  middle_free = cast_free (view Memory (s.member m)) t (local_vote s t m) ((f.members m).views Memory).free (λ u other apart h. yes_apart (s.member m).engine t (count_at (told (rest_of s) t) m) u other g.says apart h)

  middle_replay : AllReplay (cast_in (view Memory (s.member m)) t (local_vote s t m)) (told_here (rest_of s) m) (begun (rest_of s))
  middle_replay = cast_replay (view Memory (s.member m)) t (local_vote s t m) (told_here (rest_of s) m) (begun (rest_of s)) ((f.members m).views Memory).replay
      (λ h. record { replays = replayed.replays; reads = replayed.reads; writes = replayed.writes })

  middle_image : IsImage (serial (rest_of s) m) (settled (rest_of s)) (cast_in (view Memory (s.member m)) t (local_vote s t m))
  middle_image = image_cast (serial (rest_of s) m) (settled (rest_of s)) (view Memory (s.member m)) t (local_vote s t m) (still_open (rest_of s) s.coord t decides) ((f.members m).views Memory).image

  middle_here : look (put (s.member m).engine.voted t (local_vote s t m)) t ≡ Some (local_vote s t m)
  middle_here = put_here (s.member m).engine.voted t (local_vote s t m)

  settled_image : IsImage (serial (decided_rest (rest_of s) s.coord t) m) (settled (decided_rest (rest_of s) s.coord t)) (cast_in (view Memory (s.member m)) t (local_vote s t m))
  settled_image =
      image_decide (serial (rest_of s) m) (serial (decided_rest (rest_of s) s.coord t) m) (settled (rest_of s)) (settled (decided_rest (rest_of s) s.coord t))
      (cast_in (view Memory (s.member m)) t (local_vote s t m)) t (told_changes (told_here (rest_of s) m t))
      (serial_grows (rest_of s) s.coord t decides m) (settled_more (rest_of s) s.coord t decides) (Here (decided_now (rest_of s) s.coord t decides)) (settled_others (rest_of s) s.coord t decides)
      (λ vote h. ap (λ z. z.sets.writes) (sym (in_some (sym middle_here ∙ h))) ∙ replayed.writes)
      (λ n. is_nothing (sym n ∙ middle_here))
      middle_free middle_image

  -- the view after it
  view_after : ViewFacts (decided_rest (rest_of s) s.coord t) m (install_in (cast_in (view Memory (s.member m)) t (local_vote s t m)) t (Some (local_vote s t m)))
  view_after =
      record {
        free = install_free (cast_in (view Memory (s.member m)) t (local_vote s t m)) t (local_vote s t m) middle_free;
        replay = install_replay (cast_in (view Memory (s.member m)) t (local_vote s t m)) t (local_vote s t m) (told_here (rest_of s) m) (begun (rest_of s)) middle_free middle_here middle_replay;
        image = image_install (serial (decided_rest (rest_of s) s.coord t) m) (settled (decided_rest (rest_of s) s.coord t)) (cast_in (view Memory (s.member m)) t (local_vote s t m)) t (local_vote s t m)
            middle_here (Here (decided_now (rest_of s) s.coord t decides)) settled_image;
        named = λ u c h. v.named u c (others u c h).1;
        over = λ u h. overs u (install_stands (cast_in (view Memory (s.member m)) t (local_vote s t m)) t (local_vote s t m) u h);
        apart = install_apart (cast_in (view Memory (s.member m)) t (local_vote s t m)) t (local_vote s t m) (cast_apart (view Memory (s.member m)) t (local_vote s t m) new v.apart);
        done = (
          (λ h. more_t),
          each_map (λ e. 1 ≤ count_at e.told m → stands (view Memory (s.member m)) e.txn ≡ true)
              (λ e. 1 ≤ count_at e.told m → stands (install_in (cast_in (view Memory (s.member m)) t (local_vote s t m)) t (Some (local_vote s t m))) e.txn ≡ true) s.decided
              (λ e p h. more e.txn (or_cases _ _ (p h))) v.done,
        );
        known = λ u h b. known u b (holds_cases (s.member m).committed t u h);
        homed = λ u c h b. homed u c b (holds_cases (s.member m).committed t u h);
        works = λ u c h a. let p = others u c h in v.works u c p.1 (sym (same_alive (rest_of s) s.coord t decides u c p.0) ∙ a);
        held = λ u c h a. let p = others u c h in v.held u c p.1 (sym (same_alive (rest_of s) s.coord t decides u c p.0) ∙ a);
      }
    where
      v : ViewFacts (rest_of s) m (view Memory (s.member m))
      v = (f.members m).views Memory

      others : (u c : ℕ) → votes_for (look (without (put (s.member m).engine.voted t (local_vote s t m)) t) u) c ≡ true → (t ≢ u) × (votes_for (look (s.member m).engine.voted u) c ≡ true)
      others u c h =
          let p = votes_without (put (s.member m).engine.voted t (local_vote s t m)) t u c h in
          (p.0, ap (λ o. votes_for o c) (sym (put_there (s.member m).engine.voted t (local_vote s t m) u p.0)) ∙ p.1)

      over_t : over (rest_of s) t ≡ true
      over_t = or_left (asked (rest_of s) t) (holds s.used t) (ap asked_in g.here ∙ g.asks)

      new : holds (s.member m).committed t ≡ false
      new = (neither_stands (view Memory (s.member m)) t is_active.apart).1

      overs : (u : ℕ) → (t ≡ u) ⊎ (stands (cast_in (view Memory (s.member m)) t (local_vote s t m)) u ≡ true) → over (rest_of s) u ≡ true
      overs u (inl e) = ap (over (rest_of s)) (sym e) ∙ over_t
      overs u (inr k) = by (cast_stands (view Memory (s.member m)) t (local_vote s t m) u k)
        where
          by : (t ≡ u) ⊎ (stands (view Memory (s.member m)) u ≡ true) → over (rest_of s) u ≡ true
          by (inl e) = ap (over (rest_of s)) (sym e) ∙ over_t
          by (inr h) = v.over u h

      more_t : stands (install_in (cast_in (view Memory (s.member m)) t (local_vote s t m)) t (Some (local_vote s t m))) t ≡ true
      more_t = or_right (holds (without (put (s.member m).engine.voted t (local_vote s t m)) t) t) (holds (with_number (s.member m).committed t) t) (holds_new (s.member m).committed t)

      more : (u : ℕ) → (holds (s.member m).engine.voted u ≡ true) ⊎ (holds (s.member m).committed u ≡ true) →
          stands (install_in (cast_in (view Memory (s.member m)) t (local_vote s t m)) t (Some (local_vote s t m))) u ≡ true
      more u (inr h) = or_right _ _ (holds_more (s.member m).committed t u h)
      more u (inl h) = by (t == u) refl
        where
          by : (b : Bool) → (t == u) ≡ b → stands (install_in (cast_in (view Memory (s.member m)) t (local_vote s t m)) t (Some (local_vote s t m))) u ≡ true
          by true e = subst (λ k. stands (install_in (cast_in (view Memory (s.member m)) t (local_vote s t m)) t (Some (local_vote s t m))) k ≡ true) (eqb-true t u e) more_t
          by false e = or_left _ _ (still_holds (put (s.member m).engine.voted t (local_vote s t m)) t u (eqb-false t u e) (holds_put (s.member m).engine.voted t (local_vote s t m) u h))

      known : (u : ℕ) → begun (rest_of s) u ≡ true → (t ≡ u) ⊎ (holds (s.member m).committed u ≡ true) → is_decided (decided_rest (rest_of s) s.coord t).decided u ≡ true
      known u b (inl e) = or_left (t == u) (is_decided s.decided u) (eq-eqb t u e)
      known u b (inr k) = or_right (t == u) (is_decided s.decided u) (v.known u k b)

      homed : (u c : ℕ) → belongs (rest_of s) u c → (t ≡ u) ⊎ (holds (s.member m).committed u ≡ true) → settled_at (decided_rest (rest_of s) s.coord t) c u ≡ true
      homed u c b (inr k) = home_more (rest_of s) s.coord t decides u c (v.homed u c k b)
      homed u c b (inl e) = absurd (foreign c (subst (λ k. belongs (rest_of s) k c) (sym e) b))

  same_views : view Stable (member_after s t m (Some (local_vote s t m))) ≡ view Memory (member_after s t m (Some (local_vote s t m)))
  same_views =
      ap (λ v. install_in (cast_in v t (local_vote s t m)) t (look (cast_in v t (local_vote s t m)).voted t)) (f.members m).logged
      ∙ ap (install_in (cast_in (view Memory (s.member m)) t (local_vote s t m)) t) middle_here

  member_facts : MemberFacts (decided_rest (rest_of s) s.coord t) m (member_after s t m (Some (local_vote s t m)))
  member_facts =
      record {
        views = both_sides (ViewFacts (decided_rest (rest_of s) s.coord t) m) (member_after s t m (Some (local_vote s t m))) same_views view_after;
        active = λ u os h. active u os (without_cases (s.member m).engine.active t u os h);
        marked = λ u mark h. let p = without_cases (s.member m).asked t u mark h in let q = (f.members m).marked u mark p.1 in (still_holds (s.member m).engine.active t u p.0 q.0, q.1);
        logged = same_views;
        waiting = tt;
      }
    where
      active : (u : ℕ) (os : List Operation) → (t ≢ u) × (look (s.member m).engine.active u ≡ Some os) → ActiveFacts (decided_rest (rest_of s) s.coord t) m (member_after s t m (Some (local_vote s t m))) u os
      active u os p =
          let a = (f.members m).active u os p.1 in
          record {
            kept = kept_install (s.member m).engine (record { txn = t; writes = (local_vote s t m).sets.writes }) os (told_here (rest_of s) m u) (member_after s t m (Some (local_vote s t m))).engine refl refl a.stamps a.kept;
            stamps = stamps_more (length (s.member m).engine.installed) (suc (length (s.member m).engine.installed)) os (omega arith) a.stamps;
            begun = a.begun;
            apart = install_leaves (cast_in (view Memory (s.member m)) t (local_vote s t m)) t (local_vote s t m) (ap is_some middle_here) u (cast_leaves (view Memory (s.member m)) t (local_vote s t m) u p.0 a.apart);
          }

  stands_on : StandsOn (rest_of s) (s.member m) (member_after s t m (Some (local_vote s t m)))
  stands_on = forced (rest_of s) m (s.member m) (f.members m) (member_after s t m (Some (local_vote s t m))) same_views
      (λ u l h. more u (or_cases _ _ h)) (λ u h. holds_more (s.member m).committed t u h)
    where
      more : (u : ℕ) → (holds (s.member m).engine.voted u ≡ true) ⊎ (holds (s.member m).committed u ≡ true) → stands (view Memory (member_after s t m (Some (local_vote s t m)))) u ≡ true
      more u (inr h) = or_right _ _ (holds_more (s.member m).committed t u h)
      more u (inl h) = by (t == u) refl
        where
          by : (b : Bool) → (t == u) ≡ b → stands (view Memory (member_after s t m (Some (local_vote s t m)))) u ≡ true
          by true e = subst (λ k. stands (view Memory (member_after s t m (Some (local_vote s t m)))) k ≡ true) (eqb-true t u e) (or_right _ _ (holds_new (s.member m).committed t))
          by false e = or_left _ _ (still_holds (put (s.member m).engine.voted t (local_vote s t m)) t u (eqb-false t u e) (holds_put (s.member m).engine.voted t (local_vote s t m) u h))

  reads_whole : replies_of (told (rest_of s) t) ≡ run_whole (serial (rest_of s)) (sites_of (told (rest_of s) t))
  reads_whole = told_serially (serial (rest_of s)) (told (rest_of s) t) (λ k. by k (m == k) refl)
    where
      by : (k : ℕ) (b : Bool) → (m == k) ≡ b → Replays (serial (rest_of s) k) (told_here (rest_of s) k t)
      by k false e = subst (Replays (serial (rest_of s) k)) (sym (here_none k (eqb-false m k e))) tt
      by k true e =
          subst (λ n. Replays (serial (rest_of s) n) (told_here (rest_of s) n t)) (eqb-true m k e)
          (replays_serially (serial (rest_of s) m) (settled (rest_of s)) (cast_in (view Memory (s.member m)) t (local_vote s t m)) t (local_vote s t m) (told_here (rest_of s) m t)
          (still_open (rest_of s) s.coord t decides) middle_here replayed.reads middle_free middle_image replayed.replays)

  all_on : (k : ℕ) → StandsOn (rest_of s) (s.member k) (with_at s.member m (member_after s t m (Some (local_vote s t m))) k)
  all_on = at_each (λ k z. StandsOn (rest_of s) (s.member k) z) s.member m (member_after s t m (Some (local_vote s t m))) stands_on (λ k. stands_same (rest_of s) (s.member k))

  local_facts : Facts (with_decision (with_member s m (member_after s t m (Some (local_vote s t m)))) t)
  local_facts =
      let after' = with_at s.member m (member_after s t m (Some (local_vote s t m))) in
      let records : RecordFacts (rest_of s) after' = records_on (rest_of s) f.numbers s.member after' all_on (unended_settled s f) (λ c u ms h. Before c (unended_seen (s.opened_coord c) u ms h)) f.records in
      record {
        numbers = numbers_decide (rest_of s) s.coord t decides f.numbers;
        members = λ k. each k (m == k) refl;
        coords = coord_still s f.coords t (λ d h. foreign d (Begun h));
        sent = sent_decide (rest_of s) s.coord t decides after' (sent_on (rest_of s) f.numbers s.member after' all_on f.sent);
        records =
            record {
              unended = records.unended;
              taking = λ u c k ms h q. took_more (record { txn = t; told = told (rest_of s) t }) s.decided s.opened_coord u k (records.taking u c k ms h q);
              opened_stand = records.opened_stand;
            };
        serially = (reads_whole, f.serially);
      }
    where
      each : (k : ℕ) (b : Bool) → (m == k) ≡ b → MemberFacts (decided_rest (rest_of s) s.coord t) k (if m == k then member_after s t m (Some (local_vote s t m)) else s.member k)
      each k true e =
          subst (λ b. MemberFacts (decided_rest (rest_of s) s.coord t) k (if b then member_after s t m (Some (local_vote s t m)) else s.member k)) (sym e)
          (subst (λ n. MemberFacts (decided_rest (rest_of s) s.coord t) n (member_after s t m (Some (local_vote s t m)))) (eqb-true m k e) member_facts)
      each k false e =
          subst (λ b. MemberFacts (decided_rest (rest_of s) s.coord t) k (if b then member_after s t m (Some (local_vote s t m)) else s.member k)) (sym e)
          (member_decide (rest_of s) s.coord t decides k (s.member k) (f.members k)
          (λ side h. absurd (let l : 1 ≤ 0 = subst (λ n. 1 ≤ n) (told_elsewhere k (eqb-false m k e)) h in omega (arith, l))))

  local_effect : Facts (with_decision (with_member s m (local_state (s.member m) t (count_at (told (rest_of s) t) m))) t)
  local_effect = subst (λ o. Facts (with_decision (with_member s m (member_after s t m o)) t)) (sym middle_here) local_facts

-- a local one that was not asked is not decided
unasked_undecided : (s : Federation) → Facts s → (t m : ℕ) (old : Session) → look s.sessions t ≡ Some old → old.by ≡ node.Member m → old.asked ≡ false → is_decided s.decided t ≡ false
unasked_undecided s f t m old e b a = false_from_ne_true (is_decided s.decided t) (λ h. let z : true ≡ false = sym (f.numbers.local_asked t m old e b h) ∙ a in cc)

-- what a local commit rests on: a client that asks for the first time, operations, and a yes
abbrev pub MayCommitLocally : Federation → ℕ → ℕ → Type 0
MayCommitLocally s t m =
    session_by_member (look s.sessions t) m × (is_asked s t ≡ false) × (1 ≤ count_at (told_of s t) m) × SaysYes (s.member m).engine t (count_at (told_of s t) m)

pub may_commit_locally : (s : Federation) (t m : ℕ) → Guard s (CommitLocally t m) → MayCommitLocally s t m
may_commit_locally s t m g = (g.0, g.1, g.2, yes_parts (s.member m).engine t (count_at (told_of s t) m) g.3)

pub keeps_local : (s : Federation) → Facts s → (t m : ℕ) → MayCommitLocally s t m → Facts (effect s (CommitLocally t m))
keeps_local s f t m g = by (look s.sessions t) refl g.0
  where
    by : (o : Option Session) → look s.sessions t ≡ o → session_by_member o m → Facts (effect s (CommitLocally t m))
    by None e h = absurd h
    by (Some old) e h =
        let asks : Facts (with_session s t (asked_to_end old)) = subst (λ o. Facts (marked_over s t o)) e (keeps_ask s f t (found_holds s.sessions t old e)) in
        let found : look (put s.sessions t (asked_to_end old)) t ≡ Some (asked_to_end old) = put_here s.sessions t (asked_to_end old) in
        let same : told (rest_of (with_session s t (asked_to_end old))) t ≡ told (rest_of s) t = ap told_in found ∙ sym (ap told_in e) in
        subst (λ o. Facts (with_decision (with_member (marked_over s t o) m (local_state (s.member m) t (count_at (told_of s t) m))) t)) (sym e)
        (subst (λ n. Facts (with_decision (with_member (with_session s t (asked_to_end old)) m (local_state (s.member m) t n)) t)) (ap (λ ts. count_at ts m) same)
        (local_effect (with_session s t (asked_to_end old)) asks t m (asked_to_end old)
        (record {
          here = found;
          by' = h;
          asks = refl;
          undecided = unasked_undecided s f t m old e h (sym (ap asked_in e) ∙ g.1);
          some' = subst (λ ts. 1 ≤ count_at ts m) (sym same) g.2;
          says = subst (λ n. SaysYes (s.member m).engine t n) (ap (λ ts. count_at ts m) (sym same)) g.3;
        })))
