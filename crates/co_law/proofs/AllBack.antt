-- The facts, from the invariants: so the invariants are inductive as they stand.
use Rattle.std.proofs.Common.{◌≡◌, ◌⊎◌, inl, inr, ℕ, Bool, true, false, ◌||◌, ◌&&◌, ◌≤◌, List, [], ◌∷◌, ◌++◌, Option, None, Some, refl, sym, ap, ◌∙◌, subst}
use Rattle.std.proofs.lemmas.Bool.{or_cases, or_left, or_right, and_from, eq-eqb}
use Rattle.co_base.specs.declared.node.Node.TheVariants as node
use Rattle.co_record.specs.declared.record.Record.{Record}
use Rattle.co_record.specs.declared.record.Record.TheVariants as log
use Rattle.co_serial.specs.SerialRun.{AllRecords, run_whole}
use Rattle.co_state.specs.Table.{Table, look, holds}
use Rattle.co_plain.specs.declared.coord_state.Entry.{Entry}
use Rattle.co_plain.specs.declared.session.Decided.{Decided}
use Rattle.co_plain.specs.declared.session.Session.{Session}
use Rattle.co_plain.specs.CoordView.{recovered_commits, has_commit_of}
use Rattle.co_plain.specs.Decisions.{sites_of, replies_of, is_decided, is_asked, told_of, votes_for, BelongsTo, IsPresumedAborted}
use Rattle.co_plain.specs.Federation.{Federation}
use Rattle.co_plain.specs.MemberView.{recovered_view}
use Rattle.co_plain.specs.Sessions.{count_at}
use Rattle.co_base.specs.Nodes.{same_node}
use Rattle.co_plain.specs.SoundLogs.{unended_in, has_unended, log_has_committed, ByVote, ByCommit}
use Rattle.co_plain.specs.Invariants.{Side, Memory, Stable, view, stands, takes_part_in, ends_only, is_settled_vote, OnlyAbortsWait}
use Rattle.co_plain.specs.CoordInvariants.{BegunAt, IsOpenEntry, OwnEnds, IsHeldFor}
use Rattle.co_plain.specs.AllInvariants.{AllInvariants}
use Rattle.co_law_base.proofs.Carrying.{votes_stand, settled_home, settled_from}
use Rattle.co_law_base.proofs.Commits.{unended_seen}
use Rattle.co_law_base.proofs.Facts.{rest_of, serial_start, serial_of, settled, by_coord, alive, belongs, Begun, Voted, Each, OnlyAborts, ReadSerially, OpenEntry, NumberFacts, ViewFacts, MemberFacts, CoordHas, Facts}
use Rattle.co_law_base.proofs.ImageRules.{IsImage}
use Rattle.co_law_base.proofs.LogMoves.{as_belongs, dead_there}
use Rattle.co_law_base.proofs.Lookups.{holds_found, found_holds}
use Rattle.co_law_base.proofs.TwoViews.{committed_both}
use Rattle.co_law_base.proofs.VoteMoves.{as_settled}
use Rattle.co_law_base.proofs.KeptTold.{told_begun}
use Rattle.co_law_moves.proofs.KeptFrom.{belongs_is}
use Rattle.co_law_moves.proofs.Laid.{laid_image}
use Rattle.co_law_moves.proofs.MoveByMove.{as_takes, as_took}
use Rattle.co_law_moves.proofs.Own.{AtCoord, OwnFacts}
use Rattle.co_law_runs.proofs.Working.{Working}
use Rattle.co_law.proofs.AllFacts.{AllFacts}

-- what is said at each place of a list is said of each of its parts
each_from : {A : Type 0} (P : A → Type 0) (ds : List A) → ((d : A) (later earlier : List A) → ds ≡ later ++ d ∷ earlier → P d) → Each P ds
each_from P [] h = tt
each_from P (x ∷ xs) h = (h x [] xs refl, each_from P xs (λ d later earlier q. h d (x ∷ later) earlier (ap (λ ys. x ∷ ys) q)))

reads_from : (start : AllRecords) (ds : List Decided) →
    ((later earlier : List Decided) (d : Decided) → ds ≡ later ++ d ∷ earlier → replies_of d.told ≡ run_whole (serial_of start earlier) (sites_of d.told)) → ReadSerially start ds
reads_from start [] h = tt
reads_from start (x ∷ xs) h = (h [] xs x refl, reads_from start xs (λ later earlier d q. h (x ∷ later) earlier d (ap (λ ys. x ∷ ys) q)))

begun_by_coord : (o : Option Session) (c : ℕ) → BegunAt o c → by_coord o c ≡ true
begun_by_coord None c h = absurd h
begun_by_coord (Some session) c h = ap (λ k. same_node k (node.Coord c)) h ∙ eq-eqb c c refl

own_ends_only : (table : Table Entry) (stable rs : List Record) → OwnEnds table stable rs → ends_only rs ≡ true
own_ends_only table stable [] w = refl
own_ends_only table stable (log.End t ∷ rs) w = own_ends_only table stable rs w.2
own_ends_only table stable (log.Header a b ∷ rs) w = absurd w
own_ends_only table stable (log.Prepare a b c d e ∷ rs) w = absurd w
own_ends_only table stable (log.Commit a b ∷ rs) w = absurd w
own_ends_only table stable (log.Abort a ∷ rs) w = absurd w
own_ends_only table stable (log.Checkpoint a b c ∷ rs) w = absurd w

module _ (s : Federation) (i : AllInvariants s) where
  numbers : NumberFacts (rest_of s)
  numbers =
      record {
        new = i.asked.begun_is_new;
        decided_begun = i.decided_begun;
        once = i.decided_once;
        local = i.sessions.local_home;
        local_asked = i.sessions.local_asked;
        kept = each_from (λ d. (d.told ≡ []) ⊎ ((told_of s d.txn ≡ d.told) × (is_asked s d.txn ≡ true))) s.decided i.sessions.decided_kept;
        voted_used = i.opened_used;
        commit_used = λ c t. (i.tables c).opened t;
        one_vote = λ t m n c d h k. i.opened_sound.one_coordinator t c d (ByVote m h) (ByVote n k);
        vote_commit = λ t m c d members h k.
            i.opened_sound.one_coordinator t c d (ByVote m h) (ByCommit (found_holds (recovered_commits (s.opened_coord d)).unended t members k));
        one_commit = λ t c d ms ns h k.
            i.opened_sound.one_coordinator t c d (ByCommit (found_holds (recovered_commits (s.opened_coord c)).unended t ms h))
            (ByCommit (found_holds (recovered_commits (s.opened_coord d)).unended t ns k));
        one_home = λ t m c d h k. home t m c d h k (has_unended (s.opened_coord c) t) refl;
      }
    where
      home : (t m c d : ℕ) → votes_for (look (recovered_view (s.opened_member m)).voted t) c ≡ true → has_commit_of (s.opened_coord d) t ≡ true →
          (b : Bool) → has_unended (s.opened_coord c) t ≡ b → has_commit_of (s.opened_coord c) t ≡ true
      home t m c d h k true e =
          let p = holds_found (recovered_commits (s.opened_coord c)).unended t e in
          unended_seen (s.opened_coord c) t p.0 p.1
      home t m c d h k false e = absurd (let z : true ≡ false = sym k ∙ (i.opened_sound.undecided t m c h e).undecided d in cc)

  lives : (t c : ℕ) → BelongsTo s t c → alive (rest_of s) c t ≡ true → ¬ (IsPresumedAborted s t)
  lives t c b a p = let z : true ≡ false = sym a ∙ dead_there s numbers t c (as_belongs s t c b) p in cc

  view_facts : (m : ℕ) (side : Side) → ViewFacts (rest_of s) m (view side (s.member m))
  view_facts m side =
      let v = i.views m side in
      let replays = i.replays m side in
      let serial = i.serial m side in
      record {
        free = i.conflict_free m side;
        replay = λ t vote b e. record { replays = replays.replays t vote b e; reads = replays.reads t vote b e; writes = replays.writes t vote b e };
        image =
            subst (λ records. IsImage records (settled (rest_of s)) (view side (s.member m))) serial.serial
            (laid_image (is_settled_vote s) (settled (rest_of s)) (view side (s.member m)) (i.conflict_free m side)
            (λ t vote e h. settled_from (rest_of s) t vote.coord h)
            (λ t vote e d. settled_home (rest_of s) numbers t vote.coord (as_belongs s t vote.coord (v.named t vote.coord (ap (λ o. votes_for o vote.coord) e ∙ eq-eqb vote.coord vote.coord refl))) d));
        named = λ t c h. as_belongs s t c (v.named t c h);
        over = λ t h. i.asked.standing t m side h;
        apart = v.apart;
        done = each_from (λ d. 1 ≤ count_at d.told m → stands (view side (s.member m)) d.txn ≡ true) s.decided serial.decided_stand;
        known = v.decided;
        homed = λ t c h b. v.settled t c h (belongs_is s t c b);
        held = λ t c h a. v.held t c h (lives t c (v.named t c h) a);
        works = λ t c h a. as_takes s t m (i.held.voted t c m side h (lives t c (v.named t c h) a)).takes;
      }

  waiting_from : (rs : List Record) → OnlyAbortsWait s rs → OnlyAborts (rest_of s) rs
  waiting_from [] w = tt
  waiting_from (log.Abort t ∷ rs) w =
      let b = as_belongs s t w.0.0 w.0.1 in
      ((w.0.0, b, dead_there s numbers t w.0.0 b w.0.2), waiting_from rs w.1)
  waiting_from (log.Header a b ∷ rs) w = absurd w
  waiting_from (log.Prepare a b c d e ∷ rs) w = absurd w
  waiting_from (log.Commit a b ∷ rs) w = absurd w
  waiting_from (log.End a ∷ rs) w = absurd w
  waiting_from (log.Checkpoint a b c ∷ rs) w = absurd w

  member_facts : (m : ℕ) → MemberFacts (rest_of s) m (s.member m)
  member_facts m =
      record {
        views = view_facts m;
        active = λ t os e.
            record { kept = i.active.kept t m os e; stamps = i.active.stamped t m os e; begun = i.active.begun t m os e; apart = i.active.apart t m os e };
        marked = λ t mark e. i.asked.marked t m mark e;
        logged = (i.logged m).tells.same;
        waiting = waiting_from (s.member m).log.waiting (i.logged m).presumed;
      }

  open_entry : (c t : ℕ) → IsOpenEntry s c t → OpenEntry (rest_of s) c (s.coord c).log.stable t
  open_entry c t e = record { begun_there = begun_by_coord (look s.sessions t) c e.begun_there; undecided = e.undecided; unrecorded = e.unrecorded }

  decided_here : (c t : ℕ) → BegunAt (look s.sessions t) c × (is_decided s.decided t ≡ true) → (by_coord (look s.sessions t) c && is_decided s.decided t) ≡ true
  decided_here c t p = and_from _ _ (begun_by_coord (look s.sessions t) c p.0) p.1

  known : (c t : ℕ) → (BegunAt (look s.sessions t) c × (is_decided s.decided t ≡ true)) ⊎ (has_commit_of (s.opened_coord c) t ≡ true) →
      ((by_coord (look s.sessions t) c && is_decided s.decided t) || has_commit_of (s.opened_coord c) t) ≡ true
  known c t (inl p) = or_left _ _ (decided_here c t p)
  known c t (inr h) = or_right (by_coord (look s.sessions t) c && is_decided s.decided t) _ h

  unended : (c t : ℕ) (members : List ℕ) → (BegunAt (look s.sessions t) c × (is_decided s.decided t ≡ true)) ⊎ (unended_in (s.opened_coord c) t ≡ Some members) →
      ((by_coord (look s.sessions t) c && is_decided s.decided t) ≡ true) ⊎ (unended_in (s.opened_coord c) t ≡ Some members)
  unended c t members (inl p) = inl (decided_here c t p)
  unended c t members (inr h) = inr h

  coord_facts : (c : ℕ) → CoordHas (rest_of s) c (s.coord c)
  coord_facts c =
      let y = i.tables c in
      record {
        idle = λ t e. open_entry c t (y.idle t e);
        collecting = λ t parts yeses e.
            let x = y.collecting t parts yeses e in
            record { still = open_entry c t x.still; asked = x.asked; parts_told = x.parts_told; lacks = x.lacks; yeses_sent = x.yeses_sent };
        committed = λ t members acks e.
            let x = y.committed t members acks e in
            record { recorded = x.recorded; logged = x.logged; lacks = x.lacks; acks_sent = x.acks_sent };
        known = λ t h. known c t (y.recorded t h);
        unended_over = y.asked;
        unended_known = λ t members h. unended c t members (y.unended t members h);
        ends = own_ends_only (s.coord c).table (s.coord c).log.stable (s.coord c).log.waiting y.waiting;
      }

  held_memory : (t c m : ℕ) → IsHeldFor s t c m → (takes_part_in (look (s.coord c).table t) m || holds (s.member m).committed t) ≡ true
  held_memory t c m h = by (or_cases _ _ h.held)
    where
      by : (holds (s.coord c).table t ≡ true) ⊎ (log_has_committed (s.member m).log.stable t ≡ true) →
          (takes_part_in (look (s.coord c).table t) m || holds (s.member m).committed t) ≡ true
      by (inl k) =
          let p = holds_found (s.coord c).table t k in
          or_left _ _ (ap (λ o. takes_part_in o m) p.1 ∙ h.participant p.0 p.1)
      by (inr k) = or_right _ _ (ap (λ n. holds n t) (committed_both (rest_of s) m (s.member m) (member_facts m)) ∙ k)

  facts : Facts s
  facts =
      record {
        numbers = numbers;
        members = member_facts;
        coords = coord_facts;
        sent =
            record {
              over = i.asked.named;
              prepares_named = λ t c m n h. as_belongs s t c (i.named.prepares t c m n h);
              prepares_count = i.active.prepared;
              prepares_held = λ t c m n h a. held_memory t c m (i.held.prepared t c m n h (lives t c (i.named.prepares t c m n h) a));
              votes_named = λ t m c granted h. as_belongs s t c (i.named.votes t c m granted h);
              yeses_stand = λ t m c side h a. i.said_durable.votes t m c side h (lives t c (i.named.votes t c m true h) a);
              asks_named = λ t m c h. as_belongs s t c (i.named.questions t m c h);
              asks_held = λ t m c h a. held_memory t c m (i.held.questioned t m c h (lives t c (i.named.questions t m c h) a));
              asks_take = λ t m c h a. as_takes s t m (i.held.questioned t m c h (lives t c (i.named.questions t m c h) a)).takes;
              acks_stand = i.said_durable.acks;
              commits = λ t c m h. let p = i.true_decisions.commits t c m h in (as_settled s t p.0, as_took s t m p.1);
              aborts = λ t c m h. aborts t c m (i.true_decisions.aborts t c m h);
            };
        records =
            record {
              unended = i.commits.unended;
              taking = λ t c m members h k. as_took s t m (i.commits.taking t c m members h k);
              opened_stand = i.commits.opened;
            };
        serially = reads_from (serial_start (rest_of s)) s.decided i.reads;
      }
    where
      aborts : (t c m : ℕ) → (BelongsTo s t c × IsPresumedAborted s t) ⊎ (log_has_committed (s.member m).log.stable t ≡ true) →
          (belongs (rest_of s) t c × (alive (rest_of s) c t ≡ false)) ⊎ (holds (view Stable (s.member m)).committed t ≡ true)
      aborts t c m (inl p) = let b = as_belongs s t c p.0 in inl (b, dead_there s numbers t c b p.1)
      aborts t c m (inr h) = inr h

  -- who was begun in this run and belongs to a coordinator was begun there
  begun_here : (t c : ℕ) → belongs (rest_of s) t c → holds s.sessions t ≡ true → by_coord (look s.sessions t) c ≡ true
  begun_here t c (Begun h) b = h
  begun_here t c (Voted m h) b =
      absurd (let z : true ≡ false = sym (i.opened_used m t (votes_stand (recovered_view (s.opened_member m)) t c h)) ∙ i.asked.begun_is_new t b in cc)

  away : (m : ℕ) (side : Side) (t : ℕ) → holds (view side (s.member m)).voted t ≡ true → holds s.sessions t ≡ true → AtCoord s.sessions t
  away m side t h b =
      let p = holds_found (view side (s.member m)).voted t h in
      let mine = ap (λ o. votes_for o p.0.coord) p.1 ∙ eq-eqb p.0.coord p.0.coord refl in
      (p.0.coord, begun_here t p.0.coord (as_belongs s t p.0.coord ((i.views m side).named t p.0.coord mine)) b)

  own : OwnFacts s
  own =
      record {
        numbers =
            record {
              new = i.asked.begun_is_new;
              decided_begun = i.decided_begun;
              once = i.decided_once;
              local_asked = i.sessions.local_asked;
              commit_used = λ c t. (i.tables c).opened t;
            };
        members = λ m.
            record {
              views = λ side.
                  record {
                    free = i.conflict_free m side;
                    over = λ t h. i.asked.standing t m side h;
                    apart = (i.views m side).apart;
                    away = away m side;
                  };
              active = λ t os e.
                  record { kept = i.active.kept t m os e; stamps = i.active.stamped t m os e; begun = i.active.begun t m os e; apart = i.active.apart t m os e };
              marked = λ t mark e. i.asked.marked t m mark e;
              logged = (i.logged m).tells.same;
              waiting = (i.logged m).tells.waiting;
            };
        coords = coord_facts;
        ends = λ c. (i.tables c).waiting;
        sent =
            record {
              over = i.asked.named;
              prepares = λ t c m n h.
                  let q = i.active.prepared t c m n h in
                  let begun = told_begun (look s.sessions t) m (subst (λ k. 1 ≤ k) q.0 q.1) in
                  (begun_here t c (as_belongs s t c (i.named.prepares t c m n h)) begun, q.0, q.1);
            };
      }

  pub all_back : AllFacts s
  all_back = record { facts = facts; own = own; records = i.commits.recorded; working = working; opened = i.opened_sound }
    where
      working : Working s
      working =
          record {
            active = i.standers_told.active;
            works = each_from (λ d. (m : ℕ) → stands (view Memory (s.member m)) d.txn ≡ true → 1 ≤ count_at d.told m) s.decided i.standers_told.decided;
          }
