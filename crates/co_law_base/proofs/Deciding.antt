-- One more decision, over all facts but those of the node that decides.
use Rattle.std.proofs.Common.{◌≡◌, ◌≢◌, ◌⊎◌, inl, inr, ℕ, Bool, true, false, ◌||◌, ◌≤◌, ◌==◌, List, [], ◌∷◌, ◌++◌, map, reverse, length, Option, None, Some, refl, sym, ap, ◌∙◌, subst, arith}
use Rattle.std.specs.Option.{is_some}
use Rattle.std.proofs.lemmas.List.{reverse-append}
use Rattle.std.proofs.lemmas.Bool.{or_cases, or_left, or_right, eqb-true, eqb-false, eq-eqb, ne_eqb, false_from_ne_true}
use Rattle.std.specs.FinMap.{get}
use Rattle.co_base.specs.declared.node.Node.TheVariants as node
use Rattle.co_record.specs.declared.record.Record.{Record}
use Rattle.co_record.specs.declared.record.Record.TheVariants as log
use Rattle.co_serial.specs.declared.site.Site.{Site}
use Rattle.co_serial.specs.Records.{with_changes}
use Rattle.co_serial.specs.SerialRun.{AllRecords, after, after_whole, run_whole}
use Rattle.co_state.specs.declared.engine_state.Vote.{Vote}
use Rattle.co_state.specs.Table.{look, holds}
use Rattle.co_plain.specs.declared.coord_state.CoordState.{CoordState}
use Rattle.co_plain.specs.declared.member_state.MemberState.{MemberState}
use Rattle.co_plain.specs.declared.member_view.MemberView.{MemberView}
use Rattle.co_plain.specs.declared.session.Decided.{Decided}
use Rattle.co_plain.specs.declared.session.Session.{Session}
use Rattle.co_plain.specs.declared.session.Told.{Told}
use Rattle.co_plain.specs.CoordView.{has_commit_of}
use Rattle.co_plain.specs.Sessions.{count_at}
use Rattle.co_plain.specs.Decisions.{sites_of, replies_of, is_decided}
use Rattle.co_plain.specs.Invariants.{Side, Memory, Stable, view, stands, takes_part_in, told_changes, Replays}
use Rattle.co_law_base.proofs.ToldRuns.{leaves_changes, told_serially}
use Rattle.co_law_base.proofs.ImageRules.{IsImage, image_decide, replays_serially}
use Rattle.co_law_base.proofs.Facts.{Rest, told, told_here, begun, asked, entry_of, settled_at, settled, Here, Before, alive, belongs, serial_start, serial_of, serial, ViewFacts, OnlyAborts, MemberFacts, SentFacts, NumberFacts}
use Rattle.co_law_base.proofs.KeptTold.{count_told}
use Rattle.co_law_base.proofs.Taking.{took_more}

-- all but the members, after the decision of t
abbrev pub decided_rest : Rest → (ℕ → CoordState) → ℕ → Rest
decided_rest r coord t =
    record {
      coord = coord;
      sessions = r.sessions;
      sent = r.sent;
      decided = record { txn = t; told = told r t } ∷ r.decided;
      opened_member = r.opened_member;
      opened_coord = r.opened_coord;
      used = r.used;
    }

-- one more transaction in the serial run
pub serial_more : (start : AllRecords) (d : Decided) (ds : List Decided) → serial_of start (d ∷ ds) ≡ after_whole (serial_of start ds) (sites_of d.told)
serial_more start d ds =
    ap (after start) (reverse-append (sites_of d.told ∷ []) (map (λ e. sites_of e.told) ds))
    ∙ after_more start (reverse (map (λ e. sites_of e.told) ds)) (sites_of d.told ∷ [])
  where
    after_more : (all : AllRecords) (xs ys : List (List Site)) → after all (xs ++ ys) ≡ after (after all xs) ys
    after_more all [] ys = refl
    after_more all (x ∷ xs) ys = after_more (after_whole all x) xs ys

-- What must hold where t is decided.
pub record Decides (r : Rest) (coord : ℕ → CoordState) (t : ℕ) : Type 0 where
  pub undecided : is_decided r.decided t ≡ false
  pub unopened : (c : ℕ) → has_commit_of (r.opened_coord c) t ≡ false
  pub was_begun : begun r t ≡ true
  pub was_asked : (told r t ≡ []) ⊎ (asked r t ≡ true)
  pub local_asked : (m : ℕ) (session : Session) → look r.sessions t ≡ Some session → session.by ≡ node.Member m → session.asked ≡ true
  -- its coordinator has it in its table
  pub was_alive : (c : ℕ) → belongs r t c → alive r c t ≡ true
  pub part : (c m : ℕ) → belongs r t c → takes_part_in (entry_of r c t) m ≡ true → takes_part_in (look (coord c).table t) m ≡ true
  pub others : (u c : ℕ) → t ≢ u → look (coord c).table u ≡ entry_of r c u

module _ (r : Rest) (coord : ℕ → CoordState) (t : ℕ) (g : Decides r coord t) where
  pub still_open : ¬ (settled r t)
  still_open (Here h) = let z : true ≡ false = sym h ∙ g.undecided in cc
  still_open (Before c h) = let z : true ≡ false = sym h ∙ g.unopened c in cc

  pub decided_more : (u : ℕ) → is_decided r.decided u ≡ true → is_decided (decided_rest r coord t).decided u ≡ true
  decided_more u h = or_right (t == u) (is_decided r.decided u) h

  pub decided_now : is_decided (decided_rest r coord t).decided t ≡ true
  decided_now = or_left (t == t) (is_decided r.decided t) (eq-eqb t t refl)

  pub settled_more : (u : ℕ) → settled r u → settled (decided_rest r coord t) u
  settled_more u (Here h) = Here (decided_more u h)
  settled_more u (Before c h) = Before c h

  pub settled_others : (u : ℕ) → t ≢ u → settled (decided_rest r coord t) u → settled r u
  settled_others u n (Before c h) = Before c h
  settled_others u n (Here h) = Here (sym (ap (λ b. b || is_decided r.decided u) (ne_eqb t u n)) ∙ h)

  pub home_more : (u c : ℕ) → settled_at r c u ≡ true → settled_at (decided_rest r coord t) c u ≡ true
  home_more u c h = by (or_cases (is_decided r.decided u) (has_commit_of (r.opened_coord c) u) h)
    where
      by : (is_decided r.decided u ≡ true) ⊎ (has_commit_of (r.opened_coord c) u ≡ true) → settled_at (decided_rest r coord t) c u ≡ true
      by (inl k) = or_left ((t == u) || is_decided r.decided u) (has_commit_of (r.opened_coord c) u) (decided_more u k)
      by (inr k) = or_right ((t == u) || is_decided r.decided u) (has_commit_of (r.opened_coord c) u) k

  pub same_alive : (u c : ℕ) → t ≢ u → alive (decided_rest r coord t) c u ≡ alive r c u
  same_alive u c n =
      ap (λ o. is_some o || (((t == u) || is_decided r.decided u) || has_commit_of (r.opened_coord c) u)) (g.others u c n)
      ∙ ap (λ b. is_some (entry_of r c u) || ((b || is_decided r.decided u) || has_commit_of (r.opened_coord c) u)) (ne_eqb t u n)

  pub alive_back : (u c : ℕ) → belongs r u c → alive (decided_rest r coord t) c u ≡ true → alive r c u ≡ true
  alive_back u c b h = by (t == u) refl
    where
      by : (k : Bool) → (t == u) ≡ k → alive r c u ≡ true
      by true e = subst (λ n. belongs r n c → alive r c n ≡ true) (eqb-true t u e) (g.was_alive c) b
      by false e = sym (same_alive u c (eqb-false t u e)) ∙ h

  pub part_on : (u c m : ℕ) → belongs r u c → takes_part_in (entry_of r c u) m ≡ true → takes_part_in (look (coord c).table u) m ≡ true
  part_on u c m b h = by (t == u) refl
    where
      by : (k : Bool) → (t == u) ≡ k → takes_part_in (look (coord c).table u) m ≡ true
      by true e =
          subst (λ n. belongs r n c → takes_part_in (entry_of r c n) m ≡ true → takes_part_in (look (coord c).table n) m ≡ true) (eqb-true t u e) (g.part c m) b h
      by false e = ap (λ o. takes_part_in o m) (g.others u c (eqb-false t u e)) ∙ h

  pub dead_still : (u c : ℕ) → belongs r u c → alive r c u ≡ false → alive (decided_rest r coord t) c u ≡ false
  dead_still u c b h = false_from_ne_true (alive (decided_rest r coord t) c u) (λ a. let z : true ≡ false = sym (alive_back u c b a) ∙ h in cc)

  pub serial_grows : (m : ℕ) (q : List ℕ) → get (serial (decided_rest r coord t) m) q ≡ get (with_changes (serial r m) (told_changes (told_here r m t))) q
  serial_grows m q =
      ap (λ all. get (all m) q) (serial_more (serial_start r) (record { txn = t; told = told r t }) r.decided)
      ∙ leaves_changes (serial r) (told r t) m q

  nothing_told : (m : ℕ) (v : MemberView) → ViewFacts r m v → (1 ≤ count_at (told r t) m → stands v t ≡ true) → look v.voted t ≡ None → told_here r m t ≡ []
  nothing_told m v f s n = by (told_here r m t) refl
    where
      by : (ts : List Told) → told_here r m t ≡ ts → told_here r m t ≡ []
      by [] e = e
      by (x ∷ xs) e =
          let l : 1 ≤ count_at (told r t) m = subst (λ k. 1 ≤ k) (sym (count_told (told r t) m ∙ ap length e)) (omega arith) in
          absurd (stood (or_cases (holds v.voted t) (holds v.committed t) (s l)))
        where
          stood : (holds v.voted t ≡ true) ⊎ (holds v.committed t ≡ true) → ⊥
          stood (inl h) = let z : true ≡ false = sym h ∙ ap is_some n in cc
          stood (inr h) = let z : true ≡ false = sym (f.known t h g.was_begun) ∙ g.undecided in cc

  -- the image of a view: each vote for t has what the client was told
  pub view_image : (m : ℕ) (v : MemberView) → ViewFacts r m v → (1 ≤ count_at (told r t) m → stands v t ≡ true) → IsImage (serial (decided_rest r coord t) m) (settled (decided_rest r coord t)) v
  view_image m v f s =
      image_decide (serial r m) (serial (decided_rest r coord t) m) (settled r) (settled (decided_rest r coord t)) v t (told_changes (told_here r m t))
      (serial_grows m) settled_more (Here decided_now) settled_others
      (λ vote h. (f.replay t vote g.was_begun h).writes)
      (λ n. ap told_changes (nothing_told m v f s n))
      f.free f.image

  pub view_decide : (m : ℕ) (v : MemberView) → ViewFacts r m v → (1 ≤ count_at (told r t) m → stands v t ≡ true) → ViewFacts (decided_rest r coord t) m v
  view_decide m v f s =
      record {
        free = f.free;
        replay = f.replay;
        image = view_image m v f s;
        named = f.named;
        over = f.over;
        apart = f.apart;
        done = (s, f.done);
        known = λ u h b. decided_more u (f.known u h b);
        homed = λ u c h b. home_more u c (f.homed u c h b);
        held = λ u c h a. part_on u c m (f.named u c h) (f.held u c h (alive_back u c (f.named u c h) a));
        works = λ u c h a. f.works u c h (alive_back u c (f.named u c h) a);
      }

  pub waiting_decide : (rs : List Record) → OnlyAborts r rs → OnlyAborts (decided_rest r coord t) rs
  waiting_decide [] w = tt
  waiting_decide (log.Abort u ∷ rs) w = ((w.0.0, w.0.1, dead_still u w.0.0 w.0.1 w.0.2), waiting_decide rs w.1)
  waiting_decide (log.Header a b ∷ rs) w = absurd w
  waiting_decide (log.Prepare a b c d e ∷ rs) w = absurd w
  waiting_decide (log.Commit a b ∷ rs) w = absurd w
  waiting_decide (log.End a ∷ rs) w = absurd w
  waiting_decide (log.Checkpoint a b c ∷ rs) w = absurd w

  pub member_decide : (m : ℕ) (x : MemberState) → MemberFacts r m x → ((side : Side) → 1 ≤ count_at (told r t) m → stands (view side x) t ≡ true) → MemberFacts (decided_rest r coord t) m x
  member_decide m x f s =
      record {
        views = λ side. view_decide m (view side x) (f.views side) (s side);
        active = λ u os h. let a = f.active u os h in record { kept = a.kept; stamps = a.stamps; begun = a.begun; apart = a.apart };
        marked = f.marked;
        logged = f.logged;
        waiting = waiting_decide x.log.waiting f.waiting;
      }

  held_decide : (u c m : ℕ) (x : MemberState) → belongs r u c → (takes_part_in (entry_of r c u) m || holds (view Memory x).committed u) ≡ true →
      (takes_part_in (look (coord c).table u) m || holds (view Memory x).committed u) ≡ true
  held_decide u c m x b h = by (or_cases (takes_part_in (entry_of r c u) m) (holds (view Memory x).committed u) h)
    where
      by : (takes_part_in (entry_of r c u) m ≡ true) ⊎ (holds (view Memory x).committed u ≡ true) → (takes_part_in (look (coord c).table u) m || holds (view Memory x).committed u) ≡ true
      by (inl k) = or_left (takes_part_in (look (coord c).table u) m) (holds (view Memory x).committed u) (part_on u c m b k)
      by (inr k) = or_right (takes_part_in (look (coord c).table u) m) (holds (view Memory x).committed u) k

  pub sent_decide : (member : ℕ → MemberState) → SentFacts r member → SentFacts (decided_rest r coord t) member
  sent_decide member f =
      record {
        over = f.over;
        prepares_named = f.prepares_named;
        prepares_count = f.prepares_count;
        prepares_held = λ u c m n h a. let b = f.prepares_named u c m n h in held_decide u c m (member m) b (f.prepares_held u c m n h (alive_back u c b a));
        votes_named = f.votes_named;
        yeses_stand = λ u m c side h a. f.yeses_stand u m c side h (alive_back u c (f.votes_named u m c true h) a);
        asks_named = f.asks_named;
        asks_held = λ u m c h a. let b = f.asks_named u m c h in held_decide u c m (member m) b (f.asks_held u m c h (alive_back u c b a));
        asks_take = λ u m c h a. f.asks_take u m c h (alive_back u c (f.asks_named u m c h) a);
        acks_stand = f.acks_stand;
        commits = λ u c m h. let p = f.commits u c m h in (settled_more u p.0, took_more (record { txn = t; told = told r t }) r.decided r.opened_coord u m p.1);
        aborts = λ u c m h. aborts u c m (f.aborts u c m h);
      }
    where
      aborts : (u c m : ℕ) → (belongs r u c × (alive r c u ≡ false)) ⊎ (holds (view Stable (member m)).committed u ≡ true) →
          (belongs r u c × (alive (decided_rest r coord t) c u ≡ false)) ⊎ (holds (view Stable (member m)).committed u ≡ true)
      aborts u c m (inl p) = inl (p.0, dead_still u c p.0 p.1)
      aborts u c m (inr h) = inr h

  pub numbers_decide : NumberFacts r → NumberFacts (decided_rest r coord t)
  numbers_decide n =
      record {
        new = n.new;
        decided_begun = λ u h. begun_of u (or_cases (t == u) (is_decided r.decided u) h);
        once = (g.undecided, n.once);
        local = n.local;
        local_asked = λ u m session h b d. local_asked u m session h b (t == u) refl d;
        kept = (kept g.was_asked, n.kept);
        voted_used = n.voted_used;
        commit_used = n.commit_used;
        one_vote = n.one_vote;
        vote_commit = n.vote_commit;
        one_home = n.one_home;
        one_commit = n.one_commit;
      }
    where
      begun_of : (u : ℕ) → ((t == u) ≡ true) ⊎ (is_decided r.decided u ≡ true) → begun r u ≡ true
      begun_of u (inl e) = ap (begun r) (sym (eqb-true t u e)) ∙ g.was_begun
      begun_of u (inr h) = n.decided_begun u h

      local_asked : (u m : ℕ) (session : Session) → look r.sessions u ≡ Some session → session.by ≡ node.Member m → (b : Bool) → (t == u) ≡ b → is_decided (decided_rest r coord t).decided u ≡ true → session.asked ≡ true
      local_asked u m session h b true e d = g.local_asked m session (ap (look r.sessions) (eqb-true t u e) ∙ h) b
      local_asked u m session h b false e d = n.local_asked u m session h b (sym (ap (λ b. b || is_decided r.decided u) e) ∙ d)

      kept : (told r t ≡ []) ⊎ (asked r t ≡ true) → (told r t ≡ []) ⊎ ((told r t ≡ told r t) × (asked r t ≡ true))
      kept (inl e) = inl e
      kept (inr h) = inr (refl, h)

  -- The decided transaction read what it reads when it runs whole, after those that were decided before it.
  pub reads_serially : (member : ℕ → MemberState) → ((m : ℕ) → ViewFacts r m (view Memory (member m))) → ((m : ℕ) → 1 ≤ count_at (told r t) m → stands (view Memory (member m)) t ≡ true) →
      replies_of (told r t) ≡ run_whole (serial r) (sites_of (told r t))
  reads_serially member f s = told_serially (serial r) (told r t) (λ m. by m (look (view Memory (member m)).voted t) refl)
    where
      by : (m : ℕ) (o : Option Vote) → look (view Memory (member m)).voted t ≡ o → Replays (serial r m) (told_here r m t)
      by m None e = subst (Replays (serial r m)) (sym (nothing_told m (view Memory (member m)) (f m) (s m) e)) tt
      by m (Some vote) e =
          let p = (f m).replay t vote g.was_begun e in
          replays_serially (serial r m) (settled r) (view Memory (member m)) t vote (told_here r m t) still_open e p.reads (f m).free (f m).image p.replays
