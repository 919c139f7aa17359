-- Each move of a coordinator keeps the facts.
use Rattle.std.proofs.Common.{◌≡◌, ◌≢◌, ◌⊎◌, inl, inr, ℕ, Bool, true, false, ◌||◌, ◌&&◌, ◌==◌, List, [], ◌∷◌, ◌++◌, Option, None, Some, refl, sym, ap, ◌∙◌, subst}
use Rattle.std.specs.Option.{is_some}
use Rattle.std.specs.FinMap.{entries, entries_sorted, get-entries}
use Rattle.std.proofs.lemmas.Bool.{or_cases, or_left, or_right, and_parts, eqb-true, eqb-false, false_from_ne_true}
use Rattle.co_base.specs.declared.part.Part.{Part}
use Rattle.co_message.specs.declared.message.Message.TheVariants as message
use Rattle.co_record.specs.declared.record.Record.{Record}
use Rattle.co_record.specs.declared.record.Record.TheVariants as log
use Rattle.co_base.specs.declared.node.Node.TheVariants as node
use Rattle.co_state.specs.Table.{Table, look, put, without, holds}
use Rattle.co_plain.specs.declared.coord_state.CoordState.{CoordState}
use Rattle.co_plain.specs.declared.coord_state.Entry.{Entry}
use Rattle.co_plain.specs.declared.coord_state.Entry.TheVariants as entry
use Rattle.co_plain.specs.declared.session.Session.{Session}
use Rattle.co_base.specs.declared.leaves.Stop.{Stop}
use Rattle.co_plain.specs.Numbers.{first_lacking, has_number, next_generation}
use Rattle.co_plain.specs.LogWrite.{with_filled_spare, with_spare, with_stop, with_waiting, generation_of}
use Rattle.co_plain.specs.CoordView.{recovered_commits, has_commit_of}
use Rattle.co_plain.specs.CoordStep.{with_table, with_coord_log, coord_down, members_of, table_from}
use Rattle.co_plain.specs.CoordLog.{coord_spare}
use Rattle.co_plain.specs.Sessions.{parts_of}
use Rattle.co_plain.specs.Wire.{was_sent}
use Rattle.co_plain.specs.Federation.{Federation, with_coord}
use Rattle.co_plain.specs.Decisions.{is_decided, told_of}
use Rattle.co_plain.specs.SoundLogs.{unended_in}
use Rattle.co_plain.specs.Invariants.{Side, view, takes_part_in}
use Rattle.co_plain.specs.Moves.{RecordYes, RecordAck, Collect, Leave, End, CrashCoord, RestartCoord, ArmCoord, CloseCoordSpare, FillCoordSpare, effect, Guard, entry_at, record_yes, record_ack}
use Rattle.co_law_base.proofs.Lookups.{is_nothing, look_none, put_here, put_there, without_here, without_there, without_cases, holds_found, found_holds}
use Rattle.co_law_base.proofs.ImageRules.{EachEntry, each_entry}
use Rattle.co_law_base.proofs.Facts.{Rest, rest_of, told, asked, settled_at, by_coord, OpenEntry, CollectingEntry, CommittedEntry, CoordHas, NumberFacts, Facts}
use Rattle.co_law_base.proofs.Commits.{lacks_none, lacks_at_first, unended_seen, unended_some, from_cases, from_found, spare_cases, seen_cases, spare_found}
use Rattle.co_law_base.proofs.Tabled.{EntryFits, coord_put, coord_without}
use Rattle.co_law_base.proofs.CoordFrame.{coord_change}

-- one entry that takes the place of another
pub part_put : (table : Table Entry) (t : ℕ) (e : Entry) (m : ℕ) → (takes_part_in (look table t) m ≡ true → takes_part_in (Some e) m ≡ true) →
    (u : ℕ) → takes_part_in (look table u) m ≡ true → takes_part_in (look (put table t e) u) m ≡ true
part_put table t e m h u p = by (t == u) refl
  where
    by : (b : Bool) → (t == u) ≡ b → takes_part_in (look (put table t e) u) m ≡ true
    by true k =
        let same : t ≡ u = eqb-true t u k in
        ap (λ o. takes_part_in o m) (ap (look (put table t e)) (sym same) ∙ put_here table t e) ∙ h (ap (λ o. takes_part_in (look table o) m) same ∙ p)
    by false k = ap (λ o. takes_part_in o m) (put_there table t e u (eqb-false t u k)) ∙ p

pub holds_put : (table : Table Entry) (t : ℕ) (e : Entry) (u : ℕ) → holds table t ≡ true → holds (put table t e) u ≡ true → holds table u ≡ true
holds_put table t e u h p = by (t == u) refl
  where
    by : (b : Bool) → (t == u) ≡ b → holds table u ≡ true
    by true k = ap (holds table) (sym (eqb-true t u k)) ∙ h
    by false k = ap is_some (sym (put_there table t e u (eqb-false t u k))) ∙ p

-- an entry takes the place of another one of the same participants
replaced : (s : Federation) → Facts s → (t c : ℕ) (e x : Entry) → entry_at s t c ≡ Some e → ((m : ℕ) → takes_part_in (Some e) m ≡ true → takes_part_in (Some x) m ≡ true) →
    EntryFits (rest_of s) c (s.coord c).log.stable (s.coord c).log.waiting t x → Facts (with_coord s c (with_table (s.coord c) (put (s.coord c).table t x)))
replaced s f t c e x is same fits =
    coord_change s c (with_table (s.coord c) (put (s.coord c).table t x))
    (record {
      has = coord_put (rest_of s) c (s.coord c).log.stable (s.coord c).log.waiting (s.coord c).table t x (f.coords c) fits;
      alive_back = λ u h. or_left _ _ (holds_put (s.coord c).table t x u (found_holds (s.coord c).table t e is) h);
      part = λ u m b a h. inl (part_put (s.coord c).table t x m (λ p. same m (ap (λ o. takes_part_in o m) (sym is) ∙ p)) u h);
      unended_back = λ u ms h. h;
    }) f

-- a yes is recorded
pub one_yes : (P : ℕ → Type 0) (yeses : List ℕ) (m k : ℕ) → P m → (has_number yeses k ≡ true → P k) → has_number (m ∷ yeses) k ≡ true → P k
one_yes P yeses m k p h n = by (or_cases (m == k) (has_number yeses k) n)
  where
    by : ((m == k) ≡ true) ⊎ (has_number yeses k ≡ true) → P k
    by (inl e) = subst P (eqb-true m k e) p
    by (inr e) = h e

pub yes_fits : (r : Rest) (c : ℕ) (stable : List Record) (t m : ℕ) (parts : List Part) (yeses : List ℕ) → CollectingEntry r c stable t parts yeses → was_sent r.sent (message.Vote t m c true) ≡ true →
    first_lacking (members_of parts) (m ∷ yeses) ≢ None → CollectingEntry r c stable t parts (m ∷ yeses)
yes_fits r c stable t m parts yeses old v l =
    record {
      still = old.still;
      asked = old.asked;
      parts_told = old.parts_told;
      lacks = l;
      yeses_sent = λ k. one_yes (λ k. was_sent r.sent (message.Vote t k c true) ≡ true) yeses m k v (old.yeses_sent k);
    }

pub keeps_record_yes : (s : Federation) → Facts s → (t c m : ℕ) → Guard s (RecordYes t c m) → Facts (effect s (RecordYes t c m))
keeps_record_yes s f t c m g =
    let parts = g.0 in
    let yeses = g.1 in
    let old = (f.coords c).collecting t parts yeses g.2 in
    subst (λ o. Facts (record_yes s t c m o)) (sym g.2)
    (replaced s f t c (entry.Collecting parts yeses) (entry.Collecting parts (m ∷ yeses)) g.2 (λ k h. h)
    (yes_fits (rest_of s) c (s.coord c).log.stable t m parts yeses old g.4 g.5))

-- an acknowledgement is recorded
pub ack_fits : (r : Rest) (c : ℕ) (stable waiting : List Record) (t m : ℕ) (members acks : List ℕ) → CommittedEntry r c stable waiting t members acks → was_sent r.sent (message.Ack t m c) ≡ true →
    first_lacking members (m ∷ acks) ≢ None → CommittedEntry r c stable waiting t members (m ∷ acks)
ack_fits r c stable waiting t m members acks old v l =
    record {
      recorded = old.recorded;
      logged = old.logged;
      lacks = l;
      acks_sent = λ k. one_yes (λ k. was_sent r.sent (message.Ack t k c) ≡ true) acks m k v (old.acks_sent k);
    }

pub keeps_record_ack : (s : Federation) → Facts s → (t c m : ℕ) → Guard s (RecordAck t c m) → Facts (effect s (RecordAck t c m))
keeps_record_ack s f t c m g =
    let members = g.0 in
    let acks = g.1 in
    let old = (f.coords c).committed t members acks g.2 in
    subst (λ o. Facts (record_ack s t c m o)) (sym g.2)
    (replaced s f t c (entry.Committed members acks) (entry.Committed members (m ∷ acks)) g.2 (λ k h. h)
    (ack_fits (rest_of s) c (s.coord c).log.stable (s.coord c).log.waiting t m members acks old g.4 g.5))

no_members : (parts : List Part) → members_of parts ≡ [] → parts ≡ []
no_members [] e = refl
no_members (p ∷ ps) e = absurd (let f : p.member ∷ members_of ps ≡ [] = e in cc)

-- votes are collected
pub collect_fits : (r : Rest) (c : ℕ) (stable : List Record) (t : ℕ) → OpenEntry r c stable t → asked r t ≡ true → parts_of (told r t) ≢ [] → CollectingEntry r c stable t (parts_of (told r t)) []
collect_fits r c stable t still a n =
    record {
      still = still;
      asked = a;
      parts_told = refl;
      lacks = lacks_at_first (members_of (parts_of (told r t))) (λ e. n (no_members (parts_of (told r t)) e));
      yeses_sent = λ k h. absurd (let z : false ≡ true = h in cc);
    }

pub keeps_collect : (s : Federation) → Facts s → (t c : ℕ) → Guard s (Collect t c) → Facts (effect s (Collect t c))
keeps_collect s f t c g =
    replaced s f t c entry.Idle (entry.Collecting (parts_of (told_of s t)) []) g.0 (λ k h. absurd (let z : false ≡ true = h in cc))
    (collect_fits (rest_of s) c (s.coord c).log.stable t ((f.coords c).idle t g.0) g.2 g.3)

-- a transaction that is not decided leaves the table
still_open : (s : Federation) → Facts s → (t c : ℕ) → Guard s (Leave t c) → OpenEntry (rest_of s) c (s.coord c).log.stable t
still_open s f t c (inl e) = (f.coords c).idle t e
still_open s f t c (inr p) = ((f.coords c).collecting t p.0 p.1 p.2).still

by_begun : (r : Rest) (t c : ℕ) → by_coord (look r.sessions t) c ≡ true → holds r.sessions t ≡ true
by_begun r t c h = by (look r.sessions t) h
  where
    by : (o : Option Session) → by_coord o c ≡ true → is_some o ≡ true
    by None h = absurd (let f : false ≡ true = h in cc)
    by (Some session) h = refl

-- what is still open is not settled
pub open_unsettled : (r : Rest) → NumberFacts r → (c : ℕ) (stable : List Record) (t : ℕ) → OpenEntry r c stable t → settled_at r c t ≡ true → ⊥
open_unsettled r n c stable t e h = by (or_cases (is_decided r.decided t) (has_commit_of (r.opened_coord c) t) h)
  where
    by : (is_decided r.decided t ≡ true) ⊎ (has_commit_of (r.opened_coord c) t ≡ true) → ⊥
    by (inl d) = let z : true ≡ false = sym d ∙ e.undecided in cc
    by (inr k) = let z : true ≡ false = sym (n.commit_used c t k) ∙ n.new t (by_begun r t c e.begun_there) in cc

pub keeps_leave : (s : Federation) → Facts s → (t c : ℕ) → Guard s (Leave t c) → Facts (effect s (Leave t c))
keeps_leave s f t c g =
    coord_change s c (with_table (s.coord c) (without (s.coord c).table t))
    (record {
      has = coord_without (rest_of s) c (s.coord c).log.stable (s.coord c).log.waiting (s.coord c).table t (f.coords c);
      alive_back = λ u h. let p = holds_found (without (s.coord c).table t) u h in or_left _ _ (found_holds (s.coord c).table u p.0 (without_cases (s.coord c).table t u p.0 p.1).1);
      part = λ u m b a h. inl (by u m a h (t == u) refl);
      unended_back = λ u ms h. h;
    }) f
  where
    by : (u m : ℕ) → (holds (without (s.coord c).table t) u || settled_at (rest_of s) c u) ≡ true → takes_part_in (look (s.coord c).table u) m ≡ true → (b : Bool) → (t == u) ≡ b →
        takes_part_in (look (without (s.coord c).table t) u) m ≡ true
    by u m a h false k = ap (λ o. takes_part_in o m) (without_there (s.coord c).table t u (eqb-false t u k)) ∙ h
    by u m a h true k =
        let same : t ≡ u = eqb-true t u k in
        absurd (open_unsettled (rest_of s) f.numbers c (s.coord c).log.stable t (still_open s f t c g)
        (sym (ap (λ b. b || settled_at (rest_of s) c t) (ap is_some (without_here (s.coord c).table t))) ∙ ap (λ n. holds (without (s.coord c).table t) n || settled_at (rest_of s) c n) same ∙ a))

-- the last acknowledgement came, and the end record waits
pub ended_has : (r : Rest) (c : ℕ) (x : CoordState) (t : ℕ) → CoordHas r c x → CoordHas r c (with_coord_log (with_table x (without x.table t)) (with_waiting x.log (log.End t)))
ended_has r c x t y =
    record {
      idle = λ u h. y.idle u (gone u entry.Idle h).1;
      collecting = λ u parts yeses h. y.collecting u parts yeses (gone u _ h).1;
      committed = λ u members acks h. let old = y.committed u members acks (gone u _ h).1 in
          record {
            recorded = old.recorded;
            logged = without_there (recovered_commits (x.log.waiting ++ x.log.stable)).unended t u (gone u _ h).0 ∙ old.logged;
            lacks = old.lacks;
            acks_sent = old.acks_sent;
          };
      known = y.known;
      unended_over = y.unended_over;
      unended_known = y.unended_known;
      ends = y.ends;
    }
  where
    gone : (u : ℕ) (e : Entry) → look (without x.table t) u ≡ Some e → (t ≢ u) × (look x.table u ≡ Some e)
    gone u e h = without_cases x.table t u e h

pub keeps_end : (s : Federation) → Facts s → (t c : ℕ) → Guard s (End t c) → Facts (effect s (End t c))
keeps_end s f t c g =
    coord_change s c (with_coord_log (with_table (s.coord c) (without (s.coord c).table t)) (with_waiting (s.coord c).log (log.End t)))
    (record {
      has = ended_has (rest_of s) c (s.coord c) t y;
      alive_back = λ u h. let p = holds_found (without (s.coord c).table t) u h in or_left _ _ (found_holds (s.coord c).table u p.0 (without_cases (s.coord c).table t u p.0 p.1).1);
      part = λ u m b a h. by u m h (t == u) refl;
      unended_back = λ u ms h. h;
    }) f
  where
    y : CoordHas (rest_of s) c (s.coord c)
    y = f.coords c

    all_acked : (m : ℕ) → takes_part_in (entry_at s t c) m ≡ true → (side : Side) → holds (view side (s.member m)).committed t ≡ true
    all_acked m h side =
        let members = g.0 in
        let acks = g.1 in
        let mine : has_number members m ≡ true = ap (λ o. takes_part_in o m) (sym g.3) ∙ h in
        f.sent.acks_stand t m c side
        (one_yes (λ k. was_sent s.sent (message.Ack t k c) ≡ true) acks g.2 m g.4 ((y.committed t members acks g.3).acks_sent m)
        (lacks_none members (g.2 ∷ acks) m g.5 mine))

    by : (u m : ℕ) → takes_part_in (look (s.coord c).table u) m ≡ true → (b : Bool) → (t == u) ≡ b →
        (takes_part_in (look (without (s.coord c).table t) u) m ≡ true) ⊎ ((side : Side) → holds (view side (s.member m)).committed u ≡ true)
    by u m h false k = inl (ap (λ o. takes_part_in o m) (without_there (s.coord c).table t u (eqb-false t u k)) ∙ h)
    by u m h true k =
        let same : t ≡ u = eqb-true t u k in
        inr (λ side. subst (λ n. holds (view side (s.member m)).committed n ≡ true) same (all_acked m (ap (λ n. takes_part_in (look (s.coord c).table n) m) same ∙ h) side))

-- A crash: the table is what the stable records tell. Who was idle or collecting is presumed aborted.
known_settled : (r : Rest) (c : ℕ) (t : ℕ) → ((by_coord (look r.sessions t) c && is_decided r.decided t) || has_commit_of (r.opened_coord c) t) ≡ true → settled_at r c t ≡ true
known_settled r c t h = by (or_cases (by_coord (look r.sessions t) c && is_decided r.decided t) (has_commit_of (r.opened_coord c) t) h)
  where
    by : ((by_coord (look r.sessions t) c && is_decided r.decided t) ≡ true) ⊎ (has_commit_of (r.opened_coord c) t ≡ true) → settled_at r c t ≡ true
    by (inl p) = or_left (is_decided r.decided t) (has_commit_of (r.opened_coord c) t) (and_parts (by_coord (look r.sessions t) c) (is_decided r.decided t) p).1
    by (inr p) = or_right (is_decided r.decided t) (has_commit_of (r.opened_coord c) t) p

pub crashed_has : (r : Rest) (c : ℕ) (x : CoordState) → CoordHas r c x → CoordHas r c (coord_down x.log)
crashed_has r c x y =
    record {
      idle = λ t h. let p = from_cases unended t entry.Idle h in absurd (let z : entry.Committed p.0 [] ≡ entry.Idle = p.2 in cc);
      collecting = λ t parts yeses h. let p = from_cases unended t _ h in absurd (let z : entry.Committed p.0 [] ≡ entry.Collecting parts yeses = p.2 in cc);
      committed = λ t members acks h. let p = from_cases unended t _ h in again t members acks p.0 p.1 p.2;
      known = y.known;
      unended_over = y.unended_over;
      unended_known = y.unended_known;
      ends = refl;
    }
  where
    unended : Table (List ℕ)
    unended = (recovered_commits x.log.stable).unended

    members_in : Entry → List ℕ
    members_in entry.Idle = []
    members_in (entry.Collecting parts yeses) = []
    members_in (entry.Committed ms acks) = ms

    acks_in : Entry → List ℕ
    acks_in entry.Idle = []
    acks_in (entry.Collecting parts yeses) = []
    acks_in (entry.Committed ms acks) = acks

    again : (t : ℕ) (members acks ms : List ℕ) → unended_in x.log.stable t ≡ Some ms → entry.Committed ms [] ≡ entry.Committed members acks → CommittedEntry r c x.log.stable [] t members acks
    again t members acks ms u e =
        let same : ms ≡ members = ap members_in e in
        let none : [] ≡ acks = ap acks_in e in
        subst (λ k. CommittedEntry r c x.log.stable [] t members k) none
        (subst (λ k. CommittedEntry r c x.log.stable [] t k []) same
        (record { recorded = u; logged = u; lacks = lacks_at_first ms (unended_some x.log.stable t ms u); acks_sent = λ m h. absurd (let z : false ≡ true = h in cc) }))

pub keeps_coord_crash : (s : Federation) → Facts s → (c : ℕ) → Guard s (CrashCoord c) → Facts (effect s (CrashCoord c))
keeps_coord_crash s f c g =
    coord_change s c (coord_down (s.coord c).log)
    (record {
      has = crashed_has (rest_of s) c (s.coord c) y;
      alive_back = λ t h. let p = holds_found (table_from (entries unended)) t h in let q = from_cases unended t p.0 p.1 in
          or_right _ _ (known_settled (rest_of s) c t (y.known t (unended_seen stable t q.0 q.1)));
      part = λ t m b a h. inl (by t m a h (look (s.coord c).table t) refl);
      unended_back = λ t ms h. h;
    }) f
  where
    y : CoordHas (rest_of s) c (s.coord c)
    y = f.coords c

    stable : List Record
    stable = (s.coord c).log.stable

    unended : Table (List ℕ)
    unended = (recovered_commits (s.coord c).log.stable).unended

    lost : (t : ℕ) → OpenEntry (rest_of s) c stable t → (holds (table_from (entries unended)) t || settled_at (rest_of s) c t) ≡ true → ⊥
    lost t e a = now (or_cases _ _ a)
      where
        now : (holds (table_from (entries unended)) t ≡ true) ⊎ (settled_at (rest_of s) c t ≡ true) → ⊥
        now (inr k) = open_unsettled (rest_of s) f.numbers c stable t e k
        now (inl h) =
            let p = holds_found (table_from (entries unended)) t h in
            let q = from_cases unended t p.0 p.1 in
            let z : true ≡ false = sym (unended_seen stable t q.0 q.1) ∙ e.unrecorded in cc

    by : (t m : ℕ) → (holds (table_from (entries unended)) t || settled_at (rest_of s) c t) ≡ true → takes_part_in (look (s.coord c).table t) m ≡ true → (o : Option Entry) → look (s.coord c).table t ≡ o →
        takes_part_in (look (table_from (entries unended)) t) m ≡ true
    by t m a h None e = absurd (let z : false ≡ true = ap (λ o. takes_part_in o m) (sym e) ∙ h in cc)
    by t m a h (Some entry.Idle) e = absurd (lost t (y.idle t e) a)
    by t m a h (Some (entry.Collecting parts yeses)) e = absurd (lost t (y.collecting t parts yeses e).still a)
    by t m a h (Some (entry.Committed members acks)) e =
        ap (λ o. takes_part_in o m) (from_found unended t members (y.committed t members acks e).recorded) ∙ ap (λ o. takes_part_in o m) (sym e) ∙ h

-- the same table and records
alike : (s : Federation) → Facts s → (c : ℕ) (y : CoordState) → CoordHas (rest_of s) c y → y.table ≡ (s.coord c).table → y.log.stable ≡ (s.coord c).log.stable → Facts (with_coord s c y)
alike s f c y h e l =
    coord_change s c y
    (record {
      has = h;
      alive_back = λ t k. or_left _ _ (ap (λ table. holds table t) (sym e) ∙ k);
      part = λ t m b a k. inl (ap (λ table. takes_part_in (look table t) m) e ∙ k);
      unended_back = λ t ms k. ap (λ rs. unended_in rs t) (sym l) ∙ k;
    }) f

pub keeps_coord_restart : (s : Federation) → Facts s → (c : ℕ) → Guard s (RestartCoord c) → Facts (effect s (RestartCoord c))
keeps_coord_restart s f c g = alike s f c (record { up = true; table = (s.coord c).table; log = (s.coord c).log }) (f.coords c) refl refl

pub keeps_coord_arm : (s : Federation) → Facts s → (c : ℕ) (stop : Option Stop) → Guard s (ArmCoord c stop) → Facts (effect s (ArmCoord c stop))
keeps_coord_arm s f c stop g = alike s f c (with_coord_log (s.coord c) (with_stop (s.coord c).log stop)) (f.coords c) refl refl

pub keeps_coord_close : (s : Federation) → Facts s → (c : ℕ) (closed : Bool) → Guard s (CloseCoordSpare c closed) → Facts (effect s (CloseCoordSpare c closed))
keeps_coord_close s f c closed g = alike s f c (with_coord_log (s.coord c) (with_spare (s.coord c).log closed)) (f.coords c) refl refl

-- a spare is filled with the commits of the table
module _ (r : Rest) (c : ℕ) (x : CoordState) (y : CoordHas r c x) where
  abbrev table : Table Entry
  table = x.table

  abbrev stable : List Record
  stable = x.log.stable

  abbrev base : List Record
  base = log.Header (node.Coord c) (next_generation (generation_of x.log.stable)) ∷ []

  abbrev pub spare : List Record
  spare = coord_spare c x (next_generation (generation_of x.log.stable))

  each : EachEntry (λ t e. look table t ≡ Some e) (entries table)
  each = each_entry (λ t e. look table t ≡ Some e) (entries table) (entries_sorted table) (λ t e h. get-entries table t ∙ h)

  pub filled_back : (t : ℕ) (members : List ℕ) → unended_in (coord_spare c x (next_generation (generation_of x.log.stable))) t ≡ Some members → unended_in x.log.stable t ≡ Some members
  filled_back t members h = by (spare_cases (λ t e. look table t ≡ Some e) (entries table) base t members each h)
    where
      by : (unended_in base t ≡ Some members) ⊎ ((acks : List ℕ) × (look table t ≡ Some (entry.Committed members acks))) → unended_in stable t ≡ Some members
      by (inl k) = is_nothing (sym (look_none t) ∙ k)
      by (inr p) = (y.committed t members p.0 p.1).recorded

  tabled : (t : ℕ) → has_commit_of spare t ≡ true → (ms acks : List ℕ) × (look table t ≡ Some (entry.Committed ms acks))
  tabled t h = by (seen_cases (λ t e. look table t ≡ Some e) (entries table) base t each h)
    where
      by : (has_commit_of base t ≡ true) ⊎ ((ms acks : List ℕ) × (look table t ≡ Some (entry.Committed ms acks))) → (ms acks : List ℕ) × (look table t ≡ Some (entry.Committed ms acks))
      by (inl k) = absurd (let z : false ≡ true = sym (ap is_some (look_none t)) ∙ k in cc)
      by (inr p) = p

  open_still : (t : ℕ) → OpenEntry r c stable t → ((ms acks : List ℕ) → look table t ≡ Some (entry.Committed ms acks) → ⊥) → OpenEntry r c spare t
  open_still t e none =
      record {
        begun_there = e.begun_there;
        undecided = e.undecided;
        unrecorded = false_from_ne_true (has_commit_of spare t) (λ h. let p = tabled t h in none p.0 p.1 p.2);
      }

  pub filled_has : CoordHas r c (with_coord_log x (with_filled_spare x.log (coord_spare c x (next_generation (generation_of x.log.stable)))))
  filled_has =
      record {
        idle = λ t h. open_still t (y.idle t h) (λ ms acks k. let z : Some entry.Idle ≡ Some (entry.Committed ms acks) = sym h ∙ k in cc);
        collecting = λ t parts yeses h. let old = y.collecting t parts yeses h in
            record {
              still = open_still t old.still (λ ms acks k. let z : Some (entry.Collecting parts yeses) ≡ Some (entry.Committed ms acks) = sym h ∙ k in cc);
              asked = old.asked;
              parts_told = old.parts_told;
              lacks = old.lacks;
              yeses_sent = old.yeses_sent;
            };
        committed = λ t members acks h. let old = y.committed t members acks h in
            let is : unended_in spare t ≡ Some members = spare_found (entries table) base t members acks (entries_sorted table) (unended_some stable t members old.recorded) (sym (get-entries table t) ∙ h) in
            record { recorded = is; logged = is; lacks = old.lacks; acks_sent = old.acks_sent };
        known = λ t h. let p = tabled t h in y.known t (unended_seen stable t p.0 (y.committed t p.0 p.1 p.2).recorded);
        unended_over = λ t members h. y.unended_over t members (filled_back t members h);
        unended_known = λ t members h. y.unended_known t members (filled_back t members h);
        ends = refl;
      }

pub keeps_coord_fill : (s : Federation) → Facts s → (c : ℕ) → Guard s (FillCoordSpare c) → Facts (effect s (FillCoordSpare c))
keeps_coord_fill s f c g =
    coord_change s c (with_coord_log (s.coord c) (with_filled_spare (s.coord c).log (coord_spare c (s.coord c) (next_generation (generation_of (s.coord c).log.stable)))))
    (record {
      has = filled_has (rest_of s) c (s.coord c) (f.coords c);
      alive_back = λ t h. or_left _ _ h;
      part = λ t m b a h. inl h;
      unended_back = filled_back (rest_of s) c (s.coord c) (f.coords c);
    }) f
