-- What carries the facts: a change of one member, and a change of all but the members.
use Rattle.std.proofs.Common.{◌≡◌, ◌⊎◌, inl, inr, ℕ, Bool, true, false, ◌||◌, ◌&&◌, ◌≤◌, ◌==◌, if◌then◌else◌, List, [], ◌∷◌, Option, None, Some, refl, sym, ap, ◌∙◌, subst}
use Rattle.std.specs.Option.{is_some}
use Rattle.std.proofs.lemmas.Bool.{or_cases, or_left, or_right, eqb-true, eq-eqb, and_parts, and_from, false_from_ne_true}
use Rattle.co_base.specs.declared.node.Node.{Node}
use Rattle.co_base.specs.declared.node.Node.TheVariants as node
use Rattle.co_message.specs.declared.message.Message.{Message}
use Rattle.co_record.specs.declared.record.Record.{Record}
use Rattle.co_record.specs.declared.record.Record.TheVariants as log
use Rattle.co_serial.specs.SerialRun.{with_at}
use Rattle.co_state.specs.declared.engine_state.Operation.{Operation}
use Rattle.co_state.specs.declared.engine_state.Vote.{Vote}
use Rattle.co_state.specs.Table.{Table, look, holds}
use Rattle.co_plain.specs.declared.coord_state.CoordState.{CoordState}
use Rattle.co_plain.specs.declared.coord_state.Entry.{Entry}
use Rattle.co_plain.specs.declared.member_state.MemberState.{MemberState}
use Rattle.co_plain.specs.declared.member_view.MemberView.{MemberView}
use Rattle.co_plain.specs.declared.session.Session.{Session}
use Rattle.co_plain.specs.MemberView.{recovered_view}
use Rattle.co_plain.specs.CoordView.{has_commit_of}
use Rattle.co_plain.specs.Sessions.{told_at, count_at, parts_of}
use Rattle.co_base.specs.Nodes.{same_node}
use Rattle.co_plain.specs.Wire.{was_sent}
use Rattle.co_plain.specs.Decisions.{is_decided, told_in, asked_in, votes_for}
use Rattle.co_plain.specs.SoundLogs.{unended_in}
use Rattle.co_plain.specs.Invariants.{Side, Memory, Stable, view, stands, KeptAsTold, takes_part_in, txn_of}
use Rattle.co_law_base.proofs.ViewRules.{Replayed}
use Rattle.co_law_base.proofs.Facts.{Rest, changed, told, told_here, begun, asked, over, seen, entry_of, settled_at, settled, Here, Before, alive, by_coord, belongs, Begun, Voted, takes, ByTold, Named, ViewFacts, OnlyAborts, MemberFacts, CoordFacts, OpenEntry, SentFacts, RecordFacts, NumberFacts}

asked_begun : (o : Option Session) → asked_in o ≡ true → is_some o ≡ true
asked_begun None h = h
asked_begun (Some session) h = refl

-- who is over was seen
pub over_seen : (r : Rest) (t : ℕ) → over r t ≡ true → seen r t ≡ true
over_seen r t h = by (or_cases (asked r t) (holds r.used t) h)
  where
    by : (asked r t ≡ true) ⊎ (holds r.used t ≡ true) → seen r t ≡ true
    by (inl a) = or_left (begun r t) (holds r.used t) (asked_begun (look r.sessions t) a)
    by (inr u) = or_right (begun r t) (holds r.used t) u

pub by_coord_begun : (o : Option Session) (c : ℕ) → by_coord o c ≡ true → is_some o ≡ true
by_coord_begun None c h = absurd (let f : false ≡ true = h in cc)
by_coord_begun (Some session) c h = refl

pub votes_stand : (v : MemberView) (t c : ℕ) → votes_for (look v.voted t) c ≡ true → stands v t ≡ true
votes_stand v t c h = or_left (holds v.voted t) (holds v.committed t) (by (look v.voted t) h)
  where
    by : (o : Option Vote) → votes_for o c ≡ true → is_some o ≡ true
    by None h = absurd (let f : false ≡ true = h in cc)
    by (Some vote) h = refl

pub belongs_seen : (r : Rest) → NumberFacts r → (t c : ℕ) → belongs r t c → seen r t ≡ true
belongs_seen r n t c (Begun h) = or_left (begun r t) (holds r.used t) (by_coord_begun (look r.sessions t) c h)
belongs_seen r n t c (Voted m h) = or_right (begun r t) (holds r.used t) (n.voted_used m t (votes_stand (recovered_view (r.opened_member m)) t c h))

pub same_coord : (o : Option Session) (c d : ℕ) → by_coord o c ≡ true → by_coord o d ≡ true → c ≡ d
same_coord None c d h k = absurd (let f : false ≡ true = h in cc)
same_coord (Some session) c d h k = by session.by h k
  where
    by : (at : Node) → same_node at (node.Coord c) ≡ true → same_node at (node.Coord d) ≡ true → c ≡ d
    by (node.Member m) h k = absurd (let f : false ≡ true = h in cc)
    by (node.Coord e) h k = sym (eqb-true e c h) ∙ eqb-true e d k

-- a transaction belongs to one coordinator
pub one_belongs : (r : Rest) → NumberFacts r → (t c d : ℕ) → belongs r t c → belongs r t d → c ≡ d
one_belongs r n t c d (Begun h) (Begun k) = same_coord (look r.sessions t) c d h k
one_belongs r n t c d (Begun h) (Voted m k) =
    absurd (let f : true ≡ false = sym (n.voted_used m t (votes_stand (recovered_view (r.opened_member m)) t d k)) ∙ n.new t (by_coord_begun (look r.sessions t) c h) in cc)
one_belongs r n t c d (Voted m h) (Begun k) =
    absurd (let f : true ≡ false = sym (n.voted_used m t (votes_stand (recovered_view (r.opened_member m)) t c h)) ∙ n.new t (by_coord_begun (look r.sessions t) d k) in cc)
one_belongs r n t c d (Voted m h) (Voted o k) = n.one_vote t m o c d h k

-- what is settled is settled at its own coordinator
pub settled_home : (r : Rest) → NumberFacts r → (t c : ℕ) → belongs r t c → settled r t → settled_at r c t ≡ true
settled_home r n t c b (Here d) = or_left (is_decided r.decided t) (has_commit_of (r.opened_coord c) t) d
settled_home r n t c (Begun h) (Before d k) = absurd (let f : true ≡ false = sym (n.commit_used d t k) ∙ n.new t (by_coord_begun (look r.sessions t) c h) in cc)
settled_home r n t c (Voted m h) (Before d k) = or_right (is_decided r.decided t) (has_commit_of (r.opened_coord c) t) (n.one_home t m c d h k)

pub settled_alive : (r : Rest) → NumberFacts r → (t c : ℕ) → belongs r t c → settled r t → alive r c t ≡ true
settled_alive r n t c b d = or_right (holds (r.coord c).table t) (settled_at r c t) (settled_home r n t c b d)

pub settled_from : (r : Rest) (t c : ℕ) → settled_at r c t ≡ true → settled r t
settled_from r t c h = by (or_cases (is_decided r.decided t) (has_commit_of (r.opened_coord c) t) h)
  where
    by : (is_decided r.decided t ≡ true) ⊎ (has_commit_of (r.opened_coord c) t ≡ true) → settled r t
    by (inl d) = Here d
    by (inr k) = Before c k

-- presumed aborted by no coordinator
abbrev pub LivesOn : Rest → ℕ → Type 0
LivesOn r t = (c : ℕ) → belongs r t c → alive r c t ≡ true

pub one_lives : (r : Rest) → NumberFacts r → (t c : ℕ) → belongs r t c → alive r c t ≡ true → LivesOn r t
one_lives r n t c b a = λ d k. subst (λ e. alive r e t ≡ true) (one_belongs r n t c d b k) a

-- Another state of a member in place of the old one: who stood stands on unless it is presumed aborted, and who
-- was committed is.
pub record StandsOn (r : Rest) (x y : MemberState) : Type 0 where
  pub standing : (side : Side) (t : ℕ) → LivesOn r t → stands (view side x) t ≡ true → stands (view side y) t ≡ true
  pub committed : (side : Side) (t : ℕ) → holds (view side x).committed t ≡ true → holds (view side y).committed t ≡ true

pub stands_same : (r : Rest) (x : MemberState) → StandsOn r x x
stands_same r x = record { standing = λ side t l h. h; committed = λ side t h. h }

-- a statement of each place of a family with one place changed
pub at_each : {X : Type 0} (P : ℕ → X → Type 0) (f : ℕ → X) (m : ℕ) (x : X) → P m x → ((n : ℕ) → P n (f n)) → (n : ℕ) → P n (with_at f m x n)
at_each P f m x p h n = by (m == n) refl
  where
    by : (b : Bool) → (m == n) ≡ b → P n (if m == n then x else f n)
    by true e = subst (λ b. P n (if b then x else f n)) (sym e) (subst (λ k. P k x) (eqb-true m n e) p)
    by false e = subst (λ b. P n (if b then x else f n)) (sym e) (h n)

pub at_here : {X : Type 0} (f : ℕ → X) (m : ℕ) (x : X) → with_at f m x m ≡ x
at_here f m x = ap (λ b. if b then x else f m) (eq-eqb m m refl)

pub held_on : (a b c : Bool) → (b ≡ true → c ≡ true) → (a || b) ≡ true → (a || c) ≡ true
held_on true b c f h = refl
held_on false b c f h = f h

module _ (r : Rest) (n : NumberFacts r) (f g : ℕ → MemberState) (on : (m : ℕ) → StandsOn r (f m) (g m)) where
  pub sent_on : SentFacts r f → SentFacts r g
  sent_on s =
      record {
        over = s.over;
        prepares_named = s.prepares_named;
        prepares_count = s.prepares_count;
        prepares_held = λ t c m k h a. held_on _ _ _ ((on m).committed Memory t) (s.prepares_held t c m k h a);
        votes_named = s.votes_named;
        yeses_stand = λ t m c side h a. (on m).standing side t (one_lives r n t c (s.votes_named t m c true h) a) (s.yeses_stand t m c side h a);
        asks_named = s.asks_named;
        asks_take = s.asks_take;
        asks_held = λ t m c h a. held_on _ _ _ ((on m).committed Memory t) (s.asks_held t m c h a);
        acks_stand = λ t m c side h. (on m).committed side t (s.acks_stand t m c side h);
        commits = s.commits;
        aborts = λ t c m h. by t c m (s.aborts t c m h);
      }
    where
      by : (t c m : ℕ) → (belongs r t c × (alive r c t ≡ false)) ⊎ (holds (view Stable (f m)).committed t ≡ true) →
          (belongs r t c × (alive r c t ≡ false)) ⊎ (holds (view Stable (g m)).committed t ≡ true)
      by t c m (inl p) = inl p
      by t c m (inr h) = inr ((on m).committed Stable t h)

  pub records_on : ((c : ℕ) (t : ℕ) (members : List ℕ) → unended_in (r.coord c).log.stable t ≡ Some members → settled r t) → ((c t : ℕ) (members : List ℕ) → unended_in (r.opened_coord c) t ≡ Some members → settled r t) →
      RecordFacts r f → RecordFacts r g
  records_on known before s =
      record {
        unended = λ t c m ms side h k. (on m).standing side t (λ d b. settled_alive r n t d b (known c t ms h)) (s.unended t c m ms side h k);
        taking = s.taking;
        opened_stand = λ t c m ms side h k. (on m).standing side t (λ d b. settled_alive r n t d b (before c t ms h)) (s.opened_stand t c m ms side h k);
      }

-- What must hold for the facts to go over to other coordinators, sessions and messages.
pub record Later (r : Rest) (coord : ℕ → CoordState) (sessions : Table Session) (sent : List Message) (member : ℕ → MemberState) : Type 0 where
  pub told_same : (t : ℕ) → over r t ≡ true → told_in (look sessions t) ≡ told r t
  pub counts : (t m : ℕ) → 1 ≤ count_at (told r t) m → 1 ≤ count_at (told_in (look sessions t)) m
  pub begun_on : (t : ℕ) → begun r t ≡ true → holds sessions t ≡ true
  pub begun_back : (t : ℕ) → seen r t ≡ true → holds sessions t ≡ true → begun r t ≡ true
  pub asked_on : (t : ℕ) → asked r t ≡ true → asked_in (look sessions t) ≡ true
  pub by_on : (t c : ℕ) → by_coord (look r.sessions t) c ≡ true → by_coord (look sessions t) c ≡ true
  pub by_back : (t c : ℕ) → seen r t ≡ true → by_coord (look sessions t) c ≡ true → by_coord (look r.sessions t) c ≡ true
  pub alive_back : (t c : ℕ) → seen r t ≡ true → alive (changed r coord sessions sent) c t ≡ true → alive r c t ≡ true
  pub part : (t c m : ℕ) → belongs r t c → alive (changed r coord sessions sent) c t ≡ true → takes_part_in (entry_of r c t) m ≡ true →
      (takes_part_in (look (coord c).table t) m ≡ true) ⊎ ((side : Side) → holds (view side (member m)).committed t ≡ true)
  pub sent_on : (note : Message) → was_sent r.sent note ≡ true → was_sent sent note ≡ true

-- What must hold for the facts of a coordinator to go over to other sessions and messages.
pub record ClientsOn (r : Rest) (sessions : Table Session) (sent : List Message) : Type 0 where
  pub told_same : (t : ℕ) → over r t ≡ true → told_in (look sessions t) ≡ told r t
  pub asked_on : (t : ℕ) → asked r t ≡ true → asked_in (look sessions t) ≡ true
  pub by_on : (t c : ℕ) → by_coord (look r.sessions t) c ≡ true → by_coord (look sessions t) c ≡ true
  pub sent_on : (note : Message) → was_sent r.sent note ≡ true → was_sent sent note ≡ true

module _ (r : Rest) (coord : ℕ → CoordState) (sessions : Table Session) (sent : List Message) (l : ClientsOn r sessions sent) where
  pub clients_over : (t : ℕ) → over r t ≡ true → over (changed r coord sessions sent) t ≡ true
  clients_over t h = by (or_cases (asked r t) (holds r.used t) h)
    where
      by : (asked r t ≡ true) ⊎ (holds r.used t ≡ true) → over (changed r coord sessions sent) t ≡ true
      by (inl a) = or_left (asked_in (look sessions t)) (holds r.used t) (l.asked_on t a)
      by (inr u) = or_right (asked_in (look sessions t)) (holds r.used t) u

  pub clients_coord : (c : ℕ) (table : Table Entry) (stable waiting : List Record) → CoordFacts r c table stable waiting → CoordFacts (changed r coord sessions sent) c table stable waiting
  clients_coord c table stable waiting y =
      record {
        idle = λ t f. still t (y.idle t f);
        collecting = λ t parts yeses f. let e = y.collecting t parts yeses f in
            record {
              still = still t e.still;
              asked = l.asked_on t e.asked;
              parts_told = e.parts_told ∙ ap parts_of (sym (l.told_same t (or_left (asked r t) (holds r.used t) e.asked)));
              lacks = e.lacks;
              yeses_sent = λ m h. l.sent_on _ (e.yeses_sent m h);
            };
        committed = λ t ms acks f. let e = y.committed t ms acks f in
            record {
              recorded = e.recorded;
              logged = e.logged;
              lacks = e.lacks;
              acks_sent = λ m h. l.sent_on _ (e.acks_sent m h);
            };
        known = λ t h. known t (or_cases _ _ (y.known t h));
        unended_over = λ t ms h. clients_over t (y.unended_over t ms h);
        unended_known = λ t ms h. unended_known t ms (y.unended_known t ms h);
        ends = y.ends;
      }
    where
      still : (t : ℕ) → OpenEntry r c stable t → OpenEntry (changed r coord sessions sent) c stable t
      still t e = record { begun_there = l.by_on t c e.begun_there; undecided = e.undecided; unrecorded = e.unrecorded }

      unended_known : (t : ℕ) (members : List ℕ) → ((by_coord (look r.sessions t) c && is_decided r.decided t) ≡ true) ⊎ (unended_in (r.opened_coord c) t ≡ Some members) →
          ((by_coord (look sessions t) c && is_decided r.decided t) ≡ true) ⊎ (unended_in (r.opened_coord c) t ≡ Some members)
      unended_known t members (inl p) = let q = and_parts _ _ p in inl (and_from _ _ (l.by_on t c q.0) q.1)
      unended_known t members (inr h) = inr h

      known : (t : ℕ) → ((by_coord (look r.sessions t) c && is_decided r.decided t) ≡ true) ⊎ (has_commit_of (r.opened_coord c) t ≡ true) →
          ((by_coord (look sessions t) c && is_decided r.decided t) || has_commit_of (r.opened_coord c) t) ≡ true
      known t (inl p) =
          let q = and_parts _ _ p in
          or_left _ _ (and_from _ _ (l.by_on t c q.0) q.1)
      known t (inr p) = or_right _ _ p

pub clients_of : (r : Rest) (coord : ℕ → CoordState) (sessions : Table Session) (sent : List Message) (member : ℕ → MemberState) → Later r coord sessions sent member → ClientsOn r sessions sent
clients_of r coord sessions sent member l = record { told_same = l.told_same; asked_on = l.asked_on; by_on = l.by_on; sent_on = l.sent_on }

pub votes_held : (v : MemberView) (t c : ℕ) → votes_for (look v.voted t) c ≡ true → holds v.voted t ≡ true
votes_held v t c h = by (look v.voted t) h
  where
    by : (o : Option Vote) → votes_for o c ≡ true → is_some o ≡ true
    by None h = absurd (let f : false ≡ true = h in cc)
    by (Some vote) h = refl

module _ (r : Rest) (n : NumberFacts r) (coord : ℕ → CoordState) (sessions : Table Session) (sent : List Message) (member : ℕ → MemberState) (l : Later r coord sessions sent member) where
  pub over_on : (t : ℕ) → over r t ≡ true → over (changed r coord sessions sent) t ≡ true
  over_on = clients_over r coord sessions sent (clients_of r coord sessions sent member l)

  pub belongs_on : (t c : ℕ) → belongs r t c → belongs (changed r coord sessions sent) t c
  belongs_on t c (Begun h) = Begun (l.by_on t c h)
  belongs_on t c (Voted m h) = Voted m h

  pub belongs_back : (t c : ℕ) → seen r t ≡ true → belongs (changed r coord sessions sent) t c → belongs r t c
  belongs_back t c s (Begun h) = Begun (l.by_back t c s h)
  belongs_back t c s (Voted m h) = Voted m h

  pub takes_on : (t m : ℕ) → takes r t m → takes (changed r coord sessions sent) t m
  takes_on t m (ByTold h) = ByTold (l.counts t m h)
  takes_on t m (Named c members h k) = Named c members h k

  pub dead_on : (t c : ℕ) → belongs r t c → alive r c t ≡ false → alive (changed r coord sessions sent) c t ≡ false
  dead_on t c b d = false_from_ne_true _ (λ a. let f : true ≡ false = sym (l.alive_back t c (belongs_seen r n t c b) a) ∙ d in cc)

  pub later_view : (m : ℕ) (side : Side) → ViewFacts r m (view side (member m)) → ViewFacts (changed r coord sessions sent) m (view side (member m))
  later_view m side v =
      record {
        free = v.free;
        replay = λ t vote b f. replay t vote b f;
        image = v.image;
        named = λ t c h. belongs_on t c (v.named t c h);
        over = λ t h. over_on t (v.over t h);
        apart = v.apart;
        done = v.done;
        known = λ t h b. v.known t h (l.begun_back t (over_seen r t (v.over t (or_right _ _ h))) b);
        homed = λ t c h b. v.homed t c h (belongs_back t c (over_seen r t (v.over t (or_right _ _ h))) b);
        works = λ t c h a. takes_on t m (v.works t c h (l.alive_back t c (belongs_seen r n t c (v.named t c h)) a));
        held = λ t c h a. held t c h (l.part t c m (v.named t c h) a (v.held t c h (l.alive_back t c (belongs_seen r n t c (v.named t c h)) a)));
      }
    where
      replay : (t : ℕ) (vote : Vote) → holds sessions t ≡ true → look (view side (member m)).voted t ≡ Some vote → Replayed (view side (member m)).records vote (told_at (told_in (look sessions t)) m)
      replay t vote b f =
          let o = v.over t (or_left _ _ (ap is_some f)) in
          subst (λ ts. Replayed (view side (member m)).records vote (told_at ts m)) (sym (l.told_same t o)) (v.replay t vote (l.begun_back t (over_seen r t o) b) f)

      held : (t c : ℕ) → votes_for (look (view side (member m)).voted t) c ≡ true →
          (takes_part_in (look (coord c).table t) m ≡ true) ⊎ ((side : Side) → holds (view side (member m)).committed t ≡ true) → takes_part_in (look (coord c).table t) m ≡ true
      held t c h (inl p) = p
      held t c h (inr p) = absurd (let f : true ≡ false = sym (votes_held (view side (member m)) t c h) ∙ v.apart t (p side) in cc)

  pub later_waiting : (rs : List Record) → OnlyAborts r rs → OnlyAborts (changed r coord sessions sent) rs
  later_waiting [] w = tt
  later_waiting (log.Abort t ∷ rs) w = ((w.0.0, belongs_on t w.0.0 w.0.1, dead_on t w.0.0 w.0.1 w.0.2), later_waiting rs w.1)
  later_waiting (log.Header a b ∷ rs) w = absurd w
  later_waiting (log.Prepare a b c d e ∷ rs) w = absurd w
  later_waiting (log.Commit a b ∷ rs) w = absurd w
  later_waiting (log.End a ∷ rs) w = absurd w
  later_waiting (log.Checkpoint a b c ∷ rs) w = absurd w

  pub later_member : (m : ℕ) → ((t : ℕ) (os : List Operation) → look (member m).engine.active t ≡ Some os → told_at (told_in (look sessions t)) m ≡ told_here r m t) →
      MemberFacts r m (member m) → MemberFacts (changed r coord sessions sent) m (member m)
  later_member m same x =
      record {
        views = λ side. later_view m side (x.views side);
        active = λ t os f. let a = x.active t os f in
            record {
              kept = subst (λ ts. KeptAsTold (member m).engine os ts) (sym (same t os f)) a.kept;
              stamps = a.stamps;
              begun = l.begun_on t a.begun;
              apart = a.apart;
            };
        marked = λ t mark f. let p = x.marked t mark f in (p.0, l.sent_on _ p.1);
        logged = x.logged;
        waiting = later_waiting (member m).log.waiting x.waiting;
      }

  pub later_coord : (c : ℕ) (table : Table Entry) (stable waiting : List Record) → CoordFacts r c table stable waiting → CoordFacts (changed r coord sessions sent) c table stable waiting
  later_coord = clients_coord r coord sessions sent (clients_of r coord sessions sent member l)

  pub later_records : RecordFacts r member → ((c t : ℕ) (members : List ℕ) → unended_in (coord c).log.stable t ≡ Some members → unended_in (r.coord c).log.stable t ≡ Some members) →
      RecordFacts (changed r coord sessions sent) member
  later_records f back =
      record {
        unended = λ t c m ms side h k. f.unended t c m ms side (back c t ms h) k;
        taking = λ t c m ms h k. f.taking t c m ms (back c t ms h) k;
        opened_stand = f.opened_stand;
      }

pub later_sent : (r : Rest) (n : NumberFacts r) (coord : ℕ → CoordState) (sessions : Table Session) (member : ℕ → MemberState) → Later r coord sessions r.sent member → SentFacts r member →
    SentFacts (changed r coord sessions r.sent) member
later_sent r n coord sessions member l s =
    record {
      over = λ note h. over_on r n coord sessions r.sent member l (txn_of note) (s.over note h);
      prepares_named = λ t c m k h. belongs_on r n coord sessions r.sent member l t c (s.prepares_named t c m k h);
      prepares_count = λ t c m k h. let p = s.prepares_count t c m k h in (p.0 ∙ ap (λ ts. count_at ts m) (sym (l.told_same t (s.over _ h))), p.1);
      prepares_held = λ t c m k h a. held t c m a (s.prepares_named t c m k h) (or_cases _ _ (s.prepares_held t c m k h (l.alive_back t c (belongs_seen r n t c (s.prepares_named t c m k h)) a)));
      votes_named = λ t m c g h. belongs_on r n coord sessions r.sent member l t c (s.votes_named t m c g h);
      yeses_stand = λ t m c side h a. s.yeses_stand t m c side h (l.alive_back t c (belongs_seen r n t c (s.votes_named t m c true h)) a);
      asks_named = λ t m c h. belongs_on r n coord sessions r.sent member l t c (s.asks_named t m c h);
      asks_held = λ t m c h a. held t c m a (s.asks_named t m c h) (or_cases _ _ (s.asks_held t m c h (l.alive_back t c (belongs_seen r n t c (s.asks_named t m c h)) a)));
      asks_take = λ t m c h a. takes_on r n coord sessions r.sent member l t m (s.asks_take t m c h (l.alive_back t c (belongs_seen r n t c (s.asks_named t m c h)) a));
      acks_stand = s.acks_stand;
      commits = s.commits;
      aborts = λ t c m h. aborts t c m (s.aborts t c m h);
    }
  where
    held : (t c m : ℕ) → alive (changed r coord sessions r.sent) c t ≡ true → belongs r t c → (takes_part_in (entry_of r c t) m ≡ true) ⊎ (holds (view Memory (member m)).committed t ≡ true) →
        (takes_part_in (look (coord c).table t) m || holds (view Memory (member m)).committed t) ≡ true
    held t c m a b (inr h) = or_right _ _ h
    held t c m a b (inl h) = by (l.part t c m b a h)
      where
        by : (takes_part_in (look (coord c).table t) m ≡ true) ⊎ ((side : Side) → holds (view side (member m)).committed t ≡ true) →
            (takes_part_in (look (coord c).table t) m || holds (view Memory (member m)).committed t) ≡ true
        by (inl p) = or_left _ _ p
        by (inr p) = or_right _ _ (p Memory)

    aborts : (t c m : ℕ) → (belongs r t c × (alive r c t ≡ false)) ⊎ (holds (view Stable (member m)).committed t ≡ true) →
        (belongs (changed r coord sessions r.sent) t c × (alive (changed r coord sessions r.sent) c t ≡ false)) ⊎ (holds (view Stable (member m)).committed t ≡ true)
    aborts t c m (inl p) = inl (belongs_on r n coord sessions r.sent member l t c p.0, dead_on r n coord sessions r.sent member l t c p.0 p.1)
    aborts t c m (inr h) = inr h

-- the facts of numbers go over where sessions only grow
pub numbers_same : (r : Rest) (coord : ℕ → CoordState) (sent : List Message) → NumberFacts r → NumberFacts (changed r coord r.sessions sent)
numbers_same r coord sent n =
    record {
      new = n.new;
      decided_begun = n.decided_begun;
      once = n.once;
      local = n.local;
      local_asked = n.local_asked;
      kept = n.kept;
      voted_used = n.voted_used;
      commit_used = n.commit_used;
      one_vote = n.one_vote;
      vote_commit = n.vote_commit;
      one_home = n.one_home;
      one_commit = n.one_commit;
    }
