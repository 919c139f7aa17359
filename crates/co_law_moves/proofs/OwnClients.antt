-- Each move of a client, and each message, keeps what each node keeps by itself.
use Rattle.std.proofs.Common.{◌≡◌, ◌≢◌, ◌⊎◌, inl, inr, ℕ, Bool, true, false, ◌&&◌, ◌≤◌, ◌==◌, List, [], ◌∷◌, Option, None, Some, refl, sym, ap, ◌∙◌, subst}
use Rattle.std.specs.Option.{is_some}
use Rattle.std.proofs.lemmas.Bool.{or_cases, or_left, or_right, or_parts, and_parts, eqb-true, eqb-false, eq-eqb, false_from_ne_true}
use Rattle.co_base.specs.declared.node.Node.{Node}
use Rattle.co_base.specs.declared.node.Node.TheVariants as node
use Rattle.co_message.specs.declared.message.Message.{Message}
use Rattle.co_message.specs.declared.message.Message.TheVariants as message
use Rattle.co_record.specs.declared.record.Record.{Record}
use Rattle.co_record.specs.declared.record.Record.TheVariants as log
use Rattle.co_serial.specs.SerialRun.{with_at}
use Rattle.co_state.specs.declared.engine_state.Operation.{Operation}
use Rattle.co_state.specs.Table.{Table, look, holds, put}
use Rattle.co_plain.specs.declared.coord_state.CoordState.{CoordState}
use Rattle.co_plain.specs.declared.coord_state.Entry.TheVariants as entry
use Rattle.co_plain.specs.declared.member_state.MemberState.{MemberState}
use Rattle.co_plain.specs.declared.member_view.MemberView.{MemberView}
use Rattle.co_plain.specs.declared.session.Session.{Session}
use Rattle.co_plain.specs.CoordView.{has_commit_of}
use Rattle.co_plain.specs.CoordStep.{with_table, has_part}
use Rattle.co_plain.specs.Sessions.{told_at, count_at, begun_by, asked_to_end}
use Rattle.co_plain.specs.Wire.{was_sent, send_one}
use Rattle.co_plain.specs.Federation.{Federation, with_session}
use Rattle.co_plain.specs.Decisions.{is_decided, told_in, asked_in}
use Rattle.co_plain.specs.SoundLogs.{unended_in}
use Rattle.co_plain.specs.Invariants.{Memory, view, KeptAsTold, ends_only, txn_of}
use Rattle.co_plain.specs.Moves.{Begin, BeginLocal, AskEnd, Send, effect, Guard, marked_over}
use Rattle.co_law_base.proofs.Lookups.{put_here, put_there, holds_found, found_holds}
use Rattle.co_law_base.proofs.Facts.{rest_of, changed, seen, by_coord, OpenEntry, CoordHas}
use Rattle.co_law_base.proofs.Carrying.{at_each, by_coord_begun, ClientsOn, clients_over, clients_coord}
use Rattle.co_law_base.proofs.ViewMoves.{holds_put}
use Rattle.co_law_base.proofs.SessionPut.{unused_put, asked_put}
use Rattle.co_law_base.proofs.Tabled.{coord_put}
use Rattle.co_law_base.proofs.Asking.{same_reading}
use Rattle.co_law_base.proofs.Beginning.{other_than}
use Rattle.co_law_base.proofs.Sending.{send_cases, sent_still, parts_told}
use Rattle.co_law_base.proofs.AtCoord.{ends_back}
use Rattle.co_law_moves.proofs.Own.{spent, told_there, OwnView, OwnActive, OwnMember, OwnNumbers, OwnSent, OwnFacts}
use Rattle.co_plain.specs.CoordInvariants.{OwnEnds}
use Rattle.co_law_moves.specs.OwnGuards.{AnyLogs, may_say}

-- What must hold for the facts to go over to other sessions and messages.
pub record Onto (s : Federation) (sessions : Table Session) (sent : List Message) : Type 0 where
  pub clients : ClientsOn (rest_of s) sessions sent
  pub begun_on : (t : ℕ) → holds s.sessions t ≡ true → holds sessions t ≡ true
  pub begun_back : (t : ℕ) → seen (rest_of s) t ≡ true → holds sessions t ≡ true → holds s.sessions t ≡ true

begun_told : (o : Option Session) → asked_in o ≡ true → is_some o ≡ true
begun_told None h = h
begun_told (Some session) h = refl

spent_seen : (s : Federation) (t : ℕ) → spent s.sessions s.used t ≡ true → seen (rest_of s) t ≡ true
spent_seen s t h = by (or_cases (asked_in (look s.sessions t)) (holds s.used t) h)
  where
    by : (asked_in (look s.sessions t) ≡ true) ⊎ (holds s.used t ≡ true) → seen (rest_of s) t ≡ true
    by (inl a) = or_left (holds s.sessions t) (holds s.used t) (begun_told (look s.sessions t) a)
    by (inr u) = or_right (holds s.sessions t) (holds s.used t) u

module _ (s : Federation) (sessions : Table Session) (sent : List Message) (l : Onto s sessions sent) where
  spent_on : (t : ℕ) → spent s.sessions s.used t ≡ true → spent sessions s.used t ≡ true
  spent_on = clients_over (rest_of s) s.coord sessions sent l.clients

  pub onto_view : (v : MemberView) → OwnView s.sessions s.used v → OwnView sessions s.used v
  onto_view v f =
      record {
        free = f.free;
        over = λ t h. spent_on t (f.over t h);
        apart = f.apart;
        away = λ t h b.
            let p = f.away t h (l.begun_back t (spent_seen s t (f.over t (or_left _ _ h))) b) in
            (p.0, l.clients.by_on t p.0 p.1);
      }

  onto_active : (m : ℕ) (x : MemberState) (t : ℕ) (os : List Operation) → told_there sessions m t ≡ told_there s.sessions m t → OwnActive s.sessions m x t os → OwnActive sessions m x t os
  onto_active m x t os same a =
      record { kept = subst (λ ts. KeptAsTold x.engine os ts) (sym same) a.kept; stamps = a.stamps; begun = l.begun_on t a.begun; apart = a.apart }

  pub onto_member : (m : ℕ) (x : MemberState) → ((t : ℕ) (os : List Operation) → look x.engine.active t ≡ Some os → told_there sessions m t ≡ told_there s.sessions m t) →
      OwnMember s.sessions s.used s.sent m x → OwnMember sessions s.used sent m x
  onto_member m x same f =
      record {
        views = λ side. onto_view (view side x) (f.views side);
        active = λ t os h. onto_active m x t os (same t os h) (f.active t os h);
        marked = λ t mark h. let p = f.marked t mark h in (p.0, l.clients.sent_on _ p.1);
        logged = f.logged;
        waiting = f.waiting;
      }

  pub onto_coord : (coord : ℕ → CoordState) (c : ℕ) (y : CoordState) → CoordHas (rest_of s) c y → CoordHas (changed (rest_of s) coord sessions sent) c y
  onto_coord coord c y = clients_coord (rest_of s) coord sessions sent l.clients c y.table y.log.stable y.log.waiting

-- the same messages to other sessions
pub onto_sent : (s : Federation) (sessions : Table Session) → Onto s sessions s.sent → OwnSent s.sessions s.used s.sent → OwnSent sessions s.used s.sent
onto_sent s sessions l f =
    record {
      over = λ note h. spent_on s sessions s.sent l (txn_of note) (f.over note h);
      prepares = λ t c m n h.
          let p = f.prepares t c m n h in
          (l.clients.by_on t c p.0, p.1 ∙ ap (λ ts. count_at ts m) (sym (l.clients.told_same t (f.over _ h))), p.2);
    }

-- The client asks for the end.
module _ (s : Federation) (f : OwnFacts s) (t : ℕ) (old : Session) (here : look s.sessions t ≡ Some old) where
  abbrev sessions : Table Session
  sessions = put s.sessions t (asked_to_end old)

  told_same : (u : ℕ) → told_in (look (put s.sessions t (asked_to_end old)) u) ≡ told_in (look s.sessions u)
  told_same = same_reading told_in s.sessions t old (asked_to_end old) here refl

  asks_onto : Onto s (put s.sessions t (asked_to_end old)) s.sent
  asks_onto =
      record {
        clients =
            record {
              told_same = λ u h. told_same u;
              asked_on = λ u h. asked_on u h (t == u) refl;
              by_on = λ u c h. same_reading (λ o. by_coord o c) s.sessions t old (asked_to_end old) here refl u ∙ h;
              sent_on = λ note h. h;
            };
        begun_on = λ u h. holds_put s.sessions t (asked_to_end old) u h;
        begun_back = λ u o h. sym (same_reading (λ o. is_some o) s.sessions t old (asked_to_end old) here refl u) ∙ h;
      }
    where
      asked_on : (u : ℕ) → asked_in (look s.sessions u) ≡ true → (b : Bool) → (t == u) ≡ b → asked_in (look (put s.sessions t (asked_to_end old)) u) ≡ true
      asked_on u h true e = ap asked_in (ap (look (put s.sessions t (asked_to_end old))) (sym (eqb-true t u e)) ∙ put_here s.sessions t (asked_to_end old))
      asked_on u h false e = ap asked_in (put_there s.sessions t (asked_to_end old) u (eqb-false t u e)) ∙ h

  asks_numbers : OwnNumbers (put s.sessions t (asked_to_end old)) s.used s.decided s.opened_coord
  asks_numbers =
      record {
        new = unused_put s.sessions t (asked_to_end old) s.used f.numbers.new (f.numbers.new t (found_holds s.sessions t old here));
        decided_begun = λ u h. holds_put s.sessions t (asked_to_end old) u (f.numbers.decided_begun u h);
        once = f.numbers.once;
        local_asked = asked_put s.sessions t (asked_to_end old) s.decided f.numbers.local_asked (λ m b d. refl);
        commit_used = f.numbers.commit_used;
      }

  pub asks_own : OwnFacts (with_session s t (asked_to_end old))
  asks_own =
      record {
        numbers = asks_numbers;
        members = λ m. onto_member s sessions s.sent asks_onto m (s.member m) (λ u os h. ap (λ ts. told_at ts m) (told_same u)) (f.members m);
        coords = λ d. onto_coord s sessions s.sent asks_onto s.coord d (s.coord d) (f.coords d);
        ends = f.ends;
        sent = onto_sent s sessions asks_onto f.sent;
      }

pub own_ask : (s : Federation) → OwnFacts s → (t : ℕ) → Guard s (AskEnd t) → OwnFacts (effect s (AskEnd t))
own_ask s f t g =
    let p = holds_found s.sessions t g in
    subst (λ o. OwnFacts (marked_over s t o)) (sym p.1) (asks_own s f t p.0 p.1)

-- A transaction is begun.
module _ (s : Federation) (f : OwnFacts s) (t : ℕ) (by' : Node) (new : seen (rest_of s) t ≡ false) where
  abbrev with_new : Table Session
  with_new = put s.sessions t (begun_by by')

  unmoved : (u : ℕ) → seen (rest_of s) u ≡ true → look (put s.sessions t (begun_by by')) u ≡ look s.sessions u
  unmoved u h = put_there s.sessions t (begun_by by') u (other_than (rest_of s) t u new h)

  begun_seen : (u : ℕ) → holds s.sessions u ≡ true → seen (rest_of s) u ≡ true
  begun_seen u h = or_left (holds s.sessions u) (holds s.used u) h

  begins_onto : Onto s (put s.sessions t (begun_by by')) s.sent
  begins_onto =
      record {
        clients =
            record {
              told_same = λ u o. ap told_in (unmoved u (spent_seen s u o));
              asked_on = λ u h. ap asked_in (unmoved u (begun_seen u (begun_told (look s.sessions u) h))) ∙ h;
              by_on = λ u c h. ap (λ o. by_coord o c) (unmoved u (begun_seen u (by_coord_begun (look s.sessions u) c h))) ∙ h;
              sent_on = λ note h. h;
            };
        begun_on = λ u h. holds_put s.sessions t (begun_by by') u h;
        begun_back = λ u o h. ap is_some (sym (unmoved u o)) ∙ h;
      }

  not_begun : holds s.sessions t ≡ false
  not_begun = (or_parts (holds s.sessions t) (holds s.used t) new).0

  begins_numbers : OwnNumbers (put s.sessions t (begun_by by')) s.used s.decided s.opened_coord
  begins_numbers =
      record {
        new = unused_put s.sessions t (begun_by by') s.used f.numbers.new (or_parts (holds s.sessions t) (holds s.used t) new).1;
        decided_begun = λ u h. holds_put s.sessions t (begun_by by') u (f.numbers.decided_begun u h);
        once = f.numbers.once;
        local_asked = asked_put s.sessions t (begun_by by') s.decided f.numbers.local_asked (λ m b d. absurd (let z : true ≡ false = sym (f.numbers.decided_begun t d) ∙ not_begun in cc));
        commit_used = f.numbers.commit_used;
      }

  begins_member : (m : ℕ) → OwnMember (put s.sessions t (begun_by by')) s.used s.sent m (s.member m)
  begins_member m =
      onto_member s with_new s.sent begins_onto m (s.member m)
      (λ u os h. ap (λ o. told_at (told_in o) m) (unmoved u (begun_seen u ((f.members m).active u os h).begun))) (f.members m)

pub own_begin_local : (s : Federation) → OwnFacts s → (t m : ℕ) → Guard s (BeginLocal t m) → OwnFacts (effect s (BeginLocal t m))
own_begin_local s f t m g =
    record {
      numbers = begins_numbers s f t (node.Member m) g;
      members = begins_member s f t (node.Member m) g;
      coords = λ d. onto_coord s (put s.sessions t (begun_by (node.Member m))) s.sent (begins_onto s f t (node.Member m) g) s.coord d (s.coord d) (f.coords d);
      ends = f.ends;
      sent = onto_sent s (put s.sessions t (begun_by (node.Member m))) (begins_onto s f t (node.Member m) g) f.sent;
    }

pub own_begin : (s : Federation) → OwnFacts s → (t c : ℕ) → Guard s (Begin t c) → OwnFacts (effect s (Begin t c))
own_begin s f t c g =
    record {
      numbers = begins_numbers s f t (node.Coord c) g;
      members = begins_member s f t (node.Coord c) g;
      coords = at_each (λ d z. CoordHas (changed (rest_of s) coord sessions s.sent) d z) s.coord c y
          (coord_put (changed (rest_of s) coord sessions s.sent) c (s.coord c).log.stable (s.coord c).log.waiting (s.coord c).table t entry.Idle
          (onto_coord s sessions s.sent onto coord c (s.coord c) (f.coords c)) fits)
          (λ d. onto_coord s sessions s.sent onto coord d (s.coord d) (f.coords d));
      ends = at_each (λ d z. OwnEnds z.table z.log.stable z.log.waiting) s.coord c y (waits (s.coord c).log.waiting (f.coords c).ends (f.ends c)) f.ends;
      sent = onto_sent s sessions onto f.sent;
    }
  where
    y : CoordState
    y = with_table (s.coord c) (put (s.coord c).table t entry.Idle)

    coord : ℕ → CoordState
    coord = with_at s.coord c y

    sessions : Table Session
    sessions = put s.sessions t (begun_by (node.Coord c))

    onto : Onto s sessions s.sent
    onto = begins_onto s f t (node.Coord c) g

    unrecorded : has_commit_of (s.coord c).log.stable t ≡ false
    unrecorded = false_from_ne_true (has_commit_of (s.coord c).log.stable t) (λ h. known (or_cases (by_coord (look s.sessions t) c && is_decided s.decided t) (has_commit_of (s.opened_coord c) t) ((f.coords c).known t h)))
      where
        known : ((by_coord (look s.sessions t) c && is_decided s.decided t) ≡ true) ⊎ (has_commit_of (s.opened_coord c) t ≡ true) → ⊥
        known (inl p) =
            let z : true ≡ false = sym (by_coord_begun (look s.sessions t) c (and_parts (by_coord (look s.sessions t) c) (is_decided s.decided t) p).0) ∙ not_begun s f t (node.Coord c) g in cc
        known (inr k) = let z : true ≡ false = sym (f.numbers.commit_used c t k) ∙ (or_parts (holds s.sessions t) (holds s.used t) g).1 in cc

    fits : OpenEntry (changed (rest_of s) coord sessions s.sent) c (s.coord c).log.stable t
    fits =
        record {
          begun_there = ap (λ o. by_coord o c) (put_here s.sessions t (begun_by (node.Coord c))) ∙ eq-eqb c c refl;
          undecided = false_from_ne_true (is_decided s.decided t) (λ h. let z : true ≡ false = sym (f.numbers.decided_begun t h) ∙ not_begun s f t (node.Coord c) g in cc);
          unrecorded = unrecorded;
        }

    waits : (rs : List Record) → ends_only rs ≡ true → OwnEnds (s.coord c).table (s.coord c).log.stable rs → OwnEnds (put (s.coord c).table t entry.Idle) (s.coord c).log.stable rs
    waits [] e w = tt
    waits (log.End u ∷ rs) e w =
        let back : unended_in (s.coord c).log.stable u ≡ Some w.1.0 = ends_back rs (s.coord c).log.stable u w.1.0 e w.1.1 in
        let apart : t ≢ u = other_than (rest_of s) t u g (spent_seen s u ((f.coords c).unended_over u w.1.0 back)) in
        (put_there (s.coord c).table t entry.Idle u apart ∙ w.0, w.1, waits rs e w.2)
    waits (log.Header a b ∷ rs) e w = absurd w
    waits (log.Prepare a b d n x ∷ rs) e w = absurd w
    waits (log.Commit a b ∷ rs) e w = absurd w
    waits (log.Abort a ∷ rs) e w = absurd w
    waits (log.Checkpoint a b d ∷ rs) e w = absurd w

-- A message.
module _ (s : Federation) (f : OwnFacts s) (note : Message) where
  sends_onto : Onto s s.sessions (send_one s.sent note)
  sends_onto =
      record {
        clients = record { told_same = λ t h. refl; asked_on = λ t h. h; by_on = λ t c h. h; sent_on = λ k h. sent_still s.sent note k h };
        begun_on = λ t h. h;
        begun_back = λ t o h. h;
      }

  said_over : (k : Message) → may_say AnyLogs s k → spent s.sessions s.used (txn_of k) ≡ true
  said_over (message.Prepare t c m n) g = or_left (asked_in (look s.sessions t)) (holds s.used t) ((f.coords c).collecting t g.0 g.1 g.2).asked
  said_over (message.Vote t m c true) g = ((f.members m).views Memory).over t (or_left (holds (s.member m).engine.voted t) (holds (s.member m).committed t) g.0)
  said_over (message.Vote t m c false) g = f.sent.over (message.Prepare t c m g.0) g.1
  said_over (message.Decide t c m true) g = g.1
  said_over (message.Decide t c m false) g = g.1
  said_over (message.Ask t m c) g = ((f.members m).views Memory).over t (or_left (holds (s.member m).engine.voted t) (holds (s.member m).committed t) g.0)
  said_over (message.Ack t m c) g = ((f.members m).views Memory).over t (or_right (holds (s.member m).engine.voted t) (holds (s.member m).committed t) g)

  pub own_send : may_say AnyLogs s note → OwnFacts (effect s (Send note))
  own_send g =
      record {
        numbers = f.numbers;
        members = λ m. onto_member s s.sessions (send_one s.sent note) sends_onto m (s.member m) (λ t os h. refl) (f.members m);
        coords = λ d. onto_coord s s.sessions (send_one s.sent note) sends_onto s.coord d (s.coord d) (f.coords d);
        ends = f.ends;
        sent = record { over = λ k h. over k (send_cases s.sent note k h); prepares = λ t c m n h. prepares t c m n (send_cases s.sent note _ h) };
      }
    where
      over : (k : Message) → (note ≡ k) ⊎ (was_sent s.sent k ≡ true) → spent s.sessions s.used (txn_of k) ≡ true
      over k (inl e) = said_over k (subst (may_say AnyLogs s) e g)
      over k (inr h) = f.sent.over k h

      prepares : (t c m n : ℕ) → (note ≡ message.Prepare t c m n) ⊎ (was_sent s.sent (message.Prepare t c m n) ≡ true) →
          (by_coord (look s.sessions t) c ≡ true) × (n ≡ count_at (told_in (look s.sessions t)) m) × (1 ≤ n)
      prepares t c m n (inr h) = f.sent.prepares t c m n h
      prepares t c m n (inl e) =
          let p : may_say AnyLogs s (message.Prepare t c m n) = subst (may_say AnyLogs s) e g in
          let x = (f.coords c).collecting t p.0 p.1 p.2 in
          (x.still.begun_there, p.4, subst (λ k. 1 ≤ k) (sym p.4) (parts_told (told_in (look s.sessions t)) m (ap (λ ps. has_part ps m) (sym x.parts_told) ∙ p.3)))
