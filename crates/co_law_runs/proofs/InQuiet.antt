-- Where something is open and the state is quiet, a transaction is active at a member or idle at its coordinator.
use Rattle.std.proofs.Common.{◌≡◌, ◌≢◌, ℕ, Bool, true, false, not, cond, ◌&&◌, ◌≤◌, ◌==◌, List, [], ◌∷◌, length, Option, None, Some, refl, sym, ap, ◌∙◌, subst, arith}
use Rattle.std.specs.Option.{is_some}
use Rattle.std.proofs.lemmas.Bool.{or_left, or_right, or_from, and_from, eqb-true, eq-eqb, false_from_ne_true}
use Rattle.co_base.specs.declared.node.Node.{Node}
use Rattle.co_base.specs.declared.node.Node.TheVariants as node
use Rattle.co_base.specs.declared.part.Part.{Part}
use Rattle.co_message.specs.declared.event.Event.TheVariants as event
use Rattle.co_state.specs.Table.{look, holds}
use Rattle.co_plain.specs.declared.coord_state.Entry.{Entry}
use Rattle.co_plain.specs.declared.coord_state.Entry.TheVariants as entry
use Rattle.co_plain.specs.declared.happening.Happening.{Happening}
use Rattle.co_plain.specs.declared.happening.Happening.TheVariants as happening
use Rattle.co_plain.specs.declared.session.Session.{Session}
use Rattle.co_plain.specs.declared.standing.Standing.{Standing}
use Rattle.co_plain.specs.declared.standing.Standing.TheVariants.{IsActive, IsVoted, IsInstalled, IsAbsent}
use Rattle.co_plain.specs.Numbers.{first_lacking, has_number, IsAmong}
use Rattle.co_plain.specs.MemberView.{recovered_view}
use Rattle.co_plain.specs.MemberStep.{standing_by, standing_of, dropped}
use Rattle.co_plain.specs.Member.{coord_of, timer_by}
use Rattle.co_plain.specs.CoordStep.{has_part, members_of}
use Rattle.co_plain.specs.Coordinator.{timer_entry}
use Rattle.co_plain.specs.Sessions.{count_at}
use Rattle.co_base.specs.Nodes.{same_node}
use Rattle.co_plain.specs.Federation.{Federation, Stepped}
use Rattle.co_plain.specs.CommitmentOrder.{trace_of}
use Rattle.co_plain.specs.Step.{step, up_member, up_coord}
use Rattle.co_plain.specs.Decisions.{told_in, votes_for}
use Rattle.co_plain.specs.SoundLogs.{unended_in}
use Rattle.co_plain.specs.Invariants.{Memory, view, stands}
use Rattle.co_plain.specs.Moves.{DropActive, Leave, effect}
use Rattle.co_plain.specs.Quiet.{IsMember, IsCoordinator, IsNode, IsOpen, InTable, ActiveAt, VotedAt, IsQuiet, Prepares, Commits, Asks, may_be_asked, lacks_yes, lacks_ack}
use Rattle.co_plain.specs.Settling.{timer_ends, is_idle}
use Rattle.co_law_base.proofs.Lookups.{holds_found, without_here}
use Rattle.co_law_base.proofs.Facts.{rest_of, told, belongs, Begun, Voted, by_coord, takes, ByTold, Named, OpenEntry, Facts}
use Rattle.co_law_base.proofs.Carrying.{at_here, by_coord_begun}
use Rattle.co_law_base.proofs.ViewMoves.{neither_stands}
use Rattle.co_law_base.proofs.CoordMoves.{open_unsettled}
use Rattle.co_law_base.proofs.Sending.{parts_told, part_member}
use Rattle.co_law_base.proofs.Taking.{took_takes}
use Rattle.co_law_moves.proofs.Steps.{step_keeps}
use Rattle.co_law_moves.proofs.Standings.{active_is, installed_is, votes_own}
use Rattle.co_law_moves.proofs.Onward.{present}
use Rattle.co_law_runs.proofs.Working.{Working}
use Rattle.co_plain.specs.Premises.{AreTrueVerdicts, IsOwnNode}
use Rattle.co_law_moves.specs.MoveTraces.{items_along}
use Rattle.co_law_runs.specs.OnlyTimers.{EndsForGood, SomeTimerEnds, tells_commit}
use Rattle.co_law_runs.proofs.Fitting.{FitSessions}
use Rattle.co_law_runs.proofs.Hopeless.{Hopeless, Dead, Lost, run_tells_none, step_works}

-- who lacks something
lacks_some : (numbers given : List ℕ) → first_lacking numbers given ≢ None → (m : ℕ) × (has_number numbers m ≡ true) × (has_number given m ≡ false)
lacks_some [] given n = absurd (n refl)
lacks_some (k ∷ ks) given n = by (lacks_some ks given) (has_number given k) refl
  where
    by : (first_lacking ks given ≢ None → (m : ℕ) × (has_number ks m ≡ true) × (has_number given m ≡ false)) → (b : Bool) → has_number given k ≡ b →
        (m : ℕ) × (has_number (k ∷ ks) m ≡ true) × (has_number given m ≡ false)
    by rest false e = (k, or_left (k == k) (has_number ks k) (eq-eqb k k refl), e)
    by rest true e =
        let p = rest (λ z. n (ap (λ b. cond (not b) (Some k) (first_lacking ks given)) e ∙ z)) in
        (p.0, or_right (k == p.0) (has_number ks p.0) p.1, p.2)

-- a timer that ends a transaction
pub record TimerThere (s : Federation) : Type 0 where
  pub txn : ℕ
  pub at : Node
  pub is_node : IsNode s at
  pub ends : timer_ends s txn at ≡ true

pub record OpenedFit (s : Federation) : Type 0 where
  pub votes : (m t c : ℕ) → votes_for (look (recovered_view (s.opened_member m)).voted t) c ≡ true → IsCoordinator s c
  pub commits : (c t m : ℕ) (members : List ℕ) → unended_in (s.opened_coord c) t ≡ Some members → has_number members m ≡ true → IsMember s m

module _ (s : Federation) (q : FitSessions (length s.kinds) s.coordinators s.sessions) (o : OpenedFit s) where
  pub takes_fits : (t m : ℕ) → takes (rest_of s) t m → IsMember s m
  takes_fits t m (Named c members h k) = o.commits c t m members h k
  takes_fits t m (ByTold l) = by (look s.sessions t) refl l
    where
      by : (z : Option Session) → look s.sessions t ≡ z → 1 ≤ count_at (told_in z) m → IsMember s m
      by None e h = absurd (omega (arith, h))
      by (Some session) e h = (q t session e).sites m h

  pub belongs_fits : (t c : ℕ) → belongs (rest_of s) t c → IsCoordinator s c
  belongs_fits t c (Voted m h) = o.votes m t c h
  belongs_fits t c (Begun h) = by (look s.sessions t) refl h
    where
      home : (at : Node) → IsOwnNode (length s.kinds) s.coordinators at → same_node at (node.Coord c) ≡ true → IsCoordinator s c
      home (node.Member m) fits k = absurd (let z : false ≡ true = k in cc)
      home (node.Coord d) fits k = subst (λ e. IsAmong e s.coordinators) (eqb-true d c k) fits

      by : (z : Option Session) → look s.sessions t ≡ z → by_coord z c ≡ true → IsCoordinator s c
      by None e k = absurd (let z : false ≡ true = k in cc)
      by (Some session) e k = home session.by (q t session e).home k

module _ (s : Federation) (f : Facts s) (q : FitSessions (length s.kinds) s.coordinators s.sessions) (o : OpenedFit s) (quiet : IsQuiet s) where
  active_at : (t m : ℕ) → IsMember s m → holds (s.member m).engine.active t ≡ true → TimerThere s
  active_at t m i a = record { txn = t; at = node.Member m; is_node = i; ends = a }

  collecting : (t c : ℕ) → IsCoordinator s c → (parts : List Part) (yeses : List ℕ) → look (s.coord c).table t ≡ Some (entry.Collecting parts yeses) → TimerThere s
  collecting t c i parts yeses e = by (standing_of (s.member m) t) refl
    where
      lack : (m : ℕ) × (has_number (members_of parts) m ≡ true) × (has_number yeses m ≡ false)
      lack = lacks_some (members_of parts) yeses ((f.coords c).collecting t parts yeses e).lacks

      m : ℕ
      m = lack.0

      part : has_part parts lack.0 ≡ true
      part = sym (part_member parts lack.0) ∙ lack.1

      here : IsMember s lack.0
      here = takes_fits s q o t lack.0 (ByTold (parts_told (told (rest_of s) t) lack.0 (ap (λ ps. has_part ps lack.0) (sym ((f.coords c).collecting t parts yeses e).parts_told) ∙ part)))

      helps : may_be_asked (standing_of (s.member lack.0) t) (holds (s.member lack.0).asked t) ≡ true → ⊥
      helps h =
          quiet.nothing_helps (Prepares t lack.0 c) (
            here,
            i,
            ap (λ z. lacks_yes z lack.0 && may_be_asked (standing_of (s.member lack.0) t) (holds (s.member lack.0).asked t)) e
                ∙ and_from _ _ (and_from _ _ part (ap not lack.2)) h,
          )

      by : (st : Standing) → standing_of (s.member lack.0) t ≡ st → TimerThere s
      by IsActive k = active_at t lack.0 here (active_is _ _ _ k)
      by IsVoted k = absurd (helps (ap (λ z. may_be_asked z (holds (s.member lack.0).asked t)) k))
      by IsAbsent k = absurd (helps (ap (λ z. may_be_asked z (holds (s.member lack.0).asked t)) k))
      by IsInstalled k =
          let x = ((f.coords c).collecting t parts yeses e).still in
          absurd (let z : true ≡ false = sym (((f.members lack.0).views Memory).known t (installed_is _ _ _ k) (by_coord_begun (look s.sessions t) c x.begun_there)) ∙ x.undecided in cc)

  in_table : (t c : ℕ) → IsCoordinator s c → (e : Entry) → look (s.coord c).table t ≡ Some e → TimerThere s
  in_table t c i entry.Idle e = record { txn = t; at = node.Coord c; is_node = i; ends = ap is_idle e }
  in_table t c i (entry.Collecting parts yeses) e = collecting t c i parts yeses e
  in_table t c i (entry.Committed members acks) e =
      let x = (f.coords c).committed t members acks e in
      let lack = lacks_some members acks x.lacks in
      absurd (quiet.nothing_helps (Commits t lack.0 c)
      (takes_fits s q o t lack.0 (took_takes (rest_of s) f.numbers t lack.0 (f.records.taking t c lack.0 members x.recorded lack.1)), i, ap (λ z. lacks_ack z lack.0) e ∙ and_from _ _ lack.1 (ap not lack.2)))

  voted_at : (t m : ℕ) → IsMember s m → holds (s.member m).engine.voted t ≡ true → TimerThere s
  voted_at t m i v = by (look (s.coord c).table t) refl
    where
      c : ℕ
      c = coord_of (s.member m) t

      mine : votes_for (look (s.member m).engine.voted t) (coord_of (s.member m) t) ≡ true
      mine = votes_own s m t v

      home : IsCoordinator s (coord_of (s.member m) t)
      home = belongs_fits s q o t (coord_of (s.member m) t) (((f.members m).views Memory).named t (coord_of (s.member m) t) mine)

      by : (z : Option Entry) → look (s.coord (coord_of (s.member m) t)).table t ≡ z → TimerThere s
      by (Some e) k = in_table t (coord_of (s.member m) t) home e k
      by None k = absurd (quiet.nothing_helps (Asks t m (coord_of (s.member m) t)) (i, home, and_from _ _ mine (ap (λ z. not (is_some z)) k)))

  pub timer_there : (t : ℕ) → IsOpen s t → TimerThere s
  timer_there t (InTable c i h) = let p = holds_found (s.coord c).table t h in in_table t c i p.0 p.1
  timer_there t (ActiveAt m i h) = active_at t m i h
  timer_there t (VotedAt m i h) = voted_at t m i h

-- the timer ends it
module _ (s : Federation) (f : Facts s) (w : Working s) where
  -- who is dropped lost what it was told
  pub drop_hopeless : (t m : ℕ) → holds (s.member m).engine.active t ≡ true → Hopeless (effect s (DropActive t m)) t
  drop_hopeless t m a = Lost m (w.active m t a) (λ l. ap (λ x. present x t) (at_here s.member m (dropped (s.member m) t)) ∙ gone)
    where
      apart : stands (view Memory (s.member m)) t ≡ false
      apart = let p = holds_found (s.member m).engine.active t a in ((f.members m).active t p.0 p.1).apart

      gone : present (dropped (s.member m) t) t ≡ false
      gone =
          or_from _ _ (ap is_some (without_here (s.member m).engine.active t))
          (or_from _ _ (ap is_some (without_here (s.member m).engine.voted t)) (neither_stands (view Memory (s.member m)) t apart).1)

  -- who leaves the table undecided is presumed aborted
  pub leave_hopeless : (t c : ℕ) → OpenEntry (rest_of s) c (s.coord c).log.stable t → Hopeless (effect s (Leave t c)) t
  leave_hopeless t c x =
      Dead c (Begun x.begun_there)
      (or_from _ _ (ap (λ z. holds z.table t) (at_here s.coord c _) ∙ ap is_some (without_here (s.coord c).table t))
      (false_from_ne_true _ (open_unsettled (rest_of s) f.numbers c (s.coord c).log.stable t x)))

  abbrev timed : ℕ → Node → Stepped
  timed t at = step s (happening.Line (event.Timer t at))

  -- after a timer that leaves it hopeless no commit record of it becomes stable
  pub timer_never : (t : ℕ) (at : Node) → Hopeless (timed t at).state t → (hs : List Happening) → AreTrueVerdicts hs (timed t at).state →
      tells_commit (trace_of (items_along hs (timed t at).state)) t ≡ false
  timer_never t at hopeless hs v =
      run_tells_none hs (timed t at).state (step_keeps s f (happening.Line (event.Timer t at)) tt) (step_works s f (happening.Line (event.Timer t at)) tt w) t hopeless v

  pub active_timed : (t m : ℕ) → (s.member m).up ≡ true → holds (s.member m).engine.active t ≡ true → timed t (node.Member m) ≡ up_member s m true (timer_by (s.member m) t IsActive)
  active_timed t m up a = λ j. up_member s m (up j) (timer_by (s.member m) t (stood (holds (s.member m).engine.voted t) (holds (s.member m).committed t) a j))
    where
      stood : (b c : Bool) → holds (s.member m).engine.active t ≡ true → standing_by (holds (s.member m).engine.active t) b c ≡ IsActive
      stood b c h = ap (λ z. standing_by z b c) h

  active_ends : (t m : ℕ) → IsNode s (node.Member m) → (s.member m).up ≡ true → holds (s.member m).engine.active t ≡ true → EndsForGood s t (node.Member m)
  active_ends t m i up a =
      record {
        is_node = i;
        ends = a;
        answers = ap (λ z. z.items) (active_timed t m up a);
        never = timer_never t (node.Member m) (subst (λ z. Hopeless z.state t) (sym (active_timed t m up a)) (drop_hopeless t m a));
      }

  idle_ends : (t c : ℕ) → IsNode s (node.Coord c) → (s.coord c).up ≡ true → look (s.coord c).table t ≡ Some entry.Idle → EndsForGood s t (node.Coord c)
  idle_ends t c i up e =
      record {
        is_node = i;
        ends = ap is_idle e;
        answers = ap (λ z. z.items) same;
        never = timer_never t (node.Coord c) (subst (λ z. Hopeless z.state t) (sym same) (leave_hopeless t c ((f.coords c).idle t e)));
      }
    where
      same : timed t (node.Coord c) ≡ up_coord s c true (timer_entry c (s.coord c) t (Some entry.Idle))
      same = λ j. up_coord s c (up j) (timer_entry c (s.coord c) t (e j))

  pub ends_for_good : IsQuiet s → TimerThere s → SomeTimerEnds s
  ends_for_good quiet t = record { txn = t.txn; at = t.at; for_good = by t.at t.is_node t.ends }
    where
      idle : (c : ℕ) → IsNode s (node.Coord c) → (o : Option Entry) → look (s.coord c).table t.txn ≡ o → is_idle o ≡ true → EndsForGood s t.txn (node.Coord c)
      idle c i None e h = absurd (let z : false ≡ true = h in cc)
      idle c i (Some entry.Idle) e h = idle_ends t.txn c i (quiet.all_up (node.Coord c) i) e
      idle c i (Some (entry.Collecting parts yeses)) e h = absurd (let z : false ≡ true = h in cc)
      idle c i (Some (entry.Committed members acks)) e h = absurd (let z : false ≡ true = h in cc)

      by : (at : Node) → IsNode s at → timer_ends s t.txn at ≡ true → EndsForGood s t.txn at
      by (node.Member m) i h = active_ends t.txn m i (quiet.all_up (node.Member m) i) h
      by (node.Coord c) i h = idle c i (look (s.coord c).table t.txn) refl h
