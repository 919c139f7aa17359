-- Who is presumed aborted stays so: of a coordinator, since nobody comes alive; of a member, since who was asked to end or lost
-- operations is not decided after that.
use Rattle.std.proofs.Common.{◌≡◌, ◌≢◌, ◌⊎◌, inl, inr, ℕ, Bool, true, false, not, ◌||◌, ◌==◌, ◌≤◌, zero, suc, List, [], ◌∷◌, length, Option, None, Some, refl, sym, ap, ◌∙◌, subst, arith}
use Rattle.std.specs.Option.{is_some}
use Rattle.std.proofs.lemmas.Bool.{or_cases, or_left, or_right, or_from, or_parts, eqb-true, eqb-false, false_from_ne_true}
use Rattle.std.proofs.lemmas.Bool.Decides.{nat_tests}
use Rattle.co_base.specs.declared.node.Node.TheVariants as node
use Rattle.co_state.specs.declared.engine_state.EngineState.{EngineState}
use Rattle.co_state.specs.declared.engine_state.Operation.{Operation}
use Rattle.co_state.specs.EngineState.{operations_in}
use Rattle.co_state.specs.ReadRule.{operation_reply}
use Rattle.co_state.specs.Table.{look, put, holds}
use Rattle.co_state.specs.VotingRule.{kept_count}
use Rattle.co_plain.specs.declared.happening.Happening.{Happening}
use Rattle.co_plain.specs.declared.session.Session.{Session}
use Rattle.co_plain.specs.declared.session.Told.{Told}
use Rattle.co_plain.specs.Decisions.{BegunThere, VotedBefore, IsPresumedAborted, AtCoordinator, AtMember, is_decided, lost_operations, told_of, asked_in}
use Rattle.co_plain.specs.Federation.{Federation}
use Rattle.co_plain.specs.Invariants.{Memory, view, stands, KeptAsTold}
use Rattle.co_plain.specs.Member.{coord_of}
use Rattle.co_plain.specs.Moves.{Move, Operate, MarkAsked, Cast, DropActive, DropVoted, Install, CommitLocally, CrashMember, RestartMember, ArmMember, CloseMemberSpare, FillMemberSpare, Begin, Collect, RecordYes, Decide, Leave, RecordAck, End, CrashCoord, RestartCoord, ArmCoord, CloseCoordSpare, FillCoordSpare, BeginLocal, AskEnd, Send, Guard, effect, entered_reply, marked_over, record_yes, record_ack, session_by_member, may_operate_at}
use Rattle.co_plain.specs.Runs.{run}
use Rattle.co_plain.specs.Sessions.{count_at, told_at, with_told, asked_to_end, begun_by}
use Rattle.co_plain.specs.Step.{disarmed, is_used}
use Rattle.co_law_engine.proofs.YesTells.{in_some}
use Rattle.co_law_base.proofs.Lookups.{found_holds, put_here, put_there}
use Rattle.co_law_base.proofs.Facts.{rest_of, alive, Begun, OpenEntry, Facts}
use Rattle.co_plain.specs.Premises.{AreTrueVerdicts}
use Rattle.co_law_moves.proofs.Standings.{votes_own}
use Rattle.co_law_base.proofs.KeptTold.{count_told}
use Rattle.co_law_base.proofs.LogMoves.{as_belongs, local_apart, dead_there}
use Rattle.co_law_moves.proofs.ByMoves.{run_leaves}
use Rattle.co_law_moves.proofs.KeptFrom.{dead_is}
use Rattle.co_law_moves.proofs.MoveByMove.{move_keeps}
use Rattle.co_law_moves.proofs.MoveOnward.{move_onward}
use Rattle.co_law_moves.proofs.Onward.{Onward, present, nothing_kept, absent_votes}

-- of a member: begun there, not decided, and asked to end or lost where it was told operations
record DeadAtMember (s : Federation) (t m : ℕ) : Type 0 where
  session : Session
  is : look s.sessions t ≡ Some session
  home : session.by ≡ node.Member m
  undecided : is_decided s.decided t ≡ false
  ended : (session.asked ≡ true) ⊎ ((1 ≤ count_at (told_of s t) m) × (present (s.member m) t ≡ false))

kept_long : (b : EngineState) (os : List Operation) (ts : List Told) → KeptAsTold b os ts → length os ≡ length ts
kept_long b [] [] k = refl
kept_long b [] (t ∷ ts) k = absurd k
kept_long b (o ∷ os) [] k = absurd k
kept_long b (o ∷ os) (t ∷ ts) k = let e = kept_long b os ts k.2 in omega (arith, e)

module _ (s : Federation) (f : Facts s) where
  -- who was begun at a member, and is not decided, has voted nowhere and is committed nowhere
  stands_not : (t m n : ℕ) (session : Session) → look s.sessions t ≡ Some session → session.by ≡ node.Member m → is_decided s.decided t ≡ false →
      stands (view Memory (s.member n)) t ≡ false
  stands_not t m n session e b undecided = false_from_ne_true _ (λ h. by (or_cases _ _ h))
    where
      by : (holds (s.member n).engine.voted t ≡ true) ⊎ (holds (s.member n).committed t ≡ true) → ⊥
      by (inl v) = local_apart s f.numbers t (coord_of (s.member n) t) m session (((f.members n).views Memory).named t (coord_of (s.member n) t) (votes_own s n t v)) e b
      by (inr k) = let z : true ≡ false = sym (((f.members n).views Memory).known t k (found_holds s.sessions t session e)) ∙ undecided in cc

  -- lost operations are all of them
  lost_all : (t m : ℕ) (session : Session) → look s.sessions t ≡ Some session → session.by ≡ node.Member m → is_decided s.decided t ≡ false → lost_operations s t m ≡ true →
      (1 ≤ count_at (told_of s t) m) × (present (s.member m) t ≡ false)
  lost_all t m session e b undecided lost = by (look (s.member m).engine.active t) refl
    where
      differs : (k n : ℕ) → not (k == n) ≡ true → k ≢ n
      differs k n h q = grind (arith, nat_tests, h, q)

      by : (o : Option (List Operation)) → look (s.member m).engine.active t ≡ o → (1 ≤ count_at (told_of s t) m) × (present (s.member m) t ≡ false)
      by None a =
          let none : kept_count (s.member m).engine t ≡ 0 = ap (λ o. length (operations_in o)) a in
          let apart = differs (kept_count (s.member m).engine t) (count_at (told_of s t) m) lost in (
            some (count_at (told_of s t) m) (λ z. apart (none ∙ sym z)),
            or_from _ _ (ap is_some a) (stands_not t m m session e b undecided),
          )
        where
          some : (n : ℕ) → (n ≡ 0 → ⊥) → 1 ≤ n
          some zero h = absurd (h refl)
          some (suc n) h = omega arith
      by (Some os) a =
          let same : kept_count (s.member m).engine t ≡ count_at (told_of s t) m =
          ap (λ o. length (operations_in o)) a ∙ kept_long (s.member m).engine os (told_at (told_of s t) m) ((f.members m).active t os a).kept ∙ sym (count_told (told_of s t) m) in
          absurd (differs (kept_count (s.member m).engine t) (count_at (told_of s t) m) lost same)

  as_dead : (t m : ℕ) (session : Session) → look s.sessions t ≡ Some session → session.by ≡ node.Member m → is_decided s.decided t ≡ false →
      (session.asked || lost_operations s t m) ≡ true → DeadAtMember s t m
  as_dead t m session e b undecided h =
      record { session = session; is = e; home = b; undecided = undecided; ended = by (or_cases session.asked (lost_operations s t m) h) }
    where
      by : (session.asked ≡ true) ⊎ (lost_operations s t m ≡ true) → (session.asked ≡ true) ⊎ ((1 ≤ count_at (told_of s t) m) × (present (s.member m) t ≡ false))
      by (inl a) = inl a
      by (inr l) = inr (lost_all t m session e b undecided l)

as_presumed : (s : Federation) (t m : ℕ) → DeadAtMember s t m → IsPresumedAborted s t
as_presumed s t m d = AtMember d.session m d.is d.home d.undecided (by d.ended)
  where
    by : (d.session.asked ≡ true) ⊎ ((1 ≤ count_at (told_of s t) m) × (present (s.member m) t ≡ false)) → (d.session.asked || lost_operations s t m) ≡ true
    by (inl a) = or_left d.session.asked (lost_operations s t m) a
    by (inr l) =
        let none : kept_count (s.member m).engine t ≡ 0 = nothing_kept (s.member m).engine t (or_parts _ _ l.1).0 in
        or_right d.session.asked (lost_operations s t m) (apart (kept_count (s.member m).engine t) (count_at (told_of s t) m) none l.0)
      where
        apart : (k n : ℕ) → k ≡ 0 → 1 ≤ n → not (k == n) ≡ true
        apart k n e h = grind (arith, nat_tests, e, h)

-- ---- moves
module _ (s : Federation) (f : Facts s) (t m : ℕ) (d : DeadAtMember s t m) where
  -- the session is of the same member, and asked if it was
  carried : (z : Federation) → Facts z → Onward s z → (later : Session) → look z.sessions t ≡ Some later → later.by ≡ node.Member m → (d.session.asked ≡ true → later.asked ≡ true) →
      is_decided z.decided t ≡ false → DeadAtMember z t m
  carried z g o later e b on undecided = record { session = later; is = e; home = b; undecided = undecided; ended = by d.ended }
    where
      by : (d.session.asked ≡ true) ⊎ ((1 ≤ count_at (told_of s t) m) × (present (s.member m) t ≡ false)) →
          (later.asked ≡ true) ⊎ ((1 ≤ count_at (told_of z t) m) × (present (z.member m) t ≡ false))
      by (inl a) = inl (on a)
      by (inr l) =
          let more = o.counts t m in
          let some = l.0 in
          inr (omega (arith, more, some), o.nowhere m t (λ c k. absurd (local_apart z g.numbers t c m later k e b)) l.0 l.1)

  -- neither sessions nor decisions change
  same_sessions : (z : Federation) → Facts z → Onward s z → z.sessions ≡ s.sessions → z.decided ≡ s.decided → DeadAtMember z t m
  same_sessions z g o e k = carried z g o d.session (ap (λ n. look n t) e ∙ d.is) d.home (λ a. a) (ap (λ n. is_decided n t) k ∙ d.undecided)

  -- one session changes, or a new one begins
  other_session : (z : Federation) → Facts z → Onward s z → (u : ℕ) (new : Session) → z.sessions ≡ put s.sessions u new → is_decided z.decided t ≡ false →
      ((session : Session) → look s.sessions u ≡ Some session → (new.by ≡ session.by) × (session.asked ≡ true → new.asked ≡ true)) → DeadAtMember z t m
  other_session z g o u new e undecided keeps = by (u == t) refl
    where
      by : (b : Bool) → (u == t) ≡ b → DeadAtMember z t m
      by true q =
          let same : u ≡ t = eqb-true u t q in
          let k = keeps d.session (ap (look s.sessions) same ∙ d.is) in
          carried z g o new (ap (λ n. look n t) e ∙ ap (look (put s.sessions u new)) (sym same) ∙ put_here s.sessions u new) (k.0 ∙ d.home) k.1 undecided
      by false q = carried z g o d.session (ap (λ n. look n t) e ∙ put_there s.sessions u new t (eqb-false u t q) ∙ d.is) d.home (λ a. a) undecided

  -- it is decided by no coordinator, and not by its member
  decides_other : (u c : ℕ) → Guard s (Decide u c) → (u ≡ t → ⊥)
  decides_other u c g same = by (subst (λ k. Guard s (Decide k c)) same g)
    where
      open_here : (c : ℕ) → OpenEntry (rest_of s) c (s.coord c).log.stable t → ⊥
      open_here c o = local_apart s f.numbers t c m d.session (Begun o.begun_there) d.is d.home

      by : Guard s (Decide t c) → ⊥
      by (inl p) = open_here c ((f.coords c).idle t p.0)
      by (inr p) = open_here c ((f.coords c).collecting t p.0 p.1 p.3).still

  commits_other : (u k : ℕ) → Guard s (CommitLocally u k) → (u ≡ t → ⊥)
  commits_other u k g same = by (subst (λ j. Guard s (CommitLocally j k)) same g)
    where
      at_home : session_by_member (Some d.session) k → m ≡ k
      at_home h = let e : node.Member m ≡ node.Member k = sym d.home ∙ h in cc

      by : Guard s (CommitLocally t k) → ⊥
      by h = now d.ended
        where
          now : (d.session.asked ≡ true) ⊎ ((1 ≤ count_at (told_of s t) m) × (present (s.member m) t ≡ false)) → ⊥
          now (inl a) = let z : true ≡ false = sym a ∙ ap asked_in (sym d.is) ∙ h.1 in cc
          now (inr l) =
              let is : m ≡ k = at_home (subst (λ o. session_by_member o k) d.is h.0) in
              absent_votes (s.member k).engine t (count_at (told_of s t) k) h.3 h.2
              (ap (λ j. holds (s.member j).engine.active t) (sym is) ∙ (or_parts (holds (s.member m).engine.active t) (stands (view Memory (s.member m)) t) l.1).0)

  undecided_more : (u : ℕ) → (u ≡ t → ⊥) → ((u == t) || is_decided s.decided t) ≡ false
  undecided_more u n = or_from (u == t) (is_decided s.decided t) (false_from_ne_true (u == t) (λ e. n (eqb-true u t e))) d.undecided

  move_dead : (move : Move) → Guard s move → DeadAtMember (effect s move) t m
  move_dead move g = by move g (move_keeps s f move g) (move_onward s f move g)
    where
      same : (move : Move) → Facts (effect s move) → Onward s (effect s move) → (effect s move).sessions ≡ s.sessions → (effect s move).decided ≡ s.decided → DeadAtMember (effect s move) t m
      same move = same_sessions (effect s move)

      new : (move : Move) (u : ℕ) (session : Session) → is_used s u ≡ false → Facts (effect s move) → Onward s (effect s move) → (effect s move).sessions ≡ put s.sessions u session →
          (effect s move).decided ≡ s.decided → DeadAtMember (effect s move) t m
      new move u session g k o e q =
          other_session (effect s move) k o u session e (ap (λ n. is_decided n t) q ∙ d.undecided)
          (λ old h. absurd (let z : true ≡ false = sym (found_holds s.sessions u old h) ∙ (or_parts (holds s.sessions u) (holds s.used u) g).0 in cc))

      by : (move : Move) → Guard s move → Facts (effect s move) → Onward s (effect s move) → DeadAtMember (effect s move) t m
      by (Operate u k op) g q o = now (look s.sessions u) refl g.0
        where
          now : (x : Option Session) → look s.sessions u ≡ x → may_operate_at x k → DeadAtMember (effect s (Operate u k op)) t m
          now None e h = absurd h
          now (Some session) e h =
              other_session (effect s (Operate u k op)) q o u
              (with_told session (record { site = record { member = k; op = op }; reply = operation_reply (s.member k).engine u op }))
              (ap (λ x. (entered_reply s u k op x).sessions) e) (ap (λ x. is_decided (entered_reply s u k op x).decided t) e ∙ d.undecided)
              (λ old h. let is : session ≡ old = in_some (sym e ∙ h) in (ap (λ x. x.by) is, λ a. ap (λ x. x.asked) is ∙ a))
      by (AskEnd u) g q o = now (look s.sessions u) refl
        where
          now : (x : Option Session) → look s.sessions u ≡ x → DeadAtMember (effect s (AskEnd u)) t m
          now None e = same (AskEnd u) q o (ap (λ x. (marked_over s u x).sessions) e) (ap (λ x. (marked_over s u x).decided) e)
          now (Some session) e =
              other_session (effect s (AskEnd u)) q o u (asked_to_end session) (ap (λ x. (marked_over s u x).sessions) e)
              (ap (λ x. is_decided (marked_over s u x).decided t) e ∙ d.undecided)
              (λ old h. let is : session ≡ old = in_some (sym e ∙ h) in (ap (λ x. x.by) is, λ a. refl))
      by (CommitLocally u k) g q o = now (look s.sessions u) refl g.0
        where
          now : (x : Option Session) → look s.sessions u ≡ x → session_by_member x k → DeadAtMember (effect s (CommitLocally u k)) t m
          now None e h = absurd h
          now (Some session) e h =
              other_session (effect s (CommitLocally u k)) q o u (asked_to_end session) (ap (λ x. (marked_over s u x).sessions) e)
              (ap (λ x. (u == t) || is_decided (marked_over s u x).decided t) e ∙ undecided_more u (commits_other u k g))
              (λ old h. let is : session ≡ old = in_some (sym e ∙ h) in (ap (λ x. x.by) is, λ a. refl))
      by (Begin u c) g q o = new (Begin u c) u (begun_by (node.Coord c)) g q o refl refl
      by (BeginLocal u k) g q o = new (BeginLocal u k) u (begun_by (node.Member k)) g q o refl refl
      by (Decide u c) g q o = carried (effect s (Decide u c)) q o d.session d.is d.home (λ a. a) (undecided_more u (decides_other u c g))
      by (RecordYes u c k) g q o = same (RecordYes u c k) q o (ap (λ x. (record_yes s u c k x).sessions) g.2) (ap (λ x. (record_yes s u c k x).decided) g.2)
      by (RecordAck u c k) g q o = same (RecordAck u c k) q o (ap (λ x. (record_ack s u c k x).sessions) g.2) (ap (λ x. (record_ack s u c k x).decided) g.2)
      by (MarkAsked u k c n) g q o = same (MarkAsked u k c n) q o refl refl
      by (Cast u k c n) g q o = same (Cast u k c n) q o refl refl
      by (DropActive u k) g q o = same (DropActive u k) q o refl refl
      by (DropVoted u k) g q o = same (DropVoted u k) q o refl refl
      by (Install u k) g q o = same (Install u k) q o refl refl
      by (CrashMember k) g q o = same (CrashMember k) q o refl refl
      by (RestartMember k) g q o = same (RestartMember k) q o refl refl
      by (ArmMember k stop) g q o = same (ArmMember k stop) q o refl refl
      by (CloseMemberSpare k closed) g q o = same (CloseMemberSpare k closed) q o refl refl
      by (FillMemberSpare k) g q o = same (FillMemberSpare k) q o refl refl
      by (Collect u c) g q o = same (Collect u c) q o refl refl
      by (Leave u c) g q o = same (Leave u c) q o refl refl
      by (End u c) g q o = same (End u c) q o refl refl
      by (CrashCoord c) g q o = same (CrashCoord c) q o refl refl
      by (RestartCoord c) g q o = same (RestartCoord c) q o refl refl
      by (ArmCoord c stop) g q o = same (ArmCoord c stop) q o refl refl
      by (CloseCoordSpare c closed) g q o = same (CloseCoordSpare c closed) q o refl refl
      by (FillCoordSpare c) g q o = same (FillCoordSpare c) q o refl refl
      by (Send note) g q o = same (Send note) q o refl refl

-- presumed abort, over a move and over a run
move_presumed : (s : Federation) → Facts s → (move : Move) → Guard s move → (t : ℕ) → IsPresumedAborted s t → IsPresumedAborted (effect s move) t
move_presumed s f move g t (AtCoordinator c b none undecided unopened) =
    let o = move_onward s f move g in
    let mine = as_belongs s t c b in
    dead_is (effect s move) t c (o.belongs_on t c mine)
    (false_from_ne_true (alive (rest_of (effect s move)) c t)
    (λ a. let z : true ≡ false = sym (o.alive_back t c mine a) ∙ dead_there s f.numbers t c mine (AtCoordinator c b none undecided unopened) in cc))
move_presumed s f move g t (AtMember session m e b undecided lost) = as_presumed (effect s move) t m (move_dead s f t m (as_dead s f t m session e b undecided lost) move g)

disarm_presumed : (s : Federation) → (t : ℕ) → IsPresumedAborted s t → IsPresumedAborted (disarmed s) t
disarm_presumed s t (AtCoordinator c (BegunThere session e b) none undecided unopened) = AtCoordinator c (BegunThere session e b) none undecided unopened
disarm_presumed s t (AtCoordinator c (VotedBefore m h) none undecided unopened) = AtCoordinator c (VotedBefore m h) none undecided unopened
disarm_presumed s t (AtMember session m e b undecided lost) = AtMember session m e b undecided lost

pub run_presumed : (hs : List Happening) (s : Federation) → Facts s → AreTrueVerdicts hs s → (t : ℕ) → IsPresumedAborted s t → IsPresumedAborted (run hs s) t
run_presumed =
    run_leaves (λ s z. (t : ℕ) → IsPresumedAborted s t → IsPresumedAborted z t) (λ s t p. p) (λ s z w p q t h. q t (p t h)) (λ s f move g. move_presumed s f move g) (λ s f. disarm_presumed s)
