-- Which events make a move that decides.
use Rattle.std.proofs.Common.{◌≡◌, ◌≢◌, ℕ, Bool, true, false, ◌||◌, ◌&&◌, ◌==◌, ◌≤◌, not, if◌then◌else◌, List, [], ◌∷◌, Option, None, Some, refl, sym, ap, ◌∙◌, arith}
use Rattle.std.proofs.lemmas.Bool.{eqb-true, eqb-false, eq-eqb}
use Rattle.co_base.specs.declared.node.Node.{Node}
use Rattle.co_base.specs.declared.node.Node.TheVariants as node
use Rattle.co_base.specs.declared.part.Part.{Part}
use Rattle.co_frame.specs.Gate.{batch_is_stable}
use Rattle.co_message.specs.declared.answer.Answer.TheVariants as answer
use Rattle.co_message.specs.declared.event.Event.{Event}
use Rattle.co_message.specs.declared.event.Event.TheVariants as event
use Rattle.co_message.specs.declared.message.Message.TheVariants as message
use Rattle.co_state.specs.declared.verdict.Verdict.{Verdict}
use Rattle.co_state.specs.declared.verdict.Verdict.TheVariants.{LostOperations, StaleRead, HeldBy, VoteYes}
use Rattle.co_state.specs.Table.{look, holds}
use Rattle.co_state.specs.VotingRule.{vote_of}
use Rattle.co_plain.specs.declared.coord_state.CoordState.{CoordState}
use Rattle.co_plain.specs.declared.coord_state.Entry.{Entry}
use Rattle.co_plain.specs.declared.coord_state.Entry.TheVariants as entry
use Rattle.co_plain.specs.declared.member_state.MemberState.{MemberState}
use Rattle.co_plain.specs.declared.outcome.Outcome.{Outcome}
use Rattle.co_plain.specs.declared.outcome.Outcome.TheVariants.{Completes, StopsAt}
use Rattle.co_plain.specs.declared.session.Session.{Session}
use Rattle.co_plain.specs.Numbers.{first_lacking, has_number}
use Rattle.co_plain.specs.LogWrite.{outcome_of}
use Rattle.co_plain.specs.Coordinator.{decisions_to, prepares_to}
use Rattle.co_plain.specs.CoordStep.{has_part, members_of}
use Rattle.co_plain.specs.Sessions.{Refuses, Grants, leave_to_end, count_at, parts_of}
use Rattle.co_plain.specs.Wire.{was_sent}
use Rattle.co_plain.specs.Federation.{Federation}
use Rattle.co_plain.specs.Moves.{Move, CommitLocally, CrashMember, Decide, CrashCoord, AskEnd}
use Rattle.co_law_moves.specs.EventMoves.{sends, stopped_moves, written_moves, where_up, drop_moves, local_decision_moves, local_verdict_moves, local_commit_moves, decided_at_once, commit_entry_moves, yes_counted_moves, yes_moves, commit_at_moves, commit_with_moves, arrival_moves, line_moves}
use Rattle.co_law_node.specs.Causes.{Exactly, is_stable_after, IsAlone, IsLastYes}
use Rattle.co_law_exact.specs.Deciding.{WritesStably, DecidesAlone, IsDecidedBy}
use Rattle.co_law_exact.proofs.QuietMoves.{is_deciding, decides_in, sends_quiet, line_quiet}

clash : {A : Type 0} → false ≡ true → A
clash h = absurd (let z : false ≡ true = h in cc)

or_one : (a : Bool) → (a || false) ≡ true → a ≡ true
or_one true h = refl
or_one false h = clash h

module _ (t : ℕ) where
  -- a write of a move that decides
  stopped_exact : (u : ℕ) (done crash : Move) (b : Bool) → is_deciding t done ≡ (u == t) → is_deciding t crash ≡ false → Exactly (decides_in t (stopped_moves done crash b) ≡ true) ((u ≡ t) × (b ≡ true))
  stopped_exact u done crash true d c =
      (λ h. (eqb-true u t (sym d ∙ by (is_deciding t done) refl h), refl), λ p. ap (λ z. z || (is_deciding t crash || false)) (d ∙ eq-eqb u t p.0))
    where
      by : (z : Bool) → is_deciding t done ≡ z → (z || (is_deciding t crash || false)) ≡ true → z ≡ true
      by true e h = refl
      by false e h = clash (sym (ap (λ z. z || false) c) ∙ h)
  stopped_exact u done crash false d c = (λ h. clash (sym (ap (λ z. z || false) c) ∙ h), λ p. clash p.1)

  written_exact : (u : ℕ) (done crash : Move) (rest : List Move) (o : Outcome) → is_deciding t done ≡ (u == t) → is_deciding t crash ≡ false → decides_in t rest ≡ false →
      Exactly (decides_in t (written_moves done crash rest o) ≡ true) ((u ≡ t) × (is_stable_after o ≡ true))
  written_exact u done crash rest Completes d c r =
      (λ h. (eqb-true u t (sym d ∙ or_one (is_deciding t done) (sym (ap (λ z. is_deciding t done || z) r) ∙ h)), refl), λ p. ap (λ z. z || decides_in t rest) (d ∙ eq-eqb u t p.0))
  written_exact u done crash rest (StopsAt call leaves) d c r = stopped_exact u done crash (batch_is_stable call leaves) d c

  once_exact : (u c : ℕ) (o : Outcome) → Exactly (decides_in t (decided_at_once u c o) ≡ true) ((u ≡ t) × (is_stable_after o ≡ true))
  once_exact u c Completes = (λ h. (eqb-true u t (or_one (u == t) h), refl), λ p. ap (λ z. z || false) (eq-eqb u t p.0))
  once_exact u c (StopsAt call leaves) = stopped_exact u (Decide u c) (CrashCoord c) (batch_is_stable call leaves) refl refl

  local_exact : (u m : ℕ) (o : Outcome) → Exactly (decides_in t (local_decision_moves u m o) ≡ true) ((u ≡ t) × (is_stable_after o ≡ true))
  local_exact u m Completes = (λ h. (eqb-true u t (or_one (u == t) h), refl), λ p. ap (λ z. z || false) (eq-eqb u t p.0))
  local_exact u m (StopsAt call leaves) = by (batch_is_stable call leaves)
    where
      by : (b : Bool) → Exactly (decides_in t (if b then CommitLocally u m ∷ CrashMember m ∷ [] else AskEnd u ∷ CrashMember m ∷ []) ≡ true) ((u ≡ t) × (b ≡ true))
      by true = (λ h. (eqb-true u t (or_one (u == t) h), refl), λ p. ap (λ z. z || false) (eq-eqb u t p.0))
      by false = (λ h. clash h, λ p. clash p.1)

  some_idle : {A : Type 0} (o : Option Entry) → o ≡ Some entry.Idle → (tag : Option Entry → ℕ) → tag o ≢ tag (Some entry.Idle) → A
  some_idle o e tag n = absurd (n (ap tag e))

  abbrev entry_tag : Option Entry → ℕ
  entry_tag None = 0
  entry_tag (Some entry.Idle) = 1
  entry_tag (Some (entry.Collecting parts yeses)) = 2
  entry_tag (Some (entry.Committed members acks)) = 3

  abbrev is_none : List Part → Bool
  is_none [] = true
  is_none (p ∷ ps) = false

  at_once_exact : (y : CoordState) (u c : ℕ) (parts : List Part) (o : Option Entry) →
      Exactly (decides_in t (commit_entry_moves y u c parts o) ≡ true) ((u ≡ t) × ((o ≡ Some entry.Idle) × (parts ≡ [])) × WritesStably y.log)
  at_once_exact y u c parts None = (λ h. clash h, λ p. some_idle None p.1.0 entry_tag (λ z. omega (arith, z)))
  at_once_exact y u c [] (Some entry.Idle) =
      let e = once_exact u c (outcome_of y.log.armed 4) in (λ h. let p = e.0 h in (p.0, (refl, refl), p.1), λ p. e.1 (p.0, p.2))
  at_once_exact y u c (q ∷ qs) (Some entry.Idle) =
      (λ h. clash (sym (sends_quiet t (prepares_to c u (q ∷ qs))) ∙ h), λ p. absurd (let z : false ≡ true = ap is_none p.1.1 in cc))
  at_once_exact y u c parts (Some (entry.Collecting ps yeses)) = (λ h. clash h, λ p. some_idle (Some (entry.Collecting ps yeses)) p.1.0 entry_tag (λ z. omega (arith, z)))
  at_once_exact y u c parts (Some (entry.Committed ms acks)) = (λ h. clash h, λ p. some_idle (Some (entry.Committed ms acks)) p.1.0 entry_tag (λ z. omega (arith, z)))

  abbrev verdict_tag : Verdict → ℕ
  verdict_tag LostOperations = 0
  verdict_tag (StaleRead key) = 1
  verdict_tag (HeldBy u) = 2
  verdict_tag VoteYes = 3

  no_yes : {A : Type 0} (v : Verdict) → v ≡ VoteYes → verdict_tag v ≢ 3 → A
  no_yes v e n = absurd (n (ap verdict_tag e))

  verdict_exact : (x : MemberState) (u m : ℕ) (v : Verdict) → Exactly (decides_in t (local_verdict_moves x u m v) ≡ true) ((u ≡ t) × (v ≡ VoteYes) × WritesStably x.log)
  verdict_exact x u m LostOperations = (by (holds x.engine.active u), λ p. no_yes LostOperations p.1 (λ z. omega (arith, z)))
    where
      by : {A : Type 0} (b : Bool) → decides_in t (drop_moves b u m) ≡ true → A
      by true h = clash h
      by false h = clash h
  verdict_exact x u m (StaleRead key) = (by (holds x.engine.active u), λ p. no_yes (StaleRead key) p.1 (λ z. omega (arith, z)))
    where
      by : {A : Type 0} (b : Bool) → decides_in t (drop_moves b u m) ≡ true → A
      by true h = clash h
      by false h = clash h
  verdict_exact x u m (HeldBy v) = (λ h. clash h, λ p. no_yes (HeldBy v) p.1 (λ z. omega (arith, z)))
  verdict_exact x u m VoteYes = let e = local_exact u m (outcome_of x.log.armed 4) in (λ h. let p = e.0 h in (p.0, refl, p.1), λ p. e.1 (p.0, p.2))

  alone_exact : (x : MemberState) (u m carried : ℕ) →
      Exactly (decides_in t (local_commit_moves x u m carried) ≡ true) ((u ≡ t) × (1 ≤ carried) × (vote_of x.engine u carried ≡ VoteYes) × WritesStably x.log)
  alone_exact x u m carried = by (carried == 0) refl
    where
      by : (b : Bool) → (carried == 0) ≡ b →
          Exactly (decides_in t (if b then AskEnd u ∷ [] else local_verdict_moves x u m (vote_of x.engine u carried)) ≡ true) ((u ≡ t) × (1 ≤ carried) × (vote_of x.engine u carried ≡ VoteYes) × WritesStably x.log)
      by true e = let q = eqb-true carried 0 e in (λ h. clash h, λ p. let l = p.1 in absurd (omega (arith, q, l)))
      by false e =
          let q = eqb-false carried 0 e in
          let v = verdict_exact x u m (vote_of x.engine u carried) in
          (λ h. let p = v.0 h in (p.0, omega (arith, q), p.1, p.2), λ p. v.1 (p.0, p.2, p.3))

  -- at a node that is up
  up_exact : {A : Type 0} (b : Bool) (u : ℕ) (moves : List Move) → Exactly (decides_in t moves ≡ true) ((u ≡ t) × A) → Exactly (decides_in t (where_up b moves) ≡ true) ((u ≡ t) × (b ≡ true) × A)
  up_exact true u moves e = (λ h. let p = e.0 h in (p.0, refl, p.1), λ p. e.1 (p.0, p.2))
  up_exact false u moves e = (λ h. clash h, λ p. clash p.1)

  commit_at_exact : (s : Federation) (u : ℕ) (session : Session) (at : Node) → Exactly (decides_in t (commit_at_moves s u session at) ≡ true) ((u ≡ t) × DecidesAlone s u session at)
  commit_at_exact s u session (node.Coord c) =
      let e = at_once_exact (s.coord c) u c (parts_of session.told) (look (s.coord c).table u) in
      let v = up_exact {A = IsAlone (s.coord c) u (parts_of session.told) × WritesStably (s.coord c).log} (s.coord c).up u (commit_entry_moves (s.coord c) u c (parts_of session.told) (look (s.coord c).table u)) ((λ h. let p = e.0 h in (p.0, (p.1, p.2)), λ p. e.1 (p.0, p.1.0, p.1.1))) in
      (λ h. let p = v.0 h in (p.0, (p.1, p.2.0, p.2.1)), λ p. v.1 (p.0, p.1.0, (p.1.1, p.1.2)))
  commit_at_exact s u session (node.Member m) =
      let e = alone_exact (s.member m) u m (count_at session.told m) in
      let v = up_exact {A = (1 ≤ count_at session.told m) × (vote_of (s.member m).engine u (count_at session.told m) ≡ VoteYes) × WritesStably (s.member m).log} (s.member m).up u (local_commit_moves (s.member m) u m (count_at session.told m)) ((λ h. let p = e.0 h in (p.0, (p.1, p.2, p.3)), λ p. e.1 (p.0, p.1.0, p.1.1, p.1.2))) in
      (λ h. let p = v.0 h in (p.0, (p.1, p.2.0, p.2.1, p.2.2)), λ p. v.1 (p.0, p.1.0, (p.1.1, p.1.2, p.1.3)))

  commit_exact : (s : Federation) (u : ℕ) → Exactly (decides_in t (line_moves s (event.Commit u)) ≡ true) (IsDecidedBy s t (event.Commit u))
  commit_exact s u = (to (look s.sessions u) refl, from)
    where
      granted : (session : Session) → look s.sessions u ≡ Some session → (b : Bool) → session.asked ≡ b → decides_in t (commit_with_moves s u (if b then Refuses answer.Asked else Grants session)) ≡ true → IsDecidedBy s t (event.Commit u)
      granted session e true a h = clash h
      granted session e false a h = let p = (commit_at_exact s u session session.by).0 h in (p.0, (session, e, a, p.1))

      to : (o : Option Session) → look s.sessions u ≡ o → decides_in t (commit_with_moves s u (leave_to_end o)) ≡ true → IsDecidedBy s t (event.Commit u)
      to None e h = clash h
      to (Some session) e h = granted session e session.asked refl h

      from : IsDecidedBy s t (event.Commit u) → decides_in t (commit_with_moves s u (leave_to_end (look s.sessions u))) ≡ true
      from p =
          ap (λ o. decides_in t (commit_with_moves s u (leave_to_end o))) p.1.1
          ∙ ap (λ b. decides_in t (commit_with_moves s u (if b then Refuses answer.Asked else Grants p.1.0))) p.1.2
          ∙ (commit_at_exact s u p.1.0 p.1.0.by).1 (p.0, p.1.3)

  abbrev parts_in : Option Entry → List Part
  parts_in (Some (entry.Collecting ps ys)) = ps
  parts_in _ = []

  abbrev yeses_in : Option Entry → List ℕ
  yeses_in (Some (entry.Collecting ps ys)) = ys
  yeses_in _ = []

  -- the last yes
  yes_exact : (y : CoordState) (u c m : ℕ) (o : Option Entry) →
      Exactly (decides_in t (yes_moves y u c m o) ≡ true)
      ((u ≡ t) × (((parts : List Part) × (yeses : List ℕ) × (o ≡ Some (entry.Collecting parts yeses)) × (has_part parts m ≡ true) × (has_number yeses m ≡ false)
      × (first_lacking (members_of parts) (m ∷ yeses) ≡ None)) × WritesStably y.log))
  yes_exact y u c m None = (λ h. clash h, λ p. absurd (let z : 0 ≡ 2 = ap entry_tag p.1.0.2 in omega (arith, z)))
  yes_exact y u c m (Some entry.Idle) = (λ h. clash h, λ p. absurd (let z : 1 ≡ 2 = ap entry_tag p.1.0.2 in omega (arith, z)))
  yes_exact y u c m (Some (entry.Committed members acks)) = (λ h. clash h, λ p. absurd (let z : 3 ≡ 2 = ap entry_tag p.1.0.2 in omega (arith, z)))
  yes_exact y u c m (Some (entry.Collecting parts yeses)) = (to (has_part parts m) (has_number yeses m) (first_lacking (members_of parts) (m ∷ yeses)) refl refl refl, from)
    where
      written : Exactly (decides_in t (written_moves (Decide u c) (CrashCoord c) (sends (decisions_to c u true (members_of parts))) (outcome_of y.log.armed 4)) ≡ true) ((u ≡ t) × WritesStably y.log)
      written = written_exact u (Decide u c) (CrashCoord c) (sends (decisions_to c u true (members_of parts))) (outcome_of y.log.armed 4) refl refl (sends_quiet t (decisions_to c u true (members_of parts)))

      to : (a b : Bool) (o : Option ℕ) → has_part parts m ≡ a → has_number yeses m ≡ b → first_lacking (members_of parts) (m ∷ yeses) ≡ o →
          decides_in t (if a && not b then yes_counted_moves y u c m parts o else []) ≡ true →
          (u ≡ t) × (((ps : List Part) × (ys : List ℕ) × (Some (entry.Collecting parts yeses) ≡ Some (entry.Collecting ps ys)) × (has_part ps m ≡ true) × (has_number ys m ≡ false)
          × (first_lacking (members_of ps) (m ∷ ys) ≡ None)) × WritesStably y.log)
      to true false None e f g h = let p = written.0 h in (p.0, ((parts, yeses, refl, e, f, g), p.1))
      to true false (Some k) e f g h = clash h
      to true true o e f g h = clash h
      to false b o e f g h = clash h

      from : ((u ≡ t) × (((ps : List Part) × (ys : List ℕ) × (Some (entry.Collecting parts yeses) ≡ Some (entry.Collecting ps ys)) × (has_part ps m ≡ true) × (has_number ys m ≡ false)
          × (first_lacking (members_of ps) (m ∷ ys) ≡ None)) × WritesStably y.log)) → decides_in t (yes_moves y u c m (Some (entry.Collecting parts yeses))) ≡ true
      from p =
          let q = p.1.0 in
          let ps : parts ≡ q.0 = ap parts_in q.2 in
          let ys : yeses ≡ q.1 = ap yeses_in q.2 in
          let a : has_part parts m ≡ true = ap (λ k. has_part k m) ps ∙ q.3 in
          let b : has_number yeses m ≡ false = ap (λ k. has_number k m) ys ∙ q.4 in
          let g : first_lacking (members_of parts) (m ∷ yeses) ≡ None = (λ i. first_lacking (members_of (ps i)) (m ∷ ys i)) ∙ q.5 in
          (λ i. decides_in t (if a i && not (b i) then yes_counted_moves y u c m parts (g i) else [])) ∙ written.1 (p.0, p.1.1)

  deliver_exact : (s : Federation) (u m c : ℕ) →
      Exactly (decides_in t (line_moves s (event.Deliver (message.Vote u m c true))) ≡ true) (IsDecidedBy s t (event.Deliver (message.Vote u m c true)))
  deliver_exact s u m c = by (was_sent s.sent (message.Vote u m c true)) refl
    where
      arrived : Exactly (decides_in t (where_up (s.coord c).up (yes_moves (s.coord c) u c m (look (s.coord c).table u))) ≡ true) ((u ≡ t) × ((s.coord c).up ≡ true) × (IsLastYes (s.coord c) u m × WritesStably (s.coord c).log))
      arrived = up_exact (s.coord c).up u (yes_moves (s.coord c) u c m (look (s.coord c).table u)) (yes_exact (s.coord c) u c m (look (s.coord c).table u))

      by : (b : Bool) → was_sent s.sent (message.Vote u m c true) ≡ b →
          Exactly (decides_in t (if b then arrival_moves s (message.Vote u m c true) else []) ≡ true) (IsDecidedBy s t (event.Deliver (message.Vote u m c true)))
      by true e = (λ h. let p = arrived.0 h in (p.0, e, p.1, p.2.0, p.2.1), λ p. arrived.1 (p.0, p.2, (p.3, p.4)))
      by false e = (λ h. clash h, λ p. clash (sym e ∙ p.1))

  quietly : (s : Federation) (e : Event) → decides_in t (line_moves s e) ≡ false → (IsDecidedBy s t e → ⊥) → Exactly (decides_in t (line_moves s e) ≡ true) (IsDecidedBy s t e)
  quietly s e q n = (λ h. clash (sym q ∙ h), λ p. absurd (n p))

  pub moves_exact : (s : Federation) (e : Event) → Exactly (decides_in t (line_moves s e) ≡ true) (IsDecidedBy s t e)
  moves_exact s (event.Commit u) = commit_exact s u
  moves_exact s (event.Deliver (message.Vote u m c true)) = deliver_exact s u m c
  moves_exact s (event.Deliver (message.Vote u m c false)) = quietly s (event.Deliver (message.Vote u m c false)) (line_quiet t s (event.Deliver (message.Vote u m c false)) tt) (λ p. p)
  moves_exact s (event.Deliver (message.Prepare u c m n)) = quietly s (event.Deliver (message.Prepare u c m n)) (line_quiet t s (event.Deliver (message.Prepare u c m n)) tt) (λ p. p)
  moves_exact s (event.Deliver (message.Decide u c m k)) = quietly s (event.Deliver (message.Decide u c m k)) (line_quiet t s (event.Deliver (message.Decide u c m k)) tt) (λ p. p)
  moves_exact s (event.Deliver (message.Ask u m c)) = quietly s (event.Deliver (message.Ask u m c)) (line_quiet t s (event.Deliver (message.Ask u m c)) tt) (λ p. p)
  moves_exact s (event.Deliver (message.Ack u m c)) = quietly s (event.Deliver (message.Ack u m c)) (line_quiet t s (event.Deliver (message.Ack u m c)) tt) (λ p. p)
  moves_exact s (event.Begin u c) = quietly s (event.Begin u c) (line_quiet t s (event.Begin u c) tt) (λ p. p)
  moves_exact s (event.Local u m) = quietly s (event.Local u m) (line_quiet t s (event.Local u m) tt) (λ p. p)
  moves_exact s (event.Read u m key) = quietly s (event.Read u m key) (line_quiet t s (event.Read u m key) tt) (λ p. p)
  moves_exact s (event.Write u m key value) = quietly s (event.Write u m key value) (line_quiet t s (event.Write u m key value) tt) (λ p. p)
  moves_exact s (event.Erase u m key) = quietly s (event.Erase u m key) (line_quiet t s (event.Erase u m key) tt) (λ p. p)
  moves_exact s (event.Scan u m span) = quietly s (event.Scan u m span) (line_quiet t s (event.Scan u m span) tt) (λ p. p)
  moves_exact s (event.Abort u) = quietly s (event.Abort u) (line_quiet t s (event.Abort u) tt) (λ p. p)
  moves_exact s (event.Vote u m) = quietly s (event.Vote u m) (line_quiet t s (event.Vote u m) tt) (λ p. p)
  moves_exact s (event.Timer u at) = quietly s (event.Timer u at) (line_quiet t s (event.Timer u at) tt) (λ p. p)
  moves_exact s (event.Ask u m) = quietly s (event.Ask u m) (line_quiet t s (event.Ask u m) tt) (λ p. p)
  moves_exact s (event.Resend u c) = quietly s (event.Resend u c) (line_quiet t s (event.Resend u c) tt) (λ p. p)
  moves_exact s (event.Crash at) = quietly s (event.Crash at) (line_quiet t s (event.Crash at) tt) (λ p. p)
  moves_exact s (event.Restart at) = quietly s (event.Restart at) (line_quiet t s (event.Restart at) tt) (λ p. p)
  moves_exact s (event.Arm at call leaves) = quietly s (event.Arm at call leaves) (line_quiet t s (event.Arm at call leaves) tt) (λ p. p)
  moves_exact s (event.Checkpoint at) = quietly s (event.Checkpoint at) (line_quiet t s (event.Checkpoint at) tt) (λ p. p)
