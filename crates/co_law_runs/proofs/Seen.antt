-- Which installs an active transaction did not see: those after the stamp of its read.
use Rattle.std.proofs.Common.{◌≡◌, ◌≢◌, ◌⊎◌, inl, inr, ℕ, Bool, true, false, ◌||◌, ◌&&◌, ◌≤◌, ◌==◌, nat_le, if◌then◌else◌, List, [], ◌∷◌, ◌++◌, length, filter, map, Option, None, Some, refl, sym, ap, ◌∙◌, subst, arith}
use Rattle.std.proofs.lemmas.Bool.Decides.{nat_tests}
use Rattle.std.proofs.lemmas.Bool.{or_cases, or_left, or_right, and_parts, eqb-true, eq-eqb}
use Rattle.co_base.specs.Span.{Span, span_has}
use Rattle.co_base.specs.declared.op.Op.{Op}
use Rattle.co_base.specs.declared.written.Written.{Written}
use Rattle.co_state.specs.declared.engine_state.EngineState.{EngineState}
use Rattle.co_state.specs.declared.engine_state.Install.{Install as Installed}
use Rattle.co_state.specs.declared.engine_state.Operation.{Operation}
use Rattle.co_state.specs.declared.engine_state.Vote.{Vote}
use Rattle.co_state.specs.Table.{look, holds}
use Rattle.co_state.specs.Keys.{writes_key}
use Rattle.co_state.specs.Changes.{span_read, sets_of}
use Rattle.co_state.specs.EngineState.{operations_of, operations_in}
use Rattle.co_state.specs.StaleRead.{keys_since, overwritten, stale_keys}
use Rattle.co_state.specs.VotingRule.{kept_count}
use Rattle.co_state.specs.ReadRule.{snapshot_of}
use Rattle.co_state.specs.Effects.{with_operation, after_cast, install_vote}
use Rattle.co_plain.specs.declared.member_state.MemberState.{MemberState}
use Rattle.co_plain.specs.declared.session.Session.{Session}
use Rattle.co_plain.specs.Numbers.{counted}
use Rattle.co_plain.specs.LocalCommit.{local_coord}
use Rattle.co_plain.specs.MemberView.{with_number}
use Rattle.co_plain.specs.MemberStep.{with_engine}
use Rattle.co_plain.specs.Sessions.{count_at}
use Rattle.co_plain.specs.Federation.{Federation}
use Rattle.co_serial.specs.SerialRun.{with_at}
use Rattle.co_plain.specs.Step.{disarmed}
use Rattle.co_plain.specs.Decisions.{told_of}
use Rattle.co_plain.specs.Moves.{Move, Operate, MarkAsked, Cast, DropActive, DropVoted, Install, CommitLocally, CrashMember, RestartMember, ArmMember, CloseMemberSpare, FillMemberSpare, Begin, Collect, RecordYes, Decide, Leave, RecordAck, End, CrashCoord, RestartCoord, ArmCoord, CloseCoordSpare, FillCoordSpare, BeginLocal, AskEnd, Send, Guard, effect, entered_reply, marked_over, record_yes, record_ack, install_state, local_state}
use Rattle.co_record.specs.declared.record.Record.TheVariants as log
use Rattle.co_plain.specs.LogWrite.{with_filled_spare, with_spare, with_stop, with_waiting, generation_of}
use Rattle.co_plain.specs.Numbers.{next_generation}
use Rattle.co_plain.specs.MemberLog.{member_spare}
use Rattle.co_plain.specs.Member.{with_mark}
use Rattle.co_plain.specs.Moves.{restarted}
use Rattle.co_plain.specs.MemberStep.{with_log, dropped, member_down}
use Rattle.co_plain.specs.Moves.{cast_state}
use Rattle.co_law_engine.proofs.YesTells.{out_of_range, both_empty, filter-append'}
use Rattle.co_law_base.proofs.Lookups.{put_here, put_cases, without_cases, look_none, holds_found, is_nothing}
use Rattle.co_law_base.proofs.Commits.{holds_cases}
use Rattle.co_law_base.proofs.Facts.{Each, Facts}
use Rattle.co_law_base.proofs.Carrying.{at_each}
use Rattle.co_law_moves.proofs.MoveOnward.{move_onward}
use Rattle.co_law_runs.proofs.Acts.{Act, Moves, Disarms, after_act, act_guard}

-- installed after the first so many
abbrev pub since : List Installed → ℕ → ℕ → Bool
since [] τ u = false
since (i ∷ is) τ u = if nat_le τ (length is) then (i.txn == u) || since is τ u else false

-- the operation reads the key
abbrev pub reads_op : Option Span → List ℕ → Bool
reads_op None key = false
reads_op (Some span) key = span_has span key

-- a read of the key bears the stamp
abbrev pub read_at : List Operation → List ℕ → ℕ → Bool
read_at [] key τ = false
read_at (o ∷ os) key τ = reads_op (span_read o.op) key && (o.stamp == τ) || read_at os key τ

-- What is said of an active transaction t and another one u: u is committed here only by installs after a stamp.
abbrev pub SeenAt : (List Operation → ℕ → Type 0) → ℕ → ℕ → MemberState → Type 0
SeenAt Good t u x =
    (os : List Operation) → look x.engine.active t ≡ Some os →
    (τ : ℕ) × Good os τ × (τ ≤ length x.engine.installed) × (holds x.committed u ≡ true → since x.engine.installed τ u ≡ true)

pub record Seen (Good : List Operation → ℕ → Type 0) (t u m : ℕ) (s : Federation) : Type 0 where
  pub worked : 1 ≤ count_at (told_of s t) m
  pub seen : SeenAt Good t u (s.member m)

-- how a further operation keeps what is said of the earlier ones
abbrev pub Grows : (List Operation → ℕ → Type 0) → EngineState → Type 0
Grows Good b = (t τ : ℕ) (o : Op) (os : List Operation) → look b.active t ≡ Some os → Good os τ → Good (record { op = o; stamp = snapshot_of b t } ∷ os) τ

pub read_grows : (key : List ℕ) (b : EngineState) → Grows (λ os τ. read_at os key τ ≡ true) b
read_grows key b t τ o os e h = or_right _ _ h

module _ (Good : List Operation → ℕ → Type 0) (t u m : ℕ) (s : Federation) (f : Facts s) (grows : Grows Good (s.member m).engine) where
  -- the same installs and commits, and no more active ones
  fewer : (x y : MemberState) → ((os : List Operation) → look y.engine.active t ≡ Some os → look x.engine.active t ≡ Some os) → y.engine.installed ≡ x.engine.installed → y.committed ≡ x.committed → SeenAt Good t u x → SeenAt Good t u y
  fewer x y back e k h os a =
      let p = h os (back os a) in (
        p.0,
        p.1,
        subst (λ is. p.0 ≤ length is) (sym e) p.2,
        λ c. ap (λ is. since is p.0 u) e ∙ p.3 (sym (ap (λ n. holds n u) k) ∙ c),
      )

  -- one more install
  installed : (x : MemberState) (b : EngineState) (v : ℕ) (i : Installed) → i.txn ≡ v → ((os : List Operation) → look b.active t ≡ Some os → look x.engine.active t ≡ Some os) → SeenAt Good t u x →
      (os : List Operation) → look b.active t ≡ Some os →
      (τ : ℕ) × Good os τ × (τ ≤ length (i ∷ x.engine.installed)) × (holds (with_number x.committed v) u ≡ true → since (i ∷ x.engine.installed) τ u ≡ true)
  installed x b v i e back h os a =
      let p = h os (back os a) in
      let l = p.2 in
      (p.0, p.1, omega (arith, l), λ c. subst (λ k. (if k then (i.txn == u) || since x.engine.installed p.0 u else false) ≡ true) (sym (le p.0 (length x.engine.installed) l)) (by p.0 p.3 (holds_cases x.committed v u c)))
    where
      le : (a b : ℕ) → a ≤ b → nat_le a b ≡ true
      le a b l = grind (arith, nat_tests, l)

      by : (τ : ℕ) → (holds x.committed u ≡ true → since x.engine.installed τ u ≡ true) → (v ≡ u) ⊎ (holds x.committed u ≡ true) → ((i.txn == u) || since x.engine.installed τ u) ≡ true
      by τ q (inl k) = or_left _ _ (eq-eqb i.txn u (e ∙ k))
      by τ q (inr k) = or_right _ _ (q k)

  -- a change of one member
  here : (k : ℕ) (x : MemberState) → (SeenAt Good t u (s.member k) → SeenAt Good t u x) → SeenAt Good t u (s.member m) → SeenAt Good t u (with_at s.member k x m)
  here k x h = at_each (λ j y. SeenAt Good t u (s.member j) → SeenAt Good t u y) s.member k x h (λ j q. q) m

  alike : (x y : MemberState) → y.engine.active ≡ x.engine.active → y.engine.installed ≡ x.engine.installed → y.committed ≡ x.committed → SeenAt Good t u x → SeenAt Good t u y
  alike x y a e k = fewer x y (λ os h. ap (λ n. look n t) (sym a) ∙ h) e k

  member_seen : (move : Move) → Guard s move → 1 ≤ count_at (told_of s t) m → SeenAt Good t u (s.member m) → SeenAt Good t u ((effect s move).member m)
  member_seen (Operate v k o) g w h =
      subst (λ z. SeenAt Good t u (with_at z k (with_engine (s.member k) (with_operation (s.member k).engine v o)) m)) (same (look s.sessions v)) (by (k == m) refl)
    where
      same : (z : Option Session) → s.member ≡ (entered_reply s v k o z).member
      same None = refl
      same (Some session) = refl

      now : Guard s (Operate v m o) → SeenAt Good t u (with_engine (s.member m) (with_operation (s.member m).engine v o))
      now here os a = cases (put_cases (s.member m).engine.active v (record { op = o; stamp = snapshot_of (s.member m).engine v } ∷ operations_of (s.member m).engine v) t os a)
        where
          mine : v ≡ t → record { op = o; stamp = snapshot_of (s.member m).engine v } ∷ operations_of (s.member m).engine v ≡ os → (z : Option (List Operation)) → look (s.member m).engine.active v ≡ z →
              (τ : ℕ) × Good os τ × (τ ≤ length (s.member m).engine.installed) × (holds (s.member m).committed u ≡ true → since (s.member m).engine.installed τ u ≡ true)
          mine e l None n =
              let none : kept_count (s.member m).engine v ≡ 0 = ap (λ z. length (operations_in z)) n in
              let l' : 0 ≡ count_at (told_of s t) m = sym none ∙ here.1 ∙ ap (λ j. count_at (told_of s j) m) e in
              let z : 1 ≤ 0 = subst (λ j. 1 ≤ j) (sym l') w in
              absurd (omega (arith, z))
          mine e l (Some old) n =
              let p = h old (sym (ap (look (s.member m).engine.active) e) ∙ n) in (
                p.0,
                subst (λ z. Good z p.0) (ap (λ z. record { op = o; stamp = snapshot_of (s.member m).engine v } ∷ operations_in z) (sym n) ∙ l) (grows v p.0 o old n p.1),
                p.2,
                p.3,
              )

          cases : ((v ≡ t) × (record { op = o; stamp = snapshot_of (s.member m).engine v } ∷ operations_of (s.member m).engine v ≡ os)) ⊎ ((v ≢ t) × (look (s.member m).engine.active t ≡ Some os)) →
              (τ : ℕ) × Good os τ × (τ ≤ length (s.member m).engine.installed) × (holds (s.member m).committed u ≡ true → since (s.member m).engine.installed τ u ≡ true)
          cases (inr p) = h os p.1
          cases (inl p) = mine p.0 p.1 (look (s.member m).engine.active v) refl

      by : (b : Bool) → (k == m) ≡ b → SeenAt Good t u (if k == m then with_engine (s.member k) (with_operation (s.member k).engine v o) else s.member m)
      by true e =
          subst (λ b. SeenAt Good t u (if b then with_engine (s.member k) (with_operation (s.member k).engine v o) else s.member m)) (sym e)
          (subst (λ j. SeenAt Good t u (with_engine (s.member j) (with_operation (s.member j).engine v o))) (sym (eqb-true k m e)) (now (subst (λ j. Guard s (Operate v j o)) (eqb-true k m e) g)))
      by false e = subst (λ b. SeenAt Good t u (if b then with_engine (s.member k) (with_operation (s.member k).engine v o) else s.member m)) (sym e) h
  member_seen (Cast v k c n) g w h = here k (cast_state (s.member k) v c n) (fewer (s.member k) (cast_state (s.member k) v c n) (λ os a. (without_cases (s.member k).engine.active v t os a).1) refl refl) h
  member_seen (DropActive v k) g w h = here k (dropped (s.member k) v) (fewer (s.member k) (dropped (s.member k) v) (λ os a. (without_cases (s.member k).engine.active v t os a).1) refl refl) h
  member_seen (DropVoted v k) g w h = here k (with_log (dropped (s.member k) v) (with_waiting (s.member k).log (log.Abort v))) (fewer (s.member k) (with_log (dropped (s.member k) v) (with_waiting (s.member k).log (log.Abort v))) (λ os a. (without_cases (s.member k).engine.active v t os a).1) refl refl) h
  member_seen (Install v k) g w h =
      let found = holds_found (s.member k).engine.voted v g.0 in
      here k (install_state (s.member k) v)
      (λ q. subst (λ b. (os : List Operation) → look b.active t ≡ Some os → (τ : ℕ) × Good os τ × (τ ≤ length b.installed) × (holds (with_number (s.member k).committed v) u ≡ true → since b.installed τ u ≡ true))
      (ap (install_vote (s.member k).engine v) (sym found.1))
      (installed (s.member k) (install_vote (s.member k).engine v (Some found.0)) v (record { txn = v; writes = found.0.sets.writes }) refl (λ os a. a) q)) h
  member_seen (CommitLocally v k) g w h =
      subst (λ z. SeenAt Good t u (with_at z k (local_state (s.member k) v (count_at (told_of s v) k)) m)) (same (look s.sessions v))
      (here k (local_state (s.member k) v (count_at (told_of s v) k))
      (λ q. subst (λ b. (os : List Operation) → look b.active t ≡ Some os → (τ : ℕ) × Good os τ × (τ ≤ length b.installed) × (holds (with_number (s.member k).committed v) u ≡ true → since b.installed τ u ≡ true))
      (ap (install_vote (after_cast (s.member k).engine v local_coord (counted (count_at (told_of s v) k))) v) (sym (put_here (s.member k).engine.voted v vote)))
      (installed (s.member k) (install_vote (after_cast (s.member k).engine v local_coord (counted (count_at (told_of s v) k))) v (Some vote)) v (record { txn = v; writes = vote.sets.writes }) refl
      (λ os a. (without_cases (s.member k).engine.active v t os a).1) q)) h)
    where
      vote : Vote
      vote = record { coord = local_coord; count = counted (count_at (told_of s v) k); sets = sets_of (operations_of (s.member k).engine v) }

      same : (z : Option Session) → s.member ≡ (marked_over s v z).member
      same None = refl
      same (Some session) = refl
  member_seen (CrashMember k) g w h = here k (member_down (s.member k) (s.member k).log) (λ q os a. is_nothing (sym (look_none t) ∙ a)) h
  member_seen (MarkAsked v k c n) g w h = here k (with_mark (s.member k) v c n) (alike (s.member k) (with_mark (s.member k) v c n) refl refl refl) h
  member_seen (RestartMember k) g w h = here k (restarted (s.member k)) (alike (s.member k) (restarted (s.member k)) refl refl refl) h
  member_seen (ArmMember k stop) g w h = here k (with_log (s.member k) (with_stop (s.member k).log stop)) (alike (s.member k) (with_log (s.member k) (with_stop (s.member k).log stop)) refl refl refl) h
  member_seen (CloseMemberSpare k closed) g w h = here k (with_log (s.member k) (with_spare (s.member k).log closed)) (alike (s.member k) (with_log (s.member k) (with_spare (s.member k).log closed)) refl refl refl) h
  member_seen (FillMemberSpare k) g w h = here k (with_log (s.member k) (with_filled_spare (s.member k).log (member_spare k (s.member k) (next_generation (generation_of (s.member k).log.stable))))) (alike (s.member k) (with_log (s.member k) (with_filled_spare (s.member k).log (member_spare k (s.member k) (next_generation (generation_of (s.member k).log.stable))))) refl refl refl) h
  member_seen (RecordYes v c k) g w h = subst (λ o. SeenAt Good t u ((record_yes s v c k o).member m)) (sym g.2) h
  member_seen (RecordAck v c k) g w h = subst (λ o. SeenAt Good t u ((record_ack s v c k o).member m)) (sym g.2) h
  member_seen (AskEnd v) g w h = by (look s.sessions v)
    where
      by : (z : Option Session) → SeenAt Good t u ((marked_over s v z).member m)
      by None = h
      by (Some session) = h
  member_seen (Begin v c) g w h = h
  member_seen (Collect v c) g w h = h
  member_seen (Decide v c) g w h = h
  member_seen (Leave v c) g w h = h
  member_seen (End v c) g w h = h
  member_seen (CrashCoord c) g w h = h
  member_seen (RestartCoord c) g w h = h
  member_seen (ArmCoord c stop) g w h = h
  member_seen (CloseCoordSpare c closed) g w h = h
  member_seen (FillCoordSpare c) g w h = h
  member_seen (BeginLocal v k) g w h = h
  member_seen (Send note) g w h = h

  pub act_seen : (a : Act) → act_guard s a → Seen Good t u m s → Seen Good t u m (after_act s a)
  act_seen (Moves move) g q =
      let w = q.worked in
      let c = (move_onward s f move g).counts t m in
      record { worked = omega (arith, w, c); seen = member_seen move g q.worked q.seen }
  act_seen Disarms g q = record { worked = q.worked; seen = alike (s.member m) ((disarmed s).member m) refl refl refl q.seen }

-- where nothing is stale, an install after the stamp of a read wrote no key of it
keys_lack : (is : List Installed) (span : Span) (key : List ℕ) (τ u : ℕ) (ws : List Written) → span_has span key ≡ true → filter (span_has span) (keys_since is τ) ≡ [] → since is τ u ≡ true →
    Each (λ i. i.txn ≡ u → i.writes ≡ ws) is → writes_key ws key ≡ false
keys_lack [] span key τ u ws h e q each = absurd (let z : false ≡ true = q in cc)
keys_lack (i ∷ is) span key τ u ws h e q each = by (keys_lack is span key τ u ws h) (nat_le τ (length is)) refl
  where
    by : (filter (span_has span) (keys_since is τ) ≡ [] → since is τ u ≡ true → Each (λ i. i.txn ≡ u → i.writes ≡ ws) is → writes_key ws key ≡ false) → (b : Bool) → nat_le τ (length is) ≡ b → writes_key ws key ≡ false
    by rest false k = absurd (let z : false ≡ true = sym (ap (λ b. if b then (i.txn == u) || since is τ u else false) k) ∙ q in cc)
    by rest true k = now (or_cases (i.txn == u) (since is τ u) (sym (ap (λ b. if b then (i.txn == u) || since is τ u else false) k) ∙ q))
      where
        parts : (filter (span_has span) (map (λ w. w.key) i.writes) ≡ []) × (filter (span_has span) (keys_since is τ) ≡ [])
        parts =
            both_empty _ _ (sym (filter-append' (span_has span) (map (λ w. w.key) i.writes) (keys_since is τ))
            ∙ sym (ap (λ b. filter (span_has span) (if b then map (λ w. w.key) i.writes ++ keys_since is τ else [])) k) ∙ e)

        now : ((i.txn == u) ≡ true) ⊎ (since is τ u ≡ true) → writes_key ws key ≡ false
        now (inl m) = ap (λ z. writes_key z key) (sym (each.0 (eqb-true i.txn u m))) ∙ out_of_range span i.writes key parts.0 h
        now (inr m) = rest parts.1 m each.1

pub fresh_lacks : (is : List Installed) (os : List Operation) (key : List ℕ) (τ u : ℕ) (ws : List Written) → stale_keys is os ≡ [] → read_at os key τ ≡ true → since is τ u ≡ true →
    Each (λ i. i.txn ≡ u → i.writes ≡ ws) is → writes_key ws key ≡ false
fresh_lacks is [] key τ u ws e r q each = absurd (let z : false ≡ true = r in cc)
fresh_lacks is (o ∷ os) key τ u ws e r q each = by (λ a b. fresh_lacks is os key τ u ws a b q each) (or_cases _ _ r)
  where
    parts : (overwritten (span_read o.op) (keys_since is o.stamp) ≡ []) × (stale_keys is os ≡ [])
    parts = both_empty _ _ e

    this : (span : Option Span) → overwritten span (keys_since is o.stamp) ≡ [] → (reads_op span key && (o.stamp == τ)) ≡ true → writes_key ws key ≡ false
    this None p k = absurd (let z : false ≡ true = k in cc)
    this (Some span) p k =
        let h = and_parts (span_has span key) (o.stamp == τ) k in
        keys_lack is span key o.stamp u ws h.0 p (ap (λ n. since is n u) (eqb-true o.stamp τ h.1) ∙ q) each

    by : (stale_keys is os ≡ [] → read_at os key τ ≡ true → writes_key ws key ≡ false) → ((reads_op (span_read o.op) key && (o.stamp == τ)) ≡ true) ⊎ (read_at os key τ ≡ true) → writes_key ws key ≡ false
    by rest (inl k) = this (span_read o.op) parts.0 k
    by rest (inr k) = rest parts.1 k
