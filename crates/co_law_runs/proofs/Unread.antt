-- A voted transaction's read is not overwritten: who installed after what it saw wrote no key of the read.
use Rattle.std.proofs.Common.{◌≡◌, ◌≢◌, ◌⊎◌, inl, inr, ℕ, Bool, true, false, ◌≤◌, ◌==◌, List, Option, None, Some, refl, sym, ap, ◌∙◌, subst}
use Rattle.std.specs.Option.{is_some}
use Rattle.std.proofs.lemmas.Bool.{or_cases, or_left, or_right, eqb-true, eqb-false}
use Rattle.co_base.specs.declared.written.Written.{Written}
use Rattle.co_serial.specs.SerialRun.{with_at}
use Rattle.co_state.specs.declared.engine_state.Vote.{Vote}
use Rattle.co_state.specs.Table.{look, put, without, holds}
use Rattle.co_state.specs.Keys.{reads_key, writes_key, reads_meet}
use Rattle.co_state.specs.Changes.{sets_of, changes_of}
use Rattle.co_state.specs.EngineState.{operations_of}
use Rattle.co_state.specs.Effects.{with_operation, after_cast, install_vote}
use Rattle.co_plain.specs.declared.member_state.MemberState.{MemberState}
use Rattle.co_plain.specs.declared.session.Session.{Session}
use Rattle.co_plain.specs.Numbers.{counted}
use Rattle.co_plain.specs.LocalCommit.{local_coord}
use Rattle.co_plain.specs.MemberStep.{with_engine, member_down}
use Rattle.co_plain.specs.Sessions.{told_at, count_at}
use Rattle.co_plain.specs.Federation.{Federation}
use Rattle.co_plain.specs.Step.{disarmed}
use Rattle.co_plain.specs.Decisions.{told_of}
use Rattle.co_plain.specs.Invariants.{Memory, Stable, view, told_changes}
use Rattle.co_plain.specs.Moves.{Move, Operate, MarkAsked, Cast, DropActive, DropVoted, Install, CommitLocally, CrashMember, RestartMember, ArmMember, CloseMemberSpare, FillMemberSpare, Begin, Collect, RecordYes, Decide, Leave, RecordAck, End, CrashCoord, RestartCoord, ArmCoord, CloseCoordSpare, FillCoordSpare, BeginLocal, AskEnd, Send, Guard, effect, entered_reply, marked_over, record_yes, record_ack, cast_state, install_state, local_state}
use Rattle.co_record.specs.declared.record.Record.TheVariants as log
use Rattle.co_plain.specs.LogWrite.{with_filled_spare, with_spare, with_stop, with_waiting, generation_of}
use Rattle.co_plain.specs.Numbers.{next_generation}
use Rattle.co_plain.specs.MemberLog.{member_spare}
use Rattle.co_plain.specs.Member.{with_mark}
use Rattle.co_plain.specs.Moves.{restarted}
use Rattle.co_plain.specs.MemberStep.{with_log, dropped}
use Rattle.co_law_engine.proofs.YesTells.{SaysYes, yes_parts, yes_apart, no_keys}
use Rattle.co_law_engine.proofs.SetsMade.{unread}
use Rattle.co_law_base.proofs.Lookups.{put_here, holds_found}
use Rattle.co_law_base.proofs.Commits.{holds_cases}
use Rattle.co_law_base.proofs.ViewRules.{three_parts}
use Rattle.co_law_base.proofs.ViewMoves.{each_map}
use Rattle.co_law_base.proofs.TwoViews.{stable_to_memory, committed_both}
use Rattle.co_law_base.proofs.Facts.{rest_of, over, Facts}
use Rattle.co_law_base.proofs.Carrying.{LivesOn, at_each}
use Rattle.co_law_base.proofs.VoteMoves.{active_found}
use Rattle.co_law_moves.proofs.MoveOnward.{move_onward}
use Rattle.co_law_moves.proofs.Onward.{disarm_onward, lives_back, holds_put_off, holds_without_off, holds_without_here, back_without}
use Rattle.co_law_runs.proofs.Acts.{Act, Moves, Disarms, after_act, act_guard}
use Rattle.co_law_runs.proofs.ToldOn.{ToldOn, act_told, reads_told, writes_told}
use Rattle.co_law_runs.proofs.Installs.{InstallsTold, act_installs, kept_changes, over_begun, local_told}
use Rattle.co_law_runs.proofs.Seen.{SeenAt, Seen, act_seen, read_at, read_grows, fresh_lacks}

pub record Unread (t u m : ℕ) (key : List ℕ) (s : Federation) : Type 0 where
  pub seen : Seen (λ os τ. read_at os key τ ≡ true) t u m s
  pub read : reads_told s t m key ≡ true
  pub installs : InstallsTold s
  pub unused_t : holds s.used t ≡ false
  pub unused_u : holds s.used u ≡ false
  pub voted : LivesOn (rest_of s) t → holds (s.member m).engine.voted t ≡ true → holds (s.member m).committed u ≡ true → writes_told s u m key ≡ false

module _ (t u : ℕ) (key : List ℕ) (s z : Federation) (told : ToldOn s z) (f : Facts s) (d : InstallsTold s) (unused_t : holds s.used t ≡ false) (unused_u : holds s.used u ≡ false) where
  -- what is said of member j as it was, and of a state of it
  abbrev Old : ℕ → Type 0
  Old j = LivesOn (rest_of s) t → holds (s.member j).engine.voted t ≡ true → holds (s.member j).committed u ≡ true → writes_told s u j key ≡ false

  abbrev New : ℕ → MemberState → Type 0
  New j y = LivesOn (rest_of s) t → holds y.engine.voted t ≡ true → holds y.committed u ≡ true → (told_of z u ≡ told_of s u) × (writes_told s u j key ≡ false)

  abbrev Goes : ℕ → MemberState → Type 0
  Goes j y = SeenAt (λ os τ. read_at os key τ ≡ true) t u (s.member j) → reads_told s t j key ≡ true → Old j → New j y

  old_new : (j : ℕ) → Goes j (s.member j)
  old_new j e r o = λ l v c. (told.same u (((f.members j).views Memory).over u (or_right _ _ c)), o l v c)

  at_member : (k : ℕ) (x : MemberState) → Goes k x → (m : ℕ) → Goes m (with_at s.member k x m)
  at_member k x h m = at_each (λ j y. Goes j y) s.member k x h old_new m

  -- no more voted, and the same commits
  fewer : (k : ℕ) (x : MemberState) → (holds x.engine.voted t ≡ true → holds (s.member k).engine.voted t ≡ true) → x.committed ≡ (s.member k).committed → Goes k x
  fewer k x back e q r o = λ l v c. old_new k q r o l (back v) (sym (ap (λ n. holds n u) e) ∙ c)

  -- a change that a voted read does not meet
  unmet : (k : ℕ) (a : Vote) (ws : List Written) → look (s.member k).engine.voted t ≡ Some a → reads_meet a.sets.reads ws ≡ false → ws ≡ told_changes (told_at (told_of s u) k) → reads_told s t k key ≡ true → writes_told s u k key ≡ false
  unmet k a ws e apart same r = ap (λ z. writes_key z key) (sym same) ∙ by (writes_key ws key) refl
    where
      begun : holds s.sessions t ≡ true
      begun = over_begun s t (((f.members k).views Memory).over t (or_left _ _ (ap is_some e))) unused_t

      reads : reads_key a.sets.reads key ≡ true
      reads = ap (λ z. reads_key z key) (((f.members k).views Memory).replay t a begun e).reads ∙ r

      by : (b : Bool) → writes_key ws key ≡ b → writes_key ws key ≡ false
      by false h = h
      by true h = absurd (let z : true ≡ false = sym reads ∙ unread a.sets.reads ws key apart h in cc)

  cast_goes : (v k c n : ℕ) → Guard s (Cast v k c n) → (y : MemberState) → y.engine ≡ after_cast (s.member k).engine v c n → y.committed ≡ (s.member k).committed → Goes k y
  cast_goes v k c n g y e same q r o = λ l w c'. by (v == t) refl l w (sym (ap (λ z. holds z u) same) ∙ c')
    where
      by : (b : Bool) → (v == t) ≡ b → LivesOn (rest_of s) t → holds y.engine.voted t ≡ true → holds (s.member k).committed u ≡ true → (told_of z u ≡ told_of s u) × (writes_told s u k key ≡ false)
      by false i l w cu = old_new k q r o l (sym (ap (λ z. holds z.voted t) e ∙ holds_put_off (s.member k).engine.voted v _ t (eqb-false v t i)) ∙ w) cu
      by true i l w cu =
          let yes' = yes_parts (s.member k).engine v n g.1 in
          let found : look (s.member k).engine.active v ≡ Some (operations_of (s.member k).engine v) =
          active_found (s.member k).engine v (subst (λ j. 1 ≤ j) (sym yes'.count) (f.sent.prepares_count v c k n g.0).1) in
          let p = q (operations_of (s.member k).engine v) (sym (ap (look (s.member k).engine.active) (eqb-true v t i)) ∙ found) in (
            told.same u (((f.members k).views Memory).over u (or_right _ _ cu)),
            fresh_lacks (s.member k).engine.installed (operations_of (s.member k).engine v) key p.0 u (told_changes (told_at (told_of s u) k)) (no_keys _ yes'.fresh) p.1 (p.3 cu)
                (each_map _ (λ j. j.txn ≡ u → j.writes ≡ told_changes (told_at (told_of s u) k)) (s.member k).engine.installed
                (λ j a x. a.1 (ap (holds s.used) x ∙ unused_u) ∙ ap (λ w. told_changes (told_at (told_of s w) k)) x) (d k)),
          )

  install_goes : (v k : ℕ) → Guard s (Install v k) → Goes k (install_state (s.member k) v)
  install_goes v k g q r o = λ l w c. by l (subst (λ z. holds (install_vote (s.member k).engine v z).voted t ≡ true) found.1 w) (holds_cases (s.member k).committed v u c)
    where
      found : (vote : Vote) × (look (s.member k).engine.voted v ≡ Some vote)
      found = holds_found (s.member k).engine.voted v g.0

      by : LivesOn (rest_of s) t → holds (without (s.member k).engine.voted v) t ≡ true → (v ≡ u) ⊎ (holds (s.member k).committed u ≡ true) → (told_of z u ≡ told_of s u) × (writes_told s u k key ≡ false)
      by l w (inr c) = old_new k q r o l (back_without (s.member k).engine.voted v t w) c
      by l w (inl e) = (
        told.same u (subst (λ j. over (rest_of s) j ≡ true) e over_v),
        unmet k a.0 found.0.sets.writes a.1 apart (writes ∙ ap (λ j. told_changes (told_at (told_of s j) k)) e) r,
      )
        where
          v_t : v ≢ t
          v_t i = let z : false ≡ true = sym (ap (holds (without (s.member k).engine.voted v)) (sym i) ∙ holds_without_here (s.member k).engine.voted v) ∙ w in cc

          a : (vote : Vote) × (look (s.member k).engine.voted t ≡ Some vote)
          a = holds_found (s.member k).engine.voted t (back_without (s.member k).engine.voted v t w)

          over_v : over (rest_of s) v ≡ true
          over_v = ((f.members k).views Memory).over v (or_left _ _ g.0)

          writes : found.0.sets.writes ≡ told_changes (told_at (told_of s v) k)
          writes = (((f.members k).views Memory).replay v found.0 (over_begun s v over_v (ap (holds s.used) e ∙ unused_u)) found.1).writes

          apart : reads_meet a.0.sets.reads found.0.sets.writes ≡ false
          apart = (three_parts _ _ _ (((f.members k).views Memory).free t v a.0 found.0 (λ i. v_t (sym i)) a.1 found.1)).0

  local_goes : (v k : ℕ) → Guard s (CommitLocally v k) → told_of z v ≡ told_of s v → Goes k (local_state (s.member k) v (count_at (told_of s v) k))
  local_goes v k g told_v q r o = λ l w c. by l (subst (λ z. holds (install_vote (after_cast (s.member k).engine v local_coord (counted (count_at (told_of s v) k))) v z).voted t ≡ true) (put_here (s.member k).engine.voted v vote) w) (holds_cases (s.member k).committed v u c)
    where
      vote : Vote
      vote = record { coord = local_coord; count = counted (count_at (told_of s v) k); sets = sets_of (operations_of (s.member k).engine v) }

      yes' : SaysYes (s.member k).engine v (count_at (told_of s v) k)
      yes' = yes_parts (s.member k).engine v (count_at (told_of s v) k) g.3

      by : LivesOn (rest_of s) t → holds (without (put (s.member k).engine.voted v vote) v) t ≡ true → (v ≡ u) ⊎ (holds (s.member k).committed u ≡ true) → (told_of z u ≡ told_of s u) × (writes_told s u k key ≡ false)
      by l w e = now (v == t) refl
        where
          now : (b : Bool) → (v == t) ≡ b → (told_of z u ≡ told_of s u) × (writes_told s u k key ≡ false)
          now true i = absurd (let z : false ≡ true = sym (ap (holds (without (put (s.member k).engine.voted v vote) v)) (sym (eqb-true v t i)) ∙ holds_without_here (put (s.member k).engine.voted v vote) v) ∙ w in cc)
          now false i = last e
            where
              v_t : v ≢ t
              v_t = eqb-false v t i

              stands' : holds (s.member k).engine.voted t ≡ true
              stands' = sym (holds_without_off (put (s.member k).engine.voted v vote) v t v_t ∙ holds_put_off (s.member k).engine.voted v vote t v_t) ∙ w

              a : (x : Vote) × (look (s.member k).engine.voted t ≡ Some x)
              a = holds_found (s.member k).engine.voted t stands'

              found : look (s.member k).engine.active v ≡ Some (operations_of (s.member k).engine v)
              found = active_found (s.member k).engine v (subst (λ j. 1 ≤ j) (sym yes'.count) g.2)

              writes : changes_of (operations_of (s.member k).engine v) ≡ told_changes (told_at (told_of s v) k)
              writes = kept_changes (s.member k).engine (operations_of (s.member k).engine v) (told_at (told_of s v) k) ((f.members k).active v (operations_of (s.member k).engine v) found).kept

              apart : reads_meet a.0.sets.reads (changes_of (operations_of (s.member k).engine v)) ≡ false
              apart = (three_parts _ _ _ (yes_apart (s.member k).engine v (count_at (told_of s v) k) t a.0 yes' v_t a.1)).0

              last : (v ≡ u) ⊎ (holds (s.member k).committed u ≡ true) → (told_of z u ≡ told_of s u) × (writes_told s u k key ≡ false)
              last (inr c) = old_new k q r o l stands' c
              last (inl e) = (
                subst (λ j. told_of z j ≡ told_of s j) e told_v,
                unmet k a.0 (changes_of (operations_of (s.member k).engine v)) a.1 apart (writes ∙ ap (λ j. told_changes (told_at (told_of s j) k)) e) r,
              )

  crash_goes : (k : ℕ) → Goes k (member_down (s.member k) (s.member k).log)
  crash_goes k q r o = λ l w c. now l w (ap (λ n. holds n u) (committed_both (rest_of s) k (s.member k) (f.members k)) ∙ c)
    where
      now : LivesOn (rest_of s) t → holds (view Stable (s.member k)).voted t ≡ true → holds (s.member k).committed u ≡ true → (told_of z u ≡ told_of s u) × (writes_told s u k key ≡ false)
      now l w c = by (or_cases _ _ (stable_to_memory (rest_of s) k (s.member k) (f.members k) t l (or_left _ _ w)))
        where
          by : (holds (s.member k).engine.voted t ≡ true) ⊎ (holds (s.member k).committed t ≡ true) → (told_of z u ≡ told_of s u) × (writes_told s u k key ≡ false)
          by (inl v) = old_new k q r o l v c
          by (inr v) =
              let stable : holds (view Stable (s.member k)).committed t ≡ true = sym (ap (λ n. holds n t) (committed_both (rest_of s) k (s.member k) (f.members k))) ∙ v in
              absurd (let y : true ≡ false = sym w ∙ ((f.members k).views Stable).apart t stable in cc)

  moved : (m : ℕ) → SeenAt (λ os τ. read_at os key τ ≡ true) t u (s.member m) → reads_told s t m key ≡ true → Old m → (move : Move) → Guard s move → z ≡ effect s move → New m ((effect s move).member m)
  moved m q r o (Operate v k x) g e =
      subst (λ y. New m (with_at y k (with_engine (s.member k) (with_operation (s.member k).engine v x)) m)) (same (look s.sessions v)) (at_member k (with_engine (s.member k) (with_operation (s.member k).engine v x)) (fewer k (with_engine (s.member k) (with_operation (s.member k).engine v x)) (λ h. h) refl) m q r o)
    where
      same : (y : Option Session) → s.member ≡ (entered_reply s v k x y).member
      same None = refl
      same (Some session) = refl
  moved m q r o (Cast v k c n) g e = at_member k (cast_state (s.member k) v c n) (cast_goes v k c n g (cast_state (s.member k) v c n) refl refl) m q r o
  moved m q r o (DropActive v k) g e = at_member k (dropped (s.member k) v) (fewer k (dropped (s.member k) v) (λ h. back_without (s.member k).engine.voted v t h) refl) m q r o
  moved m q r o (DropVoted v k) g e = at_member k (with_log (dropped (s.member k) v) (with_waiting (s.member k).log (log.Abort v))) (fewer k (with_log (dropped (s.member k) v) (with_waiting (s.member k).log (log.Abort v))) (λ h. back_without (s.member k).engine.voted v t h) refl) m q r o
  moved m q r o (Install v k) g e = at_member k (install_state (s.member k) v) (install_goes v k g) m q r o
  moved m q r o (CommitLocally v k) g e =
      subst (λ y. New m (with_at y k (local_state (s.member k) v (count_at (told_of s v) k)) m)) (same (look s.sessions v))
      (at_member k (local_state (s.member k) v (count_at (told_of s v) k)) (local_goes v k g (ap (λ y. told_of y v) e ∙ local_told s f v k g)) m q r o)
    where
      same : (y : Option Session) → s.member ≡ (marked_over s v y).member
      same None = refl
      same (Some session) = refl
  moved m q r o (CrashMember k) g e = at_member k (member_down (s.member k) (s.member k).log) (crash_goes k) m q r o
  moved m q r o (MarkAsked v k c n) g e = at_member k (with_mark (s.member k) v c n) (fewer k (with_mark (s.member k) v c n) (λ h. h) refl) m q r o
  moved m q r o (RestartMember k) g e = at_member k (restarted (s.member k)) (fewer k (restarted (s.member k)) (λ h. h) refl) m q r o
  moved m q r o (ArmMember k stop) g e = at_member k (with_log (s.member k) (with_stop (s.member k).log stop)) (fewer k (with_log (s.member k) (with_stop (s.member k).log stop)) (λ h. h) refl) m q r o
  moved m q r o (CloseMemberSpare k closed) g e = at_member k (with_log (s.member k) (with_spare (s.member k).log closed)) (fewer k (with_log (s.member k) (with_spare (s.member k).log closed)) (λ h. h) refl) m q r o
  moved m q r o (FillMemberSpare k) g e = at_member k (with_log (s.member k) (with_filled_spare (s.member k).log (member_spare k (s.member k) (next_generation (generation_of (s.member k).log.stable))))) (fewer k (with_log (s.member k) (with_filled_spare (s.member k).log (member_spare k (s.member k) (next_generation (generation_of (s.member k).log.stable))))) (λ h. h) refl) m q r o
  moved m q r o (RecordYes v c k) g e = subst (λ y. New m ((record_yes s v c k y).member m)) (sym g.2) (old_new m q r o)
  moved m q r o (RecordAck v c k) g e = subst (λ y. New m ((record_ack s v c k y).member m)) (sym g.2) (old_new m q r o)
  moved m q r o (AskEnd v) g e = by (look s.sessions v)
    where
      by : (y : Option Session) → New m ((marked_over s v y).member m)
      by None = old_new m q r o
      by (Some session) = old_new m q r o
  moved m q r o (Begin v c) g e = old_new m q r o
  moved m q r o (Collect v c) g e = old_new m q r o
  moved m q r o (Decide v c) g e = old_new m q r o
  moved m q r o (Leave v c) g e = old_new m q r o
  moved m q r o (End v c) g e = old_new m q r o
  moved m q r o (CrashCoord c) g e = old_new m q r o
  moved m q r o (RestartCoord c) g e = old_new m q r o
  moved m q r o (ArmCoord c stop) g e = old_new m q r o
  moved m q r o (CloseCoordSpare c closed) g e = old_new m q r o
  moved m q r o (FillCoordSpare c) g e = old_new m q r o
  moved m q r o (BeginLocal v k) g e = old_new m q r o
  moved m q r o (Send note) g e = old_new m q r o

pub act_unread : (t u m : ℕ) (key : List ℕ) (s : Federation) → Facts s → (a : Act) → act_guard s a → Unread t u m key s → Unread t u m key (after_act s a)
act_unread t u m key s f (Moves move) g q =
    record {
      seen = act_seen (λ os τ. read_at os key τ ≡ true) t u m s f (read_grows key (s.member m).engine) (Moves move) g q.seen;
      read = told.reads t m key q.read;
      installs = act_installs s f (Moves move) g q.installs;
      unused_t = told.used t ∙ q.unused_t;
      unused_u = told.used u ∙ q.unused_u;
      voted = λ l v c.
          let p = moved t u key s (effect s move) told f q.installs q.unused_t q.unused_u m q.seen.seen q.read q.voted move g refl (lives_back s (effect s move) (move_onward s f move g) t l) v c in
          ap (λ k. writes_key (told_changes (told_at k m)) key) p.0 ∙ p.1;
    }
  where
    told : ToldOn s (effect s move)
    told = act_told s f (Moves move) g
act_unread t u m key s f Disarms g q =
    record {
      seen = act_seen (λ os τ. read_at os key τ ≡ true) t u m s f (read_grows key (s.member m).engine) Disarms g q.seen;
      read = q.read;
      installs = act_installs s f Disarms g q.installs;
      unused_t = q.unused_t;
      unused_u = q.unused_u;
      voted = λ l v c. q.voted (lives_back s (disarmed s) (disarm_onward s) t l) v c;
    }
