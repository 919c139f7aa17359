-- What was told stays told: reads and writes of a session go over, and a session that is over stays as it is.
use Rattle.std.proofs.Common.{◌≡◌, ℕ, Bool, true, false, ◌||◌, ◌==◌, if◌then◌else◌, List, ◌∷◌, Option, None, Some, refl, sym, ap, ◌∙◌, subst}
use Rattle.std.proofs.lemmas.Bool.{or_right, or_from, or_parts, eqb-true, eqb-false}
use Rattle.co_base.specs.declared.node.Node.TheVariants as node
use Rattle.co_base.specs.declared.op.Op.{Op}
use Rattle.co_base.specs.declared.written.Written.{Written}
use Rattle.co_state.specs.Table.{look, put, holds}
use Rattle.co_state.specs.Keys.{same_key, reads_key, writes_key}
use Rattle.co_state.specs.Changes.{span_read, change_made, with_written}
use Rattle.co_state.specs.ReadRule.{operation_reply}
use Rattle.co_plain.specs.declared.session.Session.{Session}
use Rattle.co_plain.specs.declared.session.Told.{Told}
use Rattle.co_plain.specs.Sessions.{told_at, with_told, asked_to_end, begun_by}
use Rattle.co_plain.specs.Federation.{Federation}
use Rattle.co_plain.specs.Step.{is_used, disarmed}
use Rattle.co_plain.specs.Decisions.{told_of, told_in, asked_in}
use Rattle.co_plain.specs.Invariants.{told_spans, told_changes}
use Rattle.co_plain.specs.Moves.{Move, Operate, MarkAsked, Cast, DropActive, DropVoted, Install, CommitLocally, CrashMember, RestartMember, ArmMember, CloseMemberSpare, FillMemberSpare, Begin, Collect, RecordYes, Decide, Leave, RecordAck, End, CrashCoord, RestartCoord, ArmCoord, CloseCoordSpare, FillCoordSpare, BeginLocal, AskEnd, Send, Guard, effect, entered_reply, marked_over, record_yes, record_ack, session_by_member, may_operate_at}
use Rattle.co_law_engine.proofs.SetsMade.{writes-put}
use Rattle.co_law_base.proofs.ToldRuns.{reads_rest}
use Rattle.co_law_base.proofs.Lookups.{put_here, put_there, found_holds}
use Rattle.co_law_base.proofs.Facts.{rest_of, over, Facts}
use Rattle.co_law_base.proofs.Carrying.{over_seen}
use Rattle.co_law_base.proofs.LogMoves.{not_held}
use Rattle.co_law_runs.proofs.Acts.{Act, Moves, Disarms, after_act, act_guard}

abbrev pub reads_told : Federation → ℕ → ℕ → List ℕ → Bool
reads_told s t m key = reads_key (told_spans (told_at (told_of s t) m)) key

abbrev pub writes_told : Federation → ℕ → ℕ → List ℕ → Bool
writes_told s t m key = writes_key (told_changes (told_at (told_of s t) m)) key

pub record ToldOn (s z : Federation) : Type 0 where
  pub reads : (t m : ℕ) (key : List ℕ) → reads_told s t m key ≡ true → reads_told z t m key ≡ true
  pub writes : (t m : ℕ) (key : List ℕ) → writes_told s t m key ≡ true → writes_told z t m key ≡ true
  pub over_on : (t : ℕ) → over (rest_of s) t ≡ true → over (rest_of z) t ≡ true
  pub same : (t : ℕ) → over (rest_of s) t ≡ true → told_of z t ≡ told_of s t
  pub used : (t : ℕ) → holds z.used t ≡ holds s.used t

pub told_same : (s : Federation) → ToldOn s s
told_same s = record { reads = λ t m key h. h; writes = λ t m key h. h; over_on = λ t h. h; same = λ t h. refl; used = λ t. refl }

pub told_on : (s z w : Federation) → ToldOn s z → ToldOn z w → ToldOn s w
told_on s z w a b =
    record {
      reads = λ t m key h. b.reads t m key (a.reads t m key h);
      writes = λ t m key h. b.writes t m key (a.writes t m key h);
      over_on = λ t h. b.over_on t (a.over_on t h);
      same = λ t h. b.same t (a.over_on t h) ∙ a.same t h;
      used = λ t. b.used t ∙ a.used t;
    }

-- one more told operation
pub reads_kept : (o : Told) (os : List Told) (m : ℕ) (key : List ℕ) → reads_key (told_spans (told_at os m)) key ≡ true → reads_key (told_spans (told_at (o ∷ os) m)) key ≡ true
reads_kept o os m key h = by (o.site.member == m)
  where
    by : (b : Bool) → reads_key (told_spans (if b then o ∷ told_at os m else told_at os m)) key ≡ true
    by true = reads_rest (span_read o.site.op) (told_spans (told_at os m)) key h
    by false = h

written_rest : (c : Option Written) (ws : List Written) (key : List ℕ) → writes_key ws key ≡ true → writes_key (with_written c ws) key ≡ true
written_rest None ws key h = h
written_rest (Some c) ws key h = writes-put c ws key ∙ or_right (same_key c.key key) (writes_key ws key) h

pub writes_kept : (o : Told) (os : List Told) (m : ℕ) (key : List ℕ) → writes_key (told_changes (told_at os m)) key ≡ true → writes_key (told_changes (told_at (o ∷ os) m)) key ≡ true
writes_kept o os m key h = by (o.site.member == m)
  where
    by : (b : Bool) → writes_key (told_changes (if b then o ∷ told_at os m else told_at os m)) key ≡ true
    by true = written_rest (change_made o.site.op) (told_changes (told_at os m)) key h
    by false = h

module _ (s : Federation) (f : Facts s) where
  -- another session in place of one, that is over or tells more
  session_told : (t : ℕ) (new : Session) → ((m : ℕ) (key : List ℕ) → reads_told s t m key ≡ true → reads_key (told_spans (told_at new.told m)) key ≡ true) →
      ((m : ℕ) (key : List ℕ) → writes_told s t m key ≡ true → writes_key (told_changes (told_at new.told m)) key ≡ true) →
      (over (rest_of s) t ≡ true → (new.told ≡ told_of s t) × ((new.asked || holds s.used t) ≡ true)) → (z : Federation) → z.sessions ≡ put s.sessions t new → z.used ≡ s.used → ToldOn s z
  session_told t new reads writes old z e u =
      record {
        reads = λ v m key h. subst (λ n. reads_key (told_spans (told_at (told_in (look n v)) m)) key ≡ true) (sym e) (read v m key (t == v) refl h);
        writes = λ v m key h. subst (λ n. writes_key (told_changes (told_at (told_in (look n v)) m)) key ≡ true) (sym e) (write v m key (t == v) refl h);
        over_on = λ v h. subst (λ n. (asked_in (look n v) || holds z.used v) ≡ true) (sym e) (subst (λ n. (asked_in (look (put s.sessions t new) v) || holds n v) ≡ true) (sym u) (on v (t == v) refl h));
        same = λ v h. subst (λ n. told_in (look n v) ≡ told_of s v) (sym e) (like v (t == v) refl h);
        used = λ v. ap (λ n. holds n v) u;
      }
    where
      here : (v : ℕ) → (t == v) ≡ true → look (put s.sessions t new) v ≡ Some new
      here v k = ap (look (put s.sessions t new)) (sym (eqb-true t v k)) ∙ put_here s.sessions t new

      there : (v : ℕ) → (t == v) ≡ false → look (put s.sessions t new) v ≡ look s.sessions v
      there v k = put_there s.sessions t new v (eqb-false t v k)

      read : (v m : ℕ) (key : List ℕ) (b : Bool) → (t == v) ≡ b → reads_told s v m key ≡ true → reads_key (told_spans (told_at (told_in (look (put s.sessions t new) v)) m)) key ≡ true
      read v m key true k h = ap (λ o. reads_key (told_spans (told_at (told_in o) m)) key) (here v k) ∙ reads m key (ap (λ j. reads_told s j m key) (eqb-true t v k) ∙ h)
      read v m key false k h = ap (λ o. reads_key (told_spans (told_at (told_in o) m)) key) (there v k) ∙ h

      write : (v m : ℕ) (key : List ℕ) (b : Bool) → (t == v) ≡ b → writes_told s v m key ≡ true → writes_key (told_changes (told_at (told_in (look (put s.sessions t new) v)) m)) key ≡ true
      write v m key true k h = ap (λ o. writes_key (told_changes (told_at (told_in o) m)) key) (here v k) ∙ writes m key (ap (λ j. writes_told s j m key) (eqb-true t v k) ∙ h)
      write v m key false k h = ap (λ o. writes_key (told_changes (told_at (told_in o) m)) key) (there v k) ∙ h

      on : (v : ℕ) (b : Bool) → (t == v) ≡ b → over (rest_of s) v ≡ true → (asked_in (look (put s.sessions t new) v) || holds s.used v) ≡ true
      on v true k h =
          ap (λ o. asked_in o || holds s.used v) (here v k) ∙ ap (λ j. new.asked || holds s.used j) (sym (eqb-true t v k)) ∙ (old (ap (over (rest_of s)) (eqb-true t v k) ∙ h)).1
      on v false k h = ap (λ o. asked_in o || holds s.used v) (there v k) ∙ h

      like : (v : ℕ) (b : Bool) → (t == v) ≡ b → over (rest_of s) v ≡ true → told_in (look (put s.sessions t new) v) ≡ told_of s v
      like v true k h = ap told_in (here v k) ∙ (old (ap (over (rest_of s)) (eqb-true t v k) ∙ h)).0 ∙ ap (told_of s) (eqb-true t v k)
      like v false k h = ap told_in (there v k)

  unchanged : (z : Federation) → z.sessions ≡ s.sessions → z.used ≡ s.used → ToldOn s z
  unchanged z e u =
      record {
        reads = λ v m key h. subst (λ n. reads_key (told_spans (told_at (told_in (look n v)) m)) key ≡ true) (sym e) h;
        writes = λ v m key h. subst (λ n. writes_key (told_changes (told_at (told_in (look n v)) m)) key ≡ true) (sym e) h;
        over_on = λ v h. subst (λ n. (asked_in (look n v) || holds z.used v) ≡ true) (sym e) (subst (λ n. (asked_in (look s.sessions v) || holds n v) ≡ true) (sym u) h);
        same = λ v h. ap (λ n. told_in (look n v)) e;
        used = λ v. ap (λ n. holds n v) u;
      }

  asked' : (t : ℕ) (session : Session) → look s.sessions t ≡ Some session → (z : Federation) → z.sessions ≡ put s.sessions t (asked_to_end session) → z.used ≡ s.used → ToldOn s z
  asked' t session e =
      session_told t (asked_to_end session) (λ m key h. ap (λ o. reads_key (told_spans (told_at (told_in o) m)) key) (sym e) ∙ h) (λ m key h. ap (λ o. writes_key (told_changes (told_at (told_in o) m)) key) (sym e) ∙ h)
      (λ h. (sym (ap told_in e), refl))

  fresh : (t : ℕ) (new : Session) → is_used s t ≡ false → (z : Federation) → z.sessions ≡ put s.sessions t new → z.used ≡ s.used → ToldOn s z
  fresh t new g =
      session_told t new (λ m key h. absurd (let z : false ≡ true = ap (λ o. reads_key (told_spans (told_at (told_in o) m)) key) (sym none) ∙ h in cc)) (λ m key h. absurd (let z : false ≡ true = ap (λ o. writes_key (told_changes (told_at (told_in o) m)) key) (sym none) ∙ h in cc))
      (λ h. absurd (let z : true ≡ false = sym (over_seen (rest_of s) t h) ∙ g in cc))
    where
      none : look s.sessions t ≡ None
      none = not_held s.sessions t (or_parts (holds s.sessions t) (holds s.used t) g).0

  operated : (t m : ℕ) (o : Op) → Guard s (Operate t m o) → ToldOn s (effect s (Operate t m o))
  operated t m o g = by (look s.sessions t) refl g.0
    where
      by : (z : Option Session) → look s.sessions t ≡ z → may_operate_at z m → ToldOn s (effect s (Operate t m o))
      by None e h = absurd h
      by (Some session) e h =
          session_told t (with_told session told) (λ k key q. reads_kept told session.told k key (ap (λ z. reads_key (told_spans (told_at (told_in z) k)) key) (sym e) ∙ q))
          (λ k key q. writes_kept told session.told k key (ap (λ z. writes_key (told_changes (told_at (told_in z) k)) key) (sym e) ∙ q))
          (λ v. absurd (let z : true ≡ false = sym v ∙ or_from _ _ (ap asked_in e ∙ h.0) (f.numbers.new t (found_holds s.sessions t session e)) in cc))
          (effect s (Operate t m o)) (ap (λ z. (entered_reply s t m o z).sessions) e) (ap (λ z. (entered_reply s t m o z).used) e)
        where
          told : Told
          told = record { site = record { member = m; op = o }; reply = operation_reply (s.member m).engine t o }

  move_told : (move : Move) → Guard s move → ToldOn s (effect s move)
  move_told (Operate t m o) g = operated t m o g
  move_told (Begin t c) g = fresh t (begun_by (node.Coord c)) g (effect s (Begin t c)) refl refl
  move_told (BeginLocal t m) g = fresh t (begun_by (node.Member m)) g (effect s (BeginLocal t m)) refl refl
  move_told (AskEnd t) g = by (look s.sessions t) refl
    where
      by : (o : Option Session) → look s.sessions t ≡ o → ToldOn s (effect s (AskEnd t))
      by None e = unchanged (effect s (AskEnd t)) (ap (λ o. (marked_over s t o).sessions) e) (ap (λ o. (marked_over s t o).used) e)
      by (Some session) e = asked' t session e (effect s (AskEnd t)) (ap (λ o. (marked_over s t o).sessions) e) (ap (λ o. (marked_over s t o).used) e)
  move_told (CommitLocally t m) g = by (look s.sessions t) refl g.0
    where
      by : (o : Option Session) → look s.sessions t ≡ o → session_by_member o m → ToldOn s (effect s (CommitLocally t m))
      by None e h = absurd h
      by (Some session) e h = asked' t session e (effect s (CommitLocally t m)) (ap (λ o. (marked_over s t o).sessions) e) (ap (λ o. (marked_over s t o).used) e)
  move_told (RecordYes t c m) g = unchanged (effect s (RecordYes t c m)) (ap (λ o. (record_yes s t c m o).sessions) g.2) (ap (λ o. (record_yes s t c m o).used) g.2)
  move_told (RecordAck t c m) g = unchanged (effect s (RecordAck t c m)) (ap (λ o. (record_ack s t c m o).sessions) g.2) (ap (λ o. (record_ack s t c m o).used) g.2)
  move_told (MarkAsked t m c n) g = unchanged (effect s (MarkAsked t m c n)) refl refl
  move_told (Cast t m c n) g = unchanged (effect s (Cast t m c n)) refl refl
  move_told (DropActive t m) g = unchanged (effect s (DropActive t m)) refl refl
  move_told (DropVoted t m) g = unchanged (effect s (DropVoted t m)) refl refl
  move_told (Install t m) g = unchanged (effect s (Install t m)) refl refl
  move_told (CrashMember m) g = unchanged (effect s (CrashMember m)) refl refl
  move_told (RestartMember m) g = unchanged (effect s (RestartMember m)) refl refl
  move_told (ArmMember m stop) g = unchanged (effect s (ArmMember m stop)) refl refl
  move_told (CloseMemberSpare m closed) g = unchanged (effect s (CloseMemberSpare m closed)) refl refl
  move_told (FillMemberSpare m) g = unchanged (effect s (FillMemberSpare m)) refl refl
  move_told (Collect t c) g = unchanged (effect s (Collect t c)) refl refl
  move_told (Decide t c) g = unchanged (effect s (Decide t c)) refl refl
  move_told (Leave t c) g = unchanged (effect s (Leave t c)) refl refl
  move_told (End t c) g = unchanged (effect s (End t c)) refl refl
  move_told (CrashCoord c) g = unchanged (effect s (CrashCoord c)) refl refl
  move_told (RestartCoord c) g = unchanged (effect s (RestartCoord c)) refl refl
  move_told (ArmCoord c stop) g = unchanged (effect s (ArmCoord c stop)) refl refl
  move_told (CloseCoordSpare c closed) g = unchanged (effect s (CloseCoordSpare c closed)) refl refl
  move_told (FillCoordSpare c) g = unchanged (effect s (FillCoordSpare c)) refl refl
  move_told (Send note) g = unchanged (effect s (Send note)) refl refl

pub act_told : (s : Federation) → Facts s → (a : Act) → act_guard s a → ToldOn s (after_act s a)
act_told s f (Moves move) g = move_told s f move g
act_told s f Disarms g = unchanged s f (disarmed s) refl refl
