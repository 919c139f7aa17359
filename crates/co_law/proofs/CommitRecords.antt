-- Each commit record of a coordinator names those that took part at its decision, or stood in the opened file.
use Rattle.std.proofs.Common.{◌≡◌, ◌≢◌, ◌⊎◌, inl, inr, ℕ, true, false, List, [], ◌∷◌, ◌++◌, Option, None, Some, refl, sym, ap, ◌∙◌, subst}
use Rattle.std.specs.FinMap.{entries, entries_sorted, get-entries}
use Rattle.co_base.specs.declared.head.Kind.{Kind}
use Rattle.co_base.specs.declared.node.Node.{Node}
use Rattle.co_base.specs.declared.node.Node.TheVariants as node
use Rattle.co_record.specs.declared.record.Record.{Record}
use Rattle.co_record.specs.declared.record.Record.TheVariants as log
use Rattle.co_serial.specs.SerialRun.{with_at}
use Rattle.co_state.specs.Table.{look, holds}
use Rattle.co_plain.specs.declared.coord_state.CoordState.{CoordState}
use Rattle.co_plain.specs.declared.coord_state.Entry.{Entry}
use Rattle.co_plain.specs.declared.coord_state.Entry.TheVariants as entry
use Rattle.co_plain.specs.declared.happening.Happening.{Happening}
use Rattle.co_plain.specs.declared.session.Decided.{Decided}
use Rattle.co_plain.specs.declared.session.Session.{Session}
use Rattle.co_plain.specs.Numbers.{next_generation}
use Rattle.co_plain.specs.LogWrite.{generation_of}
use Rattle.co_plain.specs.CoordLog.{commit_onto, commits_onto}
use Rattle.co_plain.specs.CoordStep.{members_of}
use Rattle.co_plain.specs.CoordView.{recovered_commits, has_commit_of}
use Rattle.co_plain.specs.Decisions.{is_asked, told_of}
use Rattle.co_plain.specs.Federation.{Federation}
use Rattle.co_plain.specs.Invariants.{ends_only}
use Rattle.co_plain.specs.CoordInvariants.{IsOneOf, TookPartIn}
use Rattle.co_plain.specs.Moves.{Move, Operate, MarkAsked, Cast, DropActive, DropVoted, Install, CommitLocally, CrashMember, RestartMember, ArmMember, CloseMemberSpare, FillMemberSpare, Begin, Collect, RecordYes, Decide, Leave, RecordAck, End, CrashCoord, RestartCoord, ArmCoord, CloseCoordSpare, FillCoordSpare, BeginLocal, AskEnd, Send, Guard, effect, entered_reply, marked_over, record_yes, record_ack, decide_entry, decide_members}
use Rattle.co_plain.specs.Opening.{Found, made, opened}
use Rattle.co_plain.specs.Premises.{IsTrueVerdict}
use Rattle.co_plain.specs.Step.{step}
use Rattle.co_plain.specs.Sessions.{parts_of}
use Rattle.co_plain.specs.SoundLogs.{unended_in}
use Rattle.co_law_base.proofs.Carrying.{at_each}
use Rattle.co_law_base.proofs.Commits.{commit_cases, holds_more, holds_new, unended_some}
use Rattle.co_law_base.proofs.Facts.{Each, Facts}
use Rattle.co_law_base.proofs.ImageRules.{EachEntry, each_entry}
use Rattle.co_law_base.proofs.Lookups.{is_nothing, look_none, without_cases}
use Rattle.co_law_moves.proofs.ByMoves.{step_leaves}
use Rattle.co_law.proofs.MovesGrow.{effect_grows}

abbrev pub CommitRecords : Federation → Type 0
CommitRecords s =
    (c t : ℕ) (members : List ℕ) → IsOneOf (log.Commit t members) (s.coord c).log.stable → TookPartIn s.decided t members ⊎ IsOneOf (log.Commit t members) (s.opened_coord c)

abbrev commit_txn : Record → ℕ
commit_txn (log.Commit t members) = t
commit_txn _ = 0

abbrev pub commit_members : Record → List ℕ
commit_members (log.Commit t members) = members
commit_members _ = []

-- a commit without end is a record
pub unended_one : (rs : List Record) (t : ℕ) (ms : List ℕ) → unended_in rs t ≡ Some ms → IsOneOf (log.Commit t ms) rs
unended_one [] t ms h = is_nothing (sym (look_none t) ∙ h)
unended_one (log.Header a b ∷ rs) t ms h = inr (unended_one rs t ms h)
unended_one (log.Prepare a b c d e ∷ rs) t ms h = inr (unended_one rs t ms h)
unended_one (log.Abort a ∷ rs) t ms h = inr (unended_one rs t ms h)
unended_one (log.Checkpoint a b c ∷ rs) t ms h = inr (unended_one rs t ms h)
unended_one (log.End u ∷ rs) t ms h = inr (unended_one rs t ms (without_cases (recovered_commits rs).unended u t ms h).1)
unended_one (log.Commit u ns ∷ rs) t ms h = by (unended_one rs t ms) (commit_cases rs u ns t ms h)
  where
    by : (unended_in rs t ≡ Some ms → IsOneOf (log.Commit t ms) rs) → ((u ≡ t) × (ns ≡ ms) × (ns ≢ [])) ⊎ (unended_in rs t ≡ Some ms) → IsOneOf (log.Commit t ms) (log.Commit u ns ∷ rs)
    by rest (inl p) = inl (λ i. log.Commit (p.0 i) (p.1 i))
    by rest (inr k) = inr (rest k)

-- and a record's number is among those that were seen
seen_on : (r : Record) (rs : List Record) (t : ℕ) → has_commit_of rs t ≡ true → has_commit_of (r ∷ rs) t ≡ true
seen_on (log.Header a b) rs t h = h
seen_on (log.Prepare a b c d e) rs t h = h
seen_on (log.Abort a) rs t h = h
seen_on (log.Checkpoint a b c) rs t h = h
seen_on (log.End u) rs t h = h
seen_on (log.Commit u ns) rs t h = holds_more (recovered_commits rs).seen u t h

pub one_seen : (rs : List Record) (t : ℕ) (ms : List ℕ) → IsOneOf (log.Commit t ms) rs → has_commit_of rs t ≡ true
one_seen [] t ms h = absurd h
one_seen (r ∷ rs) t ms (inl q) = ap (λ k. has_commit_of (k ∷ rs) t) q ∙ holds_new (recovered_commits rs).seen t
one_seen (r ∷ rs) t ms (inr h) = seen_on r rs t (one_seen rs t ms h)

-- waiting ends are no commits
ends_one : (waiting stable : List Record) (t : ℕ) (ms : List ℕ) → ends_only waiting ≡ true → IsOneOf (log.Commit t ms) (waiting ++ stable) → IsOneOf (log.Commit t ms) stable
ends_one [] stable t ms e h = h
ends_one (log.End u ∷ rs) stable t ms e (inl q) = absurd (let z : log.End u ≡ log.Commit t ms = q in cc)
ends_one (log.End u ∷ rs) stable t ms e (inr h) = ends_one rs stable t ms e h
ends_one (log.Header a b ∷ rs) stable t ms e h = absurd (let z : false ≡ true = e in cc)
ends_one (log.Prepare a b c d f ∷ rs) stable t ms e h = absurd (let z : false ≡ true = e in cc)
ends_one (log.Commit a b ∷ rs) stable t ms e h = absurd (let z : false ≡ true = e in cc)
ends_one (log.Abort a ∷ rs) stable t ms e h = absurd (let z : false ≡ true = e in cc)
ends_one (log.Checkpoint a b c ∷ rs) stable t ms e h = absurd (let z : false ≡ true = e in cc)

-- those that a filled spare tells again
spare_one : (P : ℕ → Entry → Type 0) (es : List (ℕ × Entry)) (rs : List Record) (t : ℕ) (ms : List ℕ) → EachEntry P es → IsOneOf (log.Commit t ms) (commits_onto rs es) →
    IsOneOf (log.Commit t ms) rs ⊎ ((acks : List ℕ) × P t (entry.Committed ms acks))
spare_one P [] rs t ms h f = inl f
spare_one P (e ∷ es) rs t ms h f = by e.1 h.0 (spare_one P es (commit_onto rs e.0 e.1) t ms h.1 f)
  where
    by : (x : Entry) → P e.0 x → IsOneOf (log.Commit t ms) (commit_onto rs e.0 x) ⊎ ((acks : List ℕ) × P t (entry.Committed ms acks)) → IsOneOf (log.Commit t ms) rs ⊎ ((acks : List ℕ) × P t (entry.Committed ms acks))
    by x p (inr q) = inr q
    by entry.Idle p (inl g) = inl g
    by (entry.Collecting parts yeses) p (inl g) = inl g
    by (entry.Committed ns acks) p (inl g) = now g
      where
        now : IsOneOf (log.Commit t ms) (log.Commit e.0 ns ∷ rs) → IsOneOf (log.Commit t ms) rs ⊎ ((acks : List ℕ) × P t (entry.Committed ms acks))
        now (inl q) = inr (acks, subst (λ r. P (commit_txn r) (entry.Committed (commit_members r) acks)) q p)
        now (inr k) = inl k

made_one : (owner : Node) (rs : List Record) (t : ℕ) (ms : List ℕ) → IsOneOf (log.Commit t ms) (made owner rs) → IsOneOf (log.Commit t ms) rs
made_one owner [] t ms (inl q) = absurd (let z : log.Header owner 1 ≡ log.Commit t ms = q in cc)
made_one owner [] t ms (inr h) = absurd h
made_one owner (r ∷ rs) t ms h = h

pub start_records : (kinds : List Kind) (coords : ℕ) (fm fc : ℕ → Found) → CommitRecords (opened kinds coords fm fc)
start_records kinds coords fm fc c t ms h = inr (made_one (node.Coord c) (fc c).records t ms h)

-- So a commit without end of a transaction of this run names the participants of its session.
took_told : (s : Federation) (t : ℕ) (members : List ℕ) → members ≢ [] → (ds : List Decided) → Each (λ d. (d.told ≡ []) ⊎ ((told_of s d.txn ≡ d.told) × (is_asked s d.txn ≡ true))) ds →
    TookPartIn ds t members → members ≡ members_of (parts_of (told_of s t))
took_told s t members some [] e x = absurd x
took_told s t members some (d ∷ ds) e (inr x) = took_told s t members some ds e.1 x
took_told s t members some (d ∷ ds) e (inl x) = by e.0
  where
    by : (d.told ≡ []) ⊎ ((told_of s d.txn ≡ d.told) × (is_asked s d.txn ≡ true)) → members ≡ members_of (parts_of (told_of s t))
    by (inl n) = absurd (some (x.1 ∙ ap (λ os. members_of (parts_of os)) n))
    by (inr k) = x.1 ∙ ap (λ os. members_of (parts_of os)) (sym k.0 ∙ ap (told_of s) x.0)

pub session_parts : (s : Federation) → Facts s → CommitRecords s → (c t : ℕ) (members : List ℕ) → unended_in (s.coord c).log.stable t ≡ Some members → holds s.sessions t ≡ true →
    members ≡ members_of (parts_of (told_of s t))
session_parts s f p c t members e begun = by (p c t members (unended_one (s.coord c).log.stable t members e))
  where
    by : TookPartIn s.decided t members ⊎ IsOneOf (log.Commit t members) (s.opened_coord c) → members ≡ members_of (parts_of (told_of s t))
    by (inl x) = took_told s t members (unended_some (s.coord c).log.stable t members e) s.decided f.numbers.kept x
    by (inr o) = absurd (let z : true ≡ false = sym (f.numbers.commit_used c t (one_seen (s.opened_coord c) t members o)) ∙ f.numbers.new t begun in cc)

module _ (s : Federation) (f : Facts s) (p : CommitRecords s) where
  -- a record that stands after a change, beside the decisions after it
  abbrev IsTold : List Decided → ℕ → ℕ → List ℕ → Type 0
  IsTold decided c t ms = TookPartIn decided t ms ⊎ IsOneOf (log.Commit t ms) (s.opened_coord c)

  onto : (decided : List Decided) (c t : ℕ) (ms : List ℕ) → (TookPartIn s.decided t ms → TookPartIn decided t ms) → IsTold s.decided c t ms → IsTold decided c t ms
  onto decided c t ms more (inl k) = inl (more k)
  onto decided c t ms more (inr k) = inr k

  -- the opened logs stay
  stays : (move : Move) → ((c t : ℕ) (ms : List ℕ) → IsOneOf (log.Commit t ms) ((effect s move).coord c).log.stable → IsTold (effect s move).decided c t ms) → CommitRecords (effect s move)
  stays move told c t ms h = by (told c t ms h)
    where
      by : IsTold (effect s move).decided c t ms → TookPartIn (effect s move).decided t ms ⊎ IsOneOf (log.Commit t ms) ((effect s move).opened_coord c)
      by (inl k) = inl k
      by (inr k) = inr (subst (λ o. IsOneOf (log.Commit t ms) (o c)) (sym (effect_grows s move).coords) k)

  -- the coordinators' records stay as they are
  same : (move : Move) → ((t : ℕ) (ms : List ℕ) → TookPartIn s.decided t ms → TookPartIn (effect s move).decided t ms) →
      ((c : ℕ) → ((effect s move).coord c).log.stable ≡ (s.coord c).log.stable) → CommitRecords (effect s move)
  same move more e = stays move (λ c t ms h. onto (effect s move).decided c t ms (more t ms) (p c t ms (subst (IsOneOf (log.Commit t ms)) (e c) h)))

  kept : (move : Move) → (effect s move).decided ≡ s.decided → ((c : ℕ) → ((effect s move).coord c).log.stable ≡ (s.coord c).log.stable) → CommitRecords (effect s move)
  kept move d = same move (λ t ms k. subst (λ ds. TookPartIn ds t ms) (sym d) k)

  at_one : (c : ℕ) (y : CoordState) → y.log.stable ≡ (s.coord c).log.stable → (d : ℕ) → (with_at s.coord c y d).log.stable ≡ (s.coord d).log.stable
  at_one c y e = at_each (λ d x. x.log.stable ≡ (s.coord d).log.stable) s.coord c y e (λ d. refl)

  -- a decision
  decided : (t c : ℕ) (ms : List ℕ) → ms ≡ members_of (parts_of (told_of s t)) → (d u : ℕ) (ns : List ℕ) → IsOneOf (log.Commit u ns) (with_at s.coord c (decide_members (s.coord c) t ms) d).log.stable →
      IsTold (record { txn = t; told = told_of s t } ∷ s.decided) d u ns
  decided t c ms named =
      at_each (λ d x. (u : ℕ) (ns : List ℕ) → IsOneOf (log.Commit u ns) x.log.stable → IsTold (record { txn = t; told = told_of s t } ∷ s.decided) d u ns) s.coord c (decide_members (s.coord c) t ms)
      here (λ d u ns h. later d u ns h)
    where
      later : (d u : ℕ) (ns : List ℕ) → IsOneOf (log.Commit u ns) (s.coord d).log.stable → IsTold (record { txn = t; told = told_of s t } ∷ s.decided) d u ns
      later d u ns h = onto (record { txn = t; told = told_of s t } ∷ s.decided) d u ns (λ k. inr k) (p d u ns h)

      here : (u : ℕ) (ns : List ℕ) → IsOneOf (log.Commit u ns) (log.Commit t ms ∷ ((s.coord c).log.waiting ++ (s.coord c).log.stable)) → IsTold (record { txn = t; told = told_of s t } ∷ s.decided) c u ns
      here u ns (inl q) = inl (inl (ap commit_txn q, sym (ap commit_members q) ∙ named))
      here u ns (inr k) = later c u ns (ends_one (s.coord c).log.waiting (s.coord c).log.stable u ns (f.coords c).ends k)

  decides : (t c : ℕ) → Guard s (Decide t c) → CommitRecords (effect s (Decide t c))
  decides t c (inl h) =
      stays (Decide t c)
      (λ d u ns e. decided t c [] (sym (ap members_of h.1)) d u ns (subst (λ o. IsOneOf (log.Commit u ns) (with_at s.coord c (decide_entry (s.coord c) t o) d).log.stable) h.0 e))
  decides t c (inr h) =
      stays (Decide t c)
      (λ d u ns e. decided t c (members_of h.0) (ap members_of ((f.coords c).collecting t h.0 h.1 h.3).parts_told) d u ns
      (subst (λ o. IsOneOf (log.Commit u ns) (with_at s.coord c (decide_entry (s.coord c) t o) d).log.stable) h.3 e))

  -- a filled spare tells the commits of the table again
  filled : (c d u : ℕ) (ns : List ℕ) → IsOneOf (log.Commit u ns) ((effect s (FillCoordSpare c)).coord d).log.stable → IsTold s.decided d u ns
  filled c = at_each (λ d x. (u : ℕ) (ns : List ℕ) → IsOneOf (log.Commit u ns) x.log.stable → IsTold s.decided d u ns) s.coord c _ here (λ d u ns h. p d u ns h)
    where
      header : List Record
      header = log.Header (node.Coord c) (next_generation (generation_of (s.coord c).log.stable)) ∷ []

      here : (u : ℕ) (ns : List ℕ) → IsOneOf (log.Commit u ns) (commits_onto (log.Header (node.Coord c) (next_generation (generation_of (s.coord c).log.stable)) ∷ []) (entries (s.coord c).table)) → IsTold s.decided c u ns
      here u ns h =
          by (spare_one (λ t e. look (s.coord c).table t ≡ Some e) (entries (s.coord c).table) header u ns
          (each_entry (λ t e. look (s.coord c).table t ≡ Some e) (entries (s.coord c).table) (entries_sorted (s.coord c).table) (λ t e q. get-entries (s.coord c).table t ∙ q)) h)
        where
          none : IsOneOf (log.Commit u ns) (log.Header (node.Coord c) (next_generation (generation_of (s.coord c).log.stable)) ∷ []) → IsTold s.decided c u ns
          none (inl q) = absurd (let z : log.Header (node.Coord c) (next_generation (generation_of (s.coord c).log.stable)) ≡ log.Commit u ns = q in cc)
          none (inr k) = absurd k

          by : IsOneOf (log.Commit u ns) header ⊎ ((acks : List ℕ) × (look (s.coord c).table u ≡ Some (entry.Committed ns acks))) → IsTold s.decided c u ns
          by (inl k) = none k
          by (inr k) = p c u ns (unended_one (s.coord c).log.stable u ns ((f.coords c).committed u ns k.0 k.1).recorded)

  pub cast_records : (t m c n : ℕ) → CommitRecords (effect s (Cast t m c n))
  cast_records t m c n = kept (Cast t m c n) refl (λ d. refl)

  pub local_records : (t m : ℕ) → CommitRecords (effect s (CommitLocally t m))
  local_records t m = now (look s.sessions t) refl
    where
      now : (x : Option Session) → look s.sessions t ≡ x → CommitRecords (effect s (CommitLocally t m))
      now None e = same (CommitLocally t m) (λ u ms k. inr (subst (λ ds. TookPartIn ds u ms) (sym (ap (λ x. (marked_over s t x).decided) e)) k)) (λ c. ap (λ x. ((marked_over s t x).coord c).log.stable) e)
      now (Some session) e =
          same (CommitLocally t m) (λ u ms k. inr (subst (λ ds. TookPartIn ds u ms) (sym (ap (λ x. (marked_over s t x).decided) e)) k)) (λ c. ap (λ x. ((marked_over s t x).coord c).log.stable) e)

  pub move_records : (move : Move) → Guard s move → CommitRecords (effect s move)
  move_records (Decide t c) h = decides t c h
  move_records (FillCoordSpare c) h = stays (FillCoordSpare c) (filled c)
  move_records (Operate t m o) h = now (look s.sessions t) refl
    where
      now : (x : Option Session) → look s.sessions t ≡ x → CommitRecords (effect s (Operate t m o))
      now None e = kept (Operate t m o) (ap (λ x. (entered_reply s t m o x).decided) e) (λ c. ap (λ x. ((entered_reply s t m o x).coord c).log.stable) e)
      now (Some session) e = kept (Operate t m o) (ap (λ x. (entered_reply s t m o x).decided) e) (λ c. ap (λ x. ((entered_reply s t m o x).coord c).log.stable) e)
  move_records (AskEnd t) h = now (look s.sessions t) refl
    where
      now : (x : Option Session) → look s.sessions t ≡ x → CommitRecords (effect s (AskEnd t))
      now None e = kept (AskEnd t) (ap (λ x. (marked_over s t x).decided) e) (λ c. ap (λ x. ((marked_over s t x).coord c).log.stable) e)
      now (Some session) e = kept (AskEnd t) (ap (λ x. (marked_over s t x).decided) e) (λ c. ap (λ x. ((marked_over s t x).coord c).log.stable) e)
  move_records (CommitLocally t m) h = local_records t m
  move_records (RecordYes t c m) h =
      kept (RecordYes t c m) (ap (λ o. (record_yes s t c m o).decided) h.2) (λ d. ap (λ o. ((record_yes s t c m o).coord d).log.stable) h.2 ∙ at_one c _ refl d)
  move_records (RecordAck t c m) h =
      kept (RecordAck t c m) (ap (λ o. (record_ack s t c m o).decided) h.2) (λ d. ap (λ o. ((record_ack s t c m o).coord d).log.stable) h.2 ∙ at_one c _ refl d)
  move_records (MarkAsked t m c n) h = kept (MarkAsked t m c n) refl (λ d. refl)
  move_records (Cast t m c n) h = cast_records t m c n
  move_records (DropActive t m) h = kept (DropActive t m) refl (λ d. refl)
  move_records (DropVoted t m) h = kept (DropVoted t m) refl (λ d. refl)
  move_records (Install t m) h = kept (Install t m) refl (λ d. refl)
  move_records (CrashMember m) h = kept (CrashMember m) refl (λ d. refl)
  move_records (RestartMember m) h = kept (RestartMember m) refl (λ d. refl)
  move_records (ArmMember m stop) h = kept (ArmMember m stop) refl (λ d. refl)
  move_records (CloseMemberSpare m closed) h = kept (CloseMemberSpare m closed) refl (λ d. refl)
  move_records (FillMemberSpare m) h = kept (FillMemberSpare m) refl (λ d. refl)
  move_records (Begin t c) h = kept (Begin t c) refl (at_one c _ refl)
  move_records (Collect t c) h = kept (Collect t c) refl (at_one c _ refl)
  move_records (Leave t c) h = kept (Leave t c) refl (at_one c _ refl)
  move_records (End t c) h = kept (End t c) refl (at_one c _ refl)
  move_records (CrashCoord c) h = kept (CrashCoord c) refl (at_one c _ refl)
  move_records (RestartCoord c) h = kept (RestartCoord c) refl (at_one c _ refl)
  move_records (ArmCoord c stop) h = kept (ArmCoord c stop) refl (at_one c _ refl)
  move_records (CloseCoordSpare c closed) h = kept (CloseCoordSpare c closed) refl (at_one c _ refl)
  move_records (BeginLocal t m) h = kept (BeginLocal t m) refl (λ d. refl)
  move_records (Send note) h = kept (Send note) refl (λ d. refl)

pub step_records : (s : Federation) → Facts s → (h : Happening) → IsTrueVerdict s h → CommitRecords s → CommitRecords (step s h).state
step_records =
    step_leaves (λ s z. CommitRecords s → CommitRecords z) (λ s p. p) (λ s z w a b p. b (a p)) (λ s f move g p. move_records s f p move g)
    (λ s f p c t members h. p c t members h)
