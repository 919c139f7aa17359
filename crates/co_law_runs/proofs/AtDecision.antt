-- What a list of guarded acts leaves, and the state before a decision.
use Rattle.std.proofs.Common.{◌≡◌, ◌≢◌, ◌⊎◌, inl, inr, ℕ, true, false, ◌≤◌, ◌==◌, ◌+◌, if◌then◌else◌, Bool, List, [], ◌∷◌, ◌++◌, length, Option, None, Some, refl, sym, ap, ◌∙◌, subst, arith}
use Rattle.std.specs.Option.{is_some}
use Rattle.std.proofs.lemmas.Bool.{or_cases, or_left, or_right, eqb-true, eqb-false, eq-eqb, false_from_ne_true}
use Rattle.co_base.specs.declared.head.Kind.{Kind}
use Rattle.co_base.specs.declared.head.Kind.TheVariants.{Mv}
use Rattle.co_base.specs.declared.node.Node.{Node}
use Rattle.co_base.specs.declared.node.Node.TheVariants as node
use Rattle.co_base.specs.declared.op.Op.{Op}
use Rattle.co_base.specs.declared.written.Written.{Written}
use Rattle.co_base.specs.Span.{Span, span_has}
use Rattle.co_state.specs.declared.engine_state.EngineState.{EngineState}
use Rattle.co_state.specs.declared.engine_state.Operation.{Operation}
use Rattle.co_state.specs.declared.engine_state.Vote.{Vote}
use Rattle.co_state.specs.Table.{look, holds}
use Rattle.co_state.specs.Keys.{same_key, reads_key, writes_key, reads_meet, writes_meet}
use Rattle.co_state.specs.Changes.{span_read, change_made, with_span, with_written, spans_of, sets_of}
use Rattle.co_state.specs.VotingRule.{voted_holds}
use Rattle.co_state.specs.EngineState.{operations_of, operations_in}
use Rattle.co_state.specs.ReadRule.{snapshot_of, stamp_after, operation_reply}
use Rattle.co_state.specs.Effects.{with_operation}
use Rattle.co_plain.specs.declared.coord_state.Entry.TheVariants as entry
use Rattle.co_plain.specs.declared.session.Session.{Session}
use Rattle.co_plain.specs.declared.session.Told.{Told}
use Rattle.co_message.specs.declared.message.Message.TheVariants as message
use Rattle.co_plain.specs.Numbers.{has_number}
use Rattle.co_plain.specs.CoordStep.{has_part, members_of}
use Rattle.co_plain.specs.MemberStep.{with_engine}
use Rattle.co_plain.specs.Opening.{kind_of}
use Rattle.co_plain.specs.Sessions.{told_at, count_at, with_told}
use Rattle.co_plain.specs.Wire.{was_sent}
use Rattle.co_plain.specs.Federation.{Federation, with_member}
use Rattle.co_plain.specs.CommitmentOrder.{Committed}
use Rattle.co_plain.specs.Decisions.{told_of, told_in, asked_in, is_decided}
use Rattle.co_plain.specs.Invariants.{Memory, view, stands, told_spans, told_changes, KeptAsTold, StampsIn}
use Rattle.co_plain.specs.Moves.{Move, Operate, Decide, CommitLocally, Guard, effect, entered_reply, marked_over, may_operate_at, session_by_member, local_state}
use Rattle.co_law_engine.proofs.SetsMade.{unread, unwritten, reads-put, writes-put}
use Rattle.co_law_base.proofs.Lookups.{put_here, holds_found, found_holds}
use Rattle.co_law_base.proofs.Commits.{lacks_none, holds_new}
use Rattle.co_law_base.proofs.ViewMoves.{each_map}
use Rattle.co_law_base.proofs.ViewRules.{three_parts}
use Rattle.co_law_base.proofs.Facts.{rest_of, Begun, OpenEntry, Facts}
use Rattle.co_law_base.proofs.Carrying.{LivesOn, by_coord_begun, at_here, one_lives}
use Rattle.co_law_base.proofs.VoteMoves.{active_found}
use Rattle.co_law_base.proofs.CoordMoves.{one_yes}
use Rattle.co_law_base.proofs.Sending.{told_parts, part_member}
use Rattle.co_law_moves.proofs.MoveOnward.{move_onward}
use Rattle.co_law_moves.proofs.Onward.{Onward, onward_same, onward_on, disarm_onward}
use Rattle.co_law_runs.proofs.Acts.{Act, Moves, Disarms, after_act, act_guard, run_acts, ActsHold, act_keeps, acts_leave, hold_parts}
use Rattle.co_law_runs.proofs.TraceStates.{Traced}
use Rattle.co_law_runs.proofs.ToldOn.{ToldOn, told_same, told_on, act_told, reads_told, writes_told}
use Rattle.co_law_runs.proofs.Installs.{InstallsTold, act_installs, kept_changes}
use Rattle.co_law_runs.proofs.Seen.{Seen, act_seen, SeenAt, since, fresh_lacks}
use Rattle.co_law_runs.proofs.Unread.{Unread, act_unread}
use Rattle.co_law_runs.proofs.KindStays.{SameKinds, act_kinds}
use Rattle.co_law_engine.proofs.YesTells.{in_some, SaysYes, yes_parts, yes_apart, no_keys}
use Rattle.co_law_moves.specs.MoveTraces.{move_trace}
use Rattle.co_law_base.proofs.Operating.{snapshot_in}

-- what an act leaves, over a list of them
pub onward : (acts : List Act) (s : Federation) → Facts s → ActsHold acts s → Onward s (run_acts acts s)
onward = acts_leave Onward onward_same onward_on (λ s f a g. by s f a g)
  where
    by : (s : Federation) → Facts s → (a : Act) → act_guard s a → Onward s (after_act s a)
    by s f (Moves move) g = move_onward s f move g
    by s f Disarms g = disarm_onward s

pub told : (acts : List Act) (s : Federation) → Facts s → ActsHold acts s → ToldOn s (run_acts acts s)
told = acts_leave ToldOn told_same told_on act_told

pub kinds_stay : (acts : List Act) (s : Federation) → Facts s → ActsHold acts s → SameKinds s (run_acts acts s)
kinds_stay = acts_leave SameKinds (λ s m. refl) (λ s z w p q m. q m ∙ p m) (λ s f a g. act_kinds s a g)

pub installs_stay : (acts : List Act) (s : Federation) → Facts s → ActsHold acts s → InstallsTold s → InstallsTold (run_acts acts s)
installs_stay = acts_leave (λ s z. InstallsTold s → InstallsTold z) (λ s d. d) (λ s z w p q d. q (p d)) (λ s f a g d. act_installs s f a g d)

pub unread_stays : (t u m : ℕ) (key : List ℕ) (acts : List Act) (s : Federation) → Facts s → ActsHold acts s → Unread t u m key s → Unread t u m key (run_acts acts s)
unread_stays t u m key = acts_leave (λ s z. Unread t u m key s → Unread t u m key z) (λ s d. d) (λ s z w p q d. q (p d)) (λ s f a g d. act_unread t u m key s f a g d)

-- the stamp of the newest operation
abbrev pub HeadStamp : List Operation → ℕ → Type 0
HeadStamp [] τ = ⊥
HeadStamp (o ∷ os) τ = o.stamp ≡ τ

pub head_grows : (b : EngineState) → b.kind ≡ Mv → (t τ : ℕ) (o : Op) (os : List Operation) → look b.active t ≡ Some os → HeadStamp os τ → snapshot_of b t ≡ τ
head_grows b k t τ o [] e h = absurd h
head_grows b k t τ o (x ∷ xs) e h = ap (λ z. stamp_after z (length b.installed) (operations_of b t)) k ∙ ap (λ z. stamp_after Mv (length b.installed) (operations_in z)) e ∙ h

pub heads_stay : (t u m : ℕ) (acts : List Act) (s : Federation) → Facts s → ActsHold acts s → (s.member m).engine.kind ≡ Mv → Seen HeadStamp t u m s → Seen HeadStamp t u m (run_acts acts s)
heads_stay t u m [] s f g k q = q
heads_stay t u m (a ∷ acts) s f g k q =
    heads_stay t u m acts (after_act s a) (act_keeps s f a g.0) g.1 (act_kinds s a g.0 m ∙ k) (act_seen HeadStamp t u m s f (head_grows (s.member m).engine k) a g.0 q)

module _ (s : Federation) (f : Facts s) where
  -- an operation is told
  pub told_now : (t m : ℕ) (o : Op) → Guard s (Operate t m o) → (P : List Told → Type 0) → ((session : Session) → look s.sessions t ≡ Some session → P (record { site = record { member = m; op = o }; reply = operation_reply (s.member m).engine t o } ∷ session.told)) →
      P (told_of (effect s (Operate t m o)) t)
  told_now t m o g P h = by (look s.sessions t) refl g.0
    where
      by : (z : Option Session) → look s.sessions t ≡ z → may_operate_at z m → P (told_of (with_member (entered_reply s t m o (look s.sessions t)) m (with_engine (s.member m) (with_operation (s.member m).engine t o))) t)
      by None e k = absurd k
      by (Some session) e k =
          subst (λ z. P (told_of (with_member (entered_reply s t m o z) m (with_engine (s.member m) (with_operation (s.member m).engine t o))) t)) (sym e)
          (subst (λ z. P (told_in z)) (sym (put_here s.sessions t (with_told session (record { site = record { member = m; op = o }; reply = operation_reply (s.member m).engine t o })))) (h session e))

  pub own : (m : ℕ) → (m == m) ≡ true
  own m = eq-eqb m m refl

  pub counts_now : (t m : ℕ) (o : Op) → Guard s (Operate t m o) → 1 ≤ count_at (told_of (effect s (Operate t m o)) t) m
  counts_now t m o g = told_now t m o g (λ ts. 1 ≤ count_at ts m) (λ session e. subst (λ b. 1 ≤ (if b then count_at session.told m + 1 else count_at session.told m)) (sym (own m)) (omega arith))

  pub reads_now : (t m : ℕ) (o : Op) (span : Span) (key : List ℕ) → Guard s (Operate t m o) → span_read o ≡ Some span → span_has span key ≡ true → reads_told (effect s (Operate t m o)) t m key ≡ true
  reads_now t m o span key g e h =
      told_now t m o g (λ ts. reads_key (told_spans (told_at ts m)) key ≡ true) (λ session k.
      subst (λ b. reads_key (told_spans (if b then record { site = record { member = m; op = o }; reply = operation_reply (s.member m).engine t o } ∷ told_at session.told m else told_at session.told m)) key ≡ true) (sym (own m))
      (subst (λ z. reads_key (with_span z (told_spans (told_at session.told m))) key ≡ true) (sym e) (reads-put span (told_spans (told_at session.told m)) key ∙ or_left _ _ h)))

  pub writes_now : (t m : ℕ) (o : Op) (change : Written) (key : List ℕ) → Guard s (Operate t m o) → change_made o ≡ Some change → same_key change.key key ≡ true → writes_told (effect s (Operate t m o)) t m key ≡ true
  writes_now t m o change key g e h =
      told_now t m o g (λ ts. writes_key (told_changes (told_at ts m)) key ≡ true) (λ session k.
      subst (λ b. writes_key (told_changes (if b then record { site = record { member = m; op = o }; reply = operation_reply (s.member m).engine t o } ∷ told_at session.told m else told_at session.told m)) key ≡ true) (sym (own m))
      (subst (λ z. writes_key (with_written z (told_changes (told_at session.told m))) key ≡ true) (sym e) (writes-put change (told_changes (told_at session.told m)) key ∙ or_left _ _ h)))

  -- at its decision a transaction stands where it held operations
  pub decide_stands : (t c n : ℕ) → Guard s (Decide t c) → 1 ≤ count_at (told_of s t) n → stands (view Memory (s.member n)) t ≡ true
  decide_stands t c n (inl p) l = absurd (let q : false ≡ true = ap (λ ps. has_part ps n) (sym p.1) ∙ told_parts (told_of s t) n l in cc)
  decide_stands t c n (inr p) l =
      let here = found_holds (s.coord c).table t (entry.Collecting p.0 p.1) p.3 in
      let x = (f.coords c).collecting t p.0 p.1 p.3 in
      let part : has_number (members_of p.0) n ≡ true = part_member p.0 n ∙ ap (λ ps. has_part ps n) x.parts_told ∙ told_parts (told_of s t) n l in
      let sent : was_sent s.sent (message.Vote t n c true) ≡ true =
      one_yes (λ k. was_sent s.sent (message.Vote t k c true) ≡ true) p.1 p.2 n p.4 (x.yeses_sent n) (lacks_none (members_of p.0) (p.2 ∷ p.1) n p.5 part) in
      f.sent.yeses_stand t n c Memory sent (or_left _ _ here)

  pub opens : (t c : ℕ) → Guard s (Decide t c) → OpenEntry (rest_of s) c (s.coord c).log.stable t
  opens t c (inl p) = (f.coords c).idle t p.0
  opens t c (inr p) = ((f.coords c).collecting t p.0 p.1 p.3).still

  pub in_table : (t c : ℕ) → Guard s (Decide t c) → holds (s.coord c).table t ≡ true
  in_table t c (inl p) = found_holds (s.coord c).table t entry.Idle p.0
  in_table t c (inr p) = found_holds (s.coord c).table t (entry.Collecting p.0 p.1) p.3

  pub begun_there : (t c : ℕ) → Guard s (Decide t c) → holds s.sessions t ≡ true
  begun_there t c g = by_coord_begun (look s.sessions t) c (opens t c g).begun_there

  -- and is voted there
  pub decide_uncommitted : (t c n : ℕ) → Guard s (Decide t c) → holds (s.member n).committed t ≡ false
  decide_uncommitted t c n g = false_from_ne_true _ (λ h. let z : true ≡ false = sym (((f.members n).views Memory).known t h (begun_there t c g)) ∙ (opens t c g).undecided in cc)

  pub decide_voted : (t c n : ℕ) → Guard s (Decide t c) → 1 ≤ count_at (told_of s t) n → holds (s.member n).engine.voted t ≡ true
  decide_voted t c n g l = by (or_cases _ _ (decide_stands t c n g l))
    where
      by : (holds (s.member n).engine.voted t ≡ true) ⊎ (holds (s.member n).committed t ≡ true) → holds (s.member n).engine.voted t ≡ true
      by (inl h) = h
      by (inr h) = absurd (let z : true ≡ false = sym h ∙ decide_uncommitted t c n g in cc)

  -- two voted ones neither wrote one key, nor read what the other wrote
  pub voted_writes : (t u m : ℕ) (key : List ℕ) → t ≢ u → holds s.sessions t ≡ true → holds s.sessions u ≡ true → holds (s.member m).engine.voted t ≡ true → holds (s.member m).engine.voted u ≡ true →
      writes_told s t m key ≡ true → writes_told s u m key ≡ true → ⊥
  voted_writes t u m key n bt bu vt vu wt wu =
      let a = holds_found (s.member m).engine.voted t vt in
      let b = holds_found (s.member m).engine.voted u vu in
      let v = (f.members m).views Memory in
      let apart = (three_parts (reads_meet a.0.sets.reads b.0.sets.writes) (reads_meet b.0.sets.reads a.0.sets.writes) (writes_meet a.0.sets.writes b.0.sets.writes) (v.free t u a.0 b.0 n a.1 b.1)).2 in
      let wa : writes_key a.0.sets.writes key ≡ true = ap (λ z. writes_key z key) (v.replay t a.0 bt a.1).writes ∙ wt in
      let wb : writes_key b.0.sets.writes key ≡ true = ap (λ z. writes_key z key) (v.replay u b.0 bu b.1).writes ∙ wu in
      let z : true ≡ false = sym wa ∙ unwritten a.0.sets.writes b.0.sets.writes key apart wb in cc

  pub voted_reads : (t u m : ℕ) (key : List ℕ) → t ≢ u → holds s.sessions t ≡ true → holds s.sessions u ≡ true → holds (s.member m).engine.voted t ≡ true → holds (s.member m).engine.voted u ≡ true →
      reads_told s t m key ≡ true → writes_told s u m key ≡ true → ⊥
  voted_reads t u m key n bt bu vt vu rt wu =
      let a = holds_found (s.member m).engine.voted t vt in
      let b = holds_found (s.member m).engine.voted u vu in
      let v = (f.members m).views Memory in
      let apart = (three_parts (reads_meet a.0.sets.reads b.0.sets.writes) (reads_meet b.0.sets.reads a.0.sets.writes) (writes_meet a.0.sets.writes b.0.sets.writes) (v.free t u a.0 b.0 n a.1 b.1)).0 in
      let ra : reads_key a.0.sets.reads key ≡ true = ap (λ z. reads_key z key) (v.replay t a.0 bt a.1).reads ∙ rt in
      let wb : writes_key b.0.sets.writes key ≡ true = ap (λ z. writes_key z key) (v.replay u b.0 bu b.1).writes ∙ wu in
      let z : true ≡ false = sym ra ∙ unread a.0.sets.reads b.0.sets.writes key apart wb in cc

-- the move that decides a transaction at its node, and what it tells
abbrev pub decision : Node → ℕ → Move
decision (node.Coord c) t = Decide t c
decision (node.Member m) t = CommitLocally t m

pub decision_tells : (s : Federation) (at : Node) (t : ℕ) → move_trace s (decision at t) ≡ Committed at t ∷ []
decision_tells s (node.Coord c) t = refl
decision_tells s (node.Member m) t = refl

pub decision_decides : (s : Federation) (at : Node) (t : ℕ) → is_decided (effect s (decision at t)).decided t ≡ true
decision_decides s (node.Coord c) t = or_left (t == t) _ (eq-eqb t t refl)
decision_decides s (node.Member m) t = or_left (t == t) _ (eq-eqb t t refl)

-- At its decision a transaction is begun and committed nowhere. No voted one wrote or read against it where it worked, and
-- who is committed there wrote no key of a read of it that did not see them.
pub record Deciding (s : Federation) (t : ℕ) : Type 0 where
  pub begun_now : holds s.sessions t ≡ true
  pub uncommitted : (m : ℕ) → holds (s.member m).committed t ≡ false
  pub writes_apart : (u m : ℕ) (key : List ℕ) → t ≢ u → holds s.sessions u ≡ true → holds (s.member m).engine.voted u ≡ true → 1 ≤ count_at (told_of s t) m →
      writes_told s t m key ≡ true → writes_told s u m key ≡ true → ⊥
  pub reads_apart : (u m : ℕ) (key : List ℕ) → t ≢ u → holds s.sessions u ≡ true → holds (s.member m).engine.voted u ≡ true → 1 ≤ count_at (told_of s t) m →
      reads_told s t m key ≡ true → writes_told s u m key ≡ true → ⊥
  pub unread_by : (u m : ℕ) (key : List ℕ) → Unread t u m key s → holds (s.member m).committed u ≡ true → writes_told s u m key ≡ false

-- what an active transaction read, as it was told
kept_spans : (b : EngineState) (os : List Operation) (told : List Told) → KeptAsTold b os told → spans_of os ≡ told_spans told
kept_spans b [] [] k = refl
kept_spans b [] (t ∷ ts) k = absurd k
kept_spans b (o ∷ os) [] k = absurd k
kept_spans b (o ∷ os) (t ∷ ts) k = let rest = kept_spans b os ts k.2 in λ i. with_span (span_read (k.0 i)) (rest i)

module _ (s : Federation) (f : Facts s) where
  deciding_there : (t c : ℕ) → Guard s (Decide t c) → Deciding s t
  deciding_there t c g =
      record {
        begun_now = begun_there s f t c g;
        uncommitted = λ m. decide_uncommitted s f t c m g;
        writes_apart = λ u m key n b v l. voted_writes s f t u m key n (begun_there s f t c g) b (decide_voted s f t c m g l) v;
        reads_apart = λ u m key n b v l. voted_reads s f t u m key n (begun_there s f t c g) b (decide_voted s f t c m g l) v;
        unread_by = λ u m key q h. q.voted lives (decide_voted s f t c m g q.seen.worked) h;
      }
    where
      lives : LivesOn (rest_of s) t
      lives d b = let o = opens s f t c g in one_lives (rest_of s) f.numbers t c (Begun o.begun_there) (or_left _ _ (in_table s f t c g)) d b

  -- a local transaction is active at its member, which says yes to it
  module _ (t m : ℕ) (g : Guard s (CommitLocally t m)) (session : Session) (here : look s.sessions t ≡ Some session) (by : session.by ≡ node.Member m) where
    yes' : SaysYes (s.member m).engine t (count_at (told_of s t) m)
    yes' = yes_parts (s.member m).engine t (count_at (told_of s t) m) g.3

    active : look (s.member m).engine.active t ≡ Some (operations_of (s.member m).engine t)
    active = active_found (s.member m).engine t (subst (λ j. 1 ≤ j) (sym yes'.count) g.2)

    kept : KeptAsTold (s.member m).engine (operations_of (s.member m).engine t) (told_at (told_of s t) m)
    kept = ((f.members m).active t (operations_of (s.member m).engine t) active).kept

    -- it worked nowhere else
    only : (k : ℕ) → 1 ≤ count_at (told_of s t) k → k ≡ m
    only k l = now (k == m) refl
      where
        now : (b : Bool) → (k == m) ≡ b → k ≡ m
        now true e = eqb-true k m e
        now false e =
            let none : count_at (told_of s t) k ≡ 0 = ap (λ o. count_at (told_in o) k) here ∙ f.numbers.local t m k session here by (eqb-false k m e) in
            let z : 1 ≤ 0 = subst (λ j. 1 ≤ j) none l in
            absurd (omega (arith, z))

    voted_apart : (u : ℕ) (vote : Vote) → t ≢ u → look (s.member m).engine.voted u ≡ Some vote → voted_holds (sets_of (operations_of (s.member m).engine t)) vote.sets ≡ false
    voted_apart u vote n e = yes_apart (s.member m).engine t (count_at (told_of s t) m) u vote yes' n e

    wrote : (u : ℕ) (key : List ℕ) (vote : Vote) → holds s.sessions u ≡ true → look (s.member m).engine.voted u ≡ Some vote → writes_told s u m key ≡ true → writes_key vote.sets.writes key ≡ true
    wrote u key vote b e h = ap (λ z. writes_key z key) ((((f.members m).views Memory).replay u vote b e).writes) ∙ h

    local_writes : (u : ℕ) (key : List ℕ) → t ≢ u → holds s.sessions u ≡ true → holds (s.member m).engine.voted u ≡ true → writes_told s t m key ≡ true → writes_told s u m key ≡ true → ⊥
    local_writes u key n b v wt wu =
        let p = holds_found (s.member m).engine.voted u v in
        let own = sets_of (operations_of (s.member m).engine t) in
        let apart = (three_parts (reads_meet p.0.sets.reads own.writes) (writes_meet p.0.sets.writes own.writes) (reads_meet own.reads p.0.sets.writes) (voted_apart u p.0 n p.1)).1 in
        let mine : writes_key own.writes key ≡ true = ap (λ z. writes_key z key) (kept_changes (s.member m).engine (operations_of (s.member m).engine t) (told_at (told_of s t) m) kept) ∙ wt in
        let z : true ≡ false = sym (wrote u key p.0 b p.1 wu) ∙ unwritten p.0.sets.writes own.writes key apart mine in cc

    local_reads : (u : ℕ) (key : List ℕ) → t ≢ u → holds s.sessions u ≡ true → holds (s.member m).engine.voted u ≡ true → reads_told s t m key ≡ true → writes_told s u m key ≡ true → ⊥
    local_reads u key n b v rt wu =
        let p = holds_found (s.member m).engine.voted u v in
        let own = sets_of (operations_of (s.member m).engine t) in
        let apart = (three_parts (reads_meet p.0.sets.reads own.writes) (writes_meet p.0.sets.writes own.writes) (reads_meet own.reads p.0.sets.writes) (voted_apart u p.0 n p.1)).2 in
        let mine : reads_key own.reads key ≡ true = ap (λ z. reads_key z key) (kept_spans (s.member m).engine (operations_of (s.member m).engine t) (told_at (told_of s t) m) kept) ∙ rt in
        let z : true ≡ false = sym mine ∙ unread own.reads p.0.sets.writes key apart (wrote u key p.0 b p.1 wu) in cc

    local_unread : (u : ℕ) (key : List ℕ) → Unread t u m key s → holds (s.member m).committed u ≡ true → writes_told s u m key ≡ false
    local_unread u key q h =
        let p = q.seen.seen (operations_of (s.member m).engine t) active in
        fresh_lacks (s.member m).engine.installed (operations_of (s.member m).engine t) key p.0 u (told_changes (told_at (told_of s u) m)) (no_keys _ yes'.fresh) p.1 (p.3 h)
        (each_map _ (λ j. j.txn ≡ u → j.writes ≡ told_changes (told_at (told_of s u) m)) (s.member m).engine.installed
        (λ j a x. a.1 (ap (holds s.used) x ∙ q.unused_u) ∙ ap (λ w. told_changes (told_at (told_of s w) m)) x) (q.installs m))

    local_uncommitted : (k : ℕ) → holds (s.member k).committed t ≡ false
    local_uncommitted k =
        false_from_ne_true _ (λ h.
        let decided = ((f.members k).views Memory).known t h (ap is_some here) in
        let z : true ≡ false = sym (f.numbers.local_asked t m session here by decided) ∙ ap asked_in (sym here) ∙ g.1 in cc)

    deciding_here : Deciding s t
    deciding_here =
        record {
          begun_now = ap is_some here;
          uncommitted = local_uncommitted;
          writes_apart = λ u k key n b v l. subst (λ j. holds (s.member j).engine.voted u ≡ true → writes_told s t j key ≡ true → writes_told s u j key ≡ true → ⊥) (sym (only k l)) (local_writes u key n b) v;
          reads_apart = λ u k key n b v l. subst (λ j. holds (s.member j).engine.voted u ≡ true → reads_told s t j key ≡ true → writes_told s u j key ≡ true → ⊥) (sym (only k l)) (local_reads u key n b) v;
          unread_by = λ u k key q. subst (λ j. Unread t u j key s → holds (s.member j).committed u ≡ true → writes_told s u j key ≡ false) (sym (only k q.seen.worked)) (local_unread u key) q;
        }

    local_stands : (k : ℕ) → 1 ≤ count_at (told_of s t) k → stands (view Memory ((effect s (CommitLocally t m)).member k)) t ≡ true
    local_stands k l =
        let x = local_state (s.member m) t (count_at (told_of s t) m) in
        let there : (effect s (CommitLocally t m)).member m ≡ x = at_here (marked_over s t (look s.sessions t)).member m x in
        subst (λ j. stands (view Memory ((effect s (CommitLocally t m)).member j)) t ≡ true) (sym (only k l))
        (ap (λ y. stands (view Memory y) t) there ∙ or_right _ _ (holds_new (s.member m).committed t))

  home_of : (t m : ℕ) → session_by_member (look s.sessions t) m → (session : Session) × (look s.sessions t ≡ Some session) × (session.by ≡ node.Member m)
  home_of t m h = now (look s.sessions t) refl h
    where
      now : (o : Option Session) → look s.sessions t ≡ o → session_by_member o m → (session : Session) × (look s.sessions t ≡ Some session) × (session.by ≡ node.Member m)
      now None e k = absurd k
      now (Some session) e k = (session, e, k)

  pub deciding : (t : ℕ) (at : Node) → Guard s (decision at t) → Deciding s t
  deciding t (node.Coord c) g = deciding_there t c g
  deciding t (node.Member m) g = let p = home_of t m g.0 in deciding_here t m g p.0 p.1 p.2

  -- after it the transaction stands where it worked
  pub decision_stands : (t n : ℕ) (at : Node) → Guard s (decision at t) → 1 ≤ count_at (told_of s t) n → stands (view Memory ((effect s (decision at t)).member n)) t ≡ true
  decision_stands t n (node.Coord c) g l = decide_stands s f t c n g l
  decision_stands t n (node.Member m) g l = let p = home_of t m g.0 in local_stands t m g p.0 p.1 p.2 n l

-- what is between two fronts of guarded acts
pub record Between (acts : List Act) (s : Federation) (front back : List Act) : Type 0 where
  pub before : ActsHold front s
  pub after : ActsHold back (run_acts front s)

pub between : (acts : List Act) (s : Federation) → ActsHold acts s → (front back : List Act) → acts ≡ front ++ back → Between acts s front back
between acts s g front back e = let p = hold_parts front back s (subst (λ k. ActsHold k s) e g) in record { before = p.0; after = p.1 }

-- no trace was told of an opened federation
pub record Fresh (kinds : List Kind) (s : Federation) : Type 0 where
  pub facts : Facts s
  pub traced : Traced [] s
  pub installs : InstallsTold s
  pub kind : (m : ℕ) → (s.member m).engine.kind ≡ kind_of kinds m

-- the member after an operation
pub member_now : (z : Federation) (t m : ℕ) (o : Op) → (effect z (Operate t m o)).member m ≡ with_engine (z.member m) (with_operation (z.member m).engine t o)
member_now z t m o = at_here (entered_reply z t m o (look z.sessions t)).member m (with_engine (z.member m) (with_operation (z.member m).engine t o))

pub stamps_of : (z : Federation) → Facts z → (t m : ℕ) → StampsIn (length (z.member m).engine.installed) (operations_of (z.member m).engine t)
stamps_of z f t m = by (look (z.member m).engine.active t) refl
  where
    by : (o : Option (List Operation)) → look (z.member m).engine.active t ≡ o → StampsIn (length (z.member m).engine.installed) (operations_of (z.member m).engine t)
    by None e = subst (λ k. StampsIn (length (z.member m).engine.installed) (operations_in k)) (sym e) tt
    by (Some os) e = subst (λ k. StampsIn (length (z.member m).engine.installed) (operations_in k)) (sym e) ((f.members m).active t os e).stamps

pub stamp_in : (z : Federation) → Facts z → (t m : ℕ) → snapshot_of (z.member m).engine t ≤ length (z.member m).engine.installed
stamp_in z f t m = snapshot_in (z.member m).engine.kind (length (z.member m).engine.installed) (operations_of (z.member m).engine t) (stamps_of z f t m)

-- what an active transaction has after an operation, by its stamp
pub seen_now : (Good : List Operation → ℕ → Type 0) (z : Federation) → Facts z → (t u m : ℕ) (o : Op) → Guard z (Operate t m o) →
    Good (record { op = o; stamp = snapshot_of (z.member m).engine t } ∷ operations_of (z.member m).engine t) (snapshot_of (z.member m).engine t) →
    (holds (z.member m).committed u ≡ true → since (z.member m).engine.installed (snapshot_of (z.member m).engine t) u ≡ true) → Seen Good t u m (effect z (Operate t m o))
seen_now Good z f t u m o gd good after =
    record {
      worked = counts_now z f t m o gd;
      seen = subst (SeenAt Good t u) (sym (member_now z t m o)) (λ os a.
          let same : record { op = o; stamp = snapshot_of (z.member m).engine t } ∷ operations_of (z.member m).engine t ≡ os = in_some (sym (put_here (z.member m).engine.active t _) ∙ a) in
          (snapshot_of (z.member m).engine t, subst (λ k. Good k (snapshot_of (z.member m).engine t)) same good, stamp_in z f t m, after));
    }
