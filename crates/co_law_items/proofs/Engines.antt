-- Engines whose states name such keys, values and transactions answer and leave such ones.
use Rattle.std.proofs.Common.{◌≡◌, ℕ, Bool, true, false, not, ◌&&◌, ◌==◌, nat_lt, nat_le, if◌then◌else◌, List, [], ◌∷◌, ◌++◌, map, length, Option, None, Some, IfSome, refl}
use Rattle.std.specs.FinMap.{get, entries}
use Rattle.std.specs.List.{AllByRecursion}
use Rattle.std.specs.Ordering.{is_lt}
use Rattle.co_base.specs.Order.{key_cmp}
use Rattle.co_base.specs.RowOrder.{IsInKeyOrder}
use Rattle.co_base.specs.Span.{Span, span_has}
use Rattle.co_base.specs.declared.head.Kind.{Kind}
use Rattle.co_base.specs.declared.head.Kind.TheVariants.{Lock, Occ, Mv}
use Rattle.co_base.specs.declared.op.Op.{Op}
use Rattle.co_base.specs.declared.op.Op.TheVariants.{Read, Write, Erase, Scan}
use Rattle.co_base.specs.declared.reply.Reply.{Reply}
use Rattle.co_base.specs.declared.reply.Reply.TheVariants.{Got, Rows, Done}
use Rattle.co_base.specs.declared.written.Written.{Written}
use Rattle.co_base.specs.Limits.{most_coordinators}
use Rattle.co_schedule.specs.View.{IsWithin, IsTxn}
use Rattle.co_serial.specs.Records.{Records, with_changes}
use Rattle.co_serial.specs.SerialRun.{reply_to}
use Rattle.co_state.specs.Changes.{changes_of, sets_of, span_read}
use Rattle.co_state.specs.Effects.{with_operation, after_cast, after_install, install_vote, after_drop, restored, active_changes, voted_changes, undecided_changes, undo_of, dumped_rows, dumped_undos}
use Rattle.co_state.specs.EngineState.{records_now, records_at, installed_records, operations_in, operations_of}
use Rattle.co_state.specs.Keys.{least_from, least_key}
use Rattle.co_state.specs.LockRule.{active_blocks, writes_block, lock_holder, blocker_by, lock_blocker}
use Rattle.co_state.specs.ReadRule.{snapshot_of, operation_reply}
use Rattle.co_state.specs.StaleRead.{keys_since, overwritten, stale_keys, stale_key}
use Rattle.co_state.specs.Table.{Table, look}
use Rattle.co_state.specs.VotingRule.{active_holds, voted_holds, holder_of, unless_held, unless_stale, kept_count, vote_of}
use Rattle.co_state.specs.declared.engine_state.EngineState.{EngineState}
use Rattle.co_state.specs.declared.engine_state.Install.{Install}
use Rattle.co_state.specs.declared.engine_state.Operation.{Operation}
use Rattle.co_state.specs.declared.engine_state.Sets.{Sets}
use Rattle.co_state.specs.declared.engine_state.Vote.{Vote}
use Rattle.co_state.specs.declared.verdict.Verdict.{Verdict}
use Rattle.co_state.specs.declared.verdict.Verdict.TheVariants.{LostOperations, StaleRead, HeldBy, VoteYes}
use Rattle.co_law_base.proofs.ImageRules.{EachEntry}
use Rattle.co_serial.proofs.RowsInOrder.{rows_ordered}
use Rattle.co_law_items.proofs.Named.{all_append, all_map, all_filter, Holds, holds_nothing, holds_put, holds_without, holds_each, least_numbered, lesser_numbered, IsValue, IsChangeOf, IsRowOf, AreRecordsOf, changes_named, all_rows_named, within_named, joined_named, IsOpOf, AreOperationsOf, changes_of_named, IsVoteOf, AreActiveOf}

module _ (P : List ℕ → Type 0) where
  abbrev pub IsInstallOf : Install → Type 0
  IsInstallOf i = AllByRecursion (IsChangeOf P) i.writes

  -- an engine that names such keys alone
  pub record IsEngineOf (b : EngineState) : Type 0 where
    pub base : AreRecordsOf P b.base
    pub installed : AllByRecursion IsInstallOf b.installed
    pub active : Holds (AreActiveOf P) b.active
    pub voted : Holds (IsVoteOf P) b.voted

  -- ---- what it tells

  now_named : (base : Records) → AreRecordsOf P base → (is : List Install) → AllByRecursion IsInstallOf is → AreRecordsOf P (records_now base is)
  now_named base h [] k = h
  now_named base h (i ∷ is) k = changes_named P i.writes (records_now base is) (now_named base h is k.1) k.0

  at_named : (base : Records) → AreRecordsOf P base → (is : List Install) (count : ℕ) → AllByRecursion IsInstallOf is → AreRecordsOf P (records_at base is count)
  at_named base h [] count k = h
  at_named base h (i ∷ is) count k = by (at_named base h is count k.1) (nat_lt (length is) count)
    where
      by : AreRecordsOf P (records_at base is count) → (c : Bool) → AreRecordsOf P (if c then records_now base (i ∷ is) else records_at base is count)
      by rest true = now_named base h (i ∷ is) k
      by rest false = rest

  -- a reply whose rows are of such keys, in their order
  abbrev pub IsReplyOf : Reply → Type 0
  IsReplyOf (Got value) = IfSome value IsValue
  IsReplyOf (Rows rows) = IsInKeyOrder rows × AllByRecursion (IsRowOf P) rows
  IsReplyOf Done = Unit {0}

  reply_named : (r : Records) → AreRecordsOf P r → (op : Op) → IsReplyOf (reply_to r op)
  reply_named r h (Read key) = by (get r key) refl
    where
      by : (o : Option (List ℕ)) → get r key ≡ o → IfSome o IsValue
      by None e = tt
      by (Some value) e = (h key value e).1
  reply_named r h (Write key value) = tt
  reply_named r h (Erase key) = tt
  reply_named r h (Scan span) = (rows_ordered r span, within_named P r h span)

  -- why a vote is not granted names a key and a transaction that there may be
  abbrev pub IsVerdictOf : Verdict → Type 0
  IsVerdictOf LostOperations = Unit {0}
  IsVerdictOf (StaleRead key) = P key
  IsVerdictOf (HeldBy u) = IsTxn u
  IsVerdictOf VoteYes = Unit {0}

  least_named : (key : List ℕ) (keys : List (List ℕ)) → P key → AllByRecursion P keys → P (least_from key keys)
  least_named key [] p h = p
  least_named key (k ∷ ks) p h = by (least_named k ks h.0 h.1) (least_named key ks p h.1) (is_lt (key_cmp k key))
    where
      by : P (least_from k ks) → P (least_from key ks) → (b : Bool) → P (if b then least_from k ks else least_from key ks)
      by p q true = p
      by p q false = q

  since_named : (is : List Install) (count : ℕ) → AllByRecursion IsInstallOf is → AllByRecursion P (keys_since is count)
  since_named [] count h = tt
  since_named (i ∷ is) count h = by (since_named is count h.1) (nat_le count (length is))
    where
      by : AllByRecursion P (keys_since is count) → (b : Bool) → AllByRecursion P (if b then map (λ w. w.key) i.writes ++ keys_since is count else [])
      by rest true = all_append P (map (λ w. w.key) i.writes) (keys_since is count) (all_map (IsChangeOf P) P (λ w. w.key) (λ w p. p.0) i.writes h.0) rest
      by rest false = tt

  stale_named : (is : List Install) (os : List Operation) → AllByRecursion IsInstallOf is → AllByRecursion P (stale_keys is os)
  stale_named is [] h = tt
  stale_named is (o ∷ os) h = all_append P (overwritten (span_read o.op) (keys_since is o.stamp)) (stale_keys is os) (by (span_read o.op)) (stale_named is os h)
    where
      by : (span : Option Span) → AllByRecursion P (overwritten span (keys_since is o.stamp))
      by None = tt
      by (Some span) = all_filter P (span_has span) (keys_since is o.stamp) (since_named is o.stamp h)

  -- ---- undecided changes

  active_named : (es : List (ℕ × List Operation)) → EachEntry (AreActiveOf P) es → AllByRecursion (IsChangeOf P) (active_changes es)
  active_named [] h = tt
  active_named (e ∷ es) h = joined_named P (changes_of e.1) (active_changes es) (changes_of_named P e.1 h.0.1) (active_named es h.1)

  voted_named : (es : List (ℕ × Vote)) → EachEntry (IsVoteOf P) es → AllByRecursion (IsChangeOf P) (voted_changes es)
  voted_named [] h = tt
  voted_named (e ∷ es) h = joined_named P e.1.sets.writes (voted_changes es) h.0.2 (voted_named es h.1)

  undos_named : (r : Records) → AreRecordsOf P r → (ws : List Written) → AllByRecursion (IsChangeOf P) ws → AllByRecursion (IsChangeOf P) (map (undo_of r) ws)
  undos_named r h [] k = tt
  undos_named r h (w ∷ ws) k = ((k.0.0, by (get r w.key) refl), undos_named r h ws k.1)
    where
      by : (o : Option (List ℕ)) → get r w.key ≡ o → IfSome o IsValue
      by None e = tt
      by (Some value) e = (h w.key value e).1

  pub restored_named : (kind : Kind) (records : Records) (voted : Table Vote) → AreRecordsOf P records → Holds (IsVoteOf P) voted → IsEngineOf (restored kind records voted)
  restored_named kind records voted h k = record { base = h; installed = tt; active = holds_nothing (AreActiveOf P); voted = k }

  module _ (b : EngineState) (n : IsEngineOf b) where
    pub operations_named : (t : ℕ) → AreOperationsOf P (operations_of b t)
    operations_named t = by (look b.active t) refl
      where
        by : (o : Option (List Operation)) → look b.active t ≡ o → AreOperationsOf P (operations_in o)
        by None e = tt
        by (Some os) e = (n.active t os e).1

    installed_named : AreRecordsOf P (installed_records b)
    installed_named = now_named b.base n.base b.installed n.installed

    pub replies_named : (t : ℕ) (op : Op) → IsReplyOf (operation_reply b t op)
    replies_named t op =
        reply_named (with_changes (records_at b.base b.installed (snapshot_of b t)) (changes_of (operations_of b t)))
        (changes_named P (changes_of (operations_of b t)) (records_at b.base b.installed (snapshot_of b t)) (at_named b.base n.base b.installed (snapshot_of b t) n.installed)
        (changes_of_named P (operations_of b t) (operations_named t))) op

    pub blocker_named : (t : ℕ) (op : Op) → IfSome (lock_blocker b t op) IsTxn
    blocker_named t op = by b.kind
      where
        holder : IfSome (lock_holder b t op) IsTxn
        holder =
            lesser_numbered _ _ (least_numbered (AreActiveOf P) IsTxn (λ u os p. p.0) (λ u os. not (u == t) && active_blocks os op) b.active n.active)
            (least_numbered (IsVoteOf P) IsTxn (λ u vote p. p.0) (λ u vote. not (u == t) && writes_block vote.sets.writes op) b.voted n.voted)

        by : (kind : Kind) → IfSome (blocker_by kind (lock_holder b t op)) IsTxn
        by Lock = holder
        by Occ = tt
        by Mv = tt

    pub verdict_named : (t carried : ℕ) → IsVerdictOf (vote_of b t carried)
    verdict_named t carried = by (kept_count b t == carried)
      where
        own : Sets
        own = sets_of (operations_of b t)

        holder : IfSome (holder_of b t own) IsTxn
        holder =
            lesser_numbered _ _ (least_numbered (AreActiveOf P) IsTxn (λ u os p. p.0) (λ u os. not (u == t) && active_holds own os) b.active n.active)
            (least_numbered (IsVoteOf P) IsTxn (λ u vote p. p.0) (λ u vote. not (u == t) && voted_holds own vote.sets) b.voted n.voted)

        held : (o : Option ℕ) → IfSome o IsTxn → IsVerdictOf (unless_held o)
        held None h = tt
        held (Some u) h = h

        stale : (keys : List (List ℕ)) → AllByRecursion P keys → IsVerdictOf (unless_stale (least_key keys) (holder_of b t own))
        stale [] h = held (holder_of b t own) holder
        stale (k ∷ ks) h = least_named k ks h.0 h.1

        by : (kept : Bool) → IsVerdictOf (if kept then unless_stale (stale_key b t) (holder_of b t own) else LostOperations)
        by true = stale (stale_keys b.installed (operations_of b t)) (stale_named b.installed (operations_of b t) n.installed)
        by false = tt

    -- ---- what calls leave

    pub operation_named : (t : ℕ) (op : Op) → IsTxn t → IsOpOf P op → IsEngineOf (with_operation b t op)
    operation_named t op small p =
        record {
          base = n.base;
          installed = n.installed;
          active = holds_put (AreActiveOf P) b.active n.active t (record { op = op; stamp = snapshot_of b t } ∷ operations_of b t) (small, (p, operations_named t));
          voted = n.voted;
        }

    pub cast_named : (t coord count : ℕ) → IsTxn t → IsWithin 1 most_coordinators coord → IsEngineOf (after_cast b t coord count)
    cast_named t coord count small own =
        record {
          base = n.base;
          installed = n.installed;
          active = holds_without (AreActiveOf P) b.active n.active t;
          voted = holds_put (IsVoteOf P) b.voted n.voted t (record { coord = coord; count = count; sets = sets_of (operations_of b t) })
              (small, own, changes_of_named P (operations_of b t) (operations_named t));
        }

    pub install_named : (t : ℕ) → IsEngineOf (after_install b t)
    install_named t = by (look b.voted t) refl
      where
        by : (o : Option Vote) → look b.voted t ≡ o → IsEngineOf (install_vote b t o)
        by None e = n
        by (Some vote) e =
            record { base = n.base; installed = ((n.voted t vote e).2, n.installed); active = n.active; voted = holds_without (IsVoteOf P) b.voted n.voted t }

    pub drop_named : (t : ℕ) → IsEngineOf (after_drop b t)
    drop_named t =
        record {
          base = n.base;
          installed = n.installed;
          active = holds_without (AreActiveOf P) b.active n.active t;
          voted = holds_without (IsVoteOf P) b.voted n.voted t;
        }

    -- ---- what is dumped

    undecided_named : AllByRecursion (IsChangeOf P) (undecided_changes b)
    undecided_named =
        joined_named P (voted_changes (entries b.voted)) (active_changes (entries b.active)) (voted_named (entries b.voted) (holds_each (IsVoteOf P) b.voted n.voted))
        (active_named (entries b.active) (holds_each (AreActiveOf P) b.active n.active))

    pub dumped_rows_named : (kind : Kind) → AllByRecursion (IsRowOf P) (dumped_rows kind b)
    dumped_rows_named Lock = all_rows_named P _ (changes_named P (undecided_changes b) (installed_records b) installed_named undecided_named)
    dumped_rows_named Occ = all_rows_named P (installed_records b) installed_named
    dumped_rows_named Mv = all_rows_named P (installed_records b) installed_named

    pub dumped_undos_named : (kind : Kind) → AllByRecursion (IsChangeOf P) (dumped_undos kind b)
    dumped_undos_named Lock = undos_named (installed_records b) installed_named (undecided_changes b) undecided_named
    dumped_undos_named Occ = tt
    dumped_undos_named Mv = tt
