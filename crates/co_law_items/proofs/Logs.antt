-- Logs whose records name such keys, values and numbers tell such ones, and the marks of their records can be told.
use Rattle.std.proofs.Common.{◌≡◌, ℕ, Bool, true, false, ◌≤◌, nat_le, if◌then◌else◌, List, [], ◌∷◌, ◌++◌, length, reverse, Option, None, Some, IfSome, refl, ◌∙◌, arith}
use Rattle.std.proofs.lemmas.List.{length-map, length-reverse}
use Rattle.std.specs.List.{AllByRecursion}
use Rattle.co_base.specs.Order.{IsAscending}
use Rattle.co_base.specs.declared.head.Kind.{Kind}
use Rattle.co_base.specs.declared.node.Node.{Node}
use Rattle.co_record.specs.Marks.{mark_of}
use Rattle.co_record.specs.declared.record.Record.{Record}
use Rattle.co_record.specs.declared.record.Record.TheVariants as log
use Rattle.co_schedule.specs.View.{IsWithin, IsNode, IsTxn}
use Rattle.co_state.specs.Effects.{records_from}
use Rattle.co_state.specs.Table.{look}
use Rattle.co_state.specs.declared.engine_state.Vote.{Vote}
use Rattle.co_plain.specs.CoordView.{recovered_commits}
use Rattle.co_plain.specs.LogWrite.{outcome_of, with_batch, crashed_log, marks_of, checkpoint_marks}
use Rattle.co_plain.specs.MemberView.{install_in, view_with, recovered_view, engine_from}
use Rattle.co_plain.specs.Numbers.{next_generation}
use Rattle.co_plain.specs.declared.log_state.LogState.{LogState}
use Rattle.co_base.specs.declared.leaves.Stop.{Stop}
use Rattle.co_base.specs.Limits.{most_coordinators, most_members}
use Rattle.co_plain.specs.declared.member_view.MemberView.{MemberView}
use Rattle.co_plain.specs.declared.outcome.Outcome.{Outcome}
use Rattle.co_plain.specs.declared.outcome.Outcome.TheVariants.{Completes, StopsAt}
use Rattle.co_transcript.specs.Items.{IsMark}
use Rattle.co_law_items.proofs.Named.{all_append, all_reverse, all_map, Holds, holds_nothing, holds_put, holds_without, IsChangeOf, IsRowOf, AreRecordsOf, no_records_named, changes_named, rows_named, IsVoteOf}
use Rattle.co_law_items.proofs.Engines.{IsEngineOf, restored_named}

-- the members that a commit names
abbrev pub AreMembers : List ℕ → Type 0
AreMembers ms = AllByRecursion (IsWithin 1 most_members) ms × IsAscending ms

-- an armed stop is in one of the four device calls
abbrev pub IsStop : Stop → Type 0
IsStop stop = IsWithin 1 4 stop.call

abbrev pub IsOutcome : Outcome → Type 0
IsOutcome Completes = Unit {0}
IsOutcome (StopsAt call leaves) = IsWithin 1 4 call

pub outcome_named : (armed : Option Stop) → IfSome armed IsStop → (calls : ℕ) → IsOutcome (outcome_of armed calls)
outcome_named None h calls = tt
outcome_named (Some stop) h calls = by (nat_le stop.call calls)
  where
    by : (b : Bool) → IsOutcome (if b then StopsAt stop.call stop.leaves else Completes)
    by true = h
    by false = tt

pub generation_small : (generation : ℕ) → next_generation generation ≤ 4294967295
generation_small generation = omega arith

module _ (P : List ℕ → Type 0) where
  abbrev pub IsRecordOf : Record → Type 0
  IsRecordOf (log.Header owner generation) = generation ≤ 4294967295
  IsRecordOf (log.Prepare t coord count reads writes) = IsTxn t × IsWithin 1 most_coordinators coord × AllByRecursion (IsChangeOf P) writes
  IsRecordOf (log.Commit t members) = IsTxn t × AreMembers members
  IsRecordOf (log.Abort t) = IsTxn t
  IsRecordOf (log.End t) = IsTxn t
  IsRecordOf (log.Checkpoint rows undos committed) = AllByRecursion (IsRowOf P) rows × AllByRecursion (IsChangeOf P) undos

  pub record IsLogOf (l : LogState) : Type 0 where
    pub stable : AllByRecursion IsRecordOf l.stable
    pub waiting : AllByRecursion IsRecordOf l.waiting
    pub armed : IfSome l.armed IsStop

  -- ---- what records tell

  pub record IsViewOf (v : MemberView) : Type 0 where
    pub records : AreRecordsOf P v.records
    pub voted : Holds (IsVoteOf P) v.voted

  installs_in : (v : MemberView) → IsViewOf v → (t : ℕ) (o : Option Vote) → look v.voted t ≡ o → IsViewOf (install_in v t o)
  installs_in v n t None e = n
  installs_in v n t (Some vote) e =
      record { records = changes_named P vote.sets.writes v.records n.records (n.voted t vote e).2; voted = holds_without (IsVoteOf P) v.voted n.voted t }

  tells : (v : MemberView) → IsViewOf v → (r : Record) → IsRecordOf r → IsViewOf (view_with v r)
  tells v n (log.Header owner generation) h = n
  tells v n (log.Prepare t coord count reads writes) h =
      record { records = n.records; voted = holds_put (IsVoteOf P) v.voted n.voted t (record { coord = coord; count = count; sets = record { reads = reads; writes = writes } }) h }
  tells v n (log.Commit t members) h = installs_in v n t (look v.voted t) refl
  tells v n (log.Abort t) h = record { records = n.records; voted = holds_without (IsVoteOf P) v.voted n.voted t }
  tells v n (log.End t) h = n
  tells v n (log.Checkpoint rows undos committed) h =
      record { records = changes_named P undos (records_from rows) (rows_named P rows h.0) h.1; voted = holds_nothing (IsVoteOf P) }

  pub view_named : (rs : List Record) → AllByRecursion IsRecordOf rs → IsViewOf (recovered_view rs)
  view_named [] h = record { records = no_records_named P; voted = holds_nothing (IsVoteOf P) }
  view_named (r ∷ rs) h = tells (recovered_view rs) (view_named rs h.1) r h.0

  pub engine_named : (kind : Kind) (rs : List Record) → AllByRecursion IsRecordOf rs → IsEngineOf P (engine_from kind (recovered_view rs))
  engine_named kind rs h =
      let n = view_named rs h in
      restored_named P kind (recovered_view rs).records (recovered_view rs).voted n.records n.voted

  abbrev pub IsUnended : ℕ → List ℕ → Type 0
  IsUnended t ms = IsTxn t × AreMembers ms

  pub unended_named : (rs : List Record) → AllByRecursion IsRecordOf rs → Holds IsUnended (recovered_commits rs).unended
  unended_named [] h = holds_nothing IsUnended
  unended_named (log.Header owner generation ∷ rs) h = unended_named rs h.1
  unended_named (log.Prepare t coord count reads writes ∷ rs) h = unended_named rs h.1
  unended_named (log.Commit t [] ∷ rs) h = unended_named rs h.1
  unended_named (log.Commit t (m ∷ ms) ∷ rs) h = holds_put IsUnended (recovered_commits rs).unended (unended_named rs h.1) t (m ∷ ms) h.0
  unended_named (log.Abort t ∷ rs) h = unended_named rs h.1
  unended_named (log.End t ∷ rs) h = holds_without IsUnended (recovered_commits rs).unended (unended_named rs h.1) t
  unended_named (log.Checkpoint rows undos committed ∷ rs) h = unended_named rs h.1

  -- ---- logs after writes

  pub batched : (l : LogState) → IsLogOf l → (batch : List Record) → AllByRecursion IsRecordOf batch → IsLogOf (with_batch l batch)
  batched l n batch h =
      record {
        stable = all_append IsRecordOf batch (l.waiting ++ l.stable) h (all_append IsRecordOf l.waiting l.stable n.waiting n.stable);
        waiting = tt;
        armed = tt;
      }

  pub crashed : (l : LogState) → AllByRecursion IsRecordOf l.stable → IsLogOf (crashed_log l)
  crashed l h = record { stable = h; waiting = tt; armed = tt }

  -- ---- marks

  mark_named : (at : Node) → IsNode most_members most_coordinators at → (r : Record) → IsRecordOf r → IsMark (mark_of at r)
  mark_named at own (log.Header owner generation) h = (own, h)
  mark_named at own (log.Prepare t coord count reads writes) h = (own, h.0)
  mark_named at own (log.Commit t members) h = (own, h.0)
  mark_named at own (log.Abort t) h = (own, h)
  mark_named at own (log.End t) h = (own, h)
  mark_named at own (log.Checkpoint rows undos committed) h = (own, omega arith)

  pub marks_named : (at : Node) → IsNode most_members most_coordinators at → (rs : List Record) → AllByRecursion IsRecordOf rs → AllByRecursion IsMark (marks_of at rs)
  marks_named at own rs h = all_map IsRecordOf IsMark (mark_of at) (mark_named at own) (reverse rs) (all_reverse IsRecordOf rs h)

pub marks_counted : (at : Node) (rs : List Record) → length (marks_of at rs) ≡ length rs
marks_counted at rs = length-map (reverse rs) (mark_of at) ∙ length-reverse rs

pub checkpoint_named : (at : Node) → IsNode most_members most_coordinators at → (generation : ℕ) → AllByRecursion IsMark (checkpoint_marks at (next_generation generation))
checkpoint_named at own generation = ((own, generation_small generation), tt)
