-- Logs that are opened, and the files of logs that stand.
use Rattle.std.proofs.Common.{◌≡◌, ◌⊎◌, ℕ, List, [], ◌∷◌, refl, sym, ap, subst, ◌∙◌, inl, inr}
use Rattle.std.specs.Prelude.{reverse, length, ◌≤◌}
use Rattle.std.proofs.lemmas.List.{reverse-reverse}
use Rattle.co_base.specs.Nodes.{IsValidNode}
use Rattle.co_base.specs.declared.node.Node.{Node}
use Rattle.co_disk.specs.DiskModel.{read_of}
use Rattle.co_disk.specs.DiskView.{DiskView}
use Rattle.co_outside.specs.Home.{HomeView, Agrees}
use Rattle.co_base.specs.Limits.{most_log_bytes}
use Rattle.co_record.specs.Format.{newest}
use Rattle.co_frame.specs.Gate.{begins_closed}
use Rattle.co_record.specs.declared.record.Record.{Record}
use Rattle.co_log.specs.Attaching.{IsAttached, IsWithin}
use Rattle.co_log.specs.Current.{BeginsWith}
use Rattle.co_log.specs.Fresh.{IsFresh, IsMade, header_alone}
use Rattle.co_log.specs.LogFile.{records_of}
use Rattle.co_log.specs.LogView.{LogView, IsHeld, IsShort}
use Rattle.co_log.specs.NodeFiles.{Items, newest_first, HasRecordsIn}
use Rattle.co_log.specs.Others.{BothWithin}
use Rattle.co_log.proofs.Ordered.{attached_ordered, attached_unarmed, held_current, made_ordered}
use Rattle.co_plain.specs.Opening.{made, opened_log}
use Rattle.co_plain.specs.declared.log_state.LogState.{LogState}
use Rattle.co_node.specs.Answers.{AreTold, AreWithin, LeftAs}
use Rattle.co_node.specs.NodeLog.{RepresentsLog}
use Rattle.co_node.proofs.Homes.{both_within, node_within, old_records, told_of}
use Rattle.co_node.proofs.Standing.{none_armed}

-- no header is made where there are records
made_none : (owner : Node) (xs : List Record) → (xs ≡ [] → ⊥) → made owner xs ≡ xs
made_none owner [] some = absurd (some refl)
made_none owner (x ∷ xs) some = refl

has_some : (owner : Node) (generation : ℕ) (items : Items) → BeginsWith owner generation items → newest_first items ≡ [] → ⊥
has_some owner generation [] begins none = absurd begins
has_some owner generation (x ∷ items) begins none = empty (sym (reverse-reverse (x.1 ∷ records_of items)) ∙ ap reverse none)
  where
    empty : {r : Record} {rs : List Record} → r ∷ rs ≡ [] → ⊥
    empty e = absurd cc

pub attached_stands : (owner : Node) (a b : DiskView) (log : LogView) → IsValidNode owner → a.state.pending ≡ [] → b.state.pending ≡ [] → IsAttached owner a b log → log.version ≡ newest
    → IsFresh log ⊎ ((items : Items) × RepresentsLog owner log (opened_log owner (record { records = newest_first items; spare_closed = begins_closed log.spare.state.stable })))
attached_stands owner a b log valid still_a still_b attached latest =
    let unarmed = attached_unarmed owner a b log attached in
    elim (attached_ordered owner a b log valid still_a still_b attached) [
      | inl none ↦ inl none.0
      | inr some ↦ inr (
        some.0,
        record {
          owned = unarmed.0;
          latest = latest;
          items = some.0;
          ordered = some.1;
          stable = made_none owner (newest_first some.0) (has_some log.node log.generation some.0 some.1.header);
          waiting = ap reverse (sym unarmed.1);
          armed = sym unarmed.2;
          bound = none_armed unarmed.2;
          spare = refl;
        },
      )
    ]

pub made_stands : (owner : Node) (a b : DiskView) (log after : LogView) → IsValidNode owner → IsAttached owner a b log → IsFresh log → IsMade log after
    → RepresentsLog owner after (opened_log owner (record { records = []; spare_closed = begins_closed log.spare.state.stable }))
made_stands owner a b log after valid attached none m =
    let unarmed = attached_unarmed owner a b log attached in
    record {
      owned = m.node ∙ unarmed.0;
      latest = m.version;
      items = header_alone log.node;
      ordered = made_ordered log after none (subst IsValidNode (sym unarmed.0) valid) m;
      stable = ap (λ (n : Node). newest_first (header_alone n)) (sym unarmed.0);
      waiting = ap reverse (sym (m.waiting ∙ unarmed.1));
      armed = sym (m.stop ∙ unarmed.2);
      bound = none_armed (m.stop ∙ unarmed.2);
      spare = ap (λ (d : DiskView). begins_closed d.state.stable) (sym m.spare);
    }

-- the files of the node have the records of the current one
pub told_records : (owner : Node) (home : HomeView) (log : LogView) (l : LogState) → RepresentsLog owner log l → IsHeld home log → AreWithin home.file owner
    → AreTold home.file owner → (items : Items) × HasRecordsIn home.file owner items × (newest_first items ≡ l.stable)
told_records owner home log l s held within told =
    let own = subst (AreWithin home.file) (sym s.owned) within in
    let files = told_of home.file log held.spots (subst (AreTold home.file) (sym s.owned) told) in
    let is = held_current home log s.items files.current files.spare held s.ordered files.is_current files.is_spare in
    let here = old_records home.file log log.version log.generation s.items held.spots (both_within home.file log held.spots own) files is in
    (s.items, subst (λ (n : Node). HasRecordsIn home.file n s.items) s.owned here, sym s.stable)

-- a told file is as long as what its disk gives
told_within : (home : HomeView) (d : DiskView) → Agrees home d.spot (read_of d.state) → IsShort d → IsWithin most_log_bytes (home.file d.spot)
told_within home d agrees short f is = subst (λ (bytes : List ℕ). length bytes ≤ most_log_bytes) (sym (agrees.told f is)) short

-- so the files of a log that stands are not too long
pub files_within : (owner : Node) (home : HomeView) (log : LogView) (l : LogState) → RepresentsLog owner log l → IsHeld home log → IsShort log.current × IsShort log.spare → AreWithin home.file owner
files_within owner home log l s held short =
    let both : BothWithin home.file log = (told_within home log.current held.current short.0, told_within home log.spare held.spare short.1) in
    subst (AreWithin home.file) s.owned (node_within home.file log held.spots both)

-- before a log write the files have the records of the log
pub left_before : (owner : Node) (home : HomeView) (log : LogView) (l : LogState) → RepresentsLog owner log l → IsHeld home log → IsShort log.current × IsShort log.spare → LeftAs home.file owner l.stable l.stable
left_before owner home log l s held short told =
    let here = told_records owner home log l s held (files_within owner home log l s held short) told in
    (here.0, here.1, inl here.2)
