-- A checker that reads the transcript of a run behind the records that the opened logs give finds it serial.
use Rattle.std.proofs.Common.{◌≡◌, ℕ, zero, suc, ◌+◌, ◌<◌, ◌≤◌, Bool, true, false, List, [], ◌∷◌, ◌++◌, length, map, Some, Result, Ok, if◌then◌else◌, refl, sym, ap, ◌∙◌, subst, arith, append_assoc, append-nil, length-append}
use Rattle.std.proofs.Math.Seq.{take-append_seam, drop-append-add}
use Rattle.std.proofs.lemmas.Fmt.{length-decimal-le}
use Rattle.std.specs.FinMap.{entries}
use Rattle.std.specs.List.{AllByRecursion}
use Rattle.std.specs.Prelude.{decimal}
use Rattle.co_base.specs.Limits.{most_members}
use Rattle.co_base.specs.declared.head.Head.{Head}
use Rattle.co_message.specs.declared.event.Event.{Event}
use Rattle.co_message.specs.declared.item.Item.{Item}
use Rattle.co_message.specs.declared.item.ItemKind.TheVariants as item
use Rattle.co_record.specs.Spelling.{IsSpelled}
use Rattle.co_schedule.specs.Limits.{most_of_text}
use Rattle.co_schedule.specs.LineText.{newline, behind_line, next_line}
use Rattle.co_schedule.specs.View.{IsKey}
use Rattle.co_schedule.specs.Words.{space, behind}
use Rattle.co_schedule.proofs.NextLine.{next_held, behind_line_held}
use Rattle.co_serial.specs.MemberRows.{member_rows, numbered_rows}
use Rattle.co_serial.specs.RecordText.{record_line, records_text}
use Rattle.co_serial.specs.Records.{Records, all_rows, with_changes}
use Rattle.co_serial.specs.SerialRun.{AllRecords}
use Rattle.co_serial.specs.declared.member_row.MemberRow.{MemberRow}
use Rattle.co_state.specs.declared.engine_state.Vote.{Vote}
use Rattle.co_plain.specs.DurableRecords.{durable_records, laid_where}
use Rattle.co_plain.specs.Federation.{Federation}
use Rattle.co_plain.specs.MemberView.{recovered_view}
use Rattle.co_plain.specs.Opening.{Found, opened, opening_items, OnlyOwnLogs}
use Rattle.co_plain.specs.Premises.{AreOpenable}
use Rattle.co_plain.specs.Promises.{serial_records}
use Rattle.co_plain.specs.Runs.{run, numbered, transcript, lines}
use Rattle.co_replay.specs.Schedule.{HasLine}
use Rattle.co_replay.specs.Transcript.{items_text, run_items}
use Rattle.co_law_base.proofs.ImageRules.{EachEntry}
use Rattle.co_law.proofs.EveryRun.{every_acknowledged, every_read}
use Rattle.co_law.proofs.GoingOn.{lines_true}
use Rattle.co_law_items.specs.Scans.{HasFewRows, HasShortScan, IsItemOfFewRows}
use Rattle.co_law_items.proofs.Logs.{IsRecordOf, view_named}
use Rattle.co_law_items.proofs.Named.{all_append, all_as, all_map, holds_each, AreRecordsOf, IsRowOf, IsVoteOf, changes_named, all_rows_named}
use Rattle.co_law_items.proofs.Opened.{as_record}
use Rattle.co_law_items.proofs.Rows.{found_items}
use Rattle.co_law_items.proofs.Texts.{short_item}
use Rattle.co_check.proofs.Entries.{record_fits, written_so}
use Rattle.co_check.proofs.Fronts.{IsFrontOf, items_front, items_on, resumed_at_end}
use Rattle.co_check.proofs.Splits.{serial_or_not_from}
use Rattle.co_check.specs.Account.{Account, no_account}
use Rattle.co_check.specs.Checked.{IsJudgedFrom}
use Rattle.co_check.specs.Once.{IsOfText}
use Rattle.co_check.specs.Resumed.{IsResumedCheck}
use Rattle.co_check.specs.Serial.{IsSerialFrom, serial_from}
use Rattle.co_check.specs.Shape as shape
use Rattle.co_check.specs.Stages.{InTranscript, at_records, nodes_of, read_from, read_on}
use Rattle.co_check.specs.Starts.{IsRecord, record_text, record_words, record_places}
use Rattle.co_check.specs.declared.entry.Entry.{Entry}
use Rattle.co_check.specs.declared.entry.Entry.TheVariants as entry
use Rattle.co_check.specs.declared.fault.CheckFault.{CheckFault}
use Rattle.co_check.specs.declared.place.Place.TheVariants.{InHead, Behind}
use Rattle.co_check.specs.declared.verdict.Verdict.{Verdict}
use Rattle.co_check.specs.declared.verdict.Verdict.TheVariants as verdict
use Rattle.co_law_check.specs.Told.{IsFoundSerial, IsShortItem}
use Rattle.co_law_check.proofs.Cutting.{newline_at, text_of_clean}
use Rattle.co_law_check.proofs.Fresh.{nothing_told}
use Rattle.co_law_check.proofs.Heads.{read_opening}
use Rattle.co_law_check.proofs.Judged.{events_fewer}
use Rattle.co_law_check.proofs.Serially.{as_many, no_start, same_after_from, serially_from}
use Rattle.co_law_check.proofs.Standing.{front}
use Rattle.co_law_check.proofs.Starts.{start_read}
use Rattle.co_law_check.proofs.Transcripts.{read_events}

-- ---- the lines of records

record_short : (row : MemberRow) → IsRecord row → length (record_text row ++ newline ∷ []) ≤ most_of_text + 1
record_short row is =
    let d = length-decimal-le 10 row.member (omega arith) (let u = is.0.1 in omega (arith, u)) (let u = is.0.1 in omega (arith, u)) in
    let a = length-append (109 ∷ decimal row.member) (behind (row.row.key ∷ row.row.value ∷ [])) in
    let b = length-append (space ∷ row.row.key) (behind (row.row.value ∷ [])) in
    let c = length-append (space ∷ row.row.value) [] in
    let e = length-append (record_text row) (newline ∷ []) in
    let k = is.1.0.1 in
    let v = is.2.0.1 in omega (arith, d, a, b, c, e, k, v)

-- records stand on lines of their own before what follows them
records_front : (rows : List MemberRow) → AllByRecursion IsRecord rows → (lent : ℕ) (text left : List ℕ) (more : List Entry) → lent + length rows ≤ most_of_text → IsFrontOf (lent + length rows) text more left →
    IsFrontOf lent (records_text rows ++ text) (map entry.Record rows ++ more) left
records_front [] each lent text left more few f = subst (λ n. IsFrontOf n text more left) (let q : lent + 0 ≡ lent = omega arith in q) f
records_front (row ∷ rows) each lent text left more few f =
    let line = record_text row in
    let rest = records_text rows ++ text in
    let at = newline_at line (text_of_clean record_places (record_words row) (omega arith, λ a. (tt, λ b. (tt, λ c. tt))) (record_fits row each.0)) in
    let room : lent < most_of_text = omega (arith, few) in
    let whole : (line ++ newline ∷ []) ++ rest ≡ records_text (row ∷ rows) ++ text =
    ap (λ t. t ++ rest) (sym (written_so row)) ∙ sym (append_assoc (record_line row) (records_text rows) text) in
    let next : next_line most_of_text most_of_text lent ((line ++ newline ∷ []) ++ rest) ≡ Ok (Some line) =
    next_held most_of_text most_of_text lent (line ++ newline ∷ []) rest (length line) room (record_short row each.0) at ∙ ap (λ t. Ok (Some t)) (take-append_seam line (newline ∷ [])) in
    let on = records_front rows each.1 (suc lent) text left more (omega (arith, few)) (subst (λ n. IsFrontOf n text more left) (let q : lent + length (row ∷ rows) ≡ suc lent + length rows = omega arith in q) f) in
    let left_is : rest ≡ behind_line ((line ++ newline ∷ []) ++ rest) =
    ap (λ t. t ++ rest) (sym (drop-append-add line (newline ∷ []) 1)) ∙ behind_line_held (line ++ newline ∷ []) rest (length line) at in
    subst (λ t. IsFrontOf lent t (entry.Record row ∷ (map entry.Record rows ++ more)) left) whole (each.0, next, subst (λ t. IsFrontOf (suc lent) t (map entry.Record rows ++ more) left) left_is on)

-- ---- the records that sound logs give

laid_named : (test : ℕ → Vote → Bool) (r : Records) → AreRecordsOf IsKey r → (es : List (ℕ × Vote)) → EachEntry (IsVoteOf IsKey) es → AreRecordsOf IsKey (laid_where test r es)
laid_named test r h [] each = h
laid_named test r h (e ∷ es) each = laid_named test (if test e.0 e.1 then with_changes r e.1.sets.writes else r) (by (test e.0 e.1)) es each.1
  where
    by : (b : Bool) → AreRecordsOf IsKey (if b then with_changes r e.1.sets.writes else r)
    by true = changes_named IsKey e.1.sets.writes r h each.0.2
    by false = h

rows_are : (all : AllRecords) → ((m : ℕ) → AreRecordsOf IsKey (all m)) → (count member : ℕ) → 1 ≤ member → member + count ≤ most_members + 1 → AllByRecursion IsRecord (numbered_rows all member count)
rows_are all named zero member low high = tt
rows_are all named (suc count) member low high =
    all_append IsRecord (member_rows member (all_rows (all member))) (numbered_rows all (suc member) count)
    (all_map (IsRowOf IsKey) IsRecord (λ row. record { member = member; row = row }) (λ row is. ((low, omega (arith, high)), is.0, is.1)) (all_rows (all member)) (all_rows_named IsKey (all member) (named member)))
    (rows_are all named count (suc member) (omega arith) (omega (arith, high)))

short_items : (items : List Item) → AllByRecursion IsItemOfFewRows items → AllByRecursion HasFewRows items → AllByRecursion (HasShortScan most_of_text) items → AllByRecursion IsShortItem items
short_items [] each few short = tt
short_items (i ∷ is) each few short = let is_item = each.0 few.0 in ((is_item, short_item most_of_text i (omega arith) is_item short.0), short_items is each.1 few.1 short.1)

-- ---- the law

module _ (head : Head) (fm fc : ℕ → Found) (events : List Event) (openable : AreOpenable head.kinds head.coords fm fc) (own : OnlyOwnLogs head.kinds head.coords fm fc)
    (spelled_m : (m : ℕ) → AllByRecursion IsSpelled (fm m).records) (spelled_c : (c : ℕ) → AllByRecursion IsSpelled (fc c).records) (valid : AllByRecursion (HasLine head) events) where
  abbrev s0 : Federation
  s0 = opened head.kinds head.coords fm fc

  abbrev z : Federation
  z = run (lines events) s0

  abbrev start : AllRecords
  start = durable_records (λ m. (fm m).records) (λ c. (fc c).records)

  abbrev rows : List MemberRow
  rows = numbered_rows start 1 (length head.kinds)

  abbrev items : List Item
  items = run_items head fm fc events

  start_named : (m : ℕ) → AreRecordsOf IsKey (start m)
  start_named m =
      let v = view_named IsKey (fm m).records (all_as IsSpelled (IsRecordOf IsKey) as_record (fm m).records (spelled_m m)) in
      laid_named _ (recovered_view (fm m).records).records v.records (entries (recovered_view (fm m).records).voted) (holds_each (IsVoteOf IsKey) (recovered_view (fm m).records).voted v.voted)

  rows_spelled : AllByRecursion IsRecord rows
  rows_spelled = rows_are start start_named (length head.kinds) 1 (omega arith) (let l = head.members in omega (arith, l))

  found : (a : Account) (answer : Result Verdict CheckFault) (judged : Verdict) → IsSerialFrom start a.committed → length a.committed ≡ length z.decided → serial_from start a.committed ≡ serial_records s0 z.decided →
      answer ≡ Ok judged → IsJudgedFrom start a judged → IsFoundSerial answer s0 z
  found a answer (verdict.Serial transactions map) serial count records is j = record { transactions = transactions; map_left = map; is = is; count = j.1 ∙ count; records = j.2 ∙ records }
  found a answer (verdict.Differs txn line told other) serial count records is j = absurd (serial_or_not_from start a.committed txn line told other serial j)

  pub found_resumed : (answer : Result Verdict CheckFault) → AllByRecursion HasFewRows items → AllByRecursion (HasShortScan most_of_text) items → length rows + length items ≤ most_of_text →
      IsResumedCheck (records_text rows ++ items_text items) answer → IsOfText answer → IsFoundSerial answer s0 z
  found_resumed answer few short lined check told =
      let ack = every_acknowledged head.kinds head.coords fm fc (lines events) openable (lines_true events s0) in
      let reads = every_read head.kinds head.coords fm fc (lines events) openable (lines_true events s0) in
      let all = read_events head events 1 2 s0 no_account refl nothing_told valid ack.once in
      let laid = start_read start (length head.kinds) (λ m away. no_start (λ m. (fm m).records) (λ c. (fc c).records) m (own.members m away)) in
      let last = InTranscript start (record { place = Behind head (1 + length events); account = all.account }) in
      let more = numbered 1 (opening_items head.kinds head.coords fm fc) ++ transcript 2 events s0 in
      let shaped : read_from (Some at_records) (map entry.Record rows ++ map entry.Item items) ≡ Some last =
      laid.reads (map entry.Item items) ∙ items_on start (Some (record { place = InHead head (nodes_of head) false; account = no_account })) more
      ∙ ap (read_on start) (read_opening head fm fc (transcript 2 events s0) ∙ ap (shape.read_from _) (sym (append-nil (transcript 2 events s0))) ∙ all.reads []) in
      let a = length-append (numbered 1 (item.Head head ∷ opening_items head.kinds head.coords fm fc)) (transcript 2 events s0) in
      let b = events_fewer events 2 s0 in
      let each = short_items items (found_items head fm fc events spelled_m spelled_c valid (omega (arith, a, b, lined))) few short in
      let stands = records_front rows rows_spelled 0 (items_text items) [] (map entry.Item items) (omega (arith, lined))
      (items_front (0 + length rows) (items_text items) items [] (front (0 + length rows) items each (omega (arith, lined)))) in
      let j = resumed_at_end (records_text rows ++ items_text items) (map entry.Record rows ++ map entry.Item items) last stands shaped refl answer check told in
      found all.account answer j.verdict (serially_from start all.account.committed z.decided all.tells.committed reads) (as_many all.account.committed z.decided all.tells.committed)
      (same_after_from start all.account.committed z.decided all.tells.committed) j.is j.judged.1
