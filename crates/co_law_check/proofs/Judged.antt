-- A checker that reads the transcript of a run over fresh logs finds it serial.
use Rattle.std.proofs.Common.{◌≡◌, ◌≤◌, ◌+◌, ◌*◌, ℕ, suc, List, [], ◌∷◌, length, Result, Ok, ◌∙◌, sym, subst, arith, length-append}
use Rattle.std.specs.List.{AllByRecursion}
use Rattle.co_base.specs.declared.head.Head.{Head}
use Rattle.co_base.specs.declared.reply.Reply.TheVariants as reply
use Rattle.co_message.specs.declared.event.Event.{Event}
use Rattle.co_message.specs.declared.answer.Answer.TheVariants as answer
use Rattle.co_message.specs.declared.item.Item.{Item}
use Rattle.co_message.specs.declared.item.ItemKind.{ItemKind}
use Rattle.co_message.specs.declared.item.ItemKind.TheVariants as item
use Rattle.co_record.specs.Spelling.{IsSpelled}
use Rattle.co_plain.specs.Federation.{Federation}
use Rattle.co_plain.specs.Opening.{Found, opened, opening_items}
use Rattle.co_plain.specs.Runs.{run, numbered, transcript, lines}
use Rattle.co_plain.specs.Step.{step_line}
use Rattle.co_replay.specs.Schedule.{HasLine}
use Rattle.co_replay.specs.Transcript.{items_text, run_items}
use Rattle.co_check.proofs.Fronts.{judged_at_end}
use Rattle.co_check.proofs.Splits.{serial_or_not}
use Rattle.co_check.specs.Checked.{IsCheck, IsJudgedAs}
use Rattle.co_schedule.specs.Limits.{most_of_text}
use Rattle.co_check.specs.Once.{IsOfText}
use Rattle.co_check.specs.declared.fault.CheckFault.{CheckFault}
use Rattle.co_check.specs.declared.verdict.Verdict.{Verdict}
use Rattle.co_check.specs.declared.verdict.Verdict.TheVariants as verdict
use Rattle.co_transcript.specs.Items.{IsItem}
use Rattle.co_transcript.specs.Spelling.{item_text}
use Rattle.co_law_items.specs.Scans.{IsWithinIfScan, HasShortScan, keys_written}
use Rattle.co_law_items.proofs.Rows.{fresh_items, found_few, fresh_scans}
use Rattle.co_law_items.proofs.Texts.{short_item}
use Rattle.co_law_check.specs.Told.{IsToldSerially, IsFoundSerial, IsShortItem, most_events, most_writes}
use Rattle.co_law_check.proofs.Standing.{items_stand}
use Rattle.co_law_check.proofs.Fresh.{told_serially}

found : (items : List Item) (s z : Federation) (t : IsToldSerially items s z) (answer : Result Verdict CheckFault) (judged : Verdict) → answer ≡ Ok judged → IsJudgedAs t.account judged → IsFoundSerial answer s z
found items s z t answer (verdict.Serial transactions map) is j = record { transactions = transactions; map_left = map; is = is; count = j.1 ∙ t.count; records = j.2 ∙ t.records }
found items s z t answer (verdict.Differs txn line told serial) is j = absurd (serial_or_not t.account.committed txn line told serial t.serial j)

-- items that a checker reads are judged as the run that they tell of
judged_serial : (head : Head) (fm fc : ℕ → Found) (events : List Event) (answer : Result Verdict CheckFault) → ((m : ℕ) → (fm m).records ≡ []) → ((c : ℕ) → (fc c).records ≡ []) → AllByRecursion (HasLine head) events →
    AllByRecursion IsShortItem (run_items head fm fc events) → length (run_items head fm fc events) ≤ most_of_text → IsCheck (items_text (run_items head fm fc events)) answer → IsOfText answer →
    IsFoundSerial answer (opened head.kinds head.coords fm fc) (run (lines events) (opened head.kinds head.coords fm fc))
judged_serial head fm fc events answer fresh_members fresh_coords valid each few check own =
    let items = run_items head fm fc events in
    let t = told_serially head fm fc events fresh_members fresh_coords valid in
    let j = judged_at_end (items_text items) items (record { place = t.place; account = t.account }) (items_stand items each few) t.shaped t.whole answer check own in
    found items (opened head.kinds head.coords fm fc) (run (lines events) (opened head.kinds head.coords fm fc)) t answer j.verdict j.is j.judged

nothing_spelled : (found : ℕ → Found) → ((m : ℕ) → (found m).records ≡ []) → (m : ℕ) → AllByRecursion IsSpelled (found m).records
nothing_spelled found fresh m = subst (AllByRecursion IsSpelled) (sym (fresh m)) tt

wider_kind : (few most : ℕ) → few ≤ most → (what : ItemKind) (bytes : ℕ) → IsWithinIfScan few what bytes → IsWithinIfScan most what bytes
wider_kind few most l (item.Answered (answer.Replied (reply.Rows rows))) bytes h = omega (arith, h, l)
wider_kind few most l _ bytes h = tt

wider_scans : (few most : ℕ) → few ≤ most → (items : List Item) → AllByRecursion (HasShortScan few) items → AllByRecursion (HasShortScan most) items
wider_scans few most l [] h = tt
wider_scans few most l (i ∷ is) h = (wider_kind few most l i.what (length (item_text i)) h.0, wider_scans few most l is h.1)

-- each event has an item of its own
pub events_fewer : (events : List Event) (n : ℕ) (s : Federation) → length events ≤ length (transcript n events s)
events_fewer [] n s = omega arith
events_fewer (e ∷ es) n s =
    let z = step_line s e in
    let a = length-append (numbered n (item.Event e ∷ z.items)) (transcript (suc n) es z.state) in
    let rest = events_fewer es (suc n) z.state in omega (arith, a, rest)

short_items : (items : List Item) → AllByRecursion IsItem items → AllByRecursion (HasShortScan most_of_text) items → AllByRecursion IsShortItem items
short_items [] each short = tt
short_items (i ∷ is) each short = ((each.0, short_item most_of_text i (omega arith) each.0 short.0), short_items is each.1 short.1)

module _ (head : Head) (fm fc : ℕ → Found) (events : List Event) (answer : Result Verdict CheckFault) (fresh_members : (m : ℕ) → (fm m).records ≡ []) (fresh_coords : (c : ℕ) → (fc c).records ≡ []) (valid : AllByRecursion (HasLine head) events) where
  abbrev items : List Item
  items = run_items head fm fc events

  abbrev s0 : Federation
  s0 = opened head.kinds head.coords fm fc

  pub found_serial : AllByRecursion (HasShortScan most_of_text) items → length items ≤ most_of_text → IsCheck (items_text items) answer → IsOfText answer → IsFoundSerial answer s0 (run (lines events) s0)
  found_serial short few check own =
      let first = numbered 1 (item.Head head ∷ opening_items head.kinds head.coords fm fc) in
      let a = length-append first (transcript 2 events s0) in
      let b = events_fewer events 2 s0 in
      judged_serial head fm fc events answer fresh_members fresh_coords valid
      (short_items items (fresh_items head fm fc events fresh_members fresh_coords valid (omega (arith, a, b, few))) short) few check own

  pub schedule_serial : length events ≤ most_events → AllByRecursion (HasShortScan most_of_text) items → IsCheck (items_text items) answer → IsOfText answer → IsFoundSerial answer s0 (run (lines events) s0)
  schedule_serial few short = found_serial short (let l = found_few head fm fc events (nothing_spelled fm fresh_members) (nothing_spelled fc fresh_coords) valid in omega (arith, l, few))

  pub few_serial : length events ≤ most_events → length (keys_written events) ≤ most_writes → IsCheck (items_text items) answer → IsOfText answer → IsFoundSerial answer s0 (run (lines events) s0)
  few_serial few writes =
      schedule_serial few
      (wider_scans (32 + 4130 * length (keys_written events)) most_of_text (omega (arith, writes)) items (fresh_scans head fm fc events fresh_members fresh_coords valid (omega (arith, few))))
