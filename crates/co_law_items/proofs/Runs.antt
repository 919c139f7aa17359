-- The items of a run, one event after another.
use Rattle.std.proofs.Common.{◌≡◌, ℕ, suc, ◌+◌, ◌*◌, ◌≤◌, List, [], ◌∷◌, length, arith, length-append}
use Rattle.std.proofs.lemmas.List.{length-map}
use Rattle.std.specs.List.{AllByRecursion}
use Rattle.co_base.specs.declared.head.Head.{Head}
use Rattle.co_base.specs.declared.node.Node.{Node}
use Rattle.co_base.specs.declared.node.Node.TheVariants as node
use Rattle.co_base.specs.Limits.{most_coordinators, most_members}
use Rattle.co_message.specs.declared.event.Event.{Event}
use Rattle.co_message.specs.declared.event.Event.TheVariants as event
use Rattle.co_message.specs.declared.item.Item.{Item}
use Rattle.co_message.specs.declared.item.ItemKind.{ItemKind}
use Rattle.co_message.specs.declared.item.ItemKind.TheVariants as item
use Rattle.co_message.specs.declared.message.Message.{Message}
use Rattle.co_message.specs.declared.message.Message.TheVariants as message
use Rattle.co_schedule.specs.Limits.{longest_line}
use Rattle.co_schedule.specs.Spelling.{line_text}
use Rattle.co_schedule.specs.View.{IsWithin, IsNode, IsMessageFor, IsEventFor}
use Rattle.co_plain.specs.Federation.{Federation}
use Rattle.co_plain.specs.Opening.{Found, opened, opening_items}
use Rattle.co_plain.specs.Runs.{numbered, transcript}
use Rattle.co_plain.specs.Step.{step_line}
use Rattle.co_replay.specs.Transcript.{run_items}
use Rattle.co_law_items.specs.Scans.{most_numbered}
use Rattle.co_law_items.proofs.Named.{all_append, all_map}
use Rattle.co_law_items.proofs.Logs.{IsRecordOf}
use Rattle.co_law_items.proofs.Answers.{IsKindOf}
use Rattle.co_law_items.proofs.Opened.{opened_named, nothing_waits, opening_named, opening_few}
use Rattle.co_law_items.proofs.Steps.{IsFederationOf, WritesOf, goes}
use Rattle.co_law_items.proofs.Weights.{weight}

-- ---- an event of a federation is one of the largest federation

module _ (members coords : ℕ) (few : members ≤ most_members) (short : coords ≤ most_coordinators) where
  member_in : (m : ℕ) → IsWithin 1 members m → IsWithin 1 most_members m
  member_in m h = let up = h.1 in (h.0, omega (arith, up, few))

  coord_in : (c : ℕ) → IsWithin 1 coords c → IsWithin 1 most_coordinators c
  coord_in c h = let up = h.1 in (h.0, omega (arith, up, short))

  node_in : (at : Node) → IsNode members coords at → IsNode most_members most_coordinators at
  node_in (node.Member m) h = member_in m h
  node_in (node.Coord c) h = coord_in c h

  message_in : (note : Message) → IsMessageFor members coords note → IsMessageFor most_members most_coordinators note
  message_in (message.Prepare t c m count) h = (h.0, coord_in c h.1, member_in m h.2, h.3)
  message_in (message.Vote t m c granted) h = (h.0, member_in m h.1, coord_in c h.2)
  message_in (message.Decide t c m commit) h = (h.0, coord_in c h.1, member_in m h.2)
  message_in (message.Ask t m c) h = (h.0, member_in m h.1, coord_in c h.2)
  message_in (message.Ack t m c) h = (h.0, member_in m h.1, coord_in c h.2)

  pub event_in : (e : Event) → IsEventFor members coords e → IsEventFor most_members most_coordinators e
  event_in (event.Begin t c) h = (h.0, coord_in c h.1)
  event_in (event.Local t m) h = (h.0, member_in m h.1)
  event_in (event.Read t m key) h = (h.0, member_in m h.1, h.2)
  event_in (event.Write t m key value) h = (h.0, member_in m h.1, h.2, h.3)
  event_in (event.Erase t m key) h = (h.0, member_in m h.1, h.2)
  event_in (event.Scan t m span) h = (h.0, member_in m h.1, h.2, h.3, h.4)
  event_in (event.Commit t) h = h
  event_in (event.Abort t) h = h
  event_in (event.Deliver note) h = message_in note h
  event_in (event.Vote t m) h = (h.0, member_in m h.1)
  event_in (event.Timer t at) h = (h.0, node_in at h.1)
  event_in (event.Ask t m) h = (h.0, member_in m h.1)
  event_in (event.Resend t c) h = (h.0, coord_in c h.1)
  event_in (event.Crash at) h = node_in at h
  event_in (event.Restart at) h = node_in at h
  event_in (event.Arm at call leaves) h = (node_in at h.0, h.1, h.2)
  event_in (event.Checkpoint at) h = node_in at h

module _ (P : List ℕ → Type 0) where
  -- an item with a small number
  abbrev pub IsItemOf : Item → Type 0
  IsItemOf i = (i.number ≤ 4294967295) × IsKindOf P i.what

  abbrev pub IsEventOf : Event → Type 0
  IsEventOf e = IsEventFor most_members most_coordinators e × (length (line_text e) ≤ longest_line) × WritesOf P e

  numbers_named : (n : ℕ) → n ≤ 4294967295 → (kinds : List ItemKind) → AllByRecursion (IsKindOf P) kinds → AllByRecursion IsItemOf (numbered n kinds)
  numbers_named n small kinds h = all_map (IsKindOf P) IsItemOf (λ what. record { number = n; what = what }) (λ what k. (small, k)) kinds h

  transcript_named : (events : List Event) (n : ℕ) (s : Federation) → IsFederationOf P s → AllByRecursion IsEventOf events → n + length events ≤ 4294967296 →
      AllByRecursion IsItemOf (transcript n events s)
  transcript_named [] n s k h small = tt
  transcript_named (e ∷ es) n s k h small =
      let g = goes P s k e h.0.0 h.0.2 in
      all_append IsItemOf (numbered n (item.Event e ∷ (step_line s e).items)) (transcript (suc n) es (step_line s e).state)
      (numbers_named n (omega (arith, small)) (item.Event e ∷ (step_line s e).items) ((h.0.0, h.0.1), g.items))
      (transcript_named es (suc n) (step_line s e).state g.state h.1 (omega (arith, small)))

  transcript_few : (events : List Event) (n : ℕ) (s : Federation) → IsFederationOf P s → AllByRecursion IsEventOf events →
      length (transcript n events s) ≤ weight s + 19 * length events
  transcript_few [] n s k h = omega arith
  transcript_few (e ∷ es) n s k h =
      let g = goes P s k e h.0.0 h.0.2 in
      let items = (step_line s e).items in
      let few = g.few in
      let rest = transcript_few es (suc n) (step_line s e).state g.state h.1 in
      let a = length-append (numbered n (item.Event e ∷ items)) (transcript (suc n) es (step_line s e).state) in
      let b : length (numbered n (item.Event e ∷ items)) ≡ suc (length items) = length-map (item.Event e ∷ items) (λ what. record { number = n; what = what }) in
      omega (arith, few, rest, a, b)

  module _ (head : Head) (fm fc : ℕ → Found) (written_m : (m : ℕ) → AllByRecursion (IsRecordOf P) (fm m).records) (written_c : (c : ℕ) → AllByRecursion (IsRecordOf P) (fc c).records) (events : List Event) (h : AllByRecursion IsEventOf events) where
    abbrev s0 : Federation
    s0 = opened head.kinds head.coords fm fc

    start : IsFederationOf P s0
    start = opened_named P head.kinds head.coords fm fc written_m written_c

    abbrev first : List ItemKind
    first = item.Head head ∷ opening_items head.kinds head.coords fm fc

    pub run_named : length events ≤ most_numbered → AllByRecursion IsItemOf (run_items head fm fc events)
    run_named small =
        all_append IsItemOf (numbered 1 first) (transcript 2 events s0)
        (numbers_named 1 (omega arith) first (tt, opening_named P head.kinds head.coords fm fc head.members head.coordinators))
        (transcript_named events 2 s0 start h (omega (arith, small)))

    pub run_few : length (run_items head fm fc events) ≤ 26 + 19 * length events
    run_few =
        let a = length-append (numbered 1 first) (transcript 2 events s0) in
        let b : length (numbered 1 first) ≡ length first = length-map first (λ what. record { number = 1; what = what }) in
        let c : length (opening_items head.kinds head.coords fm fc) ≤ 25 = opening_few P head.kinds head.coords fm fc head.members head.coordinators in
        let d = transcript_few events 2 s0 start h in
        let e = nothing_waits head.kinds head.coords fm fc in omega (arith, a, b, c, d, e)
