-- Where every key was written by an event, the rows of a scan are no more than those events; so each item has a line.
use Rattle.std.proofs.Common.{◌≡◌, ℕ, Bool, true, false, ◌||◌, ◌+◌, ◌*◌, ◌≤◌, List, [], ◌∷◌, ◌++◌, length, map, None, Some, refl, sym, ap, subst, arith, length-append}
use Rattle.std.proofs.lemmas.Cmp.{nat_list_cmp_total}
use Rattle.std.proofs.lemmas.List.{length-map}
use Rattle.std.proofs.lemmas.Map.Keys.{IsDistinct-from_sorted}
use Rattle.std.proofs.lemmas.Map.Made.{length-le_from_is_member}
use Rattle.std.specs.Cmp.{eq_by_cmp_equiv}
use Rattle.std.specs.List.{AllByRecursion, list_any}
use Rattle.std.specs.Prelude.{decimal}
use Rattle.co_base.specs.Order.{key_cmp}
use Rattle.co_base.specs.RowOrder.{IsInKeyOrder}
use Rattle.co_base.specs.declared.head.Head.{Head}
use Rattle.co_base.specs.declared.reply.Reply.{Reply}
use Rattle.co_base.specs.declared.reply.Reply.TheVariants as reply
use Rattle.co_base.specs.declared.row.Row.{Row}
use Rattle.co_base.specs.Limits.{most_coordinators, most_members}
use Rattle.co_message.specs.declared.answer.Answer.{Answer}
use Rattle.co_message.specs.declared.answer.Answer.TheVariants as answer
use Rattle.co_message.specs.declared.event.Event.{Event}
use Rattle.co_message.specs.declared.event.Event.TheVariants as event
use Rattle.co_message.specs.declared.item.Item.{Item}
use Rattle.co_message.specs.declared.item.ItemKind.{ItemKind}
use Rattle.co_message.specs.declared.item.ItemKind.TheVariants as item
use Rattle.co_record.specs.Spelling.{IsSpelled}
use Rattle.co_schedule.specs.View.{IsKey, IsEventFor}
use Rattle.co_schedule.specs.Words.{spaced}
use Rattle.co_state.specs.Keys.{same_key}
use Rattle.co_plain.specs.Opening.{Found}
use Rattle.co_replay.specs.Schedule.{HasLine}
use Rattle.co_replay.specs.Transcript.{run_items}
use Rattle.co_transcript.specs.Items.{AreRows, IsReply, IsAnswer, IsTold, IsItem}
use Rattle.co_transcript.specs.Spelling.{kind_words}
use Rattle.co_law_engine.proofs.Keys.{same_key_is, same_key_refl}
use Rattle.co_law_items.specs.Scans.{TellsFewRows, IsItemOfFewRows, IsWithinIfScan, HasShortScan, most_numbered, key_written, keys_written}
use Rattle.co_law_items.proofs.Named.{all_as, IsRowOf}
use Rattle.co_law_items.proofs.Engines.{IsReplyOf}
use Rattle.co_law_items.proofs.Logs.{IsRecordOf}
use Rattle.co_law_items.proofs.Answers.{IsAnswerOf, IsKindOf}
use Rattle.co_law_items.proofs.Opened.{as_record}
use Rattle.co_law_items.proofs.Runs.{event_in, IsItemOf, IsEventOf, run_named, run_few}
use Rattle.co_law_items.proofs.Steps.{WritesOf}
use Rattle.co_law_items.proofs.Texts.{scan_long}

-- ---- items have lines

rows_are : (P : List ℕ → Type 0) → ((key : List ℕ) → P key → IsKey key) → (rows : List Row) → AllByRecursion (IsRowOf P) rows → AreRows rows
rows_are P of [] h = tt
rows_are P of (row ∷ rows) h = (of row.key h.0.0, h.0.1, rows_are P of rows h.1)

reply_is : (P : List ℕ → Type 0) → ((key : List ℕ) → P key → IsKey key) → (r : Reply) → IsReplyOf P r → TellsFewRows (item.Answered (answer.Replied r)) → IsReply r
reply_is P of (reply.Got (Some value)) h few = h
reply_is P of (reply.Got None) h few = tt
reply_is P of (reply.Rows rows) h few = (h.0, rows_are P of rows h.1, few)
reply_is P of reply.Done h few = tt

answer_is : (P : List ℕ → Type 0) → ((key : List ℕ) → P key → IsKey key) → (a : Answer) → IsAnswerOf P a → TellsFewRows (item.Answered a) → IsAnswer a
answer_is P of (answer.Replied r) h few = reply_is P of r h few
answer_is P of (answer.NoStale key) h few = of key h
answer_is P of a h few = h

told_is : (P : List ℕ → Type 0) → ((key : List ℕ) → P key → IsKey key) → (what : ItemKind) → IsKindOf P what → TellsFewRows what → IsTold what
told_is P of (item.Head head) h few = tt
told_is P of (item.Event e) h few = h
told_is P of (item.Log mark) h few = h
told_is P of (item.Sent note) h few = h
told_is P of (item.Answered a) h few = answer_is P of a h few

item_is : (P : List ℕ → Type 0) → ((key : List ℕ) → P key → IsKey key) → (i : Item) → IsItemOf P i → IsItemOfFewRows i
item_is P of i h few = (h.0, told_is P of i.what h.1 few)

-- ---- keys that events write

-- a key that is one of these
abbrev pub IsAmongKeys : List (List ℕ) → List ℕ → Type 0
IsAmongKeys ks key = IsKey key × (list_any (same_key key) ks ≡ true)

any_behind : (test : List ℕ → Bool) (xs ys : List (List ℕ)) → list_any test ys ≡ true → list_any test (xs ++ ys) ≡ true
any_behind test [] ys h = h
any_behind test (x ∷ xs) ys h = by (any_behind test xs ys h) (test x)
  where
    by : list_any test (xs ++ ys) ≡ true → (b : Bool) → (b || list_any test (xs ++ ys)) ≡ true
    by rest true = refl
    by rest false = rest

module _ (head : Head) (ks : List (List ℕ)) where
  abbrev Covers : List (List ℕ) → Type 0
  Covers own = (q : List ℕ) → list_any (same_key q) own ≡ true → list_any (same_key q) ks ≡ true

  first_is : (key : List ℕ) (more : List (List ℕ)) → list_any (same_key key) (key ∷ more) ≡ true
  first_is key more = ap (λ b. b || list_any (same_key key) more) (same_key_refl key)

  writes : (e : Event) (more : List (List ℕ)) → IsEventFor most_members most_coordinators e → Covers (key_written e ++ more) → WritesOf (IsAmongKeys ks) e
  writes (event.Write t m key value) more h c = (h.2, c key (first_is key more))
  writes (event.Erase t m key) more h c = (h.2, c key (first_is key more))
  writes (event.Begin t k) more h c = tt
  writes (event.Local t m) more h c = tt
  writes (event.Read t m key) more h c = tt
  writes (event.Scan t m span) more h c = tt
  writes (event.Commit t) more h c = tt
  writes (event.Abort t) more h c = tt
  writes (event.Deliver note) more h c = tt
  writes (event.Vote t m) more h c = tt
  writes (event.Timer t at) more h c = tt
  writes (event.Ask t m) more h c = tt
  writes (event.Resend t k) more h c = tt
  writes (event.Crash at) more h c = tt
  writes (event.Restart at) more h c = tt
  writes (event.Arm at call leaves) more h c = tt
  writes (event.Checkpoint at) more h c = tt

  events_named : (events : List Event) → AllByRecursion (HasLine head) events → Covers (keys_written events) → AllByRecursion (IsEventOf (IsAmongKeys ks)) events
  events_named [] h c = tt
  events_named (e ∷ es) h c =
      let own : IsEventFor most_members most_coordinators e = event_in (length head.kinds) head.coords head.members head.coordinators e h.0.0 in (
        (own, h.0.1, writes e (keys_written es) own c),
        events_named es h.1 (λ q k. c q (any_behind (same_key q) (key_written e) (keys_written es) k)),
      )

-- keys that are texts, whatever wrote them
pub events_texts : (head : Head) (events : List Event) → AllByRecursion (HasLine head) events → AllByRecursion (IsEventOf IsKey) events
events_texts head [] h = tt
events_texts head (e ∷ es) h =
    let own : IsEventFor most_members most_coordinators e = event_in (length head.kinds) head.coords head.members head.coordinators e h.0.0 in ((own, h.0.1, texts e own), events_texts head es h.1)
  where
    texts : (f : Event) → IsEventFor most_members most_coordinators f → WritesOf IsKey f
    texts (event.Write t m key value) k = k.2
    texts (event.Erase t m key) k = k.2
    texts (event.Begin t c) k = tt
    texts (event.Local t m) k = tt
    texts (event.Read t m key) k = tt
    texts (event.Scan t m span) k = tt
    texts (event.Commit t) k = tt
    texts (event.Abort t) k = tt
    texts (event.Deliver note) k = tt
    texts (event.Vote t m) k = tt
    texts (event.Timer t at) k = tt
    texts (event.Ask t m) k = tt
    texts (event.Resend t c) k = tt
    texts (event.Crash at) k = tt
    texts (event.Restart at) k = tt
    texts (event.Arm at call leaves) k = tt
    texts (event.Checkpoint at) k = tt

pub few_written : (events : List Event) → length (keys_written events) ≤ length events
few_written [] = omega arith
few_written (e ∷ es) = let a = length-append (key_written e) (keys_written es) in let b = few_written es in let c = one e in omega (arith, a, b, c)
  where
    one : (f : Event) → length (key_written f) ≤ 1
    one (event.Write t m key value) = omega arith
    one (event.Erase t m key) = omega arith
    one (event.Begin t c) = omega arith
    one (event.Local t m) = omega arith
    one (event.Read t m key) = omega arith
    one (event.Scan t m span) = omega arith
    one (event.Commit t) = omega arith
    one (event.Abort t) = omega arith
    one (event.Deliver note) = omega arith
    one (event.Vote t m) = omega arith
    one (event.Timer t at) = omega arith
    one (event.Ask t m) = omega arith
    one (event.Resend t c) = omega arith
    one (event.Crash at) = omega arith
    one (event.Restart at) = omega arith
    one (event.Arm at call leaves) = omega arith
    one (event.Checkpoint at) = omega arith

-- ---- rows are no more than the keys

row_keys_in : (ks : List (List ℕ)) (rows : List Row) → AllByRecursion (IsRowOf (IsAmongKeys ks)) rows → (q : List ℕ) → list_any (same_key q) (map (λ r. r.key) rows) ≡ true → list_any (same_key q) ks ≡ true
row_keys_in ks [] h q k = absurd (let z : false ≡ true = k in cc)
row_keys_in ks (row ∷ rows) h q k = by (row_keys_in ks rows h.1 q) (same_key q row.key) refl k
  where
    by : (list_any (same_key q) (map (λ r. r.key) rows) ≡ true → list_any (same_key q) ks ≡ true) → (b : Bool) → same_key q row.key ≡ b →
        (b || list_any (same_key q) (map (λ r. r.key) rows)) ≡ true → list_any (same_key q) ks ≡ true
    by rest true e f = subst (λ n. list_any (same_key n) ks ≡ true) (sym (same_key_is q row.key e)) h.0.0.1
    by rest false e f = rest f

pub rows_few : (ks : List (List ℕ)) (rows : List Row) → IsInKeyOrder rows → AllByRecursion (IsRowOf (IsAmongKeys ks)) rows → length rows ≤ length ks
rows_few ks rows order h =
    let names = map (λ r. r.key) rows in
    let l = length-le_from_is_member (eq_by_cmp_equiv nat_list_cmp_total) names ks (IsDistinct-from_sorted key_cmp names order) (row_keys_in ks rows h) in
    let e : length names ≡ length rows = length-map rows (λ r. r.key) in omega (arith, l, e)

module _ (ks : List (List ℕ)) (few : length ks ≤ 4294967295) where
  kind_few : (what : ItemKind) → IsKindOf (IsAmongKeys ks) what → TellsFewRows what
  kind_few (item.Answered (answer.Replied (reply.Rows rows))) h = let l = rows_few ks rows h.0 h.1 in omega (arith, l, few)
  kind_few _ h = tt

  few_is : (i : Item) → IsItemOf (IsAmongKeys ks) i → IsItem i
  few_is i h = item_is (IsAmongKeys ks) (λ key k. k.0) i h (kind_few i.what h.1)

-- the line of a scan is as long as its records, which are no more than the keys
module _ (ks : List (List ℕ)) (few : length ks ≤ 4294967295) where
  scan_short : (n : ℕ) → n ≤ 4294967295 → (what : ItemKind) → IsKindOf (IsAmongKeys ks) what → IsWithinIfScan (32 + 4130 * length ks) what (length (spaced (decimal n ∷ kind_words what)))
  scan_short n small (item.Answered (answer.Replied (reply.Rows rows))) h =
      let l = rows_few ks rows h.0 h.1 in
      let s = scan_long n small rows (rows_are (IsAmongKeys ks) (λ key k. k.0) rows h.1) (omega (arith, l, few)) in omega (arith, l, s)
  scan_short n small _ h = tt

  pub scans_short : (items : List Item) → AllByRecursion (IsItemOf (IsAmongKeys ks)) items → AllByRecursion (HasShortScan (32 + 4130 * length ks)) items
  scans_short [] h = tt
  scans_short (i ∷ is) h = (scan_short i.number h.0.0 i.what h.0.1, scans_short is h.1)

-- ---- the laws

nothing_written : (P : List ℕ → Type 0) (found : ℕ → Found) → ((m : ℕ) → (found m).records ≡ []) → (m : ℕ) → AllByRecursion (IsRecordOf P) (found m).records
nothing_written P found fresh m = subst (AllByRecursion (IsRecordOf P)) (sym (fresh m)) tt

-- each item of a run over logs without records names keys that an event of the run wrote
pub fresh_named : (head : Head) (fm fc : ℕ → Found) (events : List Event) → ((m : ℕ) → (fm m).records ≡ []) → ((c : ℕ) → (fc c).records ≡ []) → AllByRecursion (HasLine head) events →
    length events ≤ most_numbered → AllByRecursion (IsItemOf (IsAmongKeys (keys_written events))) (run_items head fm fc events)
fresh_named head fm fc events fresh_m fresh_c lined few =
    run_named (IsAmongKeys (keys_written events)) head fm fc (nothing_written _ fm fresh_m) (nothing_written _ fc fresh_c) events (events_named head (keys_written events) events lined (λ q k. k)) few

pub fresh_items : (head : Head) (fm fc : ℕ → Found) (events : List Event) → ((m : ℕ) → (fm m).records ≡ []) → ((c : ℕ) → (fc c).records ≡ []) → AllByRecursion (HasLine head) events →
    length events ≤ most_numbered → AllByRecursion IsItem (run_items head fm fc events)
fresh_items head fm fc events fresh_m fresh_c lined few =
    let all = fresh_named head fm fc events fresh_m fresh_c lined few in
    let w = few_written events in
    all_as (IsItemOf (IsAmongKeys (keys_written events))) IsItem (few_is (keys_written events) (omega (arith, w, few))) (run_items head fm fc events) all

all_spelled : (found : ℕ → Found) → ((m : ℕ) → AllByRecursion IsSpelled (found m).records) → (m : ℕ) → AllByRecursion (IsRecordOf IsKey) (found m).records
all_spelled found h m = all_as IsSpelled (IsRecordOf IsKey) as_record (found m).records (h m)

pub found_items : (head : Head) (fm fc : ℕ → Found) (events : List Event) → ((m : ℕ) → AllByRecursion IsSpelled (fm m).records) → ((c : ℕ) → AllByRecursion IsSpelled (fc c).records) →
    AllByRecursion (HasLine head) events → length events ≤ most_numbered → AllByRecursion IsItemOfFewRows (run_items head fm fc events)
found_items head fm fc events written_m written_c lined few =
    all_as (IsItemOf IsKey) IsItemOfFewRows (item_is IsKey (λ key h. h)) (run_items head fm fc events)
    (run_named IsKey head fm fc (all_spelled fm written_m) (all_spelled fc written_c) events (events_texts head events lined) few)

pub found_few : (head : Head) (fm fc : ℕ → Found) (events : List Event) → ((m : ℕ) → AllByRecursion IsSpelled (fm m).records) → ((c : ℕ) → AllByRecursion IsSpelled (fc c).records) →
    AllByRecursion (HasLine head) events → length (run_items head fm fc events) ≤ 26 + 19 * length events
found_few head fm fc events written_m written_c lined = run_few IsKey head fm fc (all_spelled fm written_m) (all_spelled fc written_c) events (events_texts head events lined)

pub fresh_scans : (head : Head) (fm fc : ℕ → Found) (events : List Event) → ((m : ℕ) → (fm m).records ≡ []) → ((c : ℕ) → (fc c).records ≡ []) → AllByRecursion (HasLine head) events →
    length events ≤ most_numbered → AllByRecursion (HasShortScan (32 + 4130 * length (keys_written events))) (run_items head fm fc events)
fresh_scans head fm fc events fresh_m fresh_c lined few =
    let w = few_written events in
    scans_short (keys_written events) (omega (arith, w, few)) (run_items head fm fc events) (fresh_named head fm fc events fresh_m fresh_c lined few)
