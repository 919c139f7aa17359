-- A text is judged with but one answer, from whatever stage it was read on.
use Rattle.std.proofs.Common.{◌≡◌, ℕ, suc, ◌+◌, Bool, true, false, List, [], ◌∷◌, ◌++◌, length, map, Option, None, Some, Result, Ok, Err, refl, sym, ap, ◌∙◌, subst, arith}
use Rattle.co_message.specs.declared.item.Item.{Item}
use Rattle.co_schedule.specs.LineText.{first_line, behind_line, next_line}
use Rattle.co_schedule.specs.Limits.{most_of_text}
use Rattle.co_serial.specs.SerialRun.{AllRecords}
use Rattle.co_transcript.specs.Items.{IsItem}
use Rattle.co_transcript.specs.Spelling.{item_text}
use Rattle.co_check.specs.Account.{Account}
use Rattle.co_check.specs.Checked.{IsCheck, IsJudgedFrom, IsJudgedAs, IsBroken, StandsBehind, fault_of}
use Rattle.co_check.specs.Checked as plain
use Rattle.co_check.specs.Once.{IsOfText, IsSameAnswer}
use Rattle.co_check.specs.Resumed.{LiesBehind, AtStart, OneMore, MayNotStand, IsBrokenAt, IsResumedCheck}
use Rattle.co_check.specs.Serial.{no_records}
use Rattle.co_check.specs.Shape.{Read, unread, next, is_whole}
use Rattle.co_check.specs.Shape as shape
use Rattle.co_check.specs.Stages.{IsEntry, entry_text, Stage, InRecords, InTranscript, at_transcript, at_records, read_on, next_of, read_from, is_whole_at}
use Rattle.co_check.specs.declared.entry.Entry.{Entry}
use Rattle.co_check.specs.declared.entry.Entry.TheVariants as entry
use Rattle.co_check.specs.declared.fault.CheckFault.{CheckFault}
use Rattle.co_check.specs.declared.fault.CheckFault.TheVariants as fault
use Rattle.co_check.specs.declared.verdict.Verdict.{Verdict}
use Rattle.co_check.specs.declared.verdict.Verdict.TheVariants as verdict
use Rattle.co_check.proofs.Entries.{one_entry}
use Rattle.co_check.proofs.Reading.{next_is_first}
use Rattle.co_check.proofs.Splits.{serial_or_not_from, differs_once_from}

-- these lines stand at the front of a text of which so many were read before, and this is left
abbrev pub IsFrontOf : ℕ → List ℕ → List Entry → List ℕ → Type 0
IsFrontOf lent text [] left = text ≡ left
IsFrontOf lent text (e ∷ entries) left = IsEntry e × (next_line most_of_text most_of_text lent text ≡ Ok (Some (entry_text e))) × IsFrontOf (suc lent) (behind_line text) entries left

-- these items do
abbrev pub IsFront : ℕ → List ℕ → List Item → List ℕ → Type 0
IsFront lent text [] left = text ≡ left
IsFront lent text (it ∷ items) left = IsItem it × (next_line most_of_text most_of_text lent text ≡ Ok (Some (item_text it))) × IsFront (suc lent) (behind_line text) items left

pub items_front : (lent : ℕ) (text : List ℕ) (items : List Item) (left : List ℕ) → IsFront lent text items left → IsFrontOf lent text (map entry.Item items) left
items_front lent text [] left f = f
items_front lent text (it ∷ items) left f = (f.0, f.1, items_front (suc lent) (behind_line text) items left f.2)

-- the next line is that of this entry
abbrev pub IsNextEntry : ℕ → List ℕ → Entry → Type 0
IsNextEntry lent text e = next_line most_of_text most_of_text lent text ≡ Ok (Some (entry_text e))

one_more : (lent : ℕ) (text : List ℕ) (items : List Entry) (left : List ℕ) (it : Entry) → IsFrontOf lent text items left → IsEntry it → IsNextEntry (lent + length items) left it → IsFrontOf lent text (items ++ it ∷ []) (behind_line left)
one_more lent text [] left it f i e = (i, subst (λ t. IsNextEntry lent t it) (sym f) (subst (λ n. IsNextEntry n left it) (let q : lent + 0 ≡ lent = omega arith in q) e), ap behind_line f)
one_more lent text (x ∷ items) left it f i e =
    (f.0, f.1, one_more (suc lent) (behind_line text) items left it f.2 i (subst (λ n. IsNextEntry n left it) (let q : lent + length (x ∷ items) ≡ suc lent + length items = omega arith in q) e))

pub entries_front : (text : List ℕ) (items : List Entry) (left : List ℕ) → LiesBehind text items left → IsFrontOf 0 text items left
entries_front _ _ _ (AtStart text) = refl
entries_front _ _ _ (OneMore text before items it f i e) = one_more 0 text items before it (entries_front text items before f) i (subst (λ n. IsNextEntry n before it) (let q : length items ≡ 0 + length items = omega arith in q) e)

-- so do the lines of a transcript
item_more : (lent : ℕ) (text : List ℕ) (items : List Item) (left : List ℕ) (it : Item) → IsFront lent text items left → IsItem it → next_line most_of_text most_of_text (lent + length items) left ≡ Ok (Some (item_text it)) →
    IsFront lent text (items ++ it ∷ []) (behind_line left)
item_more lent text [] left it f i e =
    (i, subst (λ t. next_line most_of_text most_of_text lent t ≡ Ok (Some (item_text it))) (sym f) (subst (λ n. next_line most_of_text most_of_text n left ≡ Ok (Some (item_text it))) (let q : lent + 0 ≡ lent = omega arith in q) e), ap behind_line f)
item_more lent text (x ∷ items) left it f i e =
    (f.0, f.1, item_more (suc lent) (behind_line text) items left it f.2 i (subst (λ n. next_line most_of_text most_of_text n left ≡ Ok (Some (item_text it))) (let q : lent + length (x ∷ items) ≡ suc lent + length items = omega arith in q) e))

pub front_of : (text : List ℕ) (items : List Item) (left : List ℕ) → StandsBehind text items left → IsFront 0 text items left
front_of _ _ _ (plain.AtStart text) = refl
front_of _ _ _ (plain.OneMore text before items it f i e) =
    item_more 0 text items before it (front_of text items before f) i (subst (λ n. next_line most_of_text most_of_text n before ≡ Ok (Some (item_text it))) (let q : length items ≡ 0 + length items = omega arith in q) e)

-- ---- two fronts

-- no item stands next that keeps the shape
abbrev pub IsAtStop : Option Stage → ℕ → List ℕ → Type 0
IsAtStop r lent left = (it : Entry) (after : Stage) → IsEntry it → IsNextEntry lent left it → next_of r it ≡ Some after → ⊥

broken_off : (items : List Entry) (after : Stage) → read_from None items ≡ Some after → ⊥
broken_off [] after e = let z : None ≡ Some after = e in cc
broken_off (it ∷ items) after e = broken_off items after e

-- what was read on was kept by its first item
first_kept : (o : Option Stage) (items : List Entry) (after : Stage) → read_from o items ≡ Some after → (r : Stage) × (o ≡ Some r)
first_kept None items after e = absurd (broken_off items after e)
first_kept (Some r) items after e = (r, refl)

-- two fronts of one text at which it stops are one
pub one_front : (lent : ℕ) (text : List ℕ) (r : Option Stage) (xs : List Entry) (left : List ℕ) (after : Stage) (ys : List Entry) (other : List ℕ) (other_after : Stage) →
    IsFrontOf lent text xs left → IsFrontOf lent text ys other → read_from r xs ≡ Some after → read_from r ys ≡ Some other_after →
    IsAtStop (Some after) (lent + length xs) left → IsAtStop (Some other_after) (lent + length ys) other → (xs ≡ ys) × (left ≡ other)
one_front lent text r [] left after [] other other_after f g p q s t = (refl, sym f ∙ g)
one_front lent text r [] left after (y ∷ ys) other other_after f g p q s t =
    let k = first_kept (next_of r y) ys other_after q in
    absurd (s y k.0 g.0 (subst (λ n. IsNextEntry n left y) (let w : lent ≡ lent + 0 = omega arith in w) (subst (λ z. IsNextEntry lent z y) f g.1)) (subst (λ z. next_of z y ≡ Some k.0) p k.1))
one_front lent text r (x ∷ xs) left after [] other other_after f g p q s t =
    let k = first_kept (next_of r x) xs after p in
    absurd (t x k.0 f.0 (subst (λ n. IsNextEntry n other x) (let w : lent ≡ lent + 0 = omega arith in w) (subst (λ z. IsNextEntry lent z x) g f.1)) (subst (λ z. next_of z x ≡ Some k.0) q k.1))
one_front lent text r (x ∷ xs) left after (y ∷ ys) other other_after f g p q s t =
    let texts : entry_text x ≡ entry_text y = (let z : Ok (Some (entry_text x)) ≡ Ok (Some (entry_text y)) = sym f.1 ∙ g.1 in cc) in
    let same : x ≡ y = one_entry x y f.0 g.0 texts in
    let more = one_front (suc lent) (behind_line text) (next_of r x) xs left after ys other other_after f.2 g.2 p (subst (λ z. read_from (next_of r z) ys ≡ Some other_after) (sym same) q)
    (subst (λ n. IsAtStop (Some after) n left) (let w : lent + length (x ∷ xs) ≡ suc lent + length xs = omega arith in w) s)
    (subst (λ n. IsAtStop (Some other_after) n other) (let w : lent + length (y ∷ ys) ≡ suc lent + length ys = omega arith in w) t) in
    ((λ i. same i ∷ more.0 i), more.1)

-- ---- how a text ends

abbrev pub IsShort : ℕ → List ℕ → Type 0
IsShort lent left = (byte : ℕ) (bytes : List ℕ) → left ≡ byte ∷ bytes → next_line most_of_text most_of_text lent left ≡ Ok (Some (first_line left))

-- the transcript is whole, and judged so
abbrev pub IsJudgedAt : Stage → Verdict → Type 0
IsJudgedAt (InRecords last start) judged = ⊥
IsJudgedAt (InTranscript start r) judged = (is_whole r.place ≡ true) × IsJudgedFrom start r.account judged

abbrev pub EndsAs : Stage → ℕ → List ℕ → Result Verdict CheckFault → Type 0
EndsAs r lent left (Ok judged) = (left ≡ []) × IsJudgedAt r judged
EndsAs r lent left (Err (fault.Text line)) = (line ≡ lent + 1) × IsShort lent left × IsBrokenAt (Some r) left
EndsAs r lent left (Err (fault.Long line)) = fault_of (next_line most_of_text most_of_text lent left) ≡ Some (fault.Long line)
EndsAs r lent left (Err fault.Many) = fault_of (next_line most_of_text most_of_text lent left) ≡ Some fault.Many
EndsAs r lent left (Err fault.Read) = ⊥
EndsAs r lent left (Err fault.Memory) = ⊥

record Ended (s : Stage) (text : List ℕ) (o : Result Verdict CheckFault) : Type 0 where
  pub entries : List Entry
  pub left : List ℕ
  pub front : IsFrontOf 0 text entries left
  pub last : Stage
  pub is_shaped : read_from (Some s) entries ≡ Some last
  pub ends : EndsAs last (length entries) left o

-- at the end there is no line, and a line that is read is no fault
nothing_next : (lent : ℕ) (left : List ℕ) (it : Entry) → left ≡ [] → IsNextEntry lent left it → ⊥
nothing_next lent left it is e = let z : Ok None ≡ Ok (Some (entry_text it)) = sym (ap (next_line most_of_text most_of_text lent) is) ∙ e in cc

no_fault : (lent : ℕ) (left line : List ℕ) (why : CheckFault) → fault_of (next_line most_of_text most_of_text lent left) ≡ Some why → next_line most_of_text most_of_text lent left ≡ Ok (Some line) → ⊥
no_fault lent left line why f e = let z : None ≡ Some why = sym (ap fault_of e) ∙ f in cc

nor_at_end : (lent : ℕ) (left : List ℕ) (why : CheckFault) → fault_of (next_line most_of_text most_of_text lent left) ≡ Some why → left ≡ [] → ⊥
nor_at_end lent left why f is = let z : None ≡ Some why = sym (ap (λ t. fault_of (next_line most_of_text most_of_text lent t)) is) ∙ f in cc

stops : (r : Stage) (lent : ℕ) (left : List ℕ) (o : Result Verdict CheckFault) → EndsAs r lent left o → IsAtStop (Some r) lent left
stops r lent left (Ok judged) h it after i e n = nothing_next lent left it h.0 e
stops r lent [] (Err (fault.Text line)) h it after i e n = nothing_next lent [] it refl e
stops r lent (byte ∷ bytes) (Err (fault.Text line)) h it after i e n =
    let z : None ≡ Some after = sym (h.2 it i (sym (next_is_first lent (byte ∷ bytes) (entry_text it) e))) ∙ n in cc
stops r lent left (Err (fault.Long line)) h it after i e n = no_fault lent left (entry_text it) (fault.Long line) h e
stops r lent left (Err fault.Many) h it after i e n = no_fault lent left (entry_text it) fault.Many h e
stops r lent left (Err fault.Read) h it after i e n = h
stops r lent left (Err fault.Memory) h it after i e n = h

-- ---- one end

one_verdict : (start : AllRecords) (a : Account) (one other : Verdict) → IsJudgedFrom start a one → IsJudgedFrom start a other → IsSameAnswer (Ok one) (Ok other)
one_verdict start a (verdict.Serial n map) (verdict.Serial k other) p q = (p.1 ∙ sym q.1, p.2 ∙ sym q.2)
one_verdict start a (verdict.Differs t line told serial) (verdict.Differs u at was other) p q =
    let s = differs_once_from start a.committed t line told serial u at was other p q in
    (s.txn_is, s.operation.number_is, s.operation.was_is, s.operation.serial_is)
one_verdict start a (verdict.Serial n map) (verdict.Differs u at was other) p q = absurd (serial_or_not_from start a.committed u at was other p.0 q)
one_verdict start a (verdict.Differs t line told serial) (verdict.Serial k other) p q = absurd (serial_or_not_from start a.committed t line told serial q.0 p)

whole_or_not : (place : Bool) → place ≡ true → place ≡ false → ⊥
whole_or_not place p q = let z : true ≡ false = sym p ∙ q in cc

one_at : (s : Stage) (one other : Verdict) → IsJudgedAt s one → IsJudgedAt s other → IsSameAnswer (Ok one) (Ok other)
one_at (InRecords last start) one other p q = absurd p
one_at (InTranscript start r) one other p q = one_verdict start r.account one other p.1 q.1

judged_whole : (s : Stage) (judged : Verdict) → IsJudgedAt s judged → is_whole_at s ≡ true
judged_whole (InRecords last start) judged p = absurd p
judged_whole (InTranscript start r) judged p = p.0

text_at_end : (r : Stage) (left : List ℕ) → left ≡ [] → is_whole_at r ≡ true → IsBrokenAt (Some r) left → ⊥
text_at_end r [] is w b = whole_or_not (is_whole_at r) w b
text_at_end r (byte ∷ bytes) is w b = let z : byte ∷ bytes ≡ [] = is in cc

text_or_line : (r : Stage) (lent : ℕ) (left : List ℕ) (why : CheckFault) → IsShort lent left → fault_of (next_line most_of_text most_of_text lent left) ≡ Some why → ⊥
text_or_line r lent [] why s f = nor_at_end lent [] why f refl
text_or_line r lent (byte ∷ bytes) why s f = no_fault lent (byte ∷ bytes) (first_line (byte ∷ bytes)) why f (s byte bytes refl)

one_end : (r : Stage) (lent : ℕ) (left : List ℕ) (one other : Result Verdict CheckFault) → EndsAs r lent left one → EndsAs r lent left other → IsSameAnswer one other
one_end r lent left (Ok one) (Ok other) p q = one_at r one other p.1 q.1
one_end r lent left (Ok one) (Err (fault.Text line)) p q = absurd (text_at_end r left p.0 (judged_whole r one p.1) q.2)
one_end r lent left (Ok one) (Err (fault.Long line)) p q = absurd (nor_at_end lent left (fault.Long line) q p.0)
one_end r lent left (Ok one) (Err fault.Many) p q = absurd (nor_at_end lent left fault.Many q p.0)
one_end r lent left (Err (fault.Text line)) (Ok other) p q = absurd (text_at_end r left q.0 (judged_whole r other q.1) p.2)
one_end r lent left (Err (fault.Long line)) (Ok other) p q = absurd (nor_at_end lent left (fault.Long line) p q.0)
one_end r lent left (Err fault.Many) (Ok other) p q = absurd (nor_at_end lent left fault.Many p q.0)
one_end r lent left (Err (fault.Text line)) (Err (fault.Text at)) p q = ap fault.Text (p.0 ∙ sym q.0)
one_end r lent left (Err (fault.Text line)) (Err (fault.Long at)) p q = absurd (text_or_line r lent left (fault.Long at) p.1 q)
one_end r lent left (Err (fault.Text line)) (Err fault.Many) p q = absurd (text_or_line r lent left fault.Many p.1 q)
one_end r lent left (Err (fault.Long line)) (Err (fault.Text at)) p q = absurd (text_or_line r lent left (fault.Long line) q.1 p)
one_end r lent left (Err fault.Many) (Err (fault.Text at)) p q = absurd (text_or_line r lent left fault.Many q.1 p)
one_end r lent left (Err (fault.Long line)) (Err (fault.Long at)) p q = let z : Some (fault.Long line) ≡ Some (fault.Long at) = sym p ∙ q in cc
one_end r lent left (Err (fault.Long line)) (Err fault.Many) p q = absurd (let z : Some (fault.Long line) ≡ Some fault.Many = sym p ∙ q in cc)
one_end r lent left (Err fault.Many) (Err (fault.Long at)) p q = absurd (let z : Some fault.Many ≡ Some (fault.Long at) = sym p ∙ q in cc)
one_end r lent left (Err fault.Many) (Err fault.Many) p q = refl
one_end r lent left (Err fault.Read) other p q = absurd p
one_end r lent left (Err fault.Memory) other p q = absurd p
one_end r lent left one (Err fault.Read) p q = absurd q
one_end r lent left one (Err fault.Memory) p q = absurd q

-- two answers on one text, read from one stage on, are one
once_from : (s : Stage) (text : List ℕ) (one other : Result Verdict CheckFault) → Ended s text one → Ended s text other → IsSameAnswer one other
once_from s text one other a b =
    let stop_a = subst (λ n. IsAtStop (Some a.last) n a.left) (let w : length a.entries ≡ 0 + length a.entries = omega arith in w) (stops a.last (length a.entries) a.left one a.ends) in
    let stop_b = subst (λ n. IsAtStop (Some b.last) n b.left) (let w : length b.entries ≡ 0 + length b.entries = omega arith in w) (stops b.last (length b.entries) b.left other b.ends) in
    let same = one_front 0 text (Some s) a.entries a.left a.last b.entries b.left b.last a.front b.front a.is_shaped b.is_shaped stop_a stop_b in
    let reads : a.last ≡ b.last = (let z : Some a.last ≡ Some b.last = sym a.is_shaped ∙ ap (read_from (Some s)) same.0 ∙ b.is_shaped in cc) in
    one_end b.last (length b.entries) b.left one other
    (subst (λ left. EndsAs b.last (length b.entries) left one) same.1 (subst (λ n. EndsAs b.last n a.left one) (ap length same.0) (subst (λ r. EndsAs r (length a.entries) a.left one) reads a.ends))) b.ends

-- a text whose lines may stand there to its end is answered by a verdict on them
pub record IsAnswered (last : Stage) (answer : Result Verdict CheckFault) : Type 0 where
  pub verdict : Verdict
  pub is : answer ≡ Ok verdict
  pub judged : IsJudgedAt last verdict

at_end : (r : Stage) (lent : ℕ) (answer : Result Verdict CheckFault) → is_whole_at r ≡ true → EndsAs r lent [] answer → IsAnswered r answer
at_end r lent (Ok judged) w h = record { verdict = judged; is = refl; judged = h.1 }
at_end r lent (Err (fault.Text line)) w h = absurd (text_at_end r [] refl w h.2)
at_end r lent (Err (fault.Long line)) w h = absurd (nor_at_end lent [] (fault.Long line) h refl)
at_end r lent (Err fault.Many) w h = absurd (nor_at_end lent [] fault.Many h refl)
at_end r lent (Err fault.Read) w h = absurd h
at_end r lent (Err fault.Memory) w h = absurd h

answered_from : (s : Stage) (text : List ℕ) (entries : List Entry) (last : Stage) → IsFrontOf 0 text entries [] → read_from (Some s) entries ≡ Some last → is_whole_at last ≡ true →
    (answer : Result Verdict CheckFault) → Ended s text answer → IsAnswered last answer
answered_from s text entries last front shaped w answer b =
    let stop_b = subst (λ n. IsAtStop (Some b.last) n b.left) (let q : length b.entries ≡ 0 + length b.entries = omega arith in q) (stops b.last (length b.entries) b.left answer b.ends) in
    let same = one_front 0 text (Some s) entries [] last b.entries b.left b.last front b.front shaped b.is_shaped (λ it after i e n. nothing_next (0 + length entries) [] it refl e) stop_b in
    let reads : last ≡ b.last = (let z : Some last ≡ Some b.last = sym shaped ∙ ap (read_from (Some s)) same.0 ∙ b.is_shaped in cc) in
    at_end last (length b.entries) answer w (subst (λ left. EndsAs last (length b.entries) left answer) (sym same.1) (subst (λ z. EndsAs z (length b.entries) b.left answer) (sym reads) b.ends))

-- ---- a transcript

pub items_on : (start : AllRecords) (o : Option Read) (items : List Item) → read_from (read_on start o) (map entry.Item items) ≡ read_on start (shape.read_from o items)
items_on start o [] = refl
items_on start None (it ∷ items) = items_on start None items
items_on start (Some r) (it ∷ items) = items_on start (next r it) items

items_broken : (r : Read) (left : List ℕ) → IsBroken (Some r) left → IsBrokenAt (Some (InTranscript no_records r)) left
items_broken r [] b = b
items_broken r (byte ∷ bytes) b = by
  where
    by : MayNotStand (Some (InTranscript no_records r)) (first_line (byte ∷ bytes))
    by (entry.Record row) i e = refl
    by (entry.Item it) i e = ap (read_on no_records) (b it i e)

kept_whole : (o : Option Read) (left : List ℕ) → IsBroken o left → (r : Read) × (o ≡ Some r)
kept_whole None left b = absurd b
kept_whole (Some r) left b = (r, refl)

as_many : (items : List Item) → length items ≡ length (map entry.Item items)
as_many [] = refl
as_many (it ∷ items) = ap suc (as_many items)

ended_at : (text : List ℕ) (items : List Item) (left : List ℕ) (r : Read) (o : Result Verdict CheckFault) → StandsBehind text items left → shape.read items ≡ Some r → EndsAs (InTranscript no_records r) (length items) left o →
    Ended at_transcript text o
ended_at text items left r o front shaped ends =
    record {
      entries = map entry.Item items;
      left = left;
      front = items_front 0 text items left (front_of text items left front);
      last = InTranscript no_records r;
      is_shaped = items_on no_records (Some unread) items ∙ ap (read_on no_records) shaped;
      ends = subst (λ n. EndsAs (InTranscript no_records r) n left o) (as_many items) ends;
    }

ended : (text : List ℕ) (o : Result Verdict CheckFault) → IsCheck text o → IsOfText o → Ended at_transcript text o
ended text (Ok judged) c k = ended_at text c.items [] (record { place = c.place; account = c.account }) (Ok judged) c.all c.shaped (refl, (c.whole, c.judged))
ended text (Err (fault.Text line)) c k =
    let r = kept_whole (shape.read_from (Some unread) c.items) c.left c.broken in
    ended_at text c.items c.left r.0 (Err (fault.Text line)) c.front r.1 (c.number, c.short, items_broken r.0 c.left (subst (λ o. IsBroken o c.left) r.1 c.broken))
ended text (Err (fault.Long line)) c k = ended_at text c.items c.left c.shaped (Err (fault.Long line)) c.front c.is_shaped c.cause
ended text (Err fault.Many) c k = ended_at text c.items c.left c.shaped (Err fault.Many) c.front c.is_shaped c.cause
ended text (Err fault.Read) c k = absurd k
ended text (Err fault.Memory) c k = absurd k

pub checked_once : (text : List ℕ) (one other : Result Verdict CheckFault) → IsCheck text one → IsCheck text other → IsOfText one → IsOfText other → IsSameAnswer one other
checked_once text one other c d k l = once_from at_transcript text one other (ended text one c k) (ended text other d l)

-- a text whose lines are these items, well shaped to its end, is answered by a verdict on them
pub record IsJudged (a : Account) (answer : Result Verdict CheckFault) : Type 0 where
  pub verdict : Verdict
  pub is : answer ≡ Ok verdict
  pub judged : IsJudgedAs a verdict

pub judged_at_end : (text : List ℕ) (items : List Item) (r : Read) → StandsBehind text items [] → shape.read items ≡ Some r → is_whole r.place ≡ true →
    (answer : Result Verdict CheckFault) → IsCheck text answer → IsOfText answer → IsJudged r.account answer
judged_at_end text items r all shaped w answer c k =
    let j = answered_from at_transcript text (map entry.Item items) (InTranscript no_records r) (items_front 0 text items [] (front_of text items [] all))
    (items_on no_records (Some unread) items ∙ ap (read_on no_records) shaped) w answer (ended text answer c k) in
    record { verdict = j.verdict; is = j.is; judged = j.judged.1 }

-- ---- a resumed run

kept_at : (o : Option Stage) (left : List ℕ) → IsBrokenAt o left → (s : Stage) × (o ≡ Some s)
kept_at None left b = absurd b
kept_at (Some s) left b = (s, refl)

ended_resumed : (text : List ℕ) (o : Result Verdict CheckFault) → IsResumedCheck text o → IsOfText o → Ended at_records text o
ended_resumed text (Ok judged) c k =
    record { entries = c.entries; left = []; front = entries_front text c.entries [] c.all; last = InTranscript c.start (record { place = c.place; account = c.account }); is_shaped = c.shaped; ends = (refl, (c.whole, c.judged)) }
ended_resumed text (Err (fault.Text line)) c k =
    let r = kept_at (read_from (Some at_records) c.entries) c.left c.broken in
    record { entries = c.entries; left = c.left; front = entries_front text c.entries c.left c.front; last = r.0; is_shaped = r.1; ends = (c.number, c.short, subst (λ o. IsBrokenAt o c.left) r.1 c.broken) }
ended_resumed text (Err (fault.Long line)) c k = record { entries = c.entries; left = c.left; front = entries_front text c.entries c.left c.front; last = c.last; is_shaped = c.shaped; ends = c.cause }
ended_resumed text (Err fault.Many) c k = record { entries = c.entries; left = c.left; front = entries_front text c.entries c.left c.front; last = c.last; is_shaped = c.shaped; ends = c.cause }
ended_resumed text (Err fault.Read) c k = absurd k
ended_resumed text (Err fault.Memory) c k = absurd k

pub resumed_once : (text : List ℕ) (one other : Result Verdict CheckFault) → IsResumedCheck text one → IsResumedCheck text other → IsOfText one → IsOfText other → IsSameAnswer one other
resumed_once text one other c d k l = once_from at_records text one other (ended_resumed text one c k) (ended_resumed text other d l)

pub resumed_at_end : (text : List ℕ) (entries : List Entry) (last : Stage) → IsFrontOf 0 text entries [] → read_from (Some at_records) entries ≡ Some last → is_whole_at last ≡ true →
    (answer : Result Verdict CheckFault) → IsResumedCheck text answer → IsOfText answer → IsAnswered last answer
resumed_at_end text entries last front shaped w answer c k = answered_from at_records text entries last front shaped w answer (ended_resumed text answer c k)
