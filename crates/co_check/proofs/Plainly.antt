-- What is read of a text from the front of a transcript on is read of a transcript alone; and of a resumed run, from the front of its records on.
use Rattle.std.proofs.Common.{◌≡◌, ℕ, suc, ◌+◌, List, [], ◌∷◌, ◌++◌, length, Option, None, Some, Result, Ok, Err, refl, sym, ap, ◌∙◌, subst}
use Rattle.co_message.specs.declared.item.Item.{Item}
use Rattle.co_schedule.specs.Limits.{most_of_text}
use Rattle.co_schedule.specs.LineText.{behind_line, next_line}
use Rattle.co_serial.specs.SerialRun.{AllRecords}
use Rattle.co_check.specs.Checked.{StandsBehind, IsBroken, IsReading, IsCheck, IsEnding, verdict_of, fault_of}
use Rattle.co_check.specs.Checked as plain
use Rattle.co_check.specs.Resumed.{LiesBehind, AtStart, OneMore, IsEndedAt, IsBrokenAt, IsReadingFrom, IsResumedCheck, IsResumedVerdict}
use Rattle.co_check.specs.Shape.{Read, unread, next}
use Rattle.co_check.specs.Shape as shape
use Rattle.co_check.specs.Stages.{Stage, InRecords, InTranscript, at_transcript, at_records, read_on, read_from}
use Rattle.co_check.specs.Serial.{no_records}
use Rattle.co_check.specs.declared.entry.Entry.{Entry}
use Rattle.co_check.specs.declared.entry.Entry.TheVariants as entry
use Rattle.co_check.specs.declared.fault.CheckFault.{CheckFault}
use Rattle.co_check.specs.declared.fault.CheckFault.TheVariants as fault
use Rattle.co_check.specs.declared.verdict.Ending.{Ending}

-- the items among these lines; and that there is nothing else
abbrev items_of : List Entry → List Item
items_of [] = []
items_of (entry.Record row ∷ entries) = items_of entries
items_of (entry.Item it ∷ entries) = it ∷ items_of entries

abbrev AreItems : List Entry → Type 0
AreItems [] = Unit {0}
AreItems (entry.Record row ∷ entries) = ⊥
AreItems (entry.Item it ∷ entries) = AreItems entries

items-append : (xs ys : List Entry) → items_of (xs ++ ys) ≡ items_of xs ++ items_of ys
items-append [] ys = refl
items-append (entry.Record row ∷ xs) ys = items-append xs ys
items-append (entry.Item it ∷ xs) ys = ap (λ zs. it ∷ zs) (items-append xs ys)

as_many : (xs : List Entry) → AreItems xs → length (items_of xs) ≡ length xs
as_many [] a = refl
as_many (entry.Record row ∷ xs) a = absurd a
as_many (entry.Item it ∷ xs) a = ap (λ n. suc n) (as_many xs a)

before_last : (xs ys : List Entry) → AreItems (xs ++ ys) → AreItems xs × AreItems ys
before_last [] ys a = (tt, a)
before_last (entry.Record row ∷ xs) ys a = absurd a
before_last (entry.Item it ∷ xs) ys a = before_last xs ys a

stands : (text : List ℕ) (entries : List Entry) (left : List ℕ) → LiesBehind text entries left → AreItems entries → StandsBehind text (items_of entries) left
stands _ _ _ (AtStart text) a = plain.AtStart text
stands _ _ _ (OneMore text left entries (entry.Record row) f i e) a = absurd (before_last entries (entry.Record row ∷ []) a).1
stands _ _ _ (OneMore text left entries (entry.Item it) f i e) a =
    let b = (before_last entries (entry.Item it ∷ []) a).0 in
    subst (λ is. StandsBehind text is (behind_line left)) (sym (items-append entries (entry.Item it ∷ [])))
    (plain.OneMore text left (items_of entries) it (stands text entries left f b) i (ap (λ n. next_line most_of_text most_of_text n left) (as_many entries b) ∙ e))

-- a transcript was read of items alone
pub record IsOfItems (start : AllRecords) (r : Read) (entries : List Entry) (last : Stage) : Type 0 where
  pub items : AreItems entries
  pub read : Read
  pub is : shape.read_from (Some r) (items_of entries) ≡ Some read
  pub last_is : last ≡ InTranscript start read

nothing_more : (entries : List Entry) (last : Stage) → read_from None entries ≡ Some last → ⊥
nothing_more [] last e = let z : None ≡ Some last = e in cc
nothing_more (x ∷ entries) last e = nothing_more entries last e

one_more : (start : AllRecords) (r : Read) (it : Item) (entries : List Entry) (last : Stage) (o : Option Read) → next r it ≡ o → read_from (read_on start o) entries ≡ Some last →
    ((more : Read) → read_from (Some (InTranscript start more)) entries ≡ Some last → IsOfItems start more entries last) → IsOfItems start r (entry.Item it ∷ entries) last
one_more start r it entries last None n e rest = absurd (nothing_more entries last e)
one_more start r it entries last (Some more) n e rest =
    let m = rest more e in
    record { items = m.items; read = m.read; is = ap (λ o. shape.read_from o (items_of entries)) n ∙ m.is; last_is = m.last_is }

of_items : (start : AllRecords) (r : Read) (entries : List Entry) (last : Stage) → read_from (Some (InTranscript start r)) entries ≡ Some last → IsOfItems start r entries last
of_items start r [] last e = record { items = tt; read = r; is = refl; last_is = let z : Some last ≡ Some (InTranscript start r) = sym e in cc }
of_items start r (entry.Record row ∷ entries) last e = absurd (nothing_more entries last e)
of_items start r (entry.Item it ∷ entries) last e = one_more start r it entries last (next r it) refl e (λ more f. of_items start more entries last f)

-- what may not stand in a transcript breaks its shape
nothing_next : (start : AllRecords) (o : Option Read) → read_on start o ≡ None → o ≡ None
nothing_next start None e = refl
nothing_next start (Some r) e = absurd (let z : Some (InTranscript start r) ≡ None = e in cc)

breaks_off : (start : AllRecords) (r : Read) (left : List ℕ) → IsBrokenAt (Some (InTranscript start r)) left → IsBroken (Some r) left
breaks_off start r [] b = b
breaks_off start r (byte ∷ bytes) b = λ it i e. nothing_next start (next r it) (b (entry.Item it) i e)

stage_of : (o : Option Stage) (left : List ℕ) → IsBrokenAt o left → (last : Stage) × (o ≡ Some last)
stage_of None left b = absurd b
stage_of (Some last) left b = (last, refl)

pub reads_plainly : (text : List ℕ) (o : Result Ending CheckFault) → IsReadingFrom at_transcript text o → IsReading text o
reads_plainly text (Ok ending) h =
    let m = of_items no_records unread h.entries h.last h.shaped in
    let ended = subst (λ z. IsEndedAt z ending) m.last_is h.ended in
    record {
      items = items_of h.entries;
      account = m.read.account;
      place = m.read.place;
      all = stands text h.entries [] h.all m.items;
      shaped = m.is;
      whole = ended.0;
      judged = ended.1.0;
      kept = ended.1.1;
    }
reads_plainly text (Err (fault.Text line)) h =
    let last = stage_of (read_from (Some at_transcript) h.entries) h.left h.broken in
    let m = of_items no_records unread h.entries last.0 last.1 in
    record {
      items = items_of h.entries;
      left = h.left;
      front = stands text h.entries h.left h.front m.items;
      number = h.number ∙ ap (λ n. n + 1) (sym (as_many h.entries m.items));
      short = λ byte bytes is. ap (λ n. next_line most_of_text most_of_text n h.left) (as_many h.entries m.items) ∙ h.short byte bytes is;
      broken =
          subst (λ r. IsBroken r h.left) (sym m.is)
          (breaks_off no_records m.read h.left (subst (λ o. IsBrokenAt o h.left) (last.1 ∙ ap Some m.last_is) h.broken));
    }
reads_plainly text (Err (fault.Long line)) h =
    let m = of_items no_records unread h.entries h.last h.shaped in
    record {
      items = items_of h.entries;
      left = h.left;
      front = stands text h.entries h.left h.front m.items;
      shaped = m.read;
      is_shaped = m.is;
      cause = ap (λ n. fault_of (next_line most_of_text most_of_text n h.left)) (as_many h.entries m.items) ∙ h.cause;
    }
reads_plainly text (Err fault.Many) h =
    let m = of_items no_records unread h.entries h.last h.shaped in
    record {
      items = items_of h.entries;
      left = h.left;
      front = stands text h.entries h.left h.front m.items;
      shaped = m.read;
      is_shaped = m.is;
      cause = ap (λ n. fault_of (next_line most_of_text most_of_text n h.left)) (as_many h.entries m.items) ∙ h.cause;
    }
reads_plainly text (Err fault.Read) h = tt
reads_plainly text (Err fault.Memory) h = tt

-- who reads a text, checks it
pub reading_checks : (text : List ℕ) (o : Result Ending CheckFault) → IsReading text o → IsCheck text (verdict_of o)
reading_checks text (Ok ending) h =
    record { items = h.items; account = h.account; place = h.place; all = h.all; shaped = h.shaped; whole = h.whole; judged = h.judged }
reading_checks text (Err why) h = h

resumed_at : (text : List ℕ) (ending : Ending) (entries : List Entry) (last : Stage) → LiesBehind text entries [] → read_from (Some at_records) entries ≡ Some last → IsEndedAt last ending → IsResumedVerdict text ending.verdict
resumed_at text ending entries (InRecords name start) all shaped e = absurd e
resumed_at text ending entries (InTranscript start r) all shaped e =
    record { entries = entries; start = start; account = r.account; place = r.place; all = all; shaped = shaped; whole = e.0; judged = e.1.0 }

pub resumed_checks : (text : List ℕ) (o : Result Ending CheckFault) → IsReadingFrom at_records text o → IsResumedCheck text (verdict_of o)
resumed_checks text (Ok ending) h = resumed_at text ending h.entries h.last h.all h.shaped h.ended
resumed_checks text (Err why) h = h
