-- Lines of records and of items: each tells one thing, and may stand there or not.
use Rattle.std.proofs.Common.{◌≡◌, ℕ, ◌<◌, ◌^◌, true, false, List, [], ◌∷◌, ◌++◌, append_assoc, append-nil, get_or, None, Some, Result, Ok, Err, refl, sym, ap, ◌∙◌, subst, arith, decimal}
use Rattle.std.specs.Str.{all_ascii_digits}
use Rattle.std.proofs.lemmas.Fmt.{digits_decimal}
use Rattle.std.proofs.lemmas.Str.Parse.{numerals_by_value, tells_all_ascii_digits}
use Rattle.co_base.specs.Limits.{most_members}
use Rattle.co_message.specs.declared.item.Item.{Item}
use Rattle.co_serial.specs.declared.member_row.MemberRow.{MemberRow}
use Rattle.co_serial.specs.RecordText.{record_line}
use Rattle.co_schedule.specs.LineText.{newline}
use Rattle.co_schedule.specs.Places.{member, key, value, nothing, ◌▸◌, first_fault}
use Rattle.co_schedule.specs.Spelling.{member_word}
use Rattle.co_schedule.specs.Words.{Word, words_of}
use Rattle.co_schedule.specs.declared.fault.Mistake.{Mistake}
use Rattle.co_schedule.proofs.Fitting.{Fits, member_taken, key_taken, value_taken, words_of-fit, fits_first_fault}
use Rattle.co_schedule.proofs.Numbers.{value_of-decimal}
use Rattle.co_schedule.proofs.Unique.{named}
use Rattle.co_transcript.specs.Items.{IsItem}
use Rattle.co_transcript.specs.Spelling.{item_text}
use Rattle.co_transcript.proofs.ItemLaws.{one_line, words_of_item}
use Rattle.co_check.specs.Resumed.{MayNotStand, IsEntryTaken, IsLineTaken}
use Rattle.co_check.specs.Stages.{IsEntry, entry_text, Stage, next_stage}
use Rattle.co_check.specs.Starts.{IsRecord, record_words, record_text, record_places}
use Rattle.co_check.specs.declared.entry.Entry.{Entry}
use Rattle.co_check.specs.declared.entry.Entry.TheVariants as entry
use Rattle.co_check.specs.declared.fault.CheckFault.{CheckFault}
use Rattle.co_check.specs.declared.fault.CheckFault.TheVariants as fault
use Rattle.co_check.specs.declared.reader.Reader.{Reader}

-- ---- records

pub record_fits : (row : MemberRow) → IsRecord row → Fits record_places (record_words row)
record_fits row it = (member_taken most_members row.member it.0 (omega arith), (key_taken row.row.key it.1, (value_taken row.row.value it.2, tt)))

-- the line of a record has its words
pub words_of_record : (row : MemberRow) (line : List ℕ) → IsRecord row → line ≡ record_text row → words_of line ≡ record_words row
words_of_record row line it h = ap words_of h ∙ words_of-fit (member most_members) (λ _. key ▸ value ▸ nothing) (record_words row) (record_fits row it)

-- and no fault
pub no_record_fault : (row : MemberRow) (words : List Word) (mistake : Mistake) → IsRecord row → words ≡ record_words row → first_fault record_places words ≡ Some mistake → ⊥
no_record_fault row words mistake it h fault =
    let none : first_fault record_places (record_words row) ≡ None = fits_first_fault record_places (record_words row) (record_fits row it) in
    let other : None ≡ Some mistake = sym none ∙ ap (first_fault record_places) (sym h) ∙ fault in
    absurd cc

-- with its newline it is what stands for the record where durable records are written
pub written_so : (row : MemberRow) → record_line row ≡ record_text row ++ newline ∷ []
written_so row =
    let member = 109 ∷ decimal row.member in
    let key = 32 ∷ row.row.key in
    let value = 32 ∷ row.row.value in
    ap (λ t. ((t ++ 32 ∷ []) ++ row.row.value) ++ newline ∷ []) (append_assoc member (32 ∷ []) row.row.key)
    ∙ ap (λ t. t ++ newline ∷ [])
    (append_assoc (member ++ key) (32 ∷ []) row.row.value ∙ append_assoc member key value ∙ ap (λ t. member ++ (key ++ t)) (sym (append-nil value)))

abbrev record_back : List Word → MemberRow
record_back words = record { member = named (get_or words 0 []); row = record { key = get_or words 1 []; value = get_or words 2 [] } }

record_back-words : (row : MemberRow) → IsRecord row → record_back (record_words row) ≡ row
record_back-words row it = ap (λ m. record { member = m; row = row.row }) (value_of-decimal row.member (omega (arith, it.0.1)))

-- no two records have one line
one_record : (a b : MemberRow) → IsRecord a → IsRecord b → record_text a ≡ record_text b → a ≡ b
one_record a b p q e =
    sym (record_back-words a p) ∙ ap record_back (sym (words_of_record a (record_text a) p refl) ∙ words_of_record b (record_text a) q e) ∙ record_back-words b q

-- ---- records and items

-- the name of a member is no number
no_number : (m n : ℕ) → n < 2 ^ 64 → member_word m ≡ decimal n → ⊥
no_number m n small e =
    let z : false ≡ true = ap all_ascii_digits e ∙ digits_decimal (numerals_by_value (λ ds. all_ascii_digits ds ≡ true) tells_all_ascii_digits) n small in cc

-- so a record has the line of no item
no_item : (row : MemberRow) (it : Item) → IsRecord row → IsItem it → record_text row ≡ item_text it → ⊥
no_item row it p q e =
    no_number row.member it.number (omega (arith, q.0))
    (ap (λ (ws : List Word). get_or ws 0 []) (sym (words_of_record row (record_text row) p refl) ∙ words_of_item it (record_text row) q e))

-- a line tells one thing
pub one_entry : (a b : Entry) → IsEntry a → IsEntry b → entry_text a ≡ entry_text b → a ≡ b
one_entry (entry.Record a) (entry.Record b) p q e = ap entry.Record (one_record a b p q e)
one_entry (entry.Item a) (entry.Item b) p q e = ap entry.Item (one_line a b p q e)
one_entry (entry.Record a) (entry.Item b) p q e = absurd (no_item a b p q e)
one_entry (entry.Item a) (entry.Record b) p q e = absurd (no_item b a q p (sym e))

-- a line is the text of neither
pub neither : (line : List ℕ) → ((it : Item) → IsItem it → line ≡ item_text it → ⊥) → ((row : MemberRow) → IsRecord row → line ≡ record_text row → ⊥) → (e : Entry) → IsEntry e → line ≡ entry_text e → ⊥
neither line no_items no_records (entry.Record row) is same = no_records row is same
neither line no_items no_records (entry.Item it) is same = no_items it is same

-- one more line is taken as what it tells
pub line_taken : (s : Stage) (number : ℕ) (line : List ℕ) (e : Entry) (o : Result Reader CheckFault) → IsEntry e → line ≡ entry_text e → IsEntryTaken s number e o → IsLineTaken s number line o
line_taken s number line e (Ok after) i same t = (e, t.0, i, same, t.1, t.2)
line_taken s number line e (Err (fault.Text at)) i same t = (t.0, λ other is equal. subst (λ z. next_stage s z ≡ None) (one_entry e other i is (sym same ∙ equal)) t.1)
line_taken s number line e (Err fault.Memory) i same t = t
line_taken s number line e (Err fault.Read) i same t = absurd t
line_taken s number line e (Err (fault.Long at)) i same t = absurd t
line_taken s number line e (Err fault.Many) i same t = absurd t

-- a line that tells nothing may not stand anywhere
pub tells_nothing : (s : Stage) (line : List ℕ) → ((e : Entry) → IsEntry e → line ≡ entry_text e → ⊥) → MayNotStand (Some s) line
tells_nothing s line none e is same = absurd (none e is same)
