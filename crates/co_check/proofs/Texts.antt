-- The text of the records of the serial run, as it grows.
use Rattle.std.proofs.Common.{◌≡◌, ℕ, suc, List, ◌++◌, sym, ap, ◌∙◌, append_assoc}
use Rattle.std.proofs.lemmas.Grind.{flat_map-append}
use Rattle.co_serial.specs.MemberRows.{numbered_rows, member_rows}
use Rattle.co_serial.specs.RecordText.{record_line, records_text}
use Rattle.co_serial.specs.Records.{all_rows}
use Rattle.co_serial.specs.SerialRun.{AllRecords}

-- the records of one member more
pub member_more : (all : AllRecords) (member next left rest : ℕ) (text : List ℕ) → next ≡ suc member → left ≡ suc rest
    → text ++ records_text (numbered_rows all member left) ≡ (text ++ records_text (member_rows member (all_rows (all member)))) ++ records_text (numbered_rows all next rest)
member_more all member next left rest text further is =
    ap (λ n. text ++ records_text (numbered_rows all member n)) is
    ∙ ap (λ t. text ++ t) (flat_map-append record_line (member_rows member (all_rows (all member))) (numbered_rows all (suc member) rest))
    ∙ sym (append_assoc text (records_text (member_rows member (all_rows (all member)))) (records_text (numbered_rows all (suc member) rest)))
    ∙ ap (λ n. (text ++ records_text (member_rows member (all_rows (all member)))) ++ records_text (numbered_rows all n rest)) (sym further)

-- four pieces behind a text
pub four : (text a b c d : List ℕ) → (((text ++ a) ++ b) ++ c) ++ d ≡ text ++ (a ++ (b ++ (c ++ d)))
four text a b c d = append_assoc ((text ++ a) ++ b) c d ∙ append_assoc (text ++ a) b (c ++ d) ∙ append_assoc text a (b ++ (c ++ d))
