-- The text of records, of which a front was put.
use Rattle.std.proofs.Common.{◌≡◌, ℕ, ◌+◌, ◌<◌, List, [], ◌∷◌, ◌++◌, take, drop, length, get_or, Option, Some, Result, Ok, Err, OnErr, sym, ap, ◌∙◌, append_assoc}
use Rattle.std.proofs.Math.Seq.{take-append_seam}
use Rattle.std.proofs.lemmas.List.{take-append-drop, append-nil, take_more}
use Rattle.std.proofs.lemmas.Grind.{flat_map-append}
use Rattle.co_serial.specs.declared.member_row.MemberRow.{MemberRow}
use Rattle.co_serial.specs.RecordText.{record_line, records_text}

-- the text of the first so many, and of the others
text_parts : (rows : List MemberRow) (i : ℕ) → records_text rows ≡ records_text (take i rows) ++ records_text (drop i rows)
text_parts rows i = ap records_text (sym (take-append-drop i rows)) ∙ flat_map-append record_line (take i rows) (drop i rows)

-- what was put is a front of the whole text
pub kept_front : (rows : List MemberRow) (i : ℕ) (held sent text : List ℕ) (told : Option (List ℕ)) → told ≡ Some (held ++ sent) → sent ++ text ≡ records_text (take i rows)
    → (count : ℕ) × (told ≡ Some (held ++ take count (records_text rows)))
kept_front rows i held sent text told is e =
    let whole : records_text rows ≡ sent ++ (text ++ records_text (drop i rows)) =
    text_parts rows i ∙ ap (λ t. t ++ records_text (drop i rows)) (sym e) ∙ append_assoc sent text (records_text (drop i rows)) in
    let front : take (length sent) (records_text rows) ≡ sent = ap (take (length sent)) whole ∙ take-append_seam sent (text ++ records_text (drop i rows)) in
    (length sent, is ∙ ap (λ s. Some (held ++ s)) (sym front))

-- and where a piece of it was put in part
pub part_front : (rows : List MemberRow) (i c : ℕ) (held sent text : List ℕ) (told : Option (List ℕ)) → told ≡ Some ((held ++ sent) ++ take c text) → sent ++ text ≡ records_text (take i rows)
    → (count : ℕ) × (told ≡ Some (held ++ take count (records_text rows)))
part_front rows i c held sent text told is e =
    kept_front rows i held (sent ++ take c text) (drop c text) told (is ∙ ap Some (append_assoc held sent (take c text)))
    (append_assoc sent (take c text) (drop c text) ∙ ap (λ t. sent ++ t) (take-append-drop c text) ∙ e)

-- one line more
pub line_more : (rows : List MemberRow) (i : ℕ) (row : MemberRow) (sent text : List ℕ) → i < length rows → row ≡ get_or rows i row → sent ++ text ≡ records_text (take i rows)
    → sent ++ (text ++ record_line row) ≡ records_text (take (i + 1) rows)
line_more rows i row sent text h is e =
    sym (append_assoc sent text (record_line row)) ∙ ap (λ t. t ++ record_line row) e
    ∙ sym (ap records_text (take_more rows i row h ∙ ap (λ r. take i rows ++ r ∷ []) (sym is)) ∙ flat_map-append record_line (take i rows) (row ∷ []) ∙ ap (λ t. records_text (take i rows) ++ t) (append-nil (record_line row)))

-- a fact of an error, whatever was answered
pub on_err : {T E P : Type 0} (answer : Result T E) → P → OnErr answer P
on_err (Ok x) p = tt
on_err (Err e) p = p

-- and what follows from one
pub in_err : {T E P Q : Type 0} (answer : Result T E) → (P → Q) → OnErr answer P → OnErr answer Q
in_err (Ok x) f p = tt
in_err (Err e) f p = f p
