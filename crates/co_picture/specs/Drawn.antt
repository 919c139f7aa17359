-- How drawing a text ends, and what a sink holds then.
use Rattle.std.specs.Prelude.{ℕ, ◌≡◌, ◌⊎◌, ◌++◌, List, [], ◌∷◌, take, codes, decimal, Option, None, Some, Result, Ok, Err}
use Rattle.co_message.specs.declared.item.Item.{Item}
use Rattle.co_picture.specs.Picture.{picture_of}
use Rattle.co_picture.specs.Read.{IsTranscript, IsTextFault, IsLineFault}
use Rattle.co_svg.specs.Svg.{svg_text}
use Rattle.co_picture.specs.declared.fault.DrawFault.{DrawFault}
use Rattle.co_picture.specs.declared.fault.DrawFault.TheVariants as fault
use Rattle.co_picture.specs.declared.note.Note.{Note}
use Rattle.co_picture.specs.declared.outcome.Outcome.{Outcome}
use Rattle.co_picture.specs.declared.outcome.Outcome.TheVariants as outcome

-- what is written of these items: their picture, and a newline
abbrev pub drawn_text : List Item → List ℕ
drawn_text items = svg_text (picture_of items) ++ 10 ∷ []

-- a sink that held this took a front of the text
abbrev pub IsFrontOf : List ℕ → List ℕ → Option (List ℕ) → Type 0
IsFrontOf said held told = (count : ℕ) × (told ≡ Some (held ++ take count said))

-- how a text is written: whole, or a front of it where the sink failed or there was no memory
abbrev pub IsPutAs : List ℕ → List ℕ → Option (List ℕ) → Result (Unit {0}) DrawFault → Type 0
IsPutAs said held told (Ok done) = told ≡ Some (held ++ said)
IsPutAs said held told (Err fault.Write) = IsFrontOf said held told
IsPutAs said held told (Err fault.Memory) = IsFrontOf said held told
IsPutAs said held told (Err _) = ⊥

-- a front of the picture of the text was put
abbrev pub IsDrawnInPart : List ℕ → List ℕ → Option (List ℕ) → Type 0
IsDrawnInPart text held told = (items : List Item) × IsTranscript text items × IsFrontOf (drawn_text items) held told

-- How the picture of a text is written to a sink that held this.
abbrev pub IsDrawnAs : List ℕ → List ℕ → Option (List ℕ) → Result (Unit {0}) DrawFault → Type 0
IsDrawnAs text held told (Ok done) = (items : List Item) × IsTranscript text items × (told ≡ Some (held ++ drawn_text items))
IsDrawnAs text held told (Err (fault.Text line)) = IsTextFault text line × (told ≡ Some held)
IsDrawnAs text held told (Err (fault.Long line)) = IsLineFault text (fault.Long line) × (told ≡ Some held)
IsDrawnAs text held told (Err fault.Many) = IsLineFault text fault.Many × (told ≡ Some held)
IsDrawnAs text held told (Err fault.Read) = told ≡ Some held
IsDrawnAs text held told (Err fault.Write) = IsDrawnInPart text held told
IsDrawnAs text held told (Err fault.Memory) = (told ≡ Some held) ⊎ IsDrawnInPart text held told

abbrev pub IsOutcome : List ℕ → List ℕ → Option (List ℕ) → Outcome → Type 0
IsOutcome text held told outcome.Usage = ⊥
IsOutcome text held told (outcome.Ended drawn) = IsDrawnAs text held told drawn

abbrev pub exit_code : Outcome → ℕ
exit_code outcome.Usage = 2
exit_code (outcome.Ended (Ok done)) = 0
exit_code (outcome.Ended (Err fault.Read)) = 4
exit_code (outcome.Ended (Err fault.Write)) = 5
exit_code (outcome.Ended (Err (fault.Text line))) = 15
exit_code (outcome.Ended (Err (fault.Long line))) = 10
exit_code (outcome.Ended (Err fault.Many)) = 10
exit_code (outcome.Ended (Err fault.Memory)) = 11

abbrev pub note_of : Outcome → List ℕ
note_of outcome.Usage = codes "usage\n"
note_of (outcome.Ended (Ok done)) = []
note_of (outcome.Ended (Err fault.Read)) = codes "read fault\n"
note_of (outcome.Ended (Err fault.Write)) = codes "write fault\n"
note_of (outcome.Ended (Err (fault.Text line))) = codes "transcript line " ++ decimal line ++ codes "\n"
note_of (outcome.Ended (Err (fault.Long line))) = codes "limit: line " ++ decimal line ++ codes " is long\n"
note_of (outcome.Ended (Err fault.Many)) = codes "limit: lines\n"
note_of (outcome.Ended (Err fault.Memory)) = codes "want of memory\n"

-- the number of a line, where there is one
abbrev pub number_text : Option ℕ → List ℕ
number_text None = []
number_text (Some line) = decimal line

-- the pieces of a note, one behind the other
abbrev pub text_of_note : Note → List ℕ
text_of_note note = note.front.now ++ (number_text note.line ++ note.back.now)
