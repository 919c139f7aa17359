-- What the words of the command line ask for.
use Rattle.std.specs.Prelude.{ℕ, Bool, if◌then◌else◌, List, [], ◌∷◌, Option, None, Some, codes, nat_eq}
use Rattle.std.specs.Cmp.Lexicographic.{pointwise}
use Rattle.std.specs.String.{string_bytes}
use Rattle.std.specs.declared.string.String.{String}
use Rattle.co_picture.specs.Drawn as picture
use Rattle.co_picture.specs.declared.outcome.Outcome.{Outcome}
use Rattle.co_table.specs.Told as table
use Rattle.co_table.specs.declared.asked.Form.{Form}
use Rattle.co_table.specs.declared.asked.Form.TheVariants as form

abbrev pub is_table : {A : Type 0} → String A → Bool
is_table word = pointwise nat_eq (string_bytes word) (codes "table")

-- no word a picture, `table` a table, and no others are known
abbrev pub form_of : {A : Type 0} → List (String A) → Option Form
form_of [] = Some form.Picture
form_of (word ∷ []) = if is_table word then Some form.Table else None
form_of _ = None

-- how showing a text in a form ends
abbrev pub IsOutcome : Form → List ℕ → List ℕ → Option (List ℕ) → Outcome → Type 0
IsOutcome form.Picture text held told ended = picture.IsOutcome text held told ended
IsOutcome form.Table text held told ended = table.IsTable text held told ended
