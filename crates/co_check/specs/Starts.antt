-- The records from which a resumed run started: what stands on the line of one, in which order they stand, and how they are laid in.
use Rattle.std.specs.Prelude.{ℕ, Bool, true, ◌&&◌, ◌||◌, ◌==◌, nat_lt, List, [], ◌∷◌, Option, None, Some}
use Rattle.std.specs.FinMap.{insert}
use Rattle.std.specs.Ordering.{is_lt}
use Rattle.co_base.specs.Letters.{IsText, most_value_bytes}
use Rattle.co_base.specs.Limits.{most_members}
use Rattle.co_base.specs.Order.{key_cmp}
use Rattle.co_serial.specs.SerialRun.{AllRecords, with_at}
use Rattle.co_serial.specs.declared.member_row.MemberRow.{MemberRow}
use Rattle.co_schedule.specs.Places.{Places, member, key, value, nothing, ◌▸◌}
use Rattle.co_schedule.specs.Spelling.{member_word}
use Rattle.co_schedule.specs.View.{IsWithin, IsKey}
use Rattle.co_schedule.specs.Words.{Word, spaced}
use Rattle.co_check.specs.declared.starting.RecordName.{RecordName}

-- the fields of a record are in their sets
abbrev pub IsRecord : MemberRow → Type 0
IsRecord row = IsWithin 1 most_members row.member × IsKey row.row.key × IsText most_value_bytes row.row.value

abbrev pub record_words : MemberRow → List Word
record_words row = member_word row.member ∷ row.row.key ∷ row.row.value ∷ []

-- what its places want
abbrev pub record_places : Places
record_places = member most_members ▸ key ▸ value ▸ nothing

-- its line without the newline
abbrev pub record_text : MemberRow → List ℕ
record_text row = spaced (record_words row)

abbrev pub name_of : MemberRow → RecordName
name_of row = record { member = row.member; key = row.row.key }

-- members ascending, and the keys of each ascending
abbrev pub is_behind : Option RecordName → MemberRow → Bool
is_behind None row = true
is_behind (Some last) row = nat_lt last.member row.member || (last.member == row.member && is_lt (key_cmp last.key row.row.key))

-- one more record among those of the start
abbrev pub laid_in : AllRecords → MemberRow → AllRecords
laid_in start row = with_at start row.member (insert (start row.member) row.row.key row.row.value)
