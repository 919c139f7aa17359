-- Records one after another.
use Rattle.std.specs.Prelude.{ℕ, ◌≡◌, ◌≤◌, ◌-◌, List, [], ◌∷◌, ◌++◌, length, Option, None, Some}
use Rattle.co_base.specs.declared.row.Row.{Row}
use Rattle.co_base.specs.RowOrder.{IsInKeyOrder}
use Rattle.co_schedule.specs.Words.{Word}
use Rattle.co_schedule.specs.Places.{first_fault}
use Rattle.co_transcript.specs.Spelling.{row_words}
use Rattle.co_transcript.specs.Grammar.{rows_places}
use Rattle.co_transcript.specs.Items.{AreRows}

-- the key of the last record, which is this one where there is none
abbrev pub last_key_or : Option Word → List Row → Option Word
last_key_or before [] = before
last_key_or before (row ∷ rows) = last_key_or (Some row.key) rows

-- the key of the last record
abbrev pub last_key : List Row → Option Word
last_key rows = last_key_or None rows

-- So many of the records were read in order. The words behind them are left, and the first fault of all is
-- the first fault of these.
pub record IsReadingRows (count : ℕ) (words_old words_new : List Word) (rows : List Row) (before : Option Word) : Type 0 where
  pub words : row_words rows ++ words_new ≡ words_old
  pub few : length rows ≤ count
  pub last : last_key rows ≡ before
  pub texts : AreRows rows
  pub order : IsInKeyOrder rows
  pub faults : first_fault (rows_places (count - length rows) before) words_new ≡ first_fault (rows_places count None) words_old
