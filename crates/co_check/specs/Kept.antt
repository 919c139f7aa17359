-- For which account a ledger stands whose serial run began with these records, and what one more line leaves of it.
use Rattle.std.specs.Prelude.{Bool, true, false, ◌≡◌, List, ◌∷◌, length, Option, None, Some}
use Rattle.co_serial.specs.Records.{Records}
use Rattle.co_serial.specs.Family.{family_of}
use Rattle.co_serial.specs.SerialRun.{AllRecords}
use Rattle.co_check.specs.declared.checker.Checker.{Checker}
use Rattle.co_check.specs.declared.ledger.Difference.{Difference}
use Rattle.co_check.specs.declared.ledger.Ledger.{Ledger}
use Rattle.co_check.specs.declared.place.Place.{Place}
use Rattle.co_check.specs.Account.{Account, Committed}
use Rattle.co_check.specs.Serial.{IsSerialFrom, IsFirstToDifferFrom, serial_from}
use Rattle.co_check.specs.Shape.{Read}

-- As long as no transaction differs, the records are those of the serial run; then the first that differs is kept.
abbrev pub IsJudged : AllRecords → Option Difference → List Records → List Committed → Type 0
IsJudged start None map committed = IsSerialFrom start committed × (family_of map ≡ serial_from start committed)
IsJudged start (Some d) map committed = IsFirstToDifferFrom start committed d.txn d.at.number d.at.told d.at.serial

-- the decided transactions are kept, or nothing is
abbrev pub IsKept : Option (List Committed) → List Committed → Type 0
IsKept None committed = Unit {0}
IsKept (Some kept) committed = kept ≡ committed

abbrev pub kept_more : Option (List Committed) → Committed → Option (List Committed)
kept_more None d = None
kept_more (Some kept) d = Some (d ∷ kept)

pub record Keeps (start : AllRecords) (l : Ledger) (a : Account) : Type 0 where
  pub clients : l.clients ≡ a.clients
  pub count : l.transactions ≡ length a.committed
  pub judged : IsJudged start l.differs l.map a.committed
  pub kept : IsKept l.kept a.committed

-- a change of the account that may break the shape: it is told whether it did not
abbrev pub IsChange : AllRecords → Option Account → Bool → Ledger → Type 0
IsChange start None kept after = kept ≡ false
IsChange start (Some a) kept after = (kept ≡ true) × Keeps start after a

-- where the transcript stands behind one more line, or nothing where the line breaks its shape
abbrev pub IsNext : AllRecords → Option Read → Option Place → Ledger → Type 0
IsNext start None None after = Unit {0}
IsNext start None (Some place) after = ⊥
IsNext start (Some r) None after = ⊥
IsNext start (Some r) (Some place) after = (place ≡ r.place) × Keeps start after r.account

pub record Follows (start : AllRecords) (c : Checker) (r : Read) : Type 0 where
  pub place : c.place ≡ r.place
  pub account : Keeps start c.ledger r.account
