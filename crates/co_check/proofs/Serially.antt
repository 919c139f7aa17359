-- The serial run of transactions, one more at a time.
use Rattle.std.proofs.Common.{◌≡◌, ℕ, true, false, List, [], ◌∷◌, ◌++◌, map, reverse, Option, None, Some, is_some, refl, sym, ap, ◌∙◌, subst}
use Rattle.std.proofs.lemmas.List.{reverse-append}
use Rattle.co_serial.specs.Records.{Records}
use Rattle.co_serial.specs.Family.{family_of}
use Rattle.co_serial.specs.SerialRun.{AllRecords, after, after_whole}
use Rattle.co_serial.specs.declared.site.Site.{Site}
use Rattle.co_check.specs.declared.client.Answered.{Answered}
use Rattle.co_check.specs.declared.ledger.Difference.{Difference}
use Rattle.co_check.specs.declared.serial.Unlike.{Unlike}
use Rattle.co_check.specs.Account.{Committed}
use Rattle.co_check.specs.Kept.{IsJudged}
use Rattle.co_check.specs.Runs.{sites, AreServed, IsUnlike}
use Rattle.co_check.specs.Serial.{IsSerialFrom, IsFirstToDifferFrom, no_records, serial_from, serial_after}

after-push : (all : AllRecords) (xs : List (List Site)) (x : List Site) → after all (xs ++ x ∷ []) ≡ after_whole (after all xs) x
after-push all [] x = refl
after-push all (y ∷ ys) x = after-push (after_whole all y) ys x

abbrev run_of : Committed → List Site
run_of d = sites (reverse d.told)

-- the newest transaction runs behind the others
pub more-from : (start : AllRecords) (d : Committed) (earlier : List Committed) → serial_from start (d ∷ earlier) ≡ after_whole (serial_from start earlier) (run_of d)
more-from start d earlier =
    ap (after start) (reverse-append (run_of d ∷ []) (map run_of earlier)) ∙ after-push start (reverse (map run_of earlier)) (run_of d)

pub serial-more : (d : Committed) (earlier : List Committed) → serial_after (d ∷ earlier) ≡ after_whole (serial_after earlier) (run_of d)
serial-more = more-from no_records

-- where one differs, it is the first whatever comes behind
pub judged_on : (start : AllRecords) (o : Option Difference) (records left : List Records) (committed : List Committed) (d : Committed) → is_some o ≡ true → IsJudged start o records committed →
    IsJudged start o left (d ∷ committed)
judged_on start None records left committed d e h = absurd (let z : false ≡ true = e in cc)
judged_on start (Some found) records left committed d e h =
    record {
      later = d ∷ h.later;
      d = h.d;
      earlier = h.earlier;
      order = ap (λ ds. d ∷ ds) h.order;
      serially = h.serially;
      is_txn = h.is_txn;
      differs = h.differs;
    }

pub served_onto : (start all left : AllRecords) (told : List Answered) (committed : List Committed) (t : ℕ) (newest : List Answered) →
    all ≡ serial_from start committed → told ≡ reverse newest → IsSerialFrom start committed → AreServed all left told →
    IsSerialFrom start (record { txn = t; told = newest } ∷ committed) × (left ≡ serial_from start (record { txn = t; told = newest } ∷ committed))
served_onto start all left told committed t newest e r serial s =
    let d : Committed = record { txn = t; told = newest } in
    let one : AreServed (serial_from start committed) left (reverse newest) = subst (λ z. AreServed z left (reverse newest)) e (subst (λ os. AreServed all left os) r s) in
    ((one.same, serial), one.after ∙ sym (more-from start d committed))

pub unlike_onto : (start all : AllRecords) (told : List Answered) (committed : List Committed) (t : ℕ) (newest : List Answered) (u : Unlike) →
    all ≡ serial_from start committed → told ≡ reverse newest → IsSerialFrom start committed → IsUnlike all told u.number u.told u.serial →
    IsFirstToDifferFrom start (record { txn = t; told = newest } ∷ committed) t u.number u.told u.serial
unlike_onto start all told committed t newest u e r serial s =
    record {
      later = [];
      d = record { txn = t; told = newest };
      earlier = committed;
      order = refl;
      serially = serial;
      is_txn = refl;
      differs = subst (λ z. IsUnlike z (reverse newest) u.number u.told u.serial) e (subst (λ os. IsUnlike all os u.number u.told u.serial) r s);
    }

-- where none differed, the records are those of the serial run
pub so_far : (start : AllRecords) (o : Option Difference) (records : List Records) (committed : List Committed) → is_some o ≡ false → IsJudged start o records committed →
    (o ≡ None) × IsSerialFrom start committed × (family_of records ≡ serial_from start committed)
so_far start None records committed e h = (refl, h.0, h.1)
so_far start (Some d) records committed e h = absurd (let z : true ≡ false = e in cc)
