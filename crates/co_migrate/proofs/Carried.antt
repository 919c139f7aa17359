-- A filling behind a closing is one of the log as it was before.
use Rattle.std.proofs.Common.{◌≡◌, ◌⊎◌, inl, ℕ, ◌+◌, ◌<◌, Result, Ok, Err, List, [], ◌∷◌, Some, sym, subst, ◌∙◌, arith}
use Rattle.std.specs.Result.{IsErrAnd}
use Rattle.co_base.specs.Nodes.{IsValidNode}
use Rattle.co_base.specs.declared.node.Node.{Node}
use Rattle.co_disk.specs.DiskView.{DiskView}
use Rattle.co_outside.specs.Home.{File, HomeView, IsClean}
use Rattle.co_outside.specs.declared.spot.Spot.{Spot}
use Rattle.co_base.specs.Limits.{most_log_bytes}
use Rattle.co_record.specs.declared.record.Record.{Record}
use Rattle.co_record.specs.declared.record.Record.TheVariants.{Header}
use Rattle.co_record.specs.Format.{IsVersion, newest}
use Rattle.co_log.specs.Appending.{IsTooLong}
use Rattle.co_log.specs.Attaching.{IsWithin}
use Rattle.co_log.specs.Current.{BeginsWith, IsCurrentOf, IsOrdered, IsOldCurrent, IsNewCurrent}
use Rattle.co_log.specs.LogFile.{EndsIn, placed_from}
use Rattle.co_log.specs.LogView.{LogView}
use Rattle.co_log.specs.NodeFiles.{Items}
use Rattle.co_log.specs.Others.{BothWithin}
use Rattle.co_log.specs.Spare.{IsOverfull}
use Rattle.co_durable.proofs.Readings.{fails_later}
use Rattle.co_migrate.specs.declared.fault.MigrateFault.{MigrateFault}
use Rattle.co_migrate.specs.declared.fault.MigrateFault.TheVariants.{Device, Bad, Full, Memory}
use Rattle.co_migrate.specs.Refilling.{IsAtRest, IsAlike, IsStillOld, IsClosedAs, IsFilledAs}

-- a fault of the closing is one of the filling
pub as_filling : (log after : LogView) (records : List Record) (old new : HomeView) (fault : MigrateFault) → IsStillOld log old.file new.file → IsClosedAs log after old new (Err fault) → IsFilledAs log records old new (Err fault)
as_filling log after records old new (Device spot) left is = (record { current = λ items ordered c s told_c told_s. inl (left.current items ordered c s told_c told_s); kept = left.kept; short = left.short }, is.0, is.1)
as_filling log after records old new (Bad spot at) left is = absurd is
as_filling log after records old new (Full spot) left is = absurd is
as_filling log after records old new Memory left is = (left, is)

-- what `?` hands on
pub handed_fill : (log : LogView) (records : List Record) (old new : HomeView) (fault : MigrateFault) (answer : Result (Unit {0}) MigrateFault) → IsErrAnd answer (λ e. e ≡ fault) → IsFilledAs log records old new (Err fault) → IsFilledAs log records old new answer
handed_fill log records old new fault (Ok x) same is = absurd same
handed_fill log records old new fault (Err e) same is = subst (λ (f : MigrateFault). IsFilledAs log records old new (Err f)) (sym same) is

module _ (log after : LogView) (alike : IsAlike log after) where
  -- what is so of the parts that are alike
  carried : (P : Node → ℕ → ℕ → ℕ → DiskView → Spot → Type 0) → P after.node after.version after.gate after.generation after.current after.spare.spot → P log.node log.version log.gate log.generation log.current log.spare.spot
  carried P p =
      subst (P log.node log.version log.gate log.generation log.current) alike.spare
      (subst (λ (x : DiskView). P log.node log.version log.gate log.generation x after.spare.spot) alike.current
      (subst (λ g. P log.node log.version log.gate g after.current after.spare.spot) alike.generation
      (subst (λ g. P log.node log.version g after.generation after.current after.spare.spot) alike.gate
      (subst (λ v. P log.node v after.gate after.generation after.current after.spare.spot) alike.version
      (subst (λ (n : Node). P n after.version after.gate after.generation after.current after.spare.spot) alike.node p)))))

  carried_back : (P : Node → ℕ → ℕ → ℕ → DiskView → Spot → Type 0) → P log.node log.version log.gate log.generation log.current log.spare.spot → P after.node after.version after.gate after.generation after.current after.spare.spot
  carried_back P p =
      subst (P after.node after.version after.gate after.generation after.current) (sym alike.spare)
      (subst (λ (x : DiskView). P after.node after.version after.gate after.generation x log.spare.spot) (sym alike.current)
      (subst (λ g. P after.node after.version after.gate g log.current log.spare.spot) (sym alike.generation)
      (subst (λ g. P after.node after.version g log.generation log.current log.spare.spot) (sym alike.gate)
      (subst (λ v. P after.node v log.gate log.generation log.current log.spare.spot) (sym alike.version)
      (subst (λ (n : Node). P n log.version log.gate log.generation log.current log.spare.spot) (sym alike.node) p)))))

  -- the log stands for the same records
  ordered_on : (mid : HomeView) → IsAtRest mid after → (items : Items) → IsOrdered log items → IsOrdered after items
  ordered_on mid rest items o = record {
    valid = carried_back (λ n v gt g cur sp. IsValidNode n) o.valid;
    live = record {
      made = carried_back (λ n v gt g cur sp. 0 < gt) o.live.made;
      known = carried_back (λ n v gt g cur sp. IsVersion v) o.live.known;
      still = carried_back (λ n v gt g cur sp. cur.state.pending ≡ []) o.live.still;
      ends = carried_back (λ n v gt g cur sp. EndsIn v cur.state.stable gt items) o.live.ends;
    };
    header = carried_back (λ n v gt g cur sp. BeginsWith n g items) o.header;
    still = rest.ordered.still;
    older = rest.ordered.older;
  }

  module _ (records : List Record) (old mid new : HomeView) (rest : IsAtRest mid after) (left : IsStillOld log old.file mid.file) (cleaned : (s : Spot) → IsClean old s → IsClean mid s) (quiet : mid.faults ≡ old.faults) where
    short_on : BothWithin new.file after → BothWithin new.file log
    short_on short = carried (λ n v gt g cur sp. IsWithin most_log_bytes (new.file cur.spot) × IsWithin most_log_bytes (new.file sp)) short

    kept_on : new.file after.current.spot ≡ mid.file after.current.spot → new.file log.current.spot ≡ old.file log.current.spot
    kept_on kept = carried (λ n v gt g cur sp. new.file cur.spot ≡ mid.file cur.spot) kept ∙ left.kept

    old_on : (items : Items) (c s : File) → (new.file after.current.spot ≡ Some c → new.file after.spare.spot ≡ Some s → IsOldCurrent after items c.bytes s.bytes) → new.file log.current.spot ≡ Some c → new.file log.spare.spot ≡ Some s → IsOldCurrent log items c.bytes s.bytes
    old_on items c s f = carried (λ n v gt g cur sp. new.file cur.spot ≡ Some c → new.file sp ≡ Some s → IsCurrentOf n v g c.bytes s.bytes items) f

    new_on : (c s : File) → (new.file after.current.spot ≡ Some c → new.file after.spare.spot ≡ Some s → IsNewCurrent after records c.bytes s.bytes) → new.file log.current.spot ≡ Some c → new.file log.spare.spot ≡ Some s → IsNewCurrent log records c.bytes s.bytes
    new_on c s f = carried (λ n v gt g cur sp. new.file cur.spot ≡ Some c → new.file sp ≡ Some s → IsCurrentOf n newest (g + 1) s.bytes c.bytes (placed_from 5 (Header n (g + 1) ∷ records))) f

    either_on : (items : Items) (c s : File) → (new.file after.current.spot ≡ Some c → new.file after.spare.spot ≡ Some s → IsOldCurrent after items c.bytes s.bytes ⊎ (IsNewCurrent after records c.bytes s.bytes × (IsOverfull after records → ⊥)))
        → new.file log.current.spot ≡ Some c → new.file log.spare.spot ≡ Some s → IsOldCurrent log items c.bytes s.bytes ⊎ (IsNewCurrent log records c.bytes s.bytes × (IsOverfull log records → ⊥))
    either_on items c s f =
        carried
        (λ n v gt g cur sp.
        new.file cur.spot ≡ Some c → new.file sp ≡ Some s
        → IsCurrentOf n v g c.bytes s.bytes items
        ⊎ (IsCurrentOf n newest (g + 1) s.bytes c.bytes (placed_from 5 (Header n (g + 1) ∷ records)) × (IsTooLong 0 (Header n (g + 1) ∷ records) ⊎ (g ≡ 4294967295) → ⊥))) f

    unturned_on : IsStillOld after mid.file new.file → IsStillOld log old.file new.file
    unturned_on t = record {
      current = λ items ordered c s. old_on items c s (t.current items (ordered_on mid rest items ordered) c s);
      kept = kept_on t.kept;
      short = short_on t.short;
    }

    overfull_on : IsOverfull after records → IsOverfull log records
    overfull_on o = carried (λ n v gt g cur sp. IsTooLong 0 (Header n (g + 1) ∷ records) ⊎ (g ≡ 4294967295)) o

    overfull_back : IsOverfull log records → IsOverfull after records
    overfull_back o = carried_back (λ n v gt g cur sp. IsTooLong 0 (Header n (g + 1) ∷ records) ⊎ (g ≡ 4294967295)) o

    pub filled_on : (r : Result (Unit {0}) MigrateFault) → IsFilledAs after records mid new r → IsFilledAs log records old new r
    filled_on (Ok done) t = (
      record {
        current = λ items ordered c s. new_on c s (t.0.current items (ordered_on mid rest items ordered) c s);
        kept = kept_on t.0.kept;
        short = short_on t.0.short;
      },
      λ long. t.1 (overfull_back long),
      λ s clean. t.2 s (cleaned s clean),
      t.3 ∙ quiet,
    )
    filled_on (Err (Device spot)) t = (
      record {
        current = λ items ordered c s. either_on items c s (t.0.current items (ordered_on mid rest items ordered) c s);
        kept = kept_on t.0.kept;
        short = short_on t.0.short;
      },
      t.1 ∙ alike.spare,
      fails_later old mid new spot (omega (arith, quiet)) t.2,
    )
    filled_on (Err (Bad spot at)) t = absurd t
    filled_on (Err (Full spot)) t = (unturned_on t.0, t.1 ∙ alike.spare, overfull_on t.2, t.3 ∙ quiet)
    filled_on (Err Memory) t = (unturned_on t.0, t.1 ∙ quiet)
