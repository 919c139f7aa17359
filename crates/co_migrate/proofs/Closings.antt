-- The closing of a spare file, by what the log says of it.
use Rattle.std.proofs.Common.{◌≡◌, true, Result, Ok, Err, refl, sym, ap, subst, ◌∙◌}
use Rattle.co_base.specs.Limits.{most_log_bytes}
use Rattle.co_disk.specs.DiskModel.{read_of}
use Rattle.co_disk.specs.DiskView.{DiskView}
use Rattle.co_outside.specs.Home.{HomeView, HasFailed}
use Rattle.co_outside.specs.declared.spot.Spot.{Spot}
use Rattle.co_frame.specs.Gate.{begins_closed}
use Rattle.co_log.specs.Attaching.{IsWithin}
use Rattle.co_log.specs.Calls.{HasClosed}
use Rattle.co_log.specs.LogView.{LogView}
use Rattle.co_log.specs.declared.fault.LogFault.{LogFault}
use Rattle.co_log.specs.declared.fault.LogFault.TheVariants as faults
use Rattle.co_log.proofs.Ordered.{closed_ordered, held_current}
use Rattle.co_log.proofs.Spots.{spots_apart}
use Rattle.co_log.proofs.Unmade.{read_stable}
use Rattle.co_opening.proofs.Made.{made_clean}
use Rattle.co_migrate.specs.declared.fault.MigrateFault.TheVariants.{Device, Memory}
use Rattle.co_migrate.specs.Refilling.{IsAtRest, IsStillOld, IsClosedAs}

module _ (log : LogView) (old : HomeView) (rest : IsAtRest old log) where
  -- a spare file that is closed is left
  pub closed_before : begins_closed (read_of log.spare.state) ≡ true → IsClosedAs log log old old (Ok tt)
  closed_before closed = (
    record { node = refl; version = refl; gate = refl; generation = refl; current = refl; spare = refl },
    rest,
    ap begins_closed (sym (read_stable log.spare.state rest.ordered.still)) ∙ closed,
    λ s clean. clean,
    refl,
  )

  pub unturned_before : IsStillOld log old.file old.file
  unturned_before = record { current = λ items ordered c s told_c told_s. held_current old log items c s rest.held ordered told_c told_s; kept = refl; short = rest.short }

  module _ (after : LogView) (new : HomeView) where
    -- whatever the closing answers, the old file is current
    pub unturned_after : (r : Result (Unit {0}) LogFault) → HasClosed log after old new r → IsStillOld log old.file new.file
    unturned_after r h = record {
      current = λ items ordered c s told_c told_s. h.current items ordered c s told_c told_s;
      kept = h.rest.others.files log.current.spot (spots_apart log rest.held.spots);
      short = h.short;
    }

    pub closed_after : (u : Unit {0}) → HasClosed log after old new (Ok u) → IsClosedAs log after old new (Ok u)
    closed_after u h =
        let is = h.answered.0.0 in
        let served = h.answered.1 in (
          record { node = is.node; version = is.version; gate = is.gate; generation = is.generation; current = is.current; spare = is.spot },
          record {
            held = served.held;
            items = rest.items;
            ordered = closed_ordered true log after rest.items rest.ordered is;
            unarmed = is.disarmed;
            short = (
              subst (λ (d : DiskView). IsWithin most_log_bytes (new.file d.spot)) (sym is.current) h.short.0,
              subst (λ (s : Spot). IsWithin most_log_bytes (new.file s)) (sym is.spot) h.short.1,
            );
          },
          is.closed_is,
          made_clean old new log.spare.spot served.clean h.rest,
          served.quiet,
        )

    module _ (e : LogFault) (h : HasClosed log after old new (Err e)) where
      told_as : (f : LogFault) → e ≡ f → HasClosed log after old new (Err f)
      told_as f is = subst (λ (x : LogFault). HasClosed log after old new (Err x)) is h

      pub close_failed : (spot : Spot) → e ≡ faults.Device spot → IsClosedAs log after old new (Err (Device spot))
      close_failed spot is = let a = (told_as (faults.Device spot) is).answered in (a.0, subst (λ (s : Spot). HasFailed s old new) (sym a.0) a.1)

      pub close_wants : e ≡ faults.Memory → IsClosedAs log after old new (Err Memory)
      close_wants is = (told_as faults.Memory is).answered.1
