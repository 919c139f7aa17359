-- The filling of a spare file, by what the log says of it.
use Rattle.std.proofs.Common.{◌≡◌, inl, inr, true, Ok, Err, List, sym, subst}
use Rattle.co_base.specs.declared.mark.Mark.{Mark}
use Rattle.co_outside.specs.Home.{HomeView, HasFailed}
use Rattle.co_outside.specs.declared.spot.Spot.{Spot}
use Rattle.co_frame.specs.Gate.{begins_closed}
use Rattle.co_record.specs.declared.record.Record.{Record}
use Rattle.co_log.specs.Calls.{HasFilled, MayFill}
use Rattle.co_log.specs.LogView.{LogView}
use Rattle.co_log.specs.declared.fault.LogFault.{LogFault}
use Rattle.co_log.specs.declared.fault.LogFault.TheVariants as faults
use Rattle.co_log.proofs.Spots.{spots_apart}
use Rattle.co_opening.proofs.Made.{made_clean}
use Rattle.co_migrate.specs.declared.fault.MigrateFault.TheVariants.{Device, Full, Memory}
use Rattle.co_migrate.specs.Refilling.{IsAtRest, IsFilledAs}

module _ (log : LogView) (old : HomeView) (rest : IsAtRest old log) where
  pub may_fill : begins_closed log.spare.state.stable ≡ true → MayFill old log
  may_fill closed = record { held = rest.held; live = (rest.items, rest.ordered.live); node = rest.ordered.valid; still = rest.ordered.still; closed = closed }

  module _ (after : LogView) (records : List Record) (new : HomeView) where
    pub filled_after : (mark : Mark) → HasFilled log after records old new (Ok mark) → IsFilledAs log records old new (Ok tt)
    filled_after mark h = (
      record {
        current = λ items ordered c s told_c told_s. h.current items ordered c s told_c told_s;
        kept = h.rest.others.files log.current.spot (spots_apart log rest.held.spots);
        short = h.short;
      },
      h.answered.2,
      made_clean old new log.spare.spot h.answered.1.clean h.rest,
      h.answered.1.quiet,
    )

    module _ (e : LogFault) (h : HasFilled log after records old new (Err e)) where
      told_as : (f : LogFault) → e ≡ f → HasFilled log after records old new (Err f)
      told_as f is = subst (λ (x : LogFault). HasFilled log after records old new (Err x)) is h

      pub fill_failed : (spot : Spot) → e ≡ faults.Device spot → IsFilledAs log records old new (Err (Device spot))
      fill_failed spot is =
          let t = told_as (faults.Device spot) is in (
            record {
              current = λ items ordered c s told_c told_s. elim (t.current items ordered c s told_c told_s) [ inl before ↦ inl before | inr filled ↦ inr (filled, t.answered.2) ];
              kept = t.rest.others.files log.current.spot (spots_apart log rest.held.spots);
              short = t.short;
            },
            t.answered.0,
            subst (λ (s : Spot). HasFailed s old new) (sym t.answered.0) t.answered.1,
          )

      pub fill_full : (spot : Spot) → e ≡ faults.Full spot → IsFilledAs log records old new (Err (Full spot))
      fill_full spot is =
          let t = told_as (faults.Full spot) is in (
            record {
              current = λ items ordered c s told_c told_s. t.current items ordered c s told_c told_s;
              kept = t.rest.others.files log.current.spot (spots_apart log rest.held.spots);
              short = t.short;
            },
            t.answered.0,
            t.answered.1,
            t.answered.2,
          )

      pub fill_wants : e ≡ faults.Memory → IsFilledAs log records old new (Err Memory)
      fill_wants is =
          let t = told_as faults.Memory is in (
            record {
              current = λ items ordered c s told_c told_s. t.current items ordered c s told_c told_s;
              kept = t.rest.others.files log.current.spot (spots_apart log rest.held.spots);
              short = t.short;
            },
            t.answered.1,
          )
