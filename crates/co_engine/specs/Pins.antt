-- What readers that stay see, and what a pin comes to.
use Rattle.std.specs.Prelude.{ℕ, true, false, ◌≡◌, ◌≢◌, List, length, Option, None, Some}
use Rattle.co_base.specs.Span.{Span}
use Rattle.co_base.specs.declared.head.Kind.TheVariants.{Mv}
use Rattle.co_base.specs.declared.row.Row.{Row}
use Rattle.co_engine.specs.declared.pinning.Pinned.{Pinned}
use Rattle.co_engine.specs.declared.pinning.Pinned.TheVariants.{Kept, Taken, NotMv}
use Rattle.co_serial.specs.Records.{rows_within}
use Rattle.co_state.specs.declared.engine_state.EngineState.{EngineState}
use Rattle.co_state.specs.EngineState.{records_at}
use Rattle.co_state.specs.Table.{Table, holds, put}

-- the rows of a range after so many installs; none where there is no pin
abbrev pub pinned_rows : EngineState → Span → Option ℕ → Option (List Row)
pinned_rows b span None = None
pinned_rows b span (Some installs) = Some (rows_within (records_at b.base b.installed installs) span)

-- what a pin comes to, and the pins before and after it: an engine that keeps no versions is told before an id that is taken
abbrev pub HasPinned : EngineState → ℕ → Table ℕ → Table ℕ → Pinned → Type 0
HasPinned b id old new Kept = (b.kind ≡ Mv) × (holds old id ≡ false) × (new ≡ put old id (length b.installed))
HasPinned b id old new Taken = (b.kind ≡ Mv) × (holds old id ≡ true) × (new ≡ old)
HasPinned b id old new NotMv = (b.kind ≢ Mv) × (new ≡ old)
