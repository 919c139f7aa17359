-- What the logs and the memory of a member hold where nothing is open.
use Rattle.std.specs.Prelude.{ℕ, ◌≡◌}
use Rattle.co_state.specs.EngineState.{installed_records}
use Rattle.co_plain.specs.Federation.{Federation}
use Rattle.co_plain.specs.DurableRecords.{durable_in}
use Rattle.co_plain.specs.Promises.{serial_records}

-- The durable records of the member, and those that are installed in its memory, are the serial ones; `s0` is the opened
-- federation.
pub record HoldsSerially (s0 s : Federation) (m : ℕ) : Type 0 where
  pub durable : durable_in s m ≡ serial_records s0 s.decided m
  pub installed : installed_records (s.member m).engine ≡ serial_records s0 s.decided m
