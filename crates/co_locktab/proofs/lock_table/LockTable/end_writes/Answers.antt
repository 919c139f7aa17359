use Rattle.std.proofs.Common.{true, ap, ◌∙◌}
use Rattle.co_state.specs.Keys.{same_key}
use Rattle.co_state.specs.Table.{look, without}
use Rattle.co_locktab.specs.Holding.{is_held, without_all}
use Rattle.co_locktab.specs.Locks.{or_none}
use Rattle.co_locktab.proofs.Orders.{keys_total, keys_apart}
use Rattle.co_locktab.proofs.Showing.{stands_ended}
use Rattle.co_locktab.proofs.lock_table.LockTable.end_writes.Goals as goal

pub returns : goal.returns
returns c = λ locks s.
    let table = c.args.self.now in
    let t = c.args.t in
    record {
      reads_are = s.reads_are;
      writes_are = c.take_writes-keys.ensures.rest ∙ ap (λ ws. without ws t) s.writes_are;
      writers_are = λ k u. ap (λ m. is_held m k u) (c.end_keys.ensures ∙ ap (λ ks. without_all table.writers ks t) (c.as_slice.ensures ∙ c.take_writes-keys.ensures.value ∙ ap (λ ws. or_none (look ws t)) s.writes_are))
          ∙ stands_ended keys_total keys_apart table.writers locks.writes t (λ q. true) same_key s.writers_are (or_none (look locks.writes t)) (λ q h e. h) k u;
      readers_are = s.readers_are;
      wide_readers_are = s.wide_readers_are;
      wide_readers_found = s.wide_readers_found;
    }
