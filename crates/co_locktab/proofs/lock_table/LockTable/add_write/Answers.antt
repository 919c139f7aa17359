use Rattle.std.proofs.Common.{true, ap, sym, refl, ◌∙◌, ◌++◌, [], ◌∷◌}
use Rattle.co_state.proofs.Tables.{on_ok, put-without}
use Rattle.co_state.specs.Keys.{same_key}
use Rattle.co_state.specs.Table.{look, put}
use Rattle.co_locktab.specs.Holding.{is_held}
use Rattle.co_locktab.specs.Locks.{or_none}
use Rattle.co_locktab.proofs.Orders.{keys_total, keys_apart}
use Rattle.co_locktab.proofs.Showing.{taken, stands_more}
use Rattle.co_locktab.proofs.lock_table.LockTable.add_write.Goals as goal

pub returns : goal.returns
returns c = λ locks s.
    let table = c.args.self.now in
    let t = c.args.t in
    let key = c.args.key.now in
    on_ok c.add.result
    (λ e. taken _ locks _ _
    (sym (s.writers_are key t) ∙ sym c.is_held.ensures ∙ c.if-is_held.false)
    (record {
      reads_are = s.reads_are;
      writes_are = c.in_ok-insert.ensures.ok ∙ ap (put c.take_writes-keys.new.writes t) (c.in_ok-push.ensures.ok ∙ (λ i. c.take_writes-keys.ensures.value i ++ c.in_ok-copy.ensures i ∷ []))
          ∙ ap (λ ws. put ws t (or_none (look table.writes t) ++ key ∷ [])) c.take_writes-keys.ensures.rest ∙ put-without table.writes t (or_none (look table.writes t) ++ key ∷ [])
          ∙ ap (λ ws. put ws t (or_none (look ws t) ++ key ∷ [])) s.writes_are;
      writers_are = λ k u. ap (λ m. is_held m k u) e ∙ stands_more keys_total keys_apart table.writers locks.writes t (λ q. true) same_key s.writers_are key key (λ q. refl) k u;
      readers_are = s.readers_are;
      wide_readers_are = s.wide_readers_are;
      wide_readers_found = s.wide_readers_found;
    }))
    c.add.ensures
