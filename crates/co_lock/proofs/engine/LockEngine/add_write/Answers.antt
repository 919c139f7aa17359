use Rattle.std.proofs.Common.{ℕ, List, Option, ◌∷◌, sym, subst}
use Rattle.co_state.proofs.Tables.{on_ok}
use Rattle.co_state.specs.EngineState.{operations_of}
use Rattle.co_state.specs.ReadRule.{snapshot_of}
use Rattle.co_state.specs.Table.{Table, look, put}
use Rattle.co_engine.specs.declared.undecided.Undecided.{Undecided}
use Rattle.co_lock.specs.Locked.{IsLocked}
use Rattle.co_lock.specs.LockedState.{with_write}
use Rattle.co_engine.specs.Undecided.{IsKept}
use Rattle.co_lock.proofs.Fitting.{fits_write}
use Rattle.co_engine.proofs.Answering.{not_voted}
use Rattle.co_lock.proofs.Rolling.{each_write}
use Rattle.co_lock.proofs.Standing.{clear_write, alone_in}
use Rattle.co_lock.proofs.engine.LockEngine.add_write.Goals as goal

pub returns : goal.returns
returns c = λ b op s may reads writes none.
    let old = c.args.self.now in
    let t = c.args.t in
    let change = c.args.change in
    let voted = not_voted b t may in
    on_ok c.note_write.result
    (λ e. record {
      kind_is = s.kind_is;
      each = λ u. subst (λ (m : Table Undecided). IsKept (look m u) (look (put b.active t (record { op = op; stamp = snapshot_of b t } ∷ operations_of b t)) u) (look b.voted u)) (sym e)
          (each_write old.roll b t op (snapshot_of b t) change s.each voted reads writes u);
      place = with_write s.place t change.key change.value;
      locked = subst (λ (v : Option (List ℕ)). IsLocked c.write.new.self (with_write s.place t change.key v)) c.lent.ensures (c.in_ok-write.ensures s.place s.locked (alone_in old b t op change s writes none));
      fits = fits_write s.place b t op s.fits s.kind_is voted change reads writes (clear_write old b t op change s writes none);
    })
    c.note_write.ensures
