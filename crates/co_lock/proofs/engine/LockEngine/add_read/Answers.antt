use Rattle.std.proofs.Common.{◌∷◌, sym, subst}
use Rattle.co_state.proofs.Tables.{on_ok}
use Rattle.co_state.specs.EngineState.{operations_of}
use Rattle.co_state.specs.ReadRule.{snapshot_of}
use Rattle.co_state.specs.Table.{Table, look, put}
use Rattle.co_engine.specs.declared.undecided.Undecided.{Undecided}
use Rattle.co_lock.specs.LockedState.{with_read}
use Rattle.co_engine.specs.Undecided.{IsKept}
use Rattle.co_lock.proofs.Fitting.{fits_read}
use Rattle.co_engine.proofs.Answering.{not_voted}
use Rattle.co_lock.proofs.Rolling.{each_read}
use Rattle.co_lock.proofs.Standing.{clear_read}
use Rattle.co_lock.proofs.engine.LockEngine.add_read.Goals as goal

pub returns : goal.returns
returns c = λ b op s may reads writes none.
    let old = c.args.self.now in
    let t = c.args.t in
    let voted = not_voted b t may in
    on_ok c.note_read.result
    (λ e. record {
      kind_is = s.kind_is;
      each = λ u. subst (λ (m : Table Undecided). IsKept (look m u) (look (put b.active t (record { op = op; stamp = snapshot_of b t } ∷ operations_of b t)) u) (look b.voted u)) (sym e)
          (each_read old.roll b t op (snapshot_of b t) c.args.range s.each voted reads writes u);
      place = with_read s.place t c.args.range;
      locked = c.in_ok-read.ensures s.place s.locked;
      fits = fits_read s.place b t op s.fits s.kind_is voted c.args.range reads writes (clear_read old b t op c.args.range s reads none);
    })
    c.note_read.ensures
