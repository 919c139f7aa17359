use Rattle.std.proofs.Common.{sym, subst}
use Rattle.co_state.specs.Table.{Table, look, without}
use Rattle.co_engine.specs.declared.undecided.Undecided.{Undecided}
use Rattle.co_engine.specs.Undecided.{IsKept}
use Rattle.co_lock.specs.LockedState.{ended}
use Rattle.co_engine.proofs.Rolling.{each_gone}
use Rattle.co_lock.proofs.Standing.{fits_drop}
use Rattle.co_lock.proofs.engine.LockEngineEngine.drop_txn.Goals as goal

pub returns-clause-state : goal.returns-clause-state
returns-clause-state c = λ b s h.
    let t = c.args.t in
    record {
      kind_is = s.kind_is;
      each = λ u. subst (λ (m : Table Undecided). IsKept (look m u) (look (without b.active t) u) (look (without b.voted t) u)) (sym c.take.ensures.rest)
          (each_gone c.args.self.now.roll b t s.each u);
      place = ended s.place t s.place.installed;
      locked = c.undo.ensures s.place s.locked;
      fits = fits_drop c.args.self.now b t s;
    }
