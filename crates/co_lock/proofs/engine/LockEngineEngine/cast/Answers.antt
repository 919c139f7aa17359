use Rattle.std.proofs.Common.{sym, subst}
use Rattle.co_state.specs.Table.{Table, look, put, without}
use Rattle.co_state.specs.Changes.{sets_of}
use Rattle.co_state.specs.EngineState.{operations_of}
use Rattle.co_engine.specs.declared.undecided.Undecided.{Undecided}
use Rattle.co_engine.specs.Undecided.{IsKept}
use Rattle.co_lock.specs.LockedState.{without_reads}
use Rattle.co_engine.proofs.Rolling.{each_cast}
use Rattle.co_lock.proofs.Standing.{fits_vote}
use Rattle.co_lock.proofs.engine.LockEngineEngine.cast.Goals as goal

pub returns-clause-state : goal.returns-clause-state
returns-clause-state c = λ b coord count s h.
    let t = c.args.t in
    record {
      kind_is = s.kind_is;
      each = λ u. subst (λ (m : Table Undecided). IsKept (look m u) (look (without b.active t) u) (look (put b.voted t (record { coord = coord; count = count; sets = sets_of (operations_of b t) })) u)) (sym c.cast.ensures)
          (each_cast c.args.self.now.roll b t coord count s.each h u);
      place = without_reads s.place t;
      locked = c.end_reads.ensures s.place s.locked;
      fits = fits_vote c.args.self.now b t coord count s h;
    }
