use Rattle.std.proofs.Common.{◌≡◌, Option, None, Some, is_some, true, refl, sym, subst, true≢false}
use Rattle.co_serial.specs.Records.{with_changes}
use Rattle.co_state.specs.declared.engine_state.EngineState.{EngineState}
use Rattle.co_state.specs.declared.engine_state.Vote.{Vote}
use Rattle.co_state.specs.Effects.{install_vote}
use Rattle.co_state.specs.EngineState.{installed_records}
use Rattle.co_state.specs.Table.{Table, look, without}
use Rattle.co_engine.specs.declared.undecided.Undecided.{Undecided}
use Rattle.co_engine.specs.Undecided.{IsKept}
use Rattle.co_lock.specs.Standing.{StandsFor}
use Rattle.co_lock.specs.LockedState.{ended}
use Rattle.co_engine.proofs.Rolling.{each_installed}
use Rattle.co_lock.proofs.Standing.{fits_install, installs_seen, no_operations}
use Rattle.co_lock.proofs.engine.LockEngineEngine.install.Goals as goal

pub returns-clause-state : goal.returns-clause-state
returns-clause-state c = λ b s h. by b s (look b.voted c.args.t) refl h
  where
    by : (b : EngineState) → StandsFor c.args.self.now b → (o : Option Vote) → look b.voted c.args.t ≡ o → is_some o ≡ true
        → StandsFor (record c.args.self.now { place = c.keep.new.self; roll = c.take.new.self }) (install_vote b c.args.t o)
    by b s None is h = absurd (true≢false (sym h))
    by b s (Some vote) is h =
        let t = c.args.t in
        let records = with_changes (installed_records b) vote.sets.writes in
        record {
          kind_is = s.kind_is;
          each = λ u. subst (λ (m : Table Undecided). IsKept (look m u) (look b.active u) (look (without b.voted t) u)) (sym c.take.ensures.rest)
              (each_installed c.args.self.now.roll b t s.each (no_operations c.args.self.now b t s vote is) u);
          place = ended s.place t records;
          locked = c.keep.ensures s.place records s.locked (installs_seen c.args.self.now b t s vote is);
          fits = fits_install c.args.self.now b t s vote is;
        }
