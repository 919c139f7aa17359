use Rattle.std.proofs.Common.{not, ◌&&◌, ◌||◌, sym, ap, subst, ◌∙◌}
use Rattle.std.specs.Prelude.{◌==◌}
use Rattle.co_base.specs.declared.op.Op.TheVariants.{Read, Write, Erase, Scan}
use Rattle.co_base.specs.Span.{Span}
use Rattle.co_state.specs.EngineState.{sets_at}
use Rattle.co_state.specs.Keys.{writes_within}
use Rattle.co_state.specs.LockRule.{lock_blocker}
use Rattle.co_locktab.specs.Locks.{IsLeast}
use Rattle.co_locktab.proofs.Least.{least_same}
use Rattle.co_lock.proofs.Standing.{blocker_alike}
use Rattle.co_lock.proofs.engine.LockEngine.blocker.Goals as goal

pub returns-in_ok-of_key-in-Read : goal.returns-in_ok-of_key-in-Read
returns-in_ok-of_key-in-Read c = λ b s.
    blocker_alike c.args.self.now b c.args.t (Read c.in-Read.key) c.read_blocker.result s
    (subst (λ (r : Span). IsLeast (λ u. not (u == c.args.t) && writes_within (sets_at b u).writes r) c.read_blocker.result) c.in_ok-of_key-in-Read.ensures
    (c.read_blocker.ensures s.place (λ u. (sets_at b u).writes) s.locked s.fits.wrote_are))
    ∙ ap (lock_blocker b c.args.t) (sym c.in-Read.is)

pub returns-in-Scan : goal.returns-in-Scan
returns-in-Scan c = λ b s.
    blocker_alike c.args.self.now b c.args.t (Scan c.in-Scan.range) c.read_blocker-in-Scan.result s (c.read_blocker-in-Scan.ensures s.place (λ u. (sets_at b u).writes) s.locked s.fits.wrote_are)
    ∙ ap (lock_blocker b c.args.t) (sym c.in-Scan.is)

pub returns-in-Write : goal.returns-in-Write
returns-in-Write c = λ b s.
    blocker_alike c.args.self.now b c.args.t (Write c.in-Write.key c.in-Write.field-1) c.write_blocker.result s
    (least_same _ _ c.write_blocker.result (λ u i. not (u == c.args.t) && (s.fits.wrote_are u c.in-Write.key i || s.fits.reads_are u c.in-Write.key i)) (c.write_blocker.ensures s.place s.locked))
    ∙ ap (lock_blocker b c.args.t) (sym c.in-Write.is)

pub returns-in-Erase : goal.returns-in-Erase
returns-in-Erase c = λ b s.
    blocker_alike c.args.self.now b c.args.t (Erase c.in-Erase.key) c.write_blocker-in-Erase.result s
    (least_same _ _ c.write_blocker-in-Erase.result (λ u i. not (u == c.args.t) && (s.fits.wrote_are u c.in-Erase.key i || s.fits.reads_are u c.in-Erase.key i)) (c.write_blocker-in-Erase.ensures s.place s.locked))
    ∙ ap (lock_blocker b c.args.t) (sym c.in-Erase.is)
