use Rattle.std.proofs.Common.{◌≡◌, ℕ, List, sym, subst, inr}
use Rattle.std.specs.Prelude.{Some, Result}
use Rattle.co_base.specs.declared.mark.Mark.{Mark}
use Rattle.co_outside.specs.Home.{File}
use Rattle.co_record.specs.declared.record.Record.{Record}
use Rattle.co_log.specs.declared.fault.LogFault.{LogFault}
use Rattle.co_log.specs.declared.fault.LogFault.TheVariants as faults
use Rattle.co_log.specs.Current.{IsOrdered, IsCurrentAfter}
use Rattle.co_log.proofs.Currents.{untouched_current, err_is}
use Rattle.co_log.specs.Spare.{filling}
use Rattle.co_log.proofs.Unmade.{closed_told}
use Rattle.co_log.proofs.log.Log.fill.Goals as goal

pub returns-then-self-clause-told : goal.returns-then-self-clause-told
returns-then-self-clause-told g c = inr (λ f told. closed_told c.args.self.now.spare.state f.bytes (filling c.args.self.now c.args.items.now) c.requires.still c.requires.closed (c.requires.held.spare.told f told))

pub returns-in_err-told-clause-told : goal.returns-in_err-told-clause-told
returns-in_err-told-clause-told g c = inr (λ f told. closed_told c.args.self.now.spare.state f.bytes (filling c.args.self.now c.args.items.now) c.requires.still c.requires.closed (c.requires.held.spare.told f told))

pub returns-then-self-clause-current : goal.returns-then-self-clause-current
returns-then-self-clause-current g c = untouched_current (g.H.Home.seen c.args.home.now) c.args.self.now c.requires.held c.requires.still c.requires.closed

pub returns-in_err-told-clause-current : goal.returns-in_err-told-clause-current
returns-in_err-told-clause-current g c =
    subst (λ (r : Result Mark LogFault). (kept : List (ℕ × Record)) → IsOrdered c.args.self.now kept → (this that : File) → (g.H.Home.seen c.args.home.now).file c.args.self.now.current.spot ≡ Some this → (g.H.Home.seen c.args.home.now).file c.args.self.now.spare.spot ≡ Some that
    → IsCurrentAfter c.args.self.now kept c.args.items.now this.bytes that.bytes r) (sym (err_is c.from_residual.result faults.Memory c.from_residual.ensures.1))
    (untouched_current (g.H.Home.seen c.args.home.now) c.args.self.now c.requires.held c.requires.still c.requires.closed)
