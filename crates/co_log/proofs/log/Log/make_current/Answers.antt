use Rattle.std.proofs.Common.{◌≡◌, [], ◌∷◌, sym, ap, subst, ◌∙◌, arith}
use Rattle.std.specs.Prelude.{Some, Result, Err}
use Rattle.co_base.specs.declared.mark.Mark.{Mark}
use Rattle.co_outside.specs.Home.{File}
use Rattle.co_log.specs.declared.fault.LogFault.{LogFault}
use Rattle.co_log.specs.Current.{IsCurrentMade}
use Rattle.co_log.specs.LogFile.{OldOrBoth}
use Rattle.co_log.proofs.Currents.{made_fault, spare_none, err_is}
use Rattle.co_log.proofs.Spots.{spots_apart}
use Rattle.co_outside.specs.declared.spot.Spot.{Spot}
use Rattle.co_record.specs.declared.record.Record.TheVariants.{Header}
use Rattle.co_log.specs.Fresh.{IsMaking, header_alone}
use Rattle.co_log.specs.LogView.{LogView}
use Rattle.co_log.proofs.Unmade.{making}
use Rattle.co_log.proofs.log.Log.make_current.Goals as goal

pub returns-in_err-ending-clause-told : goal.returns-in_err-ending-clause-told
returns-in_err-ending-clause-told g c = λ f told.
    let its = c.in_ok-close_unmade.ensures.spot ∙ ap (λ (l : LogView). l.current.spot) c.self.view_is in
    let told' = subst (λ (s : Spot). (g.H.Home.seen c.append.new.home).file s ≡ Some f) (sym its) told in
    subst (λ (l : LogView). IsMaking f.bytes (header_alone l.node)) c.self.view_is
    (making f.bytes (Header c.self.inside.node 1 ∷ []) (c.in_err-ending.ensures.told [] c.in_ok-close_unmade.ensures.ends f told'))

pub returns-in_err-ending-clause-current : goal.returns-in_err-ending-clause-current
returns-in_err-ending-clause-current g c =
    let log = c.args.self.now in
    let e = c.in_err-ending.field-0.0 in
    let is = err_is c.from_residual-in_err-ending.result e c.from_residual-in_err-ending.ensures.1 in
    let here = ap (λ (l : LogView). l.current.spot) c.self.view_is in
    let its = c.in_ok-close_unmade.ensures.spot ∙ here in
    let apart = spots_apart log c.requires.held.spots in
    let kept = c.in_err-ending.ensures.rest.others.files log.spare.spot (λ h. apart (sym (h ∙ its))) ∙ c.in_ok-close_unmade.ensures.rest.others.files log.spare.spot (λ h. apart (sym (h ∙ here))) in
    subst (λ (r : Result Mark LogFault). (this that : File) → (g.H.Home.seen c.append.new.home).file log.current.spot ≡ Some this → (g.H.Home.seen c.append.new.home).file log.spare.spot ≡ Some that → IsCurrentMade log this.bytes that.bytes r) (sym is)
    (λ this that told_this told_that.
    let told' = subst (λ (s : Spot). (g.H.Home.seen c.append.new.home).file s ≡ Some this) (sym its) told_this in
    made_fault log this.bytes that.bytes c.close_unmade.new.disk.spot e c.in_err-ending.ensures.faults (λ h. let long = c.append.ensures.full (c.in_err-ending.was ∙ ap Err h) in omega (arith, long))
    (subst (λ (l : LogView). OldOrBoth this.bytes 0 [] (Header l.node 1 ∷ [])) c.self.view_is (c.in_err-ending.ensures.told [] c.in_ok-close_unmade.ensures.ends this told'))
    (λ h. c.append.ensures.memory [] c.in_ok-close_unmade.ensures.ends (c.in_err-ending.was ∙ ap Err h) this told')
    (spare_none (g.H.Home.seen c.args.home.now) (g.H.Home.seen c.append.new.home) log that c.requires.held c.requires.fresh kept told_that))
