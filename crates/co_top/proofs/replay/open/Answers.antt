use Rattle.std.proofs.Common.{◌≡◌, Option, ◌∙◌, length, subst, sym}
use Rattle.std.specs.Prelude.{IfOk, IfErr}
use Rattle.co_outside.specs.declared.spot.Spot.{Spot}
use Rattle.co_outside.specs.Home.{File}
use Rattle.co_world.specs.Attached.{IsAttachedOver}
use Rattle.co_top.specs.Replayed.{IsUnopenedAs, IsOfFiles}
use Rattle.co_opening.proofs.Rests.{files_read}
use Rattle.co_opening.specs.Rest.{AreFoundOrMade}
use Rattle.co_top.proofs.Ending.{on_any, on_kept}
use Rattle.co_top.proofs.replay.open.Goals as goal

pub returns-clause-opened : goal.returns-clause-opened
returns-clause-opened g c =
    subst (λ (f : Spot → Option File). IfOk c.attach.result (λ r. IsAttachedOver g.E.Engine.takes g.E.Engine.stands_for f c.args.head.now c.args.resume r.0 r.1)) (λ i s. c.enter.ensures.files s i)
    c.attach.ensures.opened

pub returns-clause-refused : goal.returns-clause-refused
returns-clause-refused g c =
    subst (λ (f : Spot → Option File). IfErr c.attach.result (IsUnopenedAs f c.args.head.now c.args.resume)) (λ i s. c.enter.ensures.files s i) c.attach.ensures.refused

pub returns-clause-clean : goal.returns-clause-clean
returns-clause-clean g c = on_kept _ _ c.attach.result (λ clean s is. clean s (λ f told. is f (sym (c.enter.ensures.files s) ∙ told))) c.attach.ensures.clean

pub returns-in_err-enter-clause-made : goal.returns-in_err-enter-clause-made
returns-in_err-enter-clause-made g c = files_read (length c.args.head.now.kinds) c.args.head.now.coords (g.H.Home.seen c.args.home.now).file (g.H.Home.seen c.enter.new.home).file c.enter.ensures.files

pub returns-clause-made : goal.returns-clause-made
returns-clause-made g c =
    subst (λ (f : Spot → Option File). AreFoundOrMade (length c.args.head.now.kinds) c.args.head.now.coords f (g.H.Home.seen c.attach.new.home).file) (λ i s. c.enter.ensures.files s i) c.attach.ensures.opens.files

pub returns-clause-entered : goal.returns-clause-entered
returns-clause-entered g c = on_any _ c.attach.result (c.attach.ensures.opens.directory ∙ c.in_ok-enter.ensures.entered)

pub returns-clause-untouched : goal.returns-clause-untouched
returns-clause-untouched g c =
    subst (λ (f : Spot → Option File). IfErr c.attach.result (λ why. IsOfFiles why → (s : Spot) → (g.H.Home.seen c.attach.new.home).file s ≡ f s)) (λ i s. c.enter.ensures.files s i) c.attach.ensures.untouched
