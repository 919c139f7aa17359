use Rattle.std.proofs.Common.{refl, sym, ◌∙◌}
use Rattle.std.proofs.lemmas.Bool.{eqb-true, eqb-false}
use Rattle.std.specs.Prelude.{Err}
use Rattle.co_log.specs.declared.fault.LogFault.TheVariants as log
use Rattle.co_durable.specs.declared.fault.WorldFault.TheVariants.{Device, Memory}
use Rattle.co_opening.specs.Judged.{IsOfMaking}
use Rattle.co_opening.proofs.Handed.{handed_in, no_value, not_err, same_device, no_device}
use Rattle.co_opening.proofs.Made.{still_stands, still_marked, may_make, fresh_stands, made_own, made_clean, making_as, making_failed}
use Rattle.co_opening.proofs.Rests.{none_made, log_made}
use Rattle.co_opening.proofs.making.make_fresh.Goals as goal

-- ---- the log is not fresh

pub returns-then-not-fresh-clause-stands : goal.returns-then-not-fresh-clause-stands
returns-then-not-fresh-clause-stands g c = λ owner found s. still_stands owner c.args.log.now found s (eqb-false c.args.log.now.gate 0 (sym c.fresh.ensures ∙ c.if-not-fresh.true))

pub returns-then-not-fresh-clause-marks : goal.returns-then-not-fresh-clause-marks
returns-then-not-fresh-clause-marks g c = λ owner found s. still_marked owner c.args.log.now found c.args.marks.now s (eqb-false c.args.log.now.gate 0 (sym c.fresh.ensures ∙ c.if-not-fresh.true))

pub returns-then-not-fresh-clause-kept : goal.returns-then-not-fresh-clause-kept
returns-then-not-fresh-clause-kept g c = c.requires.kept

pub returns-then-not-fresh-clause-clean : goal.returns-then-not-fresh-clause-clean
returns-then-not-fresh-clause-clean g c = λ s was. was

pub returns-then-not-fresh-clause-rest : goal.returns-then-not-fresh-clause-rest
returns-then-not-fresh-clause-rest g c = none_made c.args.log.now.node (g.H.Home.seen c.args.home.now)

pub returns-then-not-fresh-clause-device : goal.returns-then-not-fresh-clause-device
returns-then-not-fresh-clause-device g c = λ spot is. absurd (not_err _ (Device spot) is)

pub returns-then-not-fresh-clause-quiet : goal.returns-then-not-fresh-clause-quiet
returns-then-not-fresh-clause-quiet g c = λ quiet. refl

pub make-requires : goal.make-requires
make-requires g c =
    let found = c.requires.stands in
    may_make found.0 c.args.log.now found.1 (g.H.Home.seen c.args.home.now) found.2 c.requires.kept.kept.held (eqb-true c.args.log.now.gate 0 (sym c.fresh.ensures ∙ c.if-not-fresh.false))

-- ---- the log is made, and there was no memory for its mark

pub returns-in_err-push-in-Ok-clause-stands : goal.returns-in_err-push-in-Ok-clause-stands
returns-in_err-push-in-Ok-clause-stands g c = λ owner found s. no_value _ c.from_residual.result c.from_residual.ensures.0

pub returns-in_err-push-in-Ok-clause-marks : goal.returns-in_err-push-in-Ok-clause-marks
returns-in_err-push-in-Ok-clause-marks g c = λ owner found s. no_value _ c.from_residual.result c.from_residual.ensures.0

pub returns-in_err-push-in-Ok-clause-kept : goal.returns-in_err-push-in-Ok-clause-kept
returns-in_err-push-in-Ok-clause-kept g c = no_value _ c.from_residual.result c.from_residual.ensures.0

pub returns-in_err-push-in-Ok-clause-clean : goal.returns-in_err-push-in-Ok-clause-clean
returns-in_err-push-in-Ok-clause-clean g c = no_value _ c.from_residual.result c.from_residual.ensures.0

pub returns-in_err-push-in-Ok-clause-rest : goal.returns-in_err-push-in-Ok-clause-rest
returns-in_err-push-in-Ok-clause-rest g c =
    let found = c.requires.stands in
    let may = may_make found.0 c.args.log.now found.1 (g.H.Home.seen c.args.home.now) found.2 c.requires.kept.kept.held (eqb-true c.args.log.now.gate 0 (sym c.fresh.ensures ∙ c.if-not-fresh.false)) in
    log_made c.args.log.now c.make.new.self (g.H.Home.seen c.args.home.now) (g.H.Home.seen c.make.new.home) c.make.result may.fresh c.requires.kept c.make.ensures

pub returns-in_err-push-in-Ok-clause-fault : goal.returns-in_err-push-in-Ok-clause-fault
returns-in_err-push-in-Ok-clause-fault g c = handed_in IsOfMaking c.from_residual.result Memory c.from_residual.ensures.1 tt

pub returns-in_err-push-in-Ok-clause-device : goal.returns-in_err-push-in-Ok-clause-device
returns-in_err-push-in-Ok-clause-device g c = λ spot is. absurd (no_device c.from_residual.result spot c.from_residual.ensures.1 is)

pub returns-in_err-push-in-Ok-clause-quiet : goal.returns-in_err-push-in-Ok-clause-quiet
returns-in_err-push-in-Ok-clause-quiet g c = λ quiet. c.in-Ok.ensures.answered.2.quiet

-- ---- the log is made

pub returns-in-Ok-clause-stands : goal.returns-in-Ok-clause-stands
returns-in-Ok-clause-stands g c = λ owner found s. fresh_stands owner c.args.log.now c.make.new.self found s (eqb-true c.args.log.now.gate 0 (sym c.fresh.ensures ∙ c.if-not-fresh.false)) c.in-Ok.ensures.answered.0

pub returns-in-Ok-clause-kept : goal.returns-in-Ok-clause-kept
returns-in-Ok-clause-kept g c =
    made_own (g.H.Home.seen c.make.new.home) c.args.log.now c.make.new.self c.requires.kept.kept.held.spots c.in-Ok.ensures.answered.0 c.in-Ok.ensures.answered.2.held c.make.ensures.short

pub returns-in-Ok-clause-clean : goal.returns-in-Ok-clause-clean
returns-in-Ok-clause-clean g c =
    made_clean (g.H.Home.seen c.args.home.now) (g.H.Home.seen c.make.new.home) c.args.log.now.current.spot c.in-Ok.ensures.answered.2.clean c.make.ensures.rest

pub returns-in-Ok-clause-rest : goal.returns-in-Ok-clause-rest
returns-in-Ok-clause-rest g c =
    let found = c.requires.stands in
    let may = may_make found.0 c.args.log.now found.1 (g.H.Home.seen c.args.home.now) found.2 c.requires.kept.kept.held (eqb-true c.args.log.now.gate 0 (sym c.fresh.ensures ∙ c.if-not-fresh.false)) in
    log_made c.args.log.now c.make.new.self (g.H.Home.seen c.args.home.now) (g.H.Home.seen c.make.new.home) c.make.result may.fresh c.requires.kept c.make.ensures

pub returns-in-Ok-clause-device : goal.returns-in-Ok-clause-device
returns-in-Ok-clause-device g c = λ spot is. absurd (not_err _ (Device spot) is)

pub returns-in-Ok-clause-quiet : goal.returns-in-Ok-clause-quiet
returns-in-Ok-clause-quiet g c = λ quiet. c.in-Ok.ensures.answered.2.quiet

-- ---- the log is not made

pub returns-in-Err-Device-clause-rest : goal.returns-in-Err-Device-clause-rest
returns-in-Err-Device-clause-rest g c =
    let found = c.requires.stands in
    let may = may_make found.0 c.args.log.now found.1 (g.H.Home.seen c.args.home.now) found.2 c.requires.kept.kept.held (eqb-true c.args.log.now.gate 0 (sym c.fresh.ensures ∙ c.if-not-fresh.false)) in
    log_made c.args.log.now c.make.new.self (g.H.Home.seen c.args.home.now) (g.H.Home.seen c.make.new.home) c.make.result may.fresh c.requires.kept c.make.ensures

pub returns-in-Err-Device-clause-device : goal.returns-in-Err-Device-clause-device
returns-in-Err-Device-clause-device g c = λ spot is.
    making_failed c.args.log.now c.make.new.self (g.H.Home.seen c.args.home.now) (g.H.Home.seen c.make.new.home) c.in-Err-Device.field-0 c.in-Err-Device.ensures.answered c.in-Err-Device.spot spot c.in-Err-Device.field-0-is (same_device c.in-Err-Device.spot spot is)

pub returns-in-Err-Device-clause-quiet : goal.returns-in-Err-Device-clause-quiet
returns-in-Err-Device-clause-quiet g c = λ quiet. absurd (quiet c.in-Err-Device.spot refl)

pub returns-in-Err-Memory-clause-rest : goal.returns-in-Err-Memory-clause-rest
returns-in-Err-Memory-clause-rest g c =
    let found = c.requires.stands in
    let may = may_make found.0 c.args.log.now found.1 (g.H.Home.seen c.args.home.now) found.2 c.requires.kept.kept.held (eqb-true c.args.log.now.gate 0 (sym c.fresh.ensures ∙ c.if-not-fresh.false)) in
    log_made c.args.log.now c.make.new.self (g.H.Home.seen c.args.home.now) (g.H.Home.seen c.make.new.home) c.make.result may.fresh c.requires.kept c.make.ensures

pub returns-in-Err-Memory-clause-device : goal.returns-in-Err-Memory-clause-device
returns-in-Err-Memory-clause-device g c = λ spot is. absurd (no_device (Err Memory) spot refl is)

pub returns-in-Err-Memory-clause-quiet : goal.returns-in-Err-Memory-clause-quiet
returns-in-Err-Memory-clause-quiet g c = λ quiet.
    making_as c.args.log.now c.make.new.self (g.H.Home.seen c.args.home.now) (g.H.Home.seen c.make.new.home) c.in-Err-Memory.field-0 c.in-Err-Memory.ensures.answered log.Memory c.in-Err-Memory.field-0-is

pub unreachable-requires : goal.unreachable-requires
unreachable-requires g c =
    making_as c.args.log.now c.make.new.self (g.H.Home.seen c.args.home.now) (g.H.Home.seen c.make.new.home) c.in-Err-Bad.field-0 c.in-Err-Bad.ensures.answered (log.Bad c.in-Err-Bad.field-0-0 c.in-Err-Bad.field-0-1) c.in-Err-Bad.field-0-is

pub unreachable-requires-in-Err-Full : goal.unreachable-requires-in-Err-Full
unreachable-requires-in-Err-Full g c =
    making_as c.args.log.now c.make.new.self (g.H.Home.seen c.args.home.now) (g.H.Home.seen c.make.new.home) c.in-Err-Full.field-0 c.in-Err-Full.ensures.answered (log.Full c.in-Err-Full.field-0-0) c.in-Err-Full.field-0-is

pub unreachable-requires-in-Err-InUse : goal.unreachable-requires-in-Err-InUse
unreachable-requires-in-Err-InUse g c =
    making_as c.args.log.now c.make.new.self (g.H.Home.seen c.args.home.now) (g.H.Home.seen c.make.new.home) c.in-Err-InUse.field-0 c.in-Err-InUse.ensures.answered (log.InUse c.in-Err-InUse.field-0-0) c.in-Err-InUse.field-0-is

pub unreachable-requires-in-Err-Stopped : goal.unreachable-requires-in-Err-Stopped
unreachable-requires-in-Err-Stopped g c =
    making_as c.args.log.now c.make.new.self (g.H.Home.seen c.args.home.now) (g.H.Home.seen c.make.new.home) c.in-Err-Stopped.field-0 c.in-Err-Stopped.ensures.answered (log.Stopped c.in-Err-Stopped.field-0-0 c.in-Err-Stopped.field-0-1 c.in-Err-Stopped.field-0-2) c.in-Err-Stopped.field-0-is

pub unreachable-requires-in-Err-Differs : goal.unreachable-requires-in-Err-Differs
unreachable-requires-in-Err-Differs g c =
    making_as c.args.log.now c.make.new.self (g.H.Home.seen c.args.home.now) (g.H.Home.seen c.make.new.home) c.in-Err-Differs.field-0 c.in-Err-Differs.ensures.answered (log.Differs c.in-Err-Differs.field-0-0 c.in-Err-Differs.field-0-1 c.in-Err-Differs.field-0-2 c.in-Err-Differs.field-0-3) c.in-Err-Differs.field-0-is
