use Rattle.std.proofs.Common.{◌≡◌, ◌+◌, suc, ℕ, false, [], ◌∷◌, ◌++◌, sym, subst, length, arith}
use Rattle.co_opening.specs.Rest.{OnlyOwnFilesChange}
use Rattle.co_opening.proofs.Rests.{changes_on}
use Rattle.co_plain.specs.MemberStep.{standing_of}
use Rattle.co_plain.specs.declared.happening.Happening.TheVariants as happening
use Rattle.co_law_coop.specs.Consulting.{letting_go}
use Rattle.co_law_coop.proofs.Keeping.{timer_keeps}
use Rattle.co_coop.specs.Consulted.{IsCutAlong}
use Rattle.co_coop.proofs.Along.{cut_ahead, fails_along}
use Rattle.co_coop.proofs.Aborting.{timer_at_other, after_timer, voted_still, active_is, does_both, ends_later, errs_later, rest_as}
use Rattle.co_coop.proofs.consulting.abort.Goals as goal

pub returns-in_err-let_go-clause-did : goal.returns-in_err-let_go-clause-did
returns-in_err-let_go-clause-did g c = λ s r reached may v.
    let d = c.args.doubt.now in
    let o = c.args.other in
    let file = (g.H.Home.seen c.let_go.new.home).file in
    let active = active_is (standing_of (s.member o) d.txn) (c.if-is_active.ensures (standing_of (s.member o) d.txn) (c.knows.ensures s r)) in
    fails_along g.E.Engine.takes g.E.Engine.stands_for s c.args.number (letting_go (standing_of (s.member o) d.txn) d.txn o ++ happening.Hand d.txn d.member false ∷ []) c.args.items.now c.let_go.new.items c.let_go.new.world file
    c.from_residual.result c.in_err-let_go.field-0.0 c.from_residual.ensures
    (subst (λ st. IsCutAlong (letting_go st d.txn o ++ happening.Hand d.txn d.member false ∷ []) s file c.in_err-let_go.field-0.0) (sym active)
    (cut_ahead (timer_at_other d.txn o ∷ []) (happening.Hand d.txn d.member false ∷ []) s file c.in_err-let_go.field-0.0 (c.in_err-let_go.ensures.did s r reached)))

pub hand-requires-clause-voted : goal.hand-requires-clause-voted
hand-requires-clause-voted g c =
    let w = c.requires.asks in
    (after_timer w.0 c.args.doubt.now.txn c.args.other, (c.in_ok-let_go.ensures.did w.0 w.1 w.2).1, voted_still w.0 c.args.doubt.now c.args.other w.3 w.4)

pub returns-then-is_active-clause-did : goal.returns-then-is_active-clause-did
returns-then-is_active-clause-did g c = λ s r reached may v.
    let d = c.args.doubt.now in
    let o = c.args.other in
    let active = active_is (standing_of (s.member o) d.txn) (c.if-is_active.ensures (standing_of (s.member o) d.txn) (c.knows.ensures s r)) in
    let one = c.in_ok-let_go.ensures.did s r reached in
    let next : c.args.number + 1 ≡ suc c.args.number = omega arith in
    does_both g.E.Engine.takes g.E.Engine.stands_for s d.txn d.member o c.args.number (g.H.Home.seen c.hand.new.home).file c.hand.new.world c.args.items.now c.hand.result
    (c.args.number + 1) c.let_go.new.items c.hand.new.items active next one.0 (c.hand.ensures.did (after_timer s d.txn o) one.1 (voted_still s d o may v))

pub returns-then-is_active-clause-ended : goal.returns-then-is_active-clause-ended
returns-then-is_active-clause-ended g c =
    ends_later c.let_go.new.world c.hand.new.world (g.H.Home.seen c.args.home.now) (g.H.Home.seen c.let_go.new.home) (g.H.Home.seen c.hand.new.home) c.hand.result c.in_ok-let_go.ensures.ended c.hand.ensures.ended

pub returns-then-is_active-clause-fault : goal.returns-then-is_active-clause-fault
returns-then-is_active-clause-fault g c =
    let w = c.requires.asks in
    errs_later c.hand.result (g.H.Home.seen c.args.home.now) (g.H.Home.seen c.let_go.new.home) (g.H.Home.seen c.hand.new.home) (c.in_ok-let_go.ensures.rest w.0 w.1).files.told c.in_ok-let_go.ensures.ended.clean c.hand.ensures.fault

pub returns-then-is_active-clause-rest : goal.returns-then-is_active-clause-rest
returns-then-is_active-clause-rest g c = λ s r.
    let w = c.requires.asks in
    let z = after_timer w.0 c.args.doubt.now.txn c.args.other in
    let old = g.H.Home.seen c.args.home.now in
    let mid = g.H.Home.seen c.let_go.new.home in
    let new = g.H.Home.seen c.hand.new.home in
    let keeps = timer_keeps w.0 c.args.doubt.now.txn c.args.other in
    rest_as g.E.Engine.takes g.E.Engine.stands_for c.args.world.now w.0 s old new w.1 r
    (changes_on (length w.0.kinds) w.0.coordinators old mid new (c.in_ok-let_go.ensures.rest w.0 w.1)
    (subst (λ ks. OnlyOwnFilesChange (length ks) w.0.coordinators mid new) keeps.kinds
    (subst (λ (k : ℕ). OnlyOwnFilesChange (length z.kinds) k mid new) keeps.coordinators (c.hand.ensures.rest z (c.in_ok-let_go.ensures.did w.0 w.1 w.2).1))))
