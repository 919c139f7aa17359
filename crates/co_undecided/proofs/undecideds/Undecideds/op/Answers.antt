use Rattle.std.proofs.Common.{◌≡◌, ℕ, Bool, true, false, List, ◌∷◌, Option, None, Some, is_some, refl, sym, ap, subst, ◌∙◌}
use Rattle.co_state.specs.declared.engine_state.Operation.{Operation}
use Rattle.co_state.specs.EngineState.{operations_of}
use Rattle.co_state.specs.Table.{look, put, holds}
use Rattle.co_undecided.specs.Represented.{Represents}
use Rattle.co_undecided.specs.declared.entry.Entry.TheVariants.{Active}
use Rattle.co_undecided.specs.Kept.{kept_in, asked_in}
use Rattle.co_undecided.proofs.Entering.{operated}
use Rattle.co_undecided.proofs.Standing.{operated_apart, operated_marks}
use Rattle.std.specs.Prelude.{not, ◌&&◌, ◌+◌, if◌then◌else◌}
use Rattle.co_base.specs.declared.reply.Reply.{Reply}
use Rattle.co_engine.specs.declared.answers.Seen.TheVariants.{Answer, Blocked}
use Rattle.co_engine.specs.Calls.{seen_by, seen_of}
use Rattle.co_state.specs.Effects.{after_operation, with_operation}
use Rattle.co_state.specs.LockRule.{lock_blocker}
use Rattle.co_state.specs.ReadRule.{operation_reply, snapshot_of}
use Rattle.co_undecided.proofs.Standing.{not_held}
use Rattle.co_undecided.proofs.undecideds.Undecideds.op.Goals as goal

unblocked : (o : Option ℕ) (reply r : Reply) → seen_by o reply ≡ Answer r → is_some o ≡ false
unblocked None reply r e = refl
unblocked (Some u) reply r e = absurd (let z : Blocked u ≡ Answer r = e in cc)

blocked : (o : Option ℕ) (reply : Reply) (u : ℕ) → seen_by o reply ≡ Blocked u → is_some o ≡ true
blocked None reply u e = absurd (let z : Answer reply ≡ Blocked u = e in cc)
blocked (Some v) reply u e = refl

idle_of : (a b : Bool) → (not a && b) ≡ true → a ≡ false
idle_of true b e = absurd (let z : false ≡ true = e in cc)
idle_of false b e = refl

pub returns-in-Blocked-clause-stands : goal.returns-in-Blocked-clause-stands
returns-in-Blocked-clause-stands g c = λ b asked r may.
    let t = c.args.t in
    let seen : seen_of b t c.args.op.now ≡ Blocked c.in-Blocked.u = sym (c.in_ok-seen.ensures.seen b r.engine may) ∙ c.in-Blocked.is in
    let same : after_operation b t c.args.op.now ≡ b =
    ap (λ d. if d then b else with_operation b t c.args.op.now) (blocked (lock_blocker b t c.args.op.now) (operation_reply b t c.args.op.now) c.in-Blocked.u seen) in
    let engine = c.in_ok-seen.ensures.state b r.engine may in
    subst (λ s. Represents g.E.Engine.stands_for (record { alloc = c.args.self.now.alloc; engine = c.operate.new.engine; index = c.args.self.now.index; entries = c.args.self.now.entries }) s asked) (sym same)
    (record { engine = subst (g.E.Engine.stands_for c.operate.new.engine) same engine; index = r.index; entries = r.entries; apart = r.apart; marks = r.marks })

pub returns-in_ok-put-in-Answer-clause-stands : goal.returns-in_ok-put-in-Answer-clause-stands
returns-in_ok-put-in-Answer-clause-stands g c = λ b asked r may.
    let t = c.args.t in
    let idle = not_held (look b.voted t) (idle_of (holds b.voted t) _ may) in
    let seen : seen_of b t c.args.op.now ≡ Answer c.in-Answer.reply = sym (c.in_ok-seen.ensures.seen b r.engine may) ∙ c.in-Answer.is in
    let same : after_operation b t c.args.op.now ≡ with_operation b t c.args.op.now =
    ap (λ d. if d then b else with_operation b t c.args.op.now) (unblocked (lock_blocker b t c.args.op.now) (operation_reply b t c.args.op.now) c.in-Answer.reply seen) in
    let engine = c.in_ok-seen.ensures.state b r.engine may in
    let os : List Operation = record { op = c.args.op.now; stamp = snapshot_of b t } ∷ operations_of b t in
    subst (λ s. Represents g.E.Engine.stands_for (record { alloc = c.args.self.now.alloc; engine = c.operate.new.engine; index = c.note.new.self; entries = c.put.new.self }) s asked) (sym same)
    (record {
      engine = subst (g.E.Engine.stands_for c.operate.new.engine) same engine;
      index = c.in_ok-note-in-Answer.ensures b r.index (ap is_some idle);
      entries = λ u. ap (λ es. look es u) c.in_ok-put-in-Answer.ensures
          ∙ ap (λ e. look (put c.args.self.now.entries t e) u) (c.one_more-entry.ensures ∙ ap (λ o. Active (kept_in o + 1) (asked_in o)) c.get.ensures)
          ∙ operated b asked _ t r.entries c.args.op.now idle (r.marks t) u;
      apart = operated_apart b.active b.voted asked r.apart r.marks t os idle;
      marks = operated_marks b.active b.voted asked r.apart r.marks t os;
    })
