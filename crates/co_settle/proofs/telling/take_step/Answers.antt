use Rattle.std.proofs.Common.{◌≡◌, inl, inr, suc, ◌+◌, [], ◌∷◌, ◌++◌, Err, refl, sym, ap, ◌∙◌, subst, append_assoc, arith}
use Rattle.std.specs.Prelude.{List}
use Rattle.co_durable.specs.declared.fault.WorldFault.{WorldFault}
use Rattle.co_durable.specs.declared.fault.WorldFault.TheVariants as world
use Rattle.co_message.specs.declared.item.Item.{Item}
use Rattle.co_message.specs.declared.item.ItemKind.TheVariants as item
use Rattle.co_plain.specs.Runs.{numbered}
use Rattle.co_plain.specs.Step.{step_line}
use Rattle.co_law_settle.specs.SettlingTurns.{note_in}
use Rattle.co_world.proofs.Nodes.{held_left}
use Rattle.co_settle.specs.Notes.{wanted_by}
use Rattle.co_settle.specs.Progress.{IsCutIn, HasEnded, IsUntoldFor}
use Rattle.co_settle.proofs.GoingOn.{wants_memory}
use Rattle.co_settle.proofs.Composing.{cut_as, ended_as, untold_for, one_told, told_notes}
use Rattle.co_settle.proofs.telling.take_step.Goals as goal

pub returns-in_err-tell-in-Ok-clause-did : goal.returns-in_err-tell-in-Ok-clause-did
returns-in_err-tell-in-Ok-clause-did g c = λ s r ready.
    let done = c.in-Ok.ensures.answered s r ready in
    cut_as g.E.Engine.takes g.E.Engine.stands_for s (c.args.event ∷ []) c.args.told.now c.tell.new.self c.args.steps.now c.args.steps.now c.step.new.self (g.H.Home.seen c.step.new.home).file
    (λ note. note ≡ note_in (wanted_by c.args.want c.args.member) (step_line s c.args.event).items) c.from_residual.result world.Memory c.from_residual.ensures
    (inr (held_left g.E.Engine.takes g.E.Engine.stands_for c.step.new.self (step_line s c.args.event).state (g.H.Home.seen c.step.new.home) done.stands done.served.kept, refl))

pub returns-in_ok-tell-in-Ok-clause-did : goal.returns-in_ok-tell-in-Ok-clause-did
returns-in_ok-tell-in-Ok-clause-did g c = λ s r ready.
    let n = c.args.told.now.number in
    let told = c.in_ok-tell-in-Ok.ensures in
    let done = c.in-Ok.ensures.answered s r ready in
    let items = done.told in
    let next : n + 1 ≡ suc n = omega arith in (
      record {
        number = told.0;
        items = told.1 ∙ append_assoc c.args.told.now.items (numbered (n + 1) (item.Event c.args.event ∷ [])) c.in-Ok.items ∙ ap (λ (xs : List Item). c.args.told.now.items ++ xs) (ap (λ (xs : List Item). numbered (n + 1) (item.Event c.args.event ∷ []) ++ xs) items ∙ one_told n (n + 1) c.args.event s next);
        counted = refl;
        stands = done.stands;
      },
      c.first_wanted-note.ensures ∙ told_notes (wanted_by c.args.want c.args.member) (n + 1) c.as_slice.result.now (step_line s c.args.event).items (c.as_slice.ensures ∙ items),
    )

pub returns-in-Err-clause-did : goal.returns-in-Err-clause-did
returns-in-Err-clause-did g c = λ s r ready.
    subst (IsCutIn (c.args.event ∷ []) s (g.H.Home.seen c.step.new.home).file) (sym c.undone.ensures) (inl (c.in-Err.ensures.answered s r ready).left)

pub returns-in-Err-clause-ended : goal.returns-in-Err-clause-ended
returns-in-Err-clause-ended g c =
    let w = c.requires.stands in
    let old = g.H.Home.seen c.args.home.now in
    let new = g.H.Home.seen c.step.new.home in
    subst (λ (f : WorldFault). HasEnded f old new) (sym c.undone.ensures)
    (ended_as c.in-Err.fault old new (λ e. c.requires.limit c.args.world.now.sessions (c.in-Err.ensures.count.0 (ap Err e))) (c.in-Err.ensures.answered w.0 w.1 w.2).ended)

pub returns-in-Err-clause-untold : goal.returns-in-Err-clause-untold
returns-in-Err-clause-untold g c =
    let w = c.requires.stands in
    subst (λ (f : WorldFault). IsUntoldFor g.H.Home.seen f) (sym c.undone.ensures)
    (untold_for g.H.Home.seen c.in-Err.fault c.args.home.now (g.H.Home.seen c.step.new.home) (c.in-Err.ensures.answered w.0 w.1 w.2).ended)

pub returns-in_ok-tell-in-Ok-clause-ended : goal.returns-in_ok-tell-in-Ok-clause-ended
returns-in_ok-tell-in-Ok-clause-ended g c = let w = c.requires.stands in (c.in-Ok.ensures.answered w.0 w.1 w.2).served

pub returns-in_err-tell-in-Ok-clause-ended : goal.returns-in_err-tell-in-Ok-clause-ended
returns-in_err-tell-in-Ok-clause-ended g c =
    let w = c.requires.stands in
    wants_memory c.step.new.self c.step.new.self (g.H.Home.seen c.args.home.now) (g.H.Home.seen c.step.new.home) c.from_residual.result c.from_residual.ensures (c.in-Ok.ensures.answered w.0 w.1 w.2).served
