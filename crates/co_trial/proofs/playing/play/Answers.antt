use Rattle.std.proofs.Common.{◌≡◌, ◌++◌, [], ◌∷◌, List, Err, IsErrOf, subst, sym, ap, ◌∙◌}
use Rattle.sha2.specs.Hashers.{Holds256}
use Rattle.co_durable.specs.declared.fault.WorldFault.{WorldFault}
use Rattle.co_durable.specs.declared.fault.WorldFault.TheVariants as world
use Rattle.co_message.specs.declared.item.Item.{Item}
use Rattle.co_message.specs.declared.item.ItemKind.TheVariants as item
use Rattle.co_plain.specs.Federation.{decide_all}
use Rattle.co_plain.specs.Runs.{numbered}
use Rattle.co_plain.specs.Step.{step_line, disarmed}
use Rattle.co_replay.specs.Transcript.{items_text}
use Rattle.co_trial.specs.Decisions.{AreRun, marks_of}
use Rattle.co_settle.specs.Progress.{IsUntoldFor}
use Rattle.co_settle.proofs.Composing.{untold_for}
use Rattle.co_trial.proofs.Ending.{ends}
use Rattle.co_trial.proofs.Runs.{line_noted}
use Rattle.co_trial.proofs.playing.play.Goals as goal

pub returns-in_ok-note_all-in-Ok-clause-played : goal.returns-in_ok-note_all-in-Ok-clause-played
returns-in_ok-note_all-in-Ok-clause-played g c = λ s r ready.
    let z = (step_line s c.args.event).state in
    let done = c.in-Ok.ensures.answered s r ready in
    let items = done.told in
    record {
      stands = done.stands;
      told = λ text h. subst (λ (is : List Item). Holds256 c.tell.new.told.hasher (text ++ items_text (numbered c.args.number (item.Event c.args.event ∷ []) ++ is))) (c.as_slice.ensures ∙ items) (c.in_ok-tell-in-Ok.ensures text h);
      decided = λ s0 a. subst (AreRun s0 c.note_all.new.self) (ap (λ (is : List Item). decide_all z.sessions s.decided (marks_of is)) (c.as_slice-in-Ok.ensures ∙ items) ∙ line_noted s c.args.event c.args.number)
          (c.in_ok-note_all-in-Ok.ensures s0 z s.decided done.stands a);
    }

is_err : {A : Type 0} (fault : WorldFault) → fault ≡ world.Count → IsErrOf {T = A} (Err fault) world.Count
is_err fault e = ap Err e

pub returns-in-Err-clause-ended : goal.returns-in-Err-clause-ended
returns-in-Err-clause-ended g c =
    let w = c.requires.stands in
    let old = g.H.Home.seen c.args.home.now in
    let new = g.H.Home.seen c.step.new.home in
    let cut = c.in-Err.ensures.answered w.0 w.1 w.2 in
    ends c.in-Err.fault c.undone.result (step_line (disarmed w.0) c.args.event).state old new c.undone.ensures cut.ended
    (λ e. w.3 ((c.in-Err.ensures.limit w.0 w.1).0 (is_err c.in-Err.fault e))) cut.left.1 w.4

pub returns-in-Err-clause-untold : goal.returns-in-Err-clause-untold
returns-in-Err-clause-untold g c =
    let w = c.requires.stands in
    subst (IsUntoldFor g.H.Home.seen) (sym c.undone.ensures)
    (untold_for g.H.Home.seen c.in-Err.fault c.args.home.now (g.H.Home.seen c.step.new.home) (c.in-Err.ensures.answered w.0 w.1 w.2).ended)

pub returns-in_ok-note_all-in-Ok-clause-held : goal.returns-in_ok-note_all-in-Ok-clause-held
returns-in_ok-note_all-in-Ok-clause-held g c = let w = c.requires.stands in (c.in-Ok.ensures.answered w.0 w.1 w.2).served.kept

pub returns-in_ok-note_all-in-Ok-clause-ended : goal.returns-in_ok-note_all-in-Ok-clause-ended
returns-in_ok-note_all-in-Ok-clause-ended g c = let w = c.requires.stands in (c.in-Ok.ensures.answered w.0 w.1 w.2).served.quiet
