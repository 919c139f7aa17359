use Rattle.std.proofs.Common.{◌+◌, ◌++◌, suc, List, length, zero-add, subst, ap, ◌∙◌}
use Rattle.sha2.specs.Hashers.{Holds256}
use Rattle.co_message.specs.declared.item.Item.{Item}
use Rattle.co_plain.specs.Federation.{decide_all}
use Rattle.co_plain.specs.Runs.{transcript}
use Rattle.co_plain.specs.Step.{disarmed}
use Rattle.co_replay.specs.Transcript.{items_text}
use Rattle.co_settle.specs.Settled.{IsCutShort}
use Rattle.co_trial.specs.Decisions.{AreRun, marks_of}
use Rattle.co_trial.specs.Making.{first_events}
use Rattle.co_trial.specs.Trials.{start_of, opening_told, played_to, settled_to}
use Rattle.co_trial.proofs.Done.{at_end, few_open, whole_text}
use Rattle.co_trial.proofs.Ending.{settling_fault}
use Rattle.co_trial.proofs.KeptSessions.{of_settling}
use Rattle.co_trial.proofs.Rooms.{settling_never_full}
use Rattle.co_trial.proofs.Runs.{settling_noted}
use Rattle.co_trial.proofs.running.run_events.Goals as goal

pub settle-requires-clause-stands : goal.settle-requires-clause-stands
settle-requires-clause-stands g c =
    let w = c.requires.stands in
    let p = c.in_ok-play_all.ensures.gone w.0 w.1 w.2 in
    (played_to w.0 c.args.number c.args.events, p.stands, at_end w.0 c.args.number c.args.events p.valid, few_open w.0 c.args.number c.args.events p.valid p.long c.requires.events)

pub returns-in_err-items-clause-ended : goal.returns-in_err-items-clause-ended
returns-in_err-items-clause-ended g c =
    let w = c.requires.stands in
    let o = w.0 in
    let n = c.args.number in
    let k = c.args.events in
    let p = c.in_ok-play_all.ensures.gone o w.1 w.2 in
    let s = played_to o n k in
    let file = (g.H.Home.seen c.settle.new.home).file in
    let fault = c.in_err-items.field-0.0 in
    let cut = c.in_err-items.ensures.settled s p.stands (at_end o n k p.valid) (few_open o n k p.valid p.long c.requires.events) in
    settling_fault c.from_residual-in_err-items.result fault (g.H.Home.seen c.args.home.now).faults
    (g.H.Home.seen c.play_all.new.home) (g.H.Home.seen c.settle.new.home)
    c.from_residual-in_err-items.ensures c.in_ok-play_all.ensures.ended c.in_err-items.ensures.ended
    (λ spot e. settling_never_full o g.E.Engine.takes g.E.Engine.stands_for n k c.args.told.now c.play_all.new.told c.play_all.new.decisions c.play_all.new.world p c.requires.events file spot
    (subst (IsCutShort s file) e cut))

pub returns-clause-done : goal.returns-clause-done
returns-clause-done g c =
    let w = c.requires.stands in
    let o = w.0 in
    let n = c.args.number in
    let k = c.args.events in
    let p = c.in_ok-play_all.ensures.gone o w.1 w.2 in
    let s = played_to o n k in
    let q = c.in_ok-items.ensures.settled s p.stands (at_end o n k p.valid) (few_open o n k p.valid p.long c.requires.events) in
    let z = settled_to o n k q.events in (
      o,
      record {
        settling = q.events;
        settles = q.settles;
        stands = q.stands;
        told_all = subst (Holds256 c.tell_all.new.self.hasher) (ap (λ (is : List Item). (items_text (opening_told o) ++ items_text (transcript 2 (first_events (start_of o) n k) (start_of o))) ++ items_text is) (c.as_slice.ensures ∙ q.told) ∙ whole_text o n k q.events) (c.in_ok-tell_all.ensures (items_text (opening_told o) ++ items_text (transcript 2 (first_events (start_of o) n k) (start_of o))) (p.told (items_text (opening_told o)) w.3));
        decided = subst (AreRun (start_of o) c.note_all.new.self) (ap (λ (is : List Item). decide_all z.sessions s.decided (marks_of is)) (c.as_slice-2.ensures ∙ q.told) ∙ settling_noted q.events (disarmed s) (suc (k + 1)) (of_settling s q.events q.settles.settling))
            (c.in_ok-note_all.ensures (start_of o) z s.decided q.stands p.decided);
        valid = p.valid;
        counted = c.count.ensures ∙ q.counted ∙ ap (λ n. n + length q.events) c.new-steps.ensures ∙ zero-add (length q.events);
      },
    )
