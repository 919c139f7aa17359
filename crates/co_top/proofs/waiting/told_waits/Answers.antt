use Rattle.std.proofs.Common.{Result, sym, subst}
use Rattle.co_top.specs.Ran.{end_of}
use Rattle.co_top.specs.Replayed.{status_of}
use Rattle.co_top.specs.Following.{IsFollowedEnd, Unwritten}
use Rattle.co_top.specs.Waiting.{HasWaits, text_of_waits}
use Rattle.co_top.specs.declared.status.Status.{Status}
use Rattle.co_top.proofs.Breaking.{knot_of}
use Rattle.co_top.proofs.Plays.{err_is}
use Rattle.co_wait.specs.Text.{waits_text}
use Rattle.co_top.proofs.FollowedEnd.{written, text_own}
use Rattle.co_top.proofs.waiting.told_waits.Goals as goal

pub returns-in_err-world-clause-end : goal.returns-in_err-world-clause-end
returns-in_err-world-clause-end g c = λ input held l t.
    subst (λ (o : Result (Unit {0}) Status). IsFollowedEnd input HasWaits text_of_waits held (g.K.Sink.told c.args.out.now) (status_of o)) (sym (err_is c.from_residual.result c.in_err-world.field-0.0 c.from_residual.ensures))
    (Unwritten t (c.in_err-world.ensures.unreached input l))

pub held_votes-requires : goal.held_votes-requires
held_votes-requires g c = record { stands = c.in_ok-world.ensures.stands }

pub returns-clause-end : goal.returns-clause-end
returns-clause-end g c = λ input held l t.
    let r = c.in_ok-world.ensures.reached input l in
    written input held HasWaits text_of_waits
    (record {
      fresh = r.fresh;
      whole = r.whole;
      waits = c.in_ok-waits.waits;
      knot = c.in_ok-knot.knot;
      is = knot_of r.fresh c.in_ok-waits.waits c.in_ok-knot.knot c.in_ok-waits.ensures.ascending (c.in_ok-waits.ensures.waits (end_of r.fresh.ran) r.stands) c.in_ok-knot.ensures;
    })
    (g.K.Sink.told c.args.out.now) (g.K.Sink.told c.tell_waits.new.out) c.tell_waits.result t c.tell_waits.ensures.told

pub returns-clause-own : goal.returns-clause-own
returns-clause-own g c = text_own (waits_text c.in_ok-waits.waits c.in_ok-knot.knot) (g.K.Sink.told c.args.out.now) (g.K.Sink.told c.tell_waits.new.out) c.tell_waits.result c.tell_waits.ensures.told
