use Rattle.std.proofs.Common.{Result, sym, subst}
use Rattle.co_top.specs.Following.{IsFollowedEnd, Unwritten}
use Rattle.co_top.specs.Looking.{LookedAfter, HasLooked, text_of_looked}
use Rattle.co_top.specs.Replayed.{status_of}
use Rattle.co_top.specs.Sights.{ask_for}
use Rattle.co_top.specs.declared.reader.Ask.{Ask}
use Rattle.co_top.specs.declared.status.Status.{Status}
use Rattle.co_top.proofs.FollowedEnd.{written}
use Rattle.co_top.proofs.Plays.{err_is}
use Rattle.co_top.proofs.looking.told_looked.Goals as goal

pub returns-in_err-seen-clause-end : goal.returns-in_err-seen-clause-end
returns-in_err-seen-clause-end g c = λ input held l t.
    let asked : Ask = ask_for c.args.member c.args.line c.args.low.now c.args.high.now in
    subst (λ (o : Result (Unit {0}) Status). IsFollowedEnd input (HasLooked asked) (text_of_looked asked) held (g.K.Sink.told c.args.out.now) (status_of o))
    (sym (err_is c.from_residual-in_err-seen.result c.in_err-seen.field-0.0 c.from_residual-in_err-seen.ensures)) (Unwritten t (c.in_err-seen.ensures.unreached input l))

pub returns-clause-end : goal.returns-clause-end
returns-clause-end g c = λ input held l t.
    let asked : Ask = ask_for c.args.member c.args.line c.args.low.now c.args.high.now in
    let seen = subst (λ (a : Ask). LookedAfter input a c.in_ok-seen.seen) c.in_ok-ask.ensures (c.in_ok-seen.ensures.looked input l) in
    written input held (HasLooked asked) (text_of_looked asked) (c.in_ok-seen.seen, seen) (g.K.Sink.told c.args.out.now) (g.K.Sink.told c.tell_looked.new.out) c.tell_looked.result t c.tell_looked.ensures.told
