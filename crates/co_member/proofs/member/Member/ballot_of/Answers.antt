use Rattle.std.proofs.Common.{Some, sym, ap, ◌∙◌}
use Rattle.co_state.specs.Table.{look}
use Rattle.co_member.specs.Reading.{verdict_where}
use Rattle.co_member.proofs.Standings.{marked_unvoted}
use Rattle.co_member.proofs.member.Member.ballot_of.Goals as goal

pub returns : goal.returns
returns g c = λ x r.
    let t = c.args.t in
    let s = (r.running c.running.result.now c.running.ensures).undecided in
    let mark = sym (c.mark_of.ensures x.engine x.asked s) ∙ c.in_ok-mark.was in
    let unvoted = marked_unvoted (look x.engine.active t) (look x.engine.voted t) (look x.asked t) c.in_ok-mark.mark (s.apart t) (s.marks t) mark in
    ap Some (c.ballot.ensures x.engine x.asked s unvoted) ∙ ap (verdict_where x.engine t) (sym mark)
