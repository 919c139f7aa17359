use Rattle.std.proofs.Common.{ap, ◌∙◌}
use Rattle.co_plain.specs.Member.{prepare_record}
use Rattle.co_record.specs.declared.record.Record.TheVariants as log
use Rattle.co_state.specs.declared.engine_state.Sets.{Sets}
use Rattle.co_member.proofs.running.Running.vote_record.Goals as goal

pub returns : goal.returns
returns g c = λ kind x s undecided.
    let t = c.args.t in
    c.new.ensures ∙ ap (λ reads. log.Prepare t c.args.coord c.args.count reads c.writes.result.now) c.reads.ensures ∙ ap (λ writes. log.Prepare t c.args.coord c.args.count c.sets-sets.result.now.reads writes) c.writes.ensures
    ∙ ap (λ (z : Sets). prepare_record t c.args.coord c.args.count z) (c.sets-sets.ensures x.engine x.asked s.undecided undecided)
