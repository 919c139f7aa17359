use Rattle.std.proofs.Common.{◌+◌, ℕ, List, sym, subst}
use Rattle.std.specs.Prelude.{Some}
use Rattle.std.proofs.lemmas.List.{take_rest}
use Rattle.co_record.specs.Lent.{record_of}
use Rattle.co_log.specs.Scanning.{IsReadTo}
use Rattle.co_log.proofs.Scans.{read_next}
use Rattle.co_log.proofs.scanning.read_batch.Goals as goal

pub loop-rest-preserved : goal.loop-rest-preserved
loop-rest-preserved c =
    subst (λ (r : List ℕ). IsReadTo c.args.version c.args.node c.args.at c.args.batch.now c.args.before r (c.loop-rest.place + c.in-Ok.length) (Some c.in-Some.generation)) (sym (take_rest c.loop-rest.rest.now c.in-Ok.length))
    (read_next c.args.version c.args.node c.args.at c.args.batch.now c.args.before c.loop-rest.rest.now c.loop-rest.place c.loop-rest.found (Some c.in-Some.generation) (record_of c.in-Ok.view) c.in-Ok.length c.loop-rest.invariant c.in-Ok.ensures.found c.in-Some.ensures.found)
