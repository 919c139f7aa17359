use Rattle.std.proofs.Common.{◌≡◌, List, map, sym, ap, ◌∙◌, subst, IfOk}
use Rattle.co_base.specs.declared.row.Row.{Row}
use Rattle.co_base.specs.declared.written.Written.{Written}
use Rattle.co_serial.specs.Records.{all_rows, with_changes}
use Rattle.co_state.specs.Effects.{dumped_rows, dumped_undos, undo_of}
use Rattle.co_plain_engine.proofs.Standing.{records_alike, dump_alike}
use Rattle.co_plain_engine.proofs.plain.PlainEngineEngine.dump.Goals as goal

pub returns-in-Lock-clause-rows : goal.returns-in-Lock-clause-rows
returns-in-Lock-clause-rows c = λ b s.
    let records = c.in_ok-records.ensures ∙ records_alike c.args.self.now b s in
    subst (λ (rs : List Row). IfOk c.dump_in_place.result (λ dump. dump.rows ≡ rs))
    ((λ i. all_rows (with_changes (records i) (dump_alike c.args.self.now b s i))) ∙ ap (λ k. dumped_rows k b) (sym c.in-Lock.is ∙ s.kind_is))
    c.dump_in_place.ensures.rows

pub returns-in-Lock-clause-undos : goal.returns-in-Lock-clause-undos
returns-in-Lock-clause-undos c = λ b s.
    let records = c.in_ok-records.ensures ∙ records_alike c.args.self.now b s in
    subst (λ (us : List Written). IfOk c.dump_in_place.result (λ dump. dump.undos ≡ us))
    ((λ i. map (undo_of (records i)) (dump_alike c.args.self.now b s i)) ∙ ap (λ k. dumped_undos k b) (sym c.in-Lock.is ∙ s.kind_is))
    c.dump_in_place.ensures.undos
