use Rattle.std.proofs.Common.{◌≡◌, List, map, sym, ap, ◌∙◌, subst, IfOk}
use Rattle.co_base.specs.declared.row.Row.{Row}
use Rattle.co_base.specs.declared.written.Written.{Written}
use Rattle.co_serial.specs.Records.{all_rows, with_changes}
use Rattle.co_state.specs.Effects.{dumped_rows, dumped_undos, undo_of}
use Rattle.co_lock.proofs.Standing.{dump_alike}
use Rattle.co_lock.proofs.engine.LockEngineEngine.dump.Goals as goal

pub returns-clause-rows : goal.returns-clause-rows
returns-clause-rows c = λ b s.
    let records = c.in_ok-records.ensures b s in
    subst (λ (rs : List Row). IfOk c.dump_in_place.result (λ dump. dump.rows ≡ rs))
    ((λ i. all_rows (with_changes (records i) (dump_alike c.args.self.now b s i))) ∙ ap (λ k. dumped_rows k b) (sym s.kind_is))
    c.dump_in_place.ensures.rows

pub returns-clause-undos : goal.returns-clause-undos
returns-clause-undos c = λ b s.
    let records = c.in_ok-records.ensures b s in
    subst (λ (us : List Written). IfOk c.dump_in_place.result (λ dump. dump.undos ≡ us))
    ((λ i. map (undo_of (records i)) (dump_alike c.args.self.now b s i)) ∙ ap (λ k. dumped_undos k b) (sym s.kind_is))
    c.dump_in_place.ensures.undos
