use Rattle.std.proofs.Common.{◌≡◌, None, refl, sym, ap, ◌∙◌}
use Rattle.co_base.specs.declared.op.Op.TheVariants.{Read, Scan}
use Rattle.co_base.specs.Span.{span_of_key}
use Rattle.co_base.specs.declared.reply.Reply.TheVariants.{Got, Rows}
use Rattle.co_state.specs.LockRule.{lock_blocker}
use Rattle.co_state.specs.ReadRule.{operation_reply, visible_records}
use Rattle.co_law_engine.proofs.SeenAlike.{span_own}
use Rattle.co_lock.proofs.Fitting.{visible_seen}
use Rattle.co_engine.proofs.Answering.{not_voted}
use Rattle.co_lock.proofs.Standing.{clear_read}
use Rattle.co_lock.proofs.engine.LockEngine.reply.Goals as goal

pub returns-in_ok-copy_value-in-Read : goal.returns-in_ok-copy_value-in-Read
returns-in_ok-copy_value-in-Read c = λ b s may none.
    let t = c.args.t in
    let key = c.in-Read.key in
    let free : lock_blocker b t (Read key) ≡ None = ap (lock_blocker b t) (sym c.in-Read.is) ∙ none in
    ap Got (c.in_ok-copy_value-in-Read.ensures ∙ c.get.ensures s.place s.locked (λ u n. clear_read c.args.self.now b t (Read key) (span_of_key key) s refl free u n key (span_own key))
    ∙ sym (visible_seen s.place b t key s.fits s.kind_is (not_voted b t may)))
    ∙ ap (operation_reply b t) (sym c.in-Read.is)

pub returns-in_ok-range-in-Scan : goal.returns-in_ok-range-in-Scan
returns-in_ok-range-in-Scan c = λ b s may none.
    let t = c.args.t in
    let range = c.in-Scan.range in
    let free : lock_blocker b t (Scan range) ≡ None = ap (lock_blocker b t) (sym c.in-Scan.is) ∙ none in
    ap Rows (c.in_ok-range-in-Scan.ensures s.place (visible_records b t) s.locked (λ q e u n. clear_read c.args.self.now b t (Scan range) range s refl free u n q e)
    (λ q e. visible_seen s.place b t q s.fits s.kind_is (not_voted b t may)))
    ∙ ap (operation_reply b t) (sym c.in-Scan.is)
