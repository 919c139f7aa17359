use Rattle.std.proofs.Common.{sym, ap, ◌∙◌}
use Rattle.co_base.specs.declared.reply.Reply.TheVariants.{Got, Rows}
use Rattle.co_state.specs.ReadRule.{operation_reply}
use Rattle.co_mv.proofs.Seeing.{ordered_kept, all_ordered}
use Rattle.co_mv.proofs.Standing.{read_alike, scan_alike}
use Rattle.co_mv.proofs.mv_engine.MvEngine.reply.Goals as goal

pub returns-in_ok-copy_value-in-Read : goal.returns-in_ok-copy_value-in-Read
returns-in_ok-copy_value-in-Read c = λ b s h.
    ap Got c.in_ok-copy_value-in-Read.ensures ∙ read_alike c.args.self.now b c.args.t c.in-Read.key _ s h (λ past. c.value.ensures past (ordered_kept c.args.self.now.archive b.base b.installed c.in-Read.key s.keeps)) ∙ ap (operation_reply b c.args.t) (sym c.in-Read.is)

pub returns-in_ok-rows-in-Scan : goal.returns-in_ok-rows-in-Scan
returns-in_ok-rows-in-Scan c = λ b s h.
    ap Rows (c.in_ok-rows-in-Scan.ensures (all_ordered c.args.self.now.archive b.base b.installed s.keeps)) ∙ scan_alike c.args.self.now b c.args.t c.in-Scan.range s h ∙ ap (operation_reply b c.args.t) (sym c.in-Scan.is)
