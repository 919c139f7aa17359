use Rattle.std.proofs.Common.{None, ap, ◌∙◌}
use Rattle.co_state.specs.Table.{lesser}
use Rattle.co_index.specs.Holding.{first_scanner, by_writes, by_reads}
use Rattle.co_index.proofs.Holding.{holder_is}
use Rattle.co_index.proofs.index.Index.holder.Goals as goal

pub returns : goal.returns
returns c = λ b is apart.
    let x = c.args.self.now in
    let t = c.args.t in
    let own = c.args.own.now in
    c.first_scanner.ensures
    ∙ ap (λ ws. lesser c.by_reads-by_reads.result (first_scanner t ws x.scanners)) c.writes-2.ensures
    ∙ ap (λ o. lesser o (first_scanner t own.writes x.scanners))
    (c.by_reads-by_reads.ensures ∙ ap (λ rs. by_reads x t c.by_writes-by_writes.result rs) c.reads.ensures
    ∙ ap (λ o. by_reads x t o own.reads) (c.by_writes-by_writes.ensures ∙ ap (by_writes x t None) c.writes.ensures))
    ∙ holder_is x b t own is apart
