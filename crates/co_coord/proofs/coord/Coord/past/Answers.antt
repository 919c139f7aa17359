use Rattle.std.proofs.Common.{sym, ap, subst, ◌∙◌, List}
use Rattle.std.specs.Prelude.{Err}
use Rattle.co_base.specs.declared.node.Node.TheVariants as node
use Rattle.co_plain.specs.CoordView.{recovered_commits}
use Rattle.co_record.specs.declared.record.Record.{Record}
use Rattle.co_recover.specs.Recovered.{IsCoordRecovery, past_of_coord}
use Rattle.co_recover.specs.declared.fault.RecoverFault.{RecoverFault}
use Rattle.co_coord.proofs.Told.{log_records, never_refused}
use Rattle.co_coord.proofs.coord.Coord.past.Goals as goal

pub views-requires : goal.views-requires
views-requires c =
    let x = c.args.self.now in
    let r = c.requires.stands.1 in
    (r.log.items, log_records (node.Coord x.number) x.log c.requires.stands.0.log r.log)

pub unreachable-requires : goal.unreachable-requires
unreachable-requires c =
    let x = c.args.self.now in
    let n = node.Coord x.number in
    let l = c.requires.stands.0.log in
    let s = c.requires.stands.1.log in
    let refused = c.in-Err-Inconsistent.ensures s.items (c.views.ensures s.items (log_records n x.log l s)) in
    never_refused n x.log l x.members c.in-Err-Inconsistent.field-0-0 s c.requires.stands.2 (subst (λ (f : RecoverFault). IsCoordRecovery x.members s.items (Err f)) c.in-Err-Inconsistent.field-0-is refused)

pub returns-in-Ok : goal.returns-in-Ok
returns-in-Ok c = λ y r.
    let x = c.args.self.now in
    let recovered = c.in-Ok.ensures r.log.items (c.views.ensures r.log.items (log_records (node.Coord x.number) x.log y.log r.log)) in
    recovered.1 ∙ ap (λ (rs : List Record). past_of_coord (recovered_commits rs)) (sym r.log.stable)
