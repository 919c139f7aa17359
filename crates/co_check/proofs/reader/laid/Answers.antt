use Rattle.std.proofs.Common.{Some, sym, ap, ◌∙◌}
use Rattle.co_check.specs.Resumed.{Stands}
use Rattle.co_check.specs.Stages.{InRecords}
use Rattle.co_check.specs.Starts.{is_behind, laid_in, name_of}
use Rattle.co_check.specs.declared.reader.Reader.TheVariants.{Records}
use Rattle.co_check.specs.declared.starting.RecordName.{RecordName}
use Rattle.co_check.proofs.Stages.{stands_behind}
use Rattle.co_check.proofs.reader.laid.Goals as goal

pub returns-clause-taken : goal.returns-clause-taken
returns-clause-taken c = λ start k.
    let name : RecordName = record { member = c.args.row.member; key = c.in_ok-copy.field-0 } in
    stands_behind (is_behind c.args.last c.args.row) (InRecords (Some (name_of c.args.row)) (laid_in start c.args.row)) (Stands (Records (Some name) c.lay_in.new.self))
    (sym c.is_behind.ensures ∙ c.if-not-is_behind.false)
    (ap (λ key. Some (record { member = c.args.row.member; key = key })) c.in_ok-copy.ensures, c.in_ok-lay_in.ensures.kept start k)
