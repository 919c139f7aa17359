use Rattle.std.proofs.Common.{inr, rules}
use Rattle.co_files.proofs.Files.{missing, absent}
use Rattle.co_files.proofs.Attended.{none_before}
use Rattle.co_files.proofs.folder.Folder.cut.Goals as goal

pub returns-in-None-clause-called : goal.returns-in-None-clause-called
returns-in-None-clause-called c =
    let files = c.attend.new.self.files.items in
    let empty = absent c.args.spot files (missing c.args.spot files (search rules)) in
    let none = none_before c.in_ok-attend.ensures.attended empty in
    inr (none.0, none.1, c.in_ok-attend.ensures.missed empty)
