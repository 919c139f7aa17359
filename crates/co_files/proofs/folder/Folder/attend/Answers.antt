use Rattle.std.proofs.Common.{rules}
use Rattle.co_files.proofs.Files.{missing, absent, used_where_kept}
use Rattle.co_files.proofs.Attended.{kept_or_not}
use Rattle.co_files.proofs.folder.Folder.attend.Goals as goal

pub returns-then-is_some-clause-missed : goal.returns-then-is_some-clause-missed
returns-then-is_some-clause-missed c none = absurd (used_where_kept c.args.spot c.spell.new.self.files.items c.kept.result (search rules) (search rules) none)

pub returns-in-Some-clause-attended : goal.returns-in-Some-clause-attended
returns-in-Some-clause-attended c =
    let files = c.args.self.now.files.items in
    let none = absent c.args.spot files (missing c.args.spot files (search rules)) in
    kept_or_not {first = c.in-Some.log.file} c.keep.result (search rules) (search rules) (search rules) (search rules)
