use Rattle.std.proofs.Common.{◌∙◌}
use Rattle.co_files.proofs.Files.{found}
use Rattle.co_files.proofs.keeping.write_at.Goals as goal

pub returns-clause-called : goal.returns-clause-called
returns-clause-called c =
    let there = (found c.args.spot c.args.files.now c.args.place c.requires).1 in
    let its = c.write.ensures.spot ∙ there.its_spot c.index-files-place.result in
    rw (there.changed c.write.new.self its, ← there.bytes c.index-files-place.result) c.write.ensures.called

pub returns-clause-others : goal.returns-clause-others
returns-clause-others c =
    let there = (found c.args.spot c.args.files.now c.args.place c.requires).1 in
    there.others _ (c.write.ensures.spot ∙ there.its_spot c.index-files-place.result)
