use Rattle.std.proofs.Common.{◌∙◌, sym}
use Rattle.co_outside.proofs.Files.{found, missing, absent}
use Rattle.co_outside.proofs.stored.bytes_of.Goals as goal

pub returns-in-Some : goal.returns-in-Some
returns-in-Some c = c.deref.ensures.value ∙ (found c.args.spot c.args.files.now c.in-Some.place c.in-Some.ensures).1.bytes c.index-files-place.result

pub returns-in-None : goal.returns-in-None
returns-in-None c = sym (absent c.args.spot c.args.files.now (missing c.args.spot c.args.files.now c.in-None.ensures))
