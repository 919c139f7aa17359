use Rattle.std.proofs.Common.{◌+◌, ap, ◌∙◌}
use Rattle.co_picture.specs.Entry.{behind_place}
use Rattle.co_picture.proofs.Texts.{all_behind}
use Rattle.co_picture.proofs.entry.behind_word.Goals as goal

pub returns-in-Some : goal.returns-in-Some
returns-in-Some c = all_behind (c.in-Some.at + 1) c.args.text.now ∙ ap (behind_place c.args.text.now) c.in-Some.ensures

pub returns-in-None : goal.returns-in-None
returns-in-None c = ap (behind_place c.args.text.now) c.in-None.ensures
