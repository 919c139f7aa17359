use Rattle.std.proofs.lemmas.Result.{on_ok_weaker}
use Rattle.co_picture.proofs.Appending.{three_labels}
use Rattle.co_picture.proofs.drawing.append_all_labels.Goals as goal

pub returns : goal.returns
returns c = on_ok_weaker c.append_texts.result (three_labels _ _ _ _ _ _ _ c.in_ok-append_titles.ensures c.in_ok-append_numbers.ensures) c.append_texts.ensures
