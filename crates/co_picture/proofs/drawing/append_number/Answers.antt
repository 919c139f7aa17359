use Rattle.std.proofs.Common.{◌≡◌, ◌++◌, sym, ap, ◌∙◌, subst, append-nil, OnOk}
use Rattle.std.proofs.lemmas.Result.{on_ok_weaker}
use Rattle.co_picture.specs.Picture.{number_label, number_labels}
use Rattle.co_picture.specs.declared.entry.Role.{Role}
use Rattle.co_svg.specs.Svg.{label_text, labels_text}
use Rattle.co_picture.proofs.drawing.append_number.Goals as goal

pub returns-in-Event : goal.returns-in-Event
returns-in-Event c =
    subst (λ (r : Role). OnOk c.append_number_in.result (c.append_number_in.new.into.items ≡ c.args.into.now.items ++ labels_text (number_labels c.args.row r c.args.number))) (sym c.in-Event.is)
    (on_ok_weaker c.append_number_in.result (λ e. e ∙ ap (λ t. c.args.into.now.items ++ t) (sym (append-nil (label_text (number_label c.args.row c.args.number))))) c.append_number_in.ensures)
