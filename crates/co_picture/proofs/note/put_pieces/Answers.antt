use Rattle.std.proofs.Common.{◌++◌, ℕ, [], List, Some, take, refl, sym, ap, ◌∙◌, append_assoc, append-nil}
use Rattle.std.proofs.lemmas.Result.{on_ok_weaker, on_err_weaker}
use Rattle.co_picture.specs.Drawn.{number_text, text_of_note}
use Rattle.co_picture.proofs.Notes.{cut_in, at_fault}
use Rattle.co_picture.proofs.note.put_pieces.Goals as goal

pub returns-in_err-put_all-clause-front : goal.returns-in_err-put_all-clause-front
returns-in_err-put_all-clause-front g c held told =
    let note = c.args.note.now in
    let part = c.in_err-put_all.ensures.front held told in
    at_fault c.from_residual.result _
    (cut_in held [] note.front.now (number_text note.line ++ note.back.now) (text_of_note note) (g.N.Sink.told c.put_all.new.sink) refl
    (part.0, part.1 ∙ ap (λ (h : List ℕ). Some (h ++ take part.0 note.front.now)) (sym (append-nil held))))

pub returns-in_err-put_number-clause-front : goal.returns-in_err-put_number-clause-front
returns-in_err-put_number-clause-front g c held told =
    let note = c.args.note.now in
    at_fault c.from_residual-in_err-put_number.result _
    (cut_in held note.front.now (number_text note.line) note.back.now (text_of_note note) (g.N.Sink.told c.put_number.new.notes) refl
    (c.in_err-put_number.ensures.front (held ++ note.front.now) (c.in_ok-put_all.ensures.appended held told)))

pub returns-clause-whole : goal.returns-clause-whole
returns-clause-whole g c held told =
    let note = c.args.note.now in
    let numbered = c.in_ok-put_number.ensures.whole (held ++ note.front.now) (c.in_ok-put_all.ensures.appended held told) in
    on_ok_weaker c.put_all-2.result
    (λ whole. whole ∙ ap Some (append_assoc (held ++ note.front.now) (number_text note.line) note.back.now ∙ append_assoc held note.front.now (number_text note.line ++ note.back.now)))
    (c.put_all-2.ensures.appended ((held ++ note.front.now) ++ number_text note.line) numbered)

pub returns-clause-front : goal.returns-clause-front
returns-clause-front g c held told =
    let note = c.args.note.now in
    let numbered = c.in_ok-put_number.ensures.whole (held ++ note.front.now) (c.in_ok-put_all.ensures.appended held told) in
    let before = note.front.now ++ number_text note.line in
    on_err_weaker c.put_all-2.result
    (λ part. cut_in held before note.back.now [] (text_of_note note) (g.N.Sink.told c.put_all-2.new.sink)
    (ap (λ (b : List ℕ). note.front.now ++ (number_text note.line ++ b)) (sym (append-nil note.back.now)) ∙ sym (append_assoc note.front.now (number_text note.line) (note.back.now ++ [])))
    (part.0, part.1 ∙ ap (λ (h : List ℕ). Some (h ++ take part.0 note.back.now)) (append_assoc held note.front.now (number_text note.line))))
    (c.put_all-2.ensures.front ((held ++ note.front.now) ++ number_text note.line) numbered)
