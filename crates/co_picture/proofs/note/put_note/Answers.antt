use Rattle.co_picture.specs.Drawn.{text_of_note}
use Rattle.co_picture.proofs.Notes.{noted_as}
use Rattle.co_picture.proofs.note.put_note.Goals as goal

pub returns-clause-noted : goal.returns-clause-noted
returns-clause-noted g c held told =
    noted_as held (text_of_note c.args.note.now) (g.N.Sink.told c.put_pieces.new.notes) (g.N.Sink.faults c.args.notes.now) (g.N.Sink.faults c.put_pieces.new.notes)
    (g.N.Sink.lacks c.args.notes.now) (g.N.Sink.lacks c.put_pieces.new.notes) c.put_pieces.result
    (c.put_pieces.ensures.whole held told) (c.put_pieces.ensures.front held told) c.put_pieces.ensures.failed c.put_pieces.ensures.memory
