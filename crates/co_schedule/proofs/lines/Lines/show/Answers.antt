use Rattle.std.proofs.Common.{◌≡◌, Ok, Some, refl, take, sym, ap, ◌∙◌}
use Rattle.co_schedule.specs.Lines.{shown_line}
use Rattle.co_schedule.proofs.NextLine.{next_held, next_long, behind_line_held}
use Rattle.co_schedule.proofs.lines.Lines.show.Goals as goal

pub returns-in-Line-clause-next : goal.returns-in-Line-clause-next
returns-in-Line-clause-next c rest none =
    let shown : shown_line c.lend.new.self ≡ Some (take c.in-Line.end c.args.self.now.buffer.items) = rw (c.lend.ensures.shown.0, c.lend.ensures.same) refl in
    next_held _ _ _ c.args.self.now.buffer.items rest c.in-Line.end c.requires.room c.args.self.now.held_room (rw c.in-Line.is at c.requires.holds) ∙ ap Ok (sym shown)

pub returns-in-Line-clause-behind : goal.returns-in-Line-clause-behind
returns-in-Line-clause-behind c rest none =
    rw (c.lend.ensures.shown.1, c.lend.ensures.same) (behind_line_held c.args.self.now.buffer.items rest c.in-Line.end (rw c.in-Line.is at c.requires.holds))

pub returns-in-Full-clause-next : goal.returns-in-Full-clause-next
returns-in-Full-clause-next c rest none =
    let held = rw c.in-Full.is at c.requires.holds in
    next_long _ _ _ c.args.self.now.buffer.items rest c.requires.room held.1 held.0
