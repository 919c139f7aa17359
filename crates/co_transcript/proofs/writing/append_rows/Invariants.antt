use Rattle.std.proofs.Common.{◌≡◌, ◌++◌, drop}
use Rattle.co_base.specs.Lent.{Begins}
use Rattle.co_schedule.specs.Words.{behind}
use Rattle.co_transcript.specs.Spelling.{row_words}
use Rattle.co_transcript.proofs.writing.append_rows.Given as goal

abbrev pub invariant-loop-row : goal.invariant-loop-row
invariant-loop-row l = record {
  text : l.out.items ++ behind (row_words (drop l.row-index l.rows)) ≡ l.initial.out.items ++ behind (row_words l.rows);
  begins : Begins l.initial.out.items l.out.items;
}
