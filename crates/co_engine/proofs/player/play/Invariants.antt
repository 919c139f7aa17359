use Rattle.std.proofs.Common.{take}
use Rattle.co_state.specs.Effects.{restored, records_from}
use Rattle.co_engine.specs.Calls.{votes_of}
use Rattle.co_engine.specs.Known.{IsKnown}
use Rattle.co_engine.specs.Play.{ArePlayed, after_commands}
use Rattle.co_engine.proofs.player.play.Given as goal

abbrev pub invariant-loop-command : goal.invariant-loop-command
invariant-loop-command g l = record {
  engine_at : g.E.Engine.stands_for l.engine (after_commands (restored l.fn.kind (records_from l.fn.rows) (votes_of l.fn.voted)) (take l.command-index l.commands));
  known_at : IsKnown l.known (after_commands (restored l.fn.kind (records_from l.fn.rows) (votes_of l.fn.voted)) (take l.command-index l.commands));
  played : ArePlayed (restored l.fn.kind (records_from l.fn.rows) (votes_of l.fn.voted)) (take l.command-index l.commands) l.answers;
}
