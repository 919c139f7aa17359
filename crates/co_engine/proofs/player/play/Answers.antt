use Rattle.std.proofs.Common.{List, ◌+◌, take, sym, subst}
use Rattle.co_state.specs.declared.engine_state.EngineState.{EngineState}
use Rattle.co_state.specs.Effects.{restored, records_from}
use Rattle.co_engine.specs.declared.command.Played.{Played}
use Rattle.co_engine.specs.Calls.{votes_of}
use Rattle.co_engine.specs.Known.{IsKnown}
use Rattle.co_engine.specs.Play.{ArePlayed, after_commands}
use Rattle.co_engine.proofs.Playing.{after_more, played_more}
use Rattle.co_engine.proofs.player.play.Goals as goal

pub loop-command-preserved : goal.loop-command-preserved
loop-command-preserved g c =
    let i = c.loop-command.invariant in
    let cs = c.args.commands.now in
    let at = c.loop-command.command-index in
    let start = restored c.args.kind (records_from c.args.rows) (votes_of c.args.voted.now) in
    let item = c.command-item.result in
    let s = c.in_ok-played.ensures (after_commands start (take at cs)) i.engine_at i.known_at in
    let m = after_more start cs at item c.loop-command-test.true c.command-item.is in
    record {
      engine_at = subst (λ (b : EngineState). g.E.Engine.stands_for c.serve.new.engine b) m s.engine_at;
      known_at = subst (λ (b : EngineState). IsKnown c.serve.new.known b) m s.known_at;
      played = subst (λ (ps : List Played). ArePlayed start (take (at + 1) cs) ps) (sym c.in_ok-push.ensures.ok) (played_more start cs c.loop-command.answers at item c.in_ok-played.played c.loop-command-test.true c.command-item.is i.played s.answered);
    }
