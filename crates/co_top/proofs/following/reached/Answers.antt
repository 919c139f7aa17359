use Rattle.std.proofs.Common.{Option, Ok, Err, List, [], ℕ, refl, ap, subst}
use Rattle.co_plain.specs.Opening.{opened}
use Rattle.co_plain.specs.Runs.{run, lines}
use Rattle.co_trial.specs.Calm.{calm_seen}
use Rattle.co_outside.specs.HomeMemory.{memory_file}
use Rattle.co_top.specs.Following.{IsFollowed}
use Rattle.co_top.proofs.Followed.{calm_count, opening_memory, memory_unreached, memory_own, reached_by, unreached_by}
use Rattle.co_top.proofs.Laws.{ready}
use Rattle.co_top.proofs.Sights.{sees_head_if}
use Rattle.co_top.specs.Sights.{SeesIf}
use Rattle.co_top.specs.declared.status.Status.TheVariants as status
use Rattle.co_top.proofs.following.reached.Goals as goal

pub follow_lines-requires-clause-stands : goal.follow_lines-requires-clause-stands
follow_lines-requires-clause-stands g c =
    let head = c.in_ok-lines.head in
    let at = c.in_ok-world.ensures.opened in
    (opened head.kinds head.coords at.found_member at.found_coord, at.stands, ready head at.found_member at.found_coord at.may)

pub returns-in_err-world-clause-unreached : goal.returns-in_err-world-clause-unreached
returns-in_err-world-clause-unreached g c = λ input l.
    memory_unreached input c.from_residual-in_err-world.result c.in_err-world.field-0.0 c.from_residual-in_err-world.ensures
    (opening_memory (memory_file c.new-home.result.memory) c.in_ok-lines.head c.in_err-world.field-0.0 c.new-home.ensures.files c.in_err-world.ensures.refused (λ spot e. calm_count (c.in_err-world.ensures.device spot (ap Err e)).count))

pub returns-in_err-world-clause-own : goal.returns-in_err-world-clause-own
returns-in_err-world-clause-own g c =
    memory_own c.from_residual-in_err-world.result c.in_err-world.field-0.0 c.from_residual-in_err-world.ensures
    (opening_memory (memory_file c.new-home.result.memory) c.in_ok-lines.head c.in_err-world.field-0.0 c.new-home.ensures.files c.in_err-world.ensures.refused (λ spot e. calm_count (c.in_err-world.ensures.device spot (ap Err e)).count))

pub returns-in-Ok-clause-stands : goal.returns-in-Ok-clause-stands
returns-in-Ok-clause-stands g c =
    let head = c.in_ok-lines.head in
    let at = c.in_ok-world.ensures.opened in
    let s0 = opened head.kinds head.coords at.found_member at.found_coord in
    let p = c.in-Ok.ensures.over s0 at.stands (ready head at.found_member at.found_coord at.may) in
    (run (lines p.0.0.events) s0, p.0.2.stands)

pub returns-in-Ok-clause-reached : goal.returns-in-Ok-clause-reached
returns-in-Ok-clause-reached g c = λ input l.
    let head = c.in_ok-lines.head in
    let at = c.in_ok-world.ensures.opened in
    let read = c.in_ok-lines.ensures.read input l in
    let s0 = opened head.kinds head.coords at.found_member at.found_coord in
    reached_by g.E.Engine.takes g.E.Engine.stands_for input (memory_file c.new-home.result.memory) c.new-home.ensures.files head read.0 read.1 c.in_ok-world.world c.in_ok-world.field-0-1 at
    (g.S.Source.left c.follow_lines.new.source) (calm_seen c.follow_lines.new.home.memory) c.follow_lines.new.world c.args.ask.now c.follow_lines.new.seen c.in-Ok.field-0
    (subst (λ (a : Option (List ℕ)). IsFollowed g.E.Engine.takes g.E.Engine.stands_for head s0 a (g.S.Source.left c.follow_lines.new.source) (calm_seen c.follow_lines.new.home.memory) c.follow_lines.new.world c.args.ask.now c.follow_lines.new.seen (Ok c.in-Ok.field-0)) read.2
    (c.in-Ok.ensures.over s0 at.stands (ready head at.found_member at.found_coord at.may)))

pub returns-clause-unreached : goal.returns-clause-unreached
returns-clause-unreached g c = λ input l.
    let head = c.in_ok-lines.head in
    let at = c.in_ok-world.ensures.opened in
    let read = c.in_ok-lines.ensures.read input l in
    let s0 = opened head.kinds head.coords at.found_member at.found_coord in
    unreached_by g.E.Engine.takes g.E.Engine.stands_for input (memory_file c.new-home.result.memory) c.new-home.ensures.files head read.0 read.1 c.in_ok-world.world c.in_ok-world.field-0-1 at
    (g.S.Source.left c.follow_lines.new.source) (calm_seen c.follow_lines.new.home.memory) c.follow_lines.new.world c.in-Err.status c.in-Err.ensures.own
    (subst (λ (a : Option (List ℕ)). IsFollowed g.E.Engine.takes g.E.Engine.stands_for head s0 a (g.S.Source.left c.follow_lines.new.source) (calm_seen c.follow_lines.new.home.memory) c.follow_lines.new.world c.args.ask.now c.follow_lines.new.seen (Err c.in-Err.status)) read.2
    (c.in-Err.ensures.over s0 at.stands (ready head at.found_member at.found_coord at.may)))

pub returns-in_err-seen-clause-unreached : goal.returns-in_err-seen-clause-unreached
returns-in_err-seen-clause-unreached g c = λ input l. memory_unreached input c.from_residual-in_err-seen.result status.Memory c.from_residual-in_err-seen.ensures refl

pub returns-in_err-seen-clause-own : goal.returns-in_err-seen-clause-own
returns-in_err-seen-clause-own g c = memory_own c.from_residual-in_err-seen.result status.Memory c.from_residual-in_err-seen.ensures refl

pub follow_lines-requires-clause-seen : goal.follow_lines-requires-clause-seen
follow_lines-requires-clause-seen g c = λ s0 r.
    subst (λ n. SeesIf n s0 [] c.args.ask.now c.in_ok-seen.seen) c.len.ensures (sees_head_if c.len.result s0 c.args.ask.now c.in_ok-seen.seen c.requires.ask (c.in_ok-seen.ensures s0 r))
