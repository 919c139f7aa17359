-- A wait is followed to a transaction that is not known.
use Rattle.std.proofs.Common.{◌<◌, ◌^◌, ◌++◌, ◌∷◌, [], List, ap, ◌∙◌, rules}
use Rattle.co_wait.specs.declared.search.Pause.{Pause}
use Rattle.co_wait.proofs.Moves.{follow_result, follow_kept}
use Rattle.co_wait.proofs.search.follow.Goals as goal

pub returns-clause-next : goal.returns-clause-next
returns-clause-next c = λ first s.
    let small : c.args.wait.by < 2 ^ 32 = search rules in
    let pushed = ◌∙◌ {A = List Pause} c.in_ok-push.ensures.items (ap (λ pause. c.args.path.now.items ++ pause ∷ []) c.pause_at.ensures) in
    follow_result c.args.waits.now first c.args.known.now c.enter.new.known c.args.path.now.items c.push.new.self.items c.args.visit c.args.wait c.enter.result
    c.requires.here c.requires.own c.requires.unknown small pushed c.enter.ensures.opened c.enter.ensures.visit s

pub returns-clause-kept : goal.returns-clause-kept
returns-clause-kept c = follow_kept c.args.known.now c.enter.new.known c.args.wait.by c.enter.result c.requires.unknown c.enter.ensures.opened
