-- A wait is passed, followed, or closes.
use Rattle.std.proofs.Common.{◌++◌, ◌∷◌, [], ap, ◌∙◌, rules}
use Rattle.co_wait.proofs.Moves.{pass_on, rank_fits, come_again}
use Rattle.co_wait.proofs.search.take.Goals as goal

pub pass-requires-clause-rank : goal.pass-requires-clause-rank
pass-requires-clause-rank c = rank_fits c.args.waits.now c.requires.searching.0 c.args.known.now c.args.path.now.items c.args.visit c.args.wait.by c.in-Some-Ended.rank c.requires.searching.1 (search rules)

pub returns-in-Some-Ended-clause-next : goal.returns-in-Some-Ended-clause-next
returns-in-Some-Ended-clause-next c = λ first s.
    pass_on c.args.waits.now first c.args.known.now c.args.path.now.items c.args.visit c.pass.result c.args.wait c.in-Some-Ended.rank s c.requires.here c.requires.own (search rules) c.pass.ensures

pub returns-in_ok-push-in-Some-Open-clause-next : goal.returns-in_ok-push-in-Some-Open-clause-next
returns-in_ok-push-in-Some-Open-clause-next c = λ first s.
    let pushed = c.in_ok-push-in-Some-Open.ensures.items ∙ ap (λ pause. c.args.path.now.items ++ pause ∷ []) c.pause_at.ensures in
    come_again c.args.waits.now first c.args.known.now c.args.path.now.items c.push.new.self.items c.args.visit c.args.wait s c.requires.here c.requires.own (search rules) pushed
