use Rattle.std.proofs.Common.{Some, sym, ap, ◌∙◌}
use Rattle.co_mv.specs.Kept.{or_now, stamp_of}
use Rattle.co_stamps.proofs.Agreeing.{put-same}
use Rattle.co_mv.proofs.snapshots.Snapshots.enter.Goals as goal

pub returns-in-Some-clause-state : goal.returns-in-Some-clause-state
returns-in-Some-clause-state c =
    let s = c.args.self.now in
    let is = sym c.get.ensures ∙ c.in-Some.is in
    (λ i. record s { stamps = sym (put-same s.stamps c.args.t (stamp_of s c.args.t) (ap (λ o. Some (or_now s.installs o)) is ∙ sym is)) i })
