use Rattle.std.proofs.Common.{◌≡◌, Option, None, Some, refl, ap, ◌∙◌}
use Rattle.std.specs.Option.{unwrap_or}
use Rattle.co_plain.specs.Member.{coord_in}
use Rattle.co_state.specs.Table.{look}
use Rattle.co_state.specs.declared.engine_state.Vote.{Vote}
use Rattle.co_undecided.specs.Kept.{coord_asked}
use Rattle.co_member.proofs.running.Running.coord_of.Goals as goal

nobody_is_zero : (vote : Option Vote) → unwrap_or (coord_asked vote) 0 ≡ coord_in vote
nobody_is_zero None = refl
nobody_is_zero (Some vote) = refl

pub returns : goal.returns
returns g c = λ kind x s. c.unwrap_or.ensures ∙ ap (λ o. unwrap_or o 0) (c.coord_of.ensures x.engine x.asked s.undecided) ∙ nobody_is_zero (look x.engine.voted c.args.t)
