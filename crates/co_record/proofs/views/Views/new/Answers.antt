use Rattle.std.proofs.Common.{sym, subst, []}
use Rattle.co_frame.specs.LogText.{GateWalk}
use Rattle.co_record.specs.Stored.{HasLeft}
use Rattle.co_record.proofs.Walks.{walk_of, at_front}
use Rattle.co_record.proofs.views.Views.new.Goals as goal

pub returns : goal.returns
returns c = λ items has.
    subst (λ (g : GateWalk). HasLeft (walk_of c.text_version.result g 0 []) items) (sym c.new.ensures) (at_front c.text_version.result c.args.bytes.now items has (c.text_version.ensures.text has.0 has.1))
