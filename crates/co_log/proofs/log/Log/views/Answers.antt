use Rattle.std.proofs.Common.{ℕ, List, sym, ap, subst, ◌∙◌}
use Rattle.co_disk.specs.DiskModel.{read_of}
use Rattle.co_record.specs.Stored.{HasRecords}
use Rattle.co_log.specs.LogView.{LogView}
use Rattle.co_log.proofs.log.Log.views.Goals as goal

pub returns : goal.returns
returns c = λ items has.
    c.new.ensures items (subst (λ (b : List ℕ). HasRecords b items) (sym (c.bytes.ensures.read ∙ ap (λ (l : LogView). read_of l.current.state) c.self.view_is)) has)
