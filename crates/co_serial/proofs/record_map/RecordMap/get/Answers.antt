use Rattle.std.proofs.Common.{ap, sym, ◌∙◌}
use Rattle.std.specs.FinMap.{get}
use Rattle.std.proofs.lemmas.Cmp.{nat_list_cmp_total}
use Rattle.co_serial.proofs.MapViews.{view-get}
use Rattle.co_serial.proofs.record_map.RecordMap.get.Goals as goal

pub returns : goal.returns
returns c = c.get.ensures.value ∙ sym (view-get nat_list_cmp_total _ _) ∙ ap (λ m. get m c.args.key.now) c.self.view_is
