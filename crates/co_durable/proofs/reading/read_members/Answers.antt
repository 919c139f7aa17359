use Rattle.std.proofs.Common.{sym, subst, ◌∙◌}
use Rattle.std.specs.List.{AllByRecursion}
use Rattle.co_base.specs.Nodes.{IsValidNode}
use Rattle.co_durable.proofs.Numbered.{members_valid}
use Rattle.co_durable.proofs.reading.read_members.Goals as goal

pub read_logs-requires : goal.read_logs-requires
read_logs-requires g c = subst (AllByRecursion IsValidNode) (sym (c.as_slice.ensures.value ∙ c.in_ok-nodes.ensures)) (members_valid c.args.count c.requires)
