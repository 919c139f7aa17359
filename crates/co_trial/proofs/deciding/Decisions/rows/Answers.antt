use Rattle.std.proofs.Common.{◌∙◌}
use Rattle.co_serial.specs.MemberRows.{numbered_rows}
use Rattle.co_serial.specs.Family.{family_of}
use Rattle.co_trial.proofs.Runs.{rows_more}
use Rattle.co_trial.proofs.deciding.Decisions.rows.Goals as goal

pub loop-member-preserved : goal.loop-member-preserved
loop-member-preserved c =
    rows_more (family_of c.args.self.now.serial) c.loop-member.rows c.push_rows.new.durable (numbered_rows (family_of c.args.self.now.serial) 1 c.args.members) c.loop-member.member c.args.members c.into_vec.result.items
    c.loop-member-test.true c.in_ok-push_rows.ensures (c.into_vec.ensures.value ∙ c.in_ok-rows.ensures) c.loop-member.invariant
