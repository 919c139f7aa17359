use Rattle.std.proofs.Common.{◌≡◌, Some, None, if◌then◌else◌, sym, subst}
use Rattle.std.specs.Prelude.{IfOk}
use Rattle.co_record.specs.Lent.{record_of}
use Rattle.co_record.specs.declared.view.RecordView.{RecordView}
use Rattle.co_recover.specs.Recovered.{member_next}
use Rattle.co_recover.proofs.member.next_view.Goals as goal

pub returns-in-Checkpoint : goal.returns-in-Checkpoint
returns-in-Checkpoint c =
    subst (λ (item : RecordView). IfOk c.checkpoint_in.result (λ is_second. (if is_second then Some c.checkpoint_in.new.view else None) ≡ member_next c.args.coords c.args.place c.args.view.now (record_of item))) (sym c.in-Checkpoint.is)
    (c.checkpoint_in.ensures c.args.coords)

pub returns-in-Commit : goal.returns-in-Commit
returns-in-Commit c =
    subst (λ (item : RecordView). IfOk c.commit_in.result (λ is_allowed. (if is_allowed then Some c.commit_in.new.view else None) ≡ member_next c.args.coords c.args.place c.args.view.now (record_of item))) (sym c.in-Commit.is)
    (c.commit_in.ensures c.args.coords c.args.place)
