use Rattle.std.proofs.Common.{◌≡◌, true, subst}
use Rattle.std.proofs.lemmas.Slice.Eq.{slice_eq-Decides}
use Rattle.co_serial.specs.declared.member_row.MemberRow.{MemberRow}
use Rattle.co_trial.proofs.Equals.{same_rows}
use Rattle.co_trial.proofs.deciding.Decisions.leave.Goals as goal

pub returns : goal.returns
returns c =
    let d = slice_eq-Decides {A = MemberRow} same_rows c.args.durable.now c.in_ok-rows.rows c.eq.result c.eq.ensures in
    subst (λ rows. (c.eq.result ≡ true → c.args.durable.now ≡ rows) × (c.args.durable.now ≡ rows → c.eq.result ≡ true)) c.in_ok-rows.ensures d
