use Rattle.std.proofs.Common.{◌≡◌, ◌∙◌, length, ap, arith}
use Rattle.std.proofs.lemmas.Result.{IfOk-weaker}
use Rattle.co_serial.specs.MemberRows.{numbered_rows}
use Rattle.co_durable.specs.Laying.{durable_of_pasts}
use Rattle.co_durable.proofs.Numbered.{so_many}
use Rattle.co_plain.specs.DurableRecords.{durable_in}
use Rattle.co_cluster.proofs.LogsAlone.{past_at, rows_alone}
use Rattle.co_cluster.proofs.cluster.Cluster.durable.Goals as goal

pub durable_rows-requires : goal.durable_rows-requires
durable_rows-requires g c =
    let s = c.requires.stands.0 in
    let r = c.requires.stands.1 in
    let many : length c.as_slice.result.now ≡ length s.kinds = ap length (c.as_slice.ensures.value ∙ c.in_ok-pasts.ensures s r) ∙ so_many (past_at s) (length s.kinds) in
    omega (arith, many, r.few_members)

pub returns : goal.returns
returns g c = λ s r ready.
    IfOk-weaker c.durable_rows.result (λ rows. rows ≡ durable_of_pasts c.as_slice-2.result.now c.as_slice.result.now) (λ rows. rows ≡ numbered_rows (durable_in s) 1 (length s.kinds))
    (λ rows is. rows_alone s ready c.as_slice.result.now c.as_slice-2.result.now rows is (c.as_slice.ensures.value ∙ c.in_ok-pasts.ensures s r) (c.as_slice-2.ensures.value ∙ c.in_ok-commits.ensures s r))
    c.durable_rows.ensures
