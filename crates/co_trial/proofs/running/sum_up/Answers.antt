use Rattle.std.proofs.Common.{◌≡◌, true, length, refl, ap, ◌∙◌, subst}
use Rattle.co_serial.specs.MemberRows.{numbered_rows}
use Rattle.co_plain.specs.DurableRecords.{durable_in}
use Rattle.co_plain.specs.Promises.{serial_records}
use Rattle.co_settle.proofs.Reaching.{ready}
use Rattle.co_trial.specs.Trials.{start_of, settled_to}
use Rattle.co_trial.proofs.Done.{reached_settled, kinds_settled, alone}
use Rattle.co_trial.proofs.running.sum_up.Goals as goal

pub durable-requires : goal.durable-requires
durable-requires g c =
    let w = c.requires in
    let d = w.1 in
    let z = settled_to w.0 c.args.number c.args.events d.settling in
    record { stands = (z, d.stands, ready z (reached_settled w.0 c.args.number c.args.events d.valid d.settling d.settles)) }

pub left_open-requires : goal.left_open-requires
left_open-requires g c =
    let w = c.requires in
    let d = w.1 in
    let z = settled_to w.0 c.args.number c.args.events d.settling in
    (z, d.stands, ready z (reached_settled w.0 c.args.number c.args.events d.valid d.settling d.settles), d.settles.done)

pub returns : goal.returns
returns g c =
    let w = c.requires in
    let o = w.0 in
    let d = w.1 in
    let n = c.args.number in
    let k = c.args.events in
    let r = reached_settled o n k d.valid d.settling d.settles in
    let z = settled_to o n k d.settling in
    let serial = serial_records (start_of o) z.decided in
    let three : length z.kinds ≡ 3 = ap length (kinds_settled o n k d.valid d.settling d.settles ∙ o.kinds) in
    let rows = c.in_ok-durable.ensures z d.stands (ready z r) ∙ ap (numbered_rows (durable_in z) 1) three in
    let compared = subst (λ left. (c.in_ok-equal.equal ≡ true → left ≡ numbered_rows serial 1 3) × (left ≡ numbered_rows serial 1 3 → c.in_ok-equal.equal ≡ true)) rows
    (subst (λ f. (c.in_ok-equal.equal ≡ true → c.in_ok-durable.durable ≡ numbered_rows f 1 3) × (c.in_ok-durable.durable ≡ numbered_rows f 1 3 → c.in_ok-equal.equal ≡ true)) d.decided.records c.in_ok-equal.ensures) in
    record {
      opened = o;
      settling = d.settling;
      settles = d.settles;
      begun = c.begun.ensures z d.stands;
      committed = c.count.ensures ∙ d.decided.count;
      digest = c.in_ok-digest.ensures _ d.told_all;
      equal = compared.1 (ap (λ f. numbered_rows f 1 3) (alone o n k d.valid d.settling d.settles));
      events = refl;
      number_is = refl;
      open_none = c.in_ok-open.ensures;
      settled = d.counted;
    }
