use Rattle.std.proofs.Common.{rules, ◌+◌, ◌++◌, Some, ap, ◌∙◌, append_assoc}
use Rattle.co_durable.proofs.Fronts.{kept_front, part_front, line_more, on_err, in_err}
use Rattle.co_durable.proofs.text.put_records.Goals as goal

pub returns-in_err-append_record-clause-front : goal.returns-in_err-append_record-clause-front
returns-in_err-append_record-clause-front g c = λ held is.
    let told = c.loop-row.invariant.told held is in
    on_err _ (kept_front c.args.rows.now c.loop-row.row-index held told.0 c.loop-row.text.items _ told.1 told.2)

pub returns-in_err-put_piece-clause-front : goal.returns-in_err-put_piece-clause-front
returns-in_err-put_piece-clause-front g c = λ held is.
    let told = c.loop-row.invariant.told held is in
    let put = c.in_err-put_piece.ensures.front (held ++ told.0) told.1 in
    on_err _
    (part_front c.args.rows.now (c.loop-row.row-index + 1) put.0 held told.0 c.append_record.new.into.items _ put.1
    (ap (λ t. told.0 ++ t) c.in_ok-append_record.ensures.ok ∙ line_more c.args.rows.now c.loop-row.row-index c.row-item.result told.0 c.loop-row.text.items c.loop-row-test.true c.row-item.is told.2))

pub loop-row-preserved : goal.loop-row-preserved
loop-row-preserved g c = record {
  told = λ held is.
      let told = c.loop-row.invariant.told held is in
      let put = c.in_ok-put_piece.ensures.put (held ++ told.0) told.1 in (
        told.0 ++ put.0,
        put.1 ∙ ap Some (append_assoc held told.0 put.0),
        append_assoc told.0 put.0 c.put_piece.new.text.items ∙ ap (λ t. told.0 ++ t) (put.2 ∙ c.in_ok-append_record.ensures.ok)
            ∙ line_more c.args.rows.now c.loop-row.row-index c.row-item.result told.0 c.loop-row.text.items c.loop-row-test.true c.row-item.is told.2,
      );
  counts = search rules;
}

pub returns-clause-front : goal.returns-clause-front
returns-clause-front g c = λ held is.
    let told = c.loop-row.invariant.told held is in
    in_err c.put_all.result
    (λ put. part_front c.args.rows.now c.loop-row.row-index put.0 held told.0 c.as_slice.result.now _ put.1 (ap (λ t. told.0 ++ t) c.as_slice.ensures.value ∙ told.2))
    (c.put_all.ensures.front (held ++ told.0) told.1)
