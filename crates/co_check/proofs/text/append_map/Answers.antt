use Rattle.std.proofs.Common.{◌≡◌, ◌++◌, ◌+◌, ◌-◌, suc, sym, ap, ◌∙◌, arith}
use Rattle.std.proofs.lemmas.Result.{err_from_is_err_and}
use Rattle.co_serial.specs.MemberRows.{numbered_rows, member_rows}
use Rattle.co_serial.specs.RecordText.{records_text}
use Rattle.co_schedule.proofs.Begun.{begins_again}
use Rattle.co_serial.specs.Family.{family_of}
use Rattle.co_check.proofs.Texts.{member_more}
use Rattle.co_check.proofs.text.append_map.Goals as goal

pub loop-member-preserved : goal.loop-member-preserved
loop-member-preserved c =
    let m = c.loop-member.member in
    let all = family_of c.args.map.now in
    let further : 17 - m ≡ suc (17 - (m + 1)) = omega (arith, c.loop-member-test.true) in
    record {
      text = ap (λ t. t ++ records_text (numbered_rows all (m + 1) (17 - (m + 1))))
          (c.in_ok-append_rows.ensures.ok ∙ ap (λ rows. c.loop-member.into.items ++ records_text (member_rows m rows)) (c.as_slice.ensures.value ∙ c.in_ok-rows.ensures))
          ∙ sym (member_more all m (m + 1) (17 - m) (17 - (m + 1)) c.loop-member.into.items (omega arith) further) ∙ c.loop-member.invariant.text;
      begins = begins_again _ _ _ c.loop-member.invariant.begins (_, c.in_ok-append_rows.ensures.ok);
    }

pub returns-in_err-append_rows-clause-err : goal.returns-in_err-append_rows-clause-err
returns-in_err-append_rows-clause-err c =
    let p = err_from_is_err_and c.from_residual-in_err-append_rows.result c.from_residual-in_err-append_rows.ensures.1 in
    rw p.1 (begins_again _ _ _ c.loop-member.invariant.begins c.in_err-append_rows.ensures.err)
