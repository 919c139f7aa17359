use Rattle.std.proofs.Common.{[], ◌∷◌, ◌++◌, List, ℕ, length, ap, ◌∙◌, arith}
use Rattle.co_frame.specs.LogText.{batch_text}
use Rattle.co_log.proofs.Appends.{batch_is}
use Rattle.co_log.proofs.Images.{some_bytes}
use Rattle.co_log.proofs.append.batch_of.Goals as goal

pub put_batch-requires-clause-some : goal.put_batch-requires-clause-some
put_batch-requires-clause-some c = omega (arith, some_bytes (c.args.front.now ++ (c.args.lent.now ++ c.args.back.now)) c.requires.some, ap (λ (b : List ℕ). length b) c.deref.ensures.value, ap (λ (b : List ℕ). length b) c.in_ok-records.ensures.bytes)

pub returns-clause-batch : goal.returns-clause-batch
returns-clause-batch c =
    let items = c.args.front.now ++ (c.args.lent.now ++ c.args.back.now) in
    let records = c.deref.ensures.value ∙ c.in_ok-records.ensures.bytes in
    record {
      some = c.requires.some;
      text = batch_is c.deref.result.now c.put_batch.new.into.items items records (c.in_ok-put_batch.ensures.ok ∙ ap (λ (b : List ℕ). b ++ (batch_text c.deref.result.now ++ 0 ∷ [])) c.new-batch.ensures.items);
      each = c.in_ok-records.ensures.each;
      short = omega (arith, c.if-gate-len.false, c.len.ensures, ap (λ (b : List ℕ). length b) c.in_ok-records.ensures.bytes);
    }
