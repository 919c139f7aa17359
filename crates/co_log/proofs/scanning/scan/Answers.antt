use Rattle.std.proofs.Common.{◌∙◌, ◌+◌, ℕ, List, length, ap, subst, inr, arith}
use Rattle.co_log.specs.Scanning.{IsBadBatch}
use Rattle.co_log.proofs.Scans.{scan_next, bad_batch}
use Rattle.co_log.proofs.scanning.scan.Goals as goal

pub loop-turn-preserved : goal.loop-turn-preserved
loop-turn-preserved c =
    let n = rw c.in-Some-Ok.field-0-is at c.in-Some-Ok.ensures in
    let s = c.loop-turn.invariant.scanned in
    let batch = c.in-Some-Ok.batch in
    let source = n.source ∙ c.loop-turn.invariant.source in
    record {
      scanned = scan_next c.text_version-version.result c.args.node c.loop-turn.batches c.next.new.self c.loop-turn.generation c.in-Ok.found batch.at batch.records.now (batch.at + length batch.records.now) s (n.text s.batches s.passed).0 n.lent.0 n.lent.1 c.in-Ok.ensures.read;
      source = source;
      steps = omega (arith, c.loop-turn.invariant.steps, n.lent.1, n.moves.0);
      within = omega (arith, n.moves.1, ap (λ (b : List ℕ). length b) source);
    }

pub returns-in-Err-clause-bad : goal.returns-in-Err-clause-bad
returns-in-Err-clause-bad c =
    let n = rw c.in-Some-Ok.field-0-is at c.in-Some-Ok.ensures in
    let s = c.loop-turn.invariant.scanned in
    let batch = c.in-Some-Ok.batch in
    let bad = bad_batch c.text_version-version.result c.args.node c.loop-turn.batches c.next.new.self c.loop-turn.generation batch.at batch.records.now c.in-Err.place s (n.text s.batches s.passed).0 n.source n.lent.1 n.moves.0 c.in-Err.ensures.bad in
    let text = c.in_ok-check_text.ensures.text in
    inr (text, subst (λ (v : ℕ). IsBadBatch v c.args.node c.args.bytes.now c.in-Err.place) (c.text_version-version.ensures.text text.0 text.1) (subst (λ (b : List ℕ). IsBadBatch c.text_version-version.result c.args.node b c.in-Err.place) c.loop-turn.invariant.source bad))
