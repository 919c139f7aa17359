use Rattle.std.proofs.Common.{sym, subst}
use Rattle.std.specs.List.{Contains}
use Rattle.co_plain.specs.Settling.{IsFirstDown}
use Rattle.co_cluster.specs.Readings.{AllUp}
use Rattle.co_settle.proofs.Reaching.{ready, all_reached}
use Rattle.co_settle.proofs.Seeking.{not_found, have_all}
use Rattle.co_settle.proofs.candidates.Candidates.collect.Goals as goal

pub still_open-requires : goal.still_open-requires
still_open-requires g c = let w = c.requires.stands in record { stands = (w.0, w.1, ready w.0 w.2) }

pub busy_among-requires : goal.busy_among-requires
busy_among-requires g c =
    let w = c.requires.stands in
    record { stands = (w.0, w.1, ready w.0 w.2, not_found (AllUp w.0) (IsFirstDown w.0) c.first_down.result c.is_none-then-is_none.result c.is_none-then-is_none.ensures c.if-is_none-2.true (c.first_down.ensures w.0 w.1)) }

pub returns-in_ok-busy_among : goal.returns-in_ok-busy_among
returns-in_ok-busy_among g c = λ s r reached known.
    have_all s (all_reached s reached).facts c.as_slice.result.now c.in_ok-busy_among.field-0 (λ t h. subst (λ txns. Contains txns t) (sym c.as_slice.ensures.value) ((c.in_ok-open.ensures.listed s r t).1 h)) (c.in_ok-busy_among.ensures s r)
