use Rattle.std.proofs.Common.{sym, ap, ◌∙◌}
use Rattle.co_stamps.specs.Bearing.{last_of}
use Rattle.co_stamps.proofs.Ranging.{last_of-push}
use Rattle.co_stamps.proofs.bearers.Bearers.greatest_below.Goals as goal

pub returns : goal.returns
returns c = sym (ap last_of (sym c.below.ensures ∙ c.in_ok-greatest.ensures.steps) ∙ last_of-push c.next_back.new.self (c.in_ok-greatest.greatest.now, c.in_ok-greatest.field-0-1.now))
