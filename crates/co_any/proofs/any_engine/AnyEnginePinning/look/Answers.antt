use Rattle.std.proofs.Common.{sym, ap}
use Rattle.co_engine.specs.Pins.{pinned_rows}
use Rattle.co_any.proofs.Pinless.{none_seen}
use Rattle.co_any.proofs.any_engine.AnyEnginePinning.look.Goals as goal
use Rattle.co_any.specs.Standing.{pins_of}

pub returns-in-Lock : goal.returns-in-Lock
returns-in-Lock c = λ b s. ap (pinned_rows b c.args.range.now) (sym (none_seen (pins_of c.args.self.now) c.args.id (ap pins_of c.in-Lock.is)))

pub returns-in-Occ : goal.returns-in-Occ
returns-in-Occ c = λ b s. ap (pinned_rows b c.args.range.now) (sym (none_seen (pins_of c.args.self.now) c.args.id (ap pins_of c.in-Occ.is)))
