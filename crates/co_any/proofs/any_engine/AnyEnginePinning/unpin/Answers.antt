use Rattle.std.proofs.Common.{ap}
use Rattle.co_any.proofs.Pinless.{none_taken}
use Rattle.co_any.proofs.any_engine.AnyEnginePinning.unpin.Goals as goal
use Rattle.co_any.specs.Standing.{pins_of}

pub returns-in-Lock-clause-pins : goal.returns-in-Lock-clause-pins
returns-in-Lock-clause-pins c = none_taken (pins_of c.args.self.now) c.args.id (ap pins_of c.in-Lock.is)

pub returns-in-Occ-clause-pins : goal.returns-in-Occ-clause-pins
returns-in-Occ-clause-pins c = none_taken (pins_of c.args.self.now) c.args.id (ap pins_of c.in-Occ.is)
