use Rattle.std.proofs.Common.{◌≡◌, drop}
use Rattle.co_plain.specs.Wire.{send_all}
use Rattle.co_world.proofs.world.World.send.Given as goal

abbrev pub invariant-loop-message : goal.invariant-loop-message
invariant-loop-message g l = record {
  sent : send_all l.self.wire (drop l.message-index l.messages) ≡ send_all l.fn.self.wire l.messages;
  rest : l.self ≡ record l.fn.self { wire = l.self.wire };
}
