use Rattle.std.proofs.Common.{refl, arith}
use Rattle.co_base.specs.declared.node.Node.TheVariants as node
use Rattle.co_node.proofs.Opened.{made_stands}
use Rattle.co_coord_tests.proofs.opened.made.Goals as goal

pub returns : goal.returns
returns c =
    let over = c.in_ok-log.ensures.answered.0 in
    let found = over.attached in
    record {
      held = c.in_ok-make.ensures.answered.2.held;
      spare_closed = _;
      stands = made_stands (node.Coord 1) found.0 found.1 c.in_ok-log.log c.make.new.self (omega arith, omega arith) found.4 (over.fresh refl) c.in_ok-make.ensures.answered.0;
    }
